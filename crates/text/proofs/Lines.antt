-- How the steps of a line and the lines of a card follow one another.
use Rattle.std.proofs.Common.{◌≡◌, ℕ, zero, suc, ◌+◌, ◌<◌, ◌≤◌, Bool, true, false, cond, List, [], ◌∷◌, ◌++◌, decimal, length, get_or, take, sym, ap, ◌∙◌, ⊎_elim, add-one, arith}
use Rattle.std.proofs.lemmas.List.{append-nil, get_or-take, length-take}
use Rattle.std.proofs.lemmas.Bool.{cases_lt}
use Rattle.std.proofs.Math.Nat.{min-le_left}
use Rattle.sets.specs.Sets.{step_in, no_steps}
use Rattle.sets.specs.declared.steps.StepSet.{StepSet}
use Rattle.text.specs.declared.write.Writer.{Writer}
use Rattle.text.specs.Writers.{Writes}
use Rattle.text.specs.Cards.{steps_up_to, line_of, card_of, taken_in}
use Rattle.text.proofs.Writing.{writes_more, writes_same}

-- steps that are not taken add nothing
pub steps_skip : (taken : ℕ → Bool) (a b : ℕ) → a ≤ b → ((i : ℕ) → a ≤ i → i < b → taken i ≡ false)
    → steps_up_to taken b ≡ steps_up_to taken a
steps_skip taken a zero le none = let e : 0 ≡ a = omega arith in ap (λ n. steps_up_to taken n) e
steps_skip taken a (suc b) le none = ⊎_elim
    (λ (lt : a < suc b).
    ap (λ z. steps_up_to taken b ++ cond z (32 ∷ decimal b) []) (none b (omega arith) (omega arith))
    ∙ (append-nil _ ∙ steps_skip taken a b (omega arith) (λ i from below. none i from (omega arith))))
    (λ (past : suc b ≤ a). let e : suc b ≡ a = omega arith in ap (λ n. steps_up_to taken n) e)
    (cases_lt a (suc b))

-- on to the next taken step
pub steps_more : (taken : ℕ → Bool) (a b : ℕ) {u v w : Writer} → a ≤ b
    → ((i : ℕ) → a ≤ i → i < b → taken i ≡ false) → taken b ≡ true
    → Writes (steps_up_to taken a) u v → Writes (32 ∷ decimal b) v w → Writes (steps_up_to taken (b + 1)) u w
steps_more taken a b le none is f g =
    let e : steps_up_to taken (b + 1) ≡ steps_up_to taken a ++ (32 ∷ decimal b) =
    rw add-one (ap (λ z. steps_up_to taken b ++ cond z (32 ∷ decimal b) []) is ∙ ap (λ z. z ++ (32 ∷ decimal b)) (steps_skip taken a b le none)) in
    writes_same e (writes_more f g)

-- past the last taken step
pub steps_all : (taken : ℕ → Bool) (a m : ℕ) {u v : Writer} → a ≤ m
    → ((i : ℕ) → a ≤ i → i < m → taken i ≡ false)
    → Writes (steps_up_to taken a) u v → Writes (steps_up_to taken m) u v
steps_all taken a m le none f = writes_same (steps_skip taken a m le none) f

-- one line more, of the front of a table
pub card_more : (table : List StepSet) (n m t : ℕ) {u v w : Writer} → t < length (take n table) → Writes (card_of (taken_in table) m t) u v
    → Writes (line_of (step_in (get_or (take n table) t no_steps)) m t) v w → Writes (card_of (taken_in table) m (t + 1)) u w
card_more table n m t within f g =
    let below : t < n = omega (arith, within, length-take n table, min-le_left n (length table)) in
    rw add-one (writes_more f (writes_same (ap (λ s. line_of (step_in s) m t) (sym (get_or-take n table t no_steps below))) g))
