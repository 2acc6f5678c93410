-- What a call leaves in the planner's tables is what the ledger's rules write. Assumes nothing.
use Rattle.std.proofs.Common.{◌≡◌, ℕ, zero, suc, ◌*◌, ◌<◌, ◌≤◌, Bool, true, false, cond, eqb, List, [], ◌∷◌, ◌++◌, length, get_or, take, sym, refl, ap, ◌∙◌, subst, arith, take-suc}
use mathlib.Core.Path.{fun_ext}
use Rattle.model.specs.declared.cell.Cell.{Cell}
use Rattle.model.specs.declared.answers.Outcome.TheVariants.{NotYet}
use Rattle.model.specs.Problems.{Problem, steps}
use Rattle.model.specs.Plans.{Pins}
use Rattle.model.specs.Rankings.{Order, cell_of}
use Rattle.model.specs.Held.{problem_of}
use Rattle.search.specs.declared.tables.Search.{Search}
use Rattle.search.specs.Begins.{Asked}
use Rattle.search.proofs.Searches.{room}
use Rattle.planner.specs.declared.tables.Planner.{Planner}
use Rattle.planner.specs.declared.tables.Stage.TheVariants as stage
use Rattle.planner.specs.Ledger.{Ledger, Ledger.asked, Event, no_pins, declines, cells_upto, enter, write, number}
use Rattle.planner.specs.Promises.{Promise}
use Rattle.planner.specs.Obeys.{ledger_at, ledger, path, Obeys}

-- two asks with the same parts are the same
pub asked_same : {p q : Problem} {T U : ℕ} {a b : List Cell} {x y : Pins} {m n : ℕ} → p ≡ q → T ≡ U → a ≡ b → x ≡ y → m ≡ n
    → asked p (record { length = T; order = a; pins = x; outcome = m }) ≡ asked q (record { length = U; order = b; pins = y; outcome = n })
asked_same e f g h k = λ i. asked (e i) (record { length = f i; order = g i; pins = h i; outcome = k i })

-- the beginning of a table that holds these cells
pub take_upto : (xs : List Cell) (cell : ℕ → Cell) (n : ℕ) → n ≤ length xs → ((k : ℕ) → k < n → get_or xs k (cell_of 0 0) ≡ cell k)
    → take n xs ≡ cells_upto cell n
take_upto xs cell zero l h = refl
take_upto xs cell (suc n) l h =
    take-suc xs n (cell_of 0 0) (omega arith)
    ∙ ap (λ (z : List Cell). z ++ (get_or xs n (cell_of 0 0) ∷ [])) (take_upto xs cell n (omega arith) (λ k q. h k (omega arith)))
    ∙ ap (λ (c : Cell). cells_upto cell n ++ (c ∷ [])) (h n (omega arith))

-- an ask
pub ask_enters : (s s' : Search) (T : ℕ) (o : Order) (p : Problem) → problem_of s.problem ≡ p → Asked s T o s'
    → ledger_at (stage.Asked NotYet) s'
    ≡ asked p (record { length = T; order = cells_upto (o.cell T (steps p)) (T * steps p); pins = no_pins; outcome = 0 })
ask_enters s s' T o p e a =
    let same : problem_of s'.problem ≡ problem_of s.problem = ap problem_of a.problem in
    let count : s'.length * steps (problem_of s'.problem) ≡ T * steps p = ap (λ (n : ℕ). n * steps (problem_of s'.problem)) a.length ∙ ap (λ (q : Problem). T * steps q) (same ∙ e) in
    let few : T * steps p ≤ length s'.order = omega (arith, room s', s'.order_sized, count) in
    asked_same (same ∙ e) a.length
    (ap (λ (n : ℕ). take n s'.order) count
    ∙ take_upto s'.order (o.cell T (steps p)) (T * steps p) few
    (λ k l. let inside = subst (λ (q : Problem). k < T * steps q) (sym e) l in a.ordered k inside ∙ ap (λ (q : Problem). o.cell T (steps q) k) e))
    (fun_ext (λ t. fun_ext (λ k. a.free t k))) refl

-- a call that no row declines writes what it enters
pub write_enters : (L : Ledger) (e : Event) → declines L e ≡ 0 → write L e ≡ enter L e
write_enters L e h = ap (λ (n : ℕ). cond (eqb n 0) (enter L e) L) h

-- a call that was carried out, at the ledger L
pub obeys_done : (p q : Planner) (e : Event) (L : Ledger) → ledger p ≡ L → declines L e ≡ 0 → ledger q ≡ enter L e → number e ≡ 0
    → Promise L (path p) e (path q) → Obeys p e q
obeys_done p q e L h d w n k = record {
  written = w ∙ sym (write_enters L e d) ∙ ap (λ (K : Ledger). write K e) (sym h);
  promised = subst (λ (K : Ledger). Promise K (path p) e (path q)) (sym h) k;
  unchanged = λ l. absurd (omega arith);
}

-- a call that only looks
pub obeys_look : (p : Planner) (e : Event) (L : Ledger) → ledger p ≡ L → enter L e ≡ L → Promise L (path p) e (path p) → Obeys p e p
obeys_look p e L h w k = record {
  written = h ∙ sym (ap (λ (K : Ledger). cond (eqb (declines L e) 0) K L) w ∙ either (eqb (declines L e) 0)) ∙ ap (λ (K : Ledger). write K e) (sym h);
  promised = subst (λ (K : Ledger). Promise K (path p) e (path p)) (sym h) k;
  unchanged = λ _. refl;
}
  where
    either : (b : Bool) → cond b L L ≡ L
    either true = refl
    either false = refl
