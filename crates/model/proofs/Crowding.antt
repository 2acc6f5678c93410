-- A path within its rules has no more entries than there are cells.
use Rattle.std.proofs.Common.{◌≡◌, ℕ, suc, ◌+◌, ◌*◌, ◌/◌, ◌%◌, ◌<◌, true, false, eqb, ⊎_elim, List, [], ◌∷◌, length, sym, refl, ap, ◌∙◌, subst, arith}
use Rattle.std.specs.List.{IsDistinct, AllByRecursion, list_any}
use Rattle.std.proofs.lemmas.Bool.{both_ways, ne_eqb, eqb-true, or_cases}
use Rattle.std.proofs.lemmas.Map.Steps.{length-le_from_distinct_below}
use lib.Arith.{digits_lt, digits_div, digits_mod}
use Rattle.model.specs.declared.cell.Cell.{Cell}
use Rattle.model.specs.declared.path.Entry.{Entry}
use Rattle.model.specs.Plans.{Pins}
use Rattle.model.specs.Choices.{Absent, Fair}
use Rattle.model.specs.PathTheorems.{Few}

-- a cell's number, by rows of m steps
number : ℕ → Cell → ℕ
number m c = c.time * m + c.step

number_below : (T m : ℕ) (c : Cell) → c.time < T → c.step < m → number m c < T * m
unfolding number
number_below T m c h k = digits_lt h k

same_cell : (m : ℕ) (c d : Cell) → c.step < m → d.step < m → number m c ≡ number m d → c ≡ d
unfolding number
same_cell m c d h k e =
    let times : c.time ≡ d.time = sym (digits_div c.time h) ∙ (ap (λ (n : ℕ). n / m) e ∙ digits_div d.time k) in
    let steps : c.step ≡ d.step = sym (digits_mod c.time h) ∙ (ap (λ (n : ℕ). n % m) e ∙ digits_mod d.time k) in
    λ i. record { time = times i; step = steps i }

numbers : ℕ → List Entry → List ℕ
numbers m [] = []
numbers m (e ∷ path) = number m e.cell ∷ numbers m path

same_length : (m : ℕ) (path : List Entry) → length (numbers m path) ≡ length path
unfolding numbers
same_length m [] = refl
same_length m (e ∷ path) = ap suc (same_length m path)

missing : (T m : ℕ) (pins : Pins) (c : Cell) → c.step < m → (path : List Entry) → Fair T m pins path → Absent c path
    → AllByRecursion (λ y. eqb (number m c) y ≡ false) (numbers m path)
unfolding numbers
missing T m pins c h [] f a = tt
missing T m pins c h (e ∷ path) f a =
    (ne_eqb _ _ (λ q. a.0 (same_cell m e.cell c f.1 h (sym q))), missing T m pins c h path f.4 a.1)

apart : (T m : ℕ) (pins : Pins) (path : List Entry) → Fair T m pins path → IsDistinct eqb (numbers m path)
unfolding numbers IsDistinct
apart T m pins [] f = tt
apart T m pins (e ∷ path) f = (missing T m pins e.cell f.1 path f.4 f.3, apart T m pins path f.4)

below : (T m : ℕ) (pins : Pins) (path : List Entry) → Fair T m pins path → (q : ℕ) → list_any (eqb q) (numbers m path) ≡ true → q < T * m
unfolding numbers
below T m pins [] f q h = absurd (both_ways false refl h)
below T m pins (e ∷ path) f q h = ⊎_elim
    (λ e. subst (λ (n : ℕ). n < T * m) (sym (eqb-true _ _ e)) (number_below T m _ f.0 f.1))
    (λ r. below T m pins path f.4 q r)
    (or_cases (eqb q (number m e.cell)) _ h)

pub few : Few
few T m pins path f =
    omega (arith, same_length m path, length-le_from_distinct_below (numbers m path) (T * m) (apart T m pins path f) (below T m pins path f))
