-- To agree with a path is to keep its choices as pins. Assumes nothing.
use Rattle.std.proofs.Common.{◌≡◌, ℕ, Bool, true, false, ◌⊎◌, List, [], ◌∷◌, sym, refl, ◌∙◌, subst, inl, inr, ⊎_elim, arith}
use Rattle.std.proofs.lemmas.Bool.Decides.{nat_tests}
use Rattle.std.proofs.lemmas.Bool.{cases_Bool, cond-true, cond-false}
use Rattle.model.specs.declared.cell.Cell.{Cell}
use Rattle.model.specs.declared.path.Side.{Side}
use Rattle.model.specs.declared.path.Side.TheVariants.{LeftOut, Taken}
use Rattle.model.specs.declared.path.Entry.{Entry}
use Rattle.model.specs.Plans.{Cells, Pin, Pins, take, leave, unpinned, Keeps}
use Rattle.model.specs.Paths.{takes, Follows, Agrees}
use Rattle.model.specs.Choices.{Absent, Fair}
use Rattle.search.specs.Pinned.{pin_of, is_cell, with_path}

-- a pin's word on a cell, as a test
abbrev Says : Pin → Bool → Type 0
Says unpinned b = Unit {0}
Says take b = b ≡ true
Says leave b = b ≡ false

keeps_says : (pins : Pins) (c : Cells) → Keeps pins c → (t o : ℕ) → Says (pins t o) (c t o)
keeps_says pins c k t o = go (pins t o) refl
  where
    go : (x : Pin) → pins t o ≡ x → Says x (c t o)
    go unpinned e = tt
    go take e = k.takes t o e
    go leave e = k.leaves t o e

says_keeps : (pins : Pins) (c : Cells) → ((t o : ℕ) → Says (pins t o) (c t o)) → Keeps pins c
says_keeps pins c s = record {
  takes = λ t o e. subst (λ (x : Pin). Says x (c t o)) e (s t o);
  leaves = λ t o e. subst (λ (x : Pin). Says x (c t o)) e (s t o);
}

side_says : (s : Side) (b : Bool) → b ≡ takes s → Says (pin_of s) b
side_says LeftOut b e = e
side_says Taken b e = e

says_side : (s : Side) (b : Bool) → Says (pin_of s) b → b ≡ takes s
says_side LeftOut b e = e
says_side Taken b e = e

-- the cell of a time and step that it is
pub at_cell : (d : Cell) (t o : ℕ) → is_cell d t o ≡ true → (d.time ≡ t) × (d.step ≡ o)
at_cell d t o h = grind (arith, nat_tests)

pub own_cell : (d : Cell) → is_cell d d.time d.step ≡ true
own_cell d = grind (arith, nat_tests)

pub same_cells : (x y : Cell) → x.time ≡ y.time → x.step ≡ y.step → x ≡ y
same_cells x y p q = λ i. record { time = p i; step = q i }

-- a plan that keeps the pins and agrees with the path keeps both as pins
pub keeps_with : (pins : Pins) (c : Cells) (path : List Entry) → Keeps pins c → Agrees c path → Keeps (with_path pins path) c
keeps_with pins c path k a = says_keeps (with_path pins path) c (says path a)
  where
    says : (path : List Entry) → Agrees c path → (t o : ℕ) → Says (with_path pins path t o) (c t o)
    says [] a t o = keeps_says pins c k t o
    says (e ∷ path) a t o = ⊎_elim
        (λ h. subst (λ (x : Pin). Says x (c t o)) (sym (cond-true _ _ _ h))
        (let q = at_cell e.cell t o h in
        side_says e.side (c t o) (cc (q.0, q.1, a.0))))
        (λ h. subst (λ (x : Pin). Says x (c t o)) (sym (cond-false _ _ _ h)) (says path a.1 t o))
        (cases_Bool (is_cell e.cell t o))

-- a cell that no entry has is as the pins say
pub with_absent : (pins : Pins) (path : List Entry) (d : Cell) → Absent d path → with_path pins path d.time d.step ≡ pins d.time d.step
with_absent pins [] d a = refl
with_absent pins (e ∷ path) d a = cond-false _ _ _ (other (cases_Bool (is_cell e.cell d.time d.step))) ∙ with_absent pins path d a.1
  where
    other : (is_cell e.cell d.time d.step ≡ true) ⊎ (is_cell e.cell d.time d.step ≡ false) → is_cell e.cell d.time d.step ≡ false
    other (inl h) = let q = at_cell e.cell d.time d.step h in absurd (a.0 (same_cells e.cell d q.0 q.1))
    other (inr h) = h

-- and back, for a fair path
pub with_keeps : (T m : ℕ) (pins : Pins) (c : Cells) (path : List Entry) → Fair T m pins path → Keeps (with_path pins path) c → Keeps pins c × Agrees c path
with_keeps T m pins c [] f k = (k, tt)
with_keeps T m pins c (e ∷ path) f k =
    let r = with_keeps T m pins c path f.4 (says_keeps (with_path pins path) c rest) in (r.0, (here, r.1))
  where
    all : (t o : ℕ) → Says (with_path pins (e ∷ path) t o) (c t o)
    all = keeps_says (with_path pins (e ∷ path)) c k

    here : Follows c e
    here = says_side e.side (c e.cell.time e.cell.step)
        (subst (λ (x : Pin). Says x (c e.cell.time e.cell.step)) (cond-true _ _ _ (own_cell e.cell)) (all e.cell.time e.cell.step))

    free : with_path pins path e.cell.time e.cell.step ≡ unpinned
    free = with_absent pins path e.cell f.3 ∙ f.2

    rest : (t o : ℕ) → Says (with_path pins path t o) (c t o)
    rest t o = ⊎_elim
        (λ h. let q = at_cell e.cell t o h in
        let none : unpinned ≡ with_path pins path t o = cc (q.0, q.1, free) in
        subst (λ (x : Pin). Says x (c t o)) none tt)
        (λ h. subst (λ (x : Pin). Says x (c t o)) (cond-false _ _ _ h) (all t o))
        (cases_Bool (is_cell e.cell t o))
