-- What pins say, by the tables.
use Rattle.std.proofs.Common.{◌≡◌, ℕ, ◌≤◌, Bool, true, false, cond, sym, refl, ap, ◌∙◌, ap₂, arith}
use Rattle.std.proofs.lemmas.Bool.{both_ways}
use Rattle.std.proofs.lemmas.List.{get_or_past}
use Rattle.sets.specs.Sets.{step_in, no_steps}
use Rattle.sets.specs.declared.steps.StepSet.{StepSet}
use Rattle.model.specs.declared.path.Side.{Side}
use Rattle.model.specs.declared.path.Side.TheVariants as side
use Rattle.model.specs.Plans.{Pin, unpinned, take, leave}
use Rattle.marks.specs.declared.pins.Pins.{Pins}
use Rattle.marks.specs.Cells.{same_side}
use Rattle.marks.specs.Pinning.{pins_of, pin_of, says_take, says_leave}
use Rattle.marks.proofs.Empties.{no_step}

pub take_said : (p : Pin) → says_take p ≡ true → p ≡ take
take_said unpinned h = absurd (both_ways false refl h)
take_said take h = refl
take_said leave h = absurd (both_ways false refl h)

pub leave_said : (p : Pin) → says_leave p ≡ true → p ≡ leave
leave_said unpinned h = absurd (both_ways false refl h)
leave_said take h = absurd (both_ways false refl h)
leave_said leave h = refl

-- what the two tables say of one cell
pub said_taken : (a b : Bool) → says_take (cond a take (cond b leave unpinned)) ≡ a
said_taken true b = refl
said_taken false true = refl
said_taken false false = refl

pub said_left : (a b : Bool) → (a ≡ true → b ≡ true → ⊥) → says_leave (cond a take (cond b leave unpinned)) ≡ b
said_left true true h = absurd (h refl refl)
said_left true false h = refl
said_left false true h = refl
said_left false false h = refl

-- what the two tables say where a test holds, and where it does not
pub told_by : (b h g x y x' y' : Bool) → x' ≡ cond b h x → y' ≡ cond b g y
    → cond x' take (cond y' leave unpinned) ≡ cond b (cond h take (cond g leave unpinned)) (cond x take (cond y leave unpinned))
told_by true h g x y x' y' p q = ap₂ (λ (u v : Bool). cond u take (cond v leave unpinned)) p q
told_by false h g x y x' y' p q = ap₂ (λ (u v : Bool). cond u take (cond v leave unpinned)) p q

pub apart_by : (b h g x y x' y' : Bool) → x' ≡ cond b h x → y' ≡ cond b g y → (h ≡ true → g ≡ true → ⊥) → (x ≡ true → y ≡ true → ⊥) → x' ≡ true → y' ≡ true → ⊥
apart_by true h g x y x' y' p q new old u v = new (sym p ∙ u) (sym q ∙ v)
apart_by false h g x y x' y' p q new old u v = old (sym p ∙ u) (sym q ∙ v)

pub one_side : (s : Side) → same_side s side.Taken ≡ true → same_side s side.LeftOut ≡ true → ⊥
one_side side.Taken h k = both_ways false refl k
one_side side.LeftOut h k = both_ways false refl h

pub pin_told : (s : Side) → cond (same_side s side.Taken) take (cond (same_side s side.LeftOut) leave unpinned) ≡ pin_of s
pin_told side.Taken = refl
pin_told side.LeftOut = refl

-- nothing is pinned beyond the tables
pub pins_past : (pins : Pins) (t o : ℕ) → 32 ≤ t → pins_of pins t o ≡ unpinned
pins_past pins t o h = ap₂ (λ (a b : Bool). cond a take (cond b leave unpinned))
    (ap (λ (s : StepSet). step_in s o) (get_or_past pins.cells.taken t no_steps (omega (arith, pins.cells.all_taken))) ∙ no_step o)
    (ap (λ (s : StepSet). step_in s o) (get_or_past pins.cells.left t no_steps (omega (arith, pins.cells.all_left))) ∙ no_step o)
