-- The marks that are forced for one meter at length 6, by a list of rule applications.
use Rattle.std.proofs.Common.{◌≡◌, ℕ, ◌<◌, Bool, true, false, cond, not, ◌&&◌, ◌||◌, List, [], ◌∷◌, sym, refl, ◌∙◌, ⊎_elim, arith}
use Rattle.std.proofs.lemmas.Bool.{both_ways, or_cases, cond-true, cond-false}
use Rattle.sets.specs.Has.{has}
use Rattle.sets.specs.Literals.{pos, neg}
use Rattle.sets.specs.Sets.{fact_in, lit_in, with_fact, with_literal}
use Rattle.model.specs.Plans.{Taken, LeftOut, IsPlan}
use Rattle.model.specs.Clauses.{Clauses, Kept}
use Rattle.model.specs.Marks.{Mark, true_at, taken, left_out, Closed, Forced, agrees}
use Rattle.model.proofs.KeptHold.{kept_hold}
use Rattle.model.proofs.MarksSound.{marks_sound}
use Rattle.sources.specs.Listed.{tabulate}
use Rattle.sources.specs.Water.{water_line}
use Rattle.sources.specs.Waters.{water_well}
use Rattle.examples.specs.Meters.{one_meter_times, forced_times, undecided_times, OneMeterForces}
use Rattle.examples.specs.Plans.{taking, no_pins}
use Rattle.examples.proofs.Deriving.{Rule, at_start, at_goal, need, make, need_false, make_false, only, rival, stay, AllIn, marked?, derives?, derived}
use Rattle.examples.proofs.PlanTests.{all_below, all_below_at, implies, implied, lists_plan, taking_within}
use Rattle.examples.proofs.TwoSteps.{keeps_none}

-- from the start forward what cannot hold yet, from the goal back what must have been done
abbrev applications : List Rule
applications =
    at_start (pos 0) ∷ at_start (neg 2) ∷ at_start (neg 3) ∷ at_start (neg 4) ∷ at_start (pos 5) ∷ at_start (neg 6) ∷ at_start (neg 7) ∷
    at_goal (pos 0) ∷ at_goal (pos 7) ∷ at_goal (pos 5) ∷ need_false 0 1 (neg 0) ∷ need_false 0 3 (pos 4) ∷ need_false 0 4 (neg 5) ∷
    need_false 0 5 (pos 2) ∷ need_false 0 6 (pos 3) ∷ need_false 0 7 (pos 6) ∷ need_false 0 8 (pos 3) ∷ stay 0 (pos 2) ∷ stay 0 (pos 3) ∷
    stay 0 (neg 5) ∷ stay 0 (pos 6) ∷ stay 0 (pos 7) ∷ need_false 1 4 (neg 5) ∷ need_false 1 5 (pos 2) ∷ need_false 1 6 (pos 3) ∷
    need_false 1 7 (pos 6) ∷ need_false 1 8 (pos 3) ∷ stay 1 (pos 2) ∷ stay 1 (pos 3) ∷ stay 1 (pos 6) ∷ stay 1 (pos 7) ∷ need_false 2 5 (pos 2) ∷
    need_false 2 6 (pos 3) ∷ need_false 2 7 (pos 6) ∷ need_false 2 8 (pos 3) ∷ stay 2 (pos 3) ∷ stay 2 (pos 6) ∷ stay 2 (pos 7) ∷
    need_false 3 6 (pos 3) ∷ need_false 3 7 (pos 6) ∷ need_false 3 8 (pos 3) ∷ stay 3 (pos 6) ∷ stay 3 (pos 7) ∷ need_false 4 7 (pos 6) ∷
    stay 4 (pos 7) ∷ make_false 5 0 (neg 0) ∷ make_false 5 3 (neg 5) ∷ only 5 7 (pos 7) ∷ need 5 7 (pos 6) ∷ need 5 7 (pos 0) ∷
    make_false 4 0 (neg 0) ∷ only 4 6 (pos 6) ∷ need_false 5 1 (neg 0) ∷ need_false 5 4 (neg 0) ∷ need_false 5 5 (neg 0) ∷ need 4 6 (pos 3) ∷
    only 3 5 (pos 3) ∷ need 3 5 (pos 2) ∷ need 3 5 (neg 0) ∷ make 3 5 (neg 2) ∷ rival 3 5 1 (neg 0) ∷ rival 3 5 4 (pos 2) ∷ stay 3 (pos 0) ∷
    only 4 1 (pos 0) ∷ need_false 4 5 (pos 2) ∷ need_false 4 8 (pos 0) ∷ make_false 2 1 (pos 0) ∷ only 2 4 (pos 2) ∷ need_false 3 0 (pos 0) ∷
    rival 4 1 4 (neg 0) ∷ need 2 4 (neg 5) ∷ need 2 4 (neg 0) ∷ make 2 4 (neg 1) ∷ rival 2 4 2 (pos 1) ∷ stay 2 (pos 5) ∷ need_false 3 2 (pos 1) ∷
    need_false 3 3 (pos 5) ∷ stay 3 (pos 1) ∷ stay 3 (pos 5) ∷ need_false 4 2 (pos 1) ∷ need_false 4 3 (pos 5) ∷ stay 4 (pos 1) ∷ stay 4 (pos 5) ∷
    need_false 5 2 (pos 1) ∷ only 5 8 (pos 5) ∷ make_false 1 1 (pos 0) ∷ only 1 3 (neg 5) ∷ need_false 2 0 (pos 0) ∷ need_false 2 3 (pos 5) ∷
    need 1 3 (pos 4) ∷ only 0 2 (pos 4) ∷ []

-- whether the list has the marks of the cell
abbrev told? : List Mark → ℕ → ℕ → Bool
told? ks t o = cond (taking forced_times t o) (marked? (taken t o) ks) (taking undecided_times t o || marked? (left_out t o) ks)

abbrev all_told? : List Mark → Bool
all_told? ks = all_below 6 (λ t. all_below 9 (λ o. told? ks t o))

all_derived : derives? (water_line 1) 6 no_pins applications [] all_told? ≡ true
unfolding has fact_in lit_in with_fact with_literal tabulate
all_derived = refl

-- in every closed set of marks
module _ (V : Clauses) (M : Mark → Bool) (closed : Closed (water_line 1) 6 no_pins V (λ m. M m ≡ true)) where
  told : (t o : ℕ) → t < 6 → o < 9 → (ks : List Mark) × AllIn M ks × (told? ks t o ≡ true)
  told t o r q =
      let d = derived (water_line 1) 6 no_pins V M closed applications [] all_told? (λ m e. absurd (both_ways false refl e)) all_derived in
      (d.0, d.1, all_below_at 9 (told? d.0 t) (all_below_at 6 (λ u. all_below 9 (told? d.0 u)) d.2 t r) o q)

  takes : (t o : ℕ) → Taken (taking forced_times) t o → M (taken t o) ≡ true
  takes t o h =
      let w = taking_within 9 forced_times refl t o h in
      let d = told t o w.0 w.1 in
      d.1 (taken t o) (sym (cond-true (taking forced_times t o) (marked? (taken t o) d.0) (taking undecided_times t o || marked? (left_out t o) d.0) h) ∙ d.2)

  leaves : (t o : ℕ) → t < 6 → o < 9 → LeftOut (taking forced_times) t o → LeftOut (taking undecided_times) t o → M (left_out t o) ≡ true
  leaves t o r q h k =
      let d = told t o r q in
      let out : (taking undecided_times t o || marked? (left_out t o) d.0) ≡ true =
      sym (cond-false (taking forced_times t o) (marked? (taken t o) d.0) (taking undecided_times t o || marked? (left_out t o) d.0) h) ∙ d.2 in
      ⊎_elim
      (λ e. absurd (both_ways (taking undecided_times t o) k e))
      (λ e. d.1 (left_out t o) e)
      (or_cases (taking undecided_times t o) (marked? (left_out t o) d.0) out)

-- after time 1 the line is shut
pub shut_by_two : (V : Clauses) → Forced (water_line 1) 6 no_pins V (true_at (neg 0) 2)
unfolding has fact_in lit_in with_fact with_literal tabulate
shut_by_two V M closed =
    let d = derived (water_line 1) 6 no_pins V M closed applications [] (marked? (true_at (neg 0) 2)) (λ m e. absurd (both_ways false refl e)) refl in
    d.1 (true_at (neg 0) 2) d.2

-- two plans that differ in just the undecided cells
abbrev other_times : List (List ℕ)
other_times = (0 ∷ 2 ∷ []) ∷ (2 ∷ 3 ∷ []) ∷ (4 ∷ []) ∷ (5 ∷ []) ∷ (1 ∷ 6 ∷ []) ∷ (6 ∷ 7 ∷ 8 ∷ []) ∷ []

pub one_meter_plan : IsPlan (water_line 1) 6 (taking one_meter_times)
unfolding has fact_in lit_in with_fact with_literal tabulate
one_meter_plan = lists_plan (water_line 1) one_meter_times (water_well 1 (omega arith) (omega arith)) refl

other_plan : IsPlan (water_line 1) 6 (taking other_times)
unfolding has fact_in lit_in with_fact with_literal tabulate
other_plan = lists_plan (water_line 1) other_times (water_well 1 (omega arith) (omega arith)) refl

abbrev differ? : Bool → Bool → Bool
differ? a b = (a && not b) || (b && not a)

not_both : (a b : Bool) → differ? a b ≡ true → a ≡ true → b ≡ true → ⊥
not_both true true e h k = both_ways false refl e
not_both true false e h k = both_ways false refl k
not_both false b e h k = both_ways false refl h

not_neither : (a b : Bool) → differ? a b ≡ true → not a ≡ true → not b ≡ true → ⊥
not_neither true b e h k = both_ways false refl h
not_neither false true e h k = both_ways false refl k
not_neither false false e h k = both_ways false refl e

differs : (t o : ℕ) → Taken (taking undecided_times) t o → differ? (taking one_meter_times t o) (taking other_times t o) ≡ true
differs t o h =
    let w = taking_within 9 undecided_times refl t o h in
    let test : ℕ → ℕ → Bool = λ u x. implies (taking undecided_times u x) (differ? (taking one_meter_times u x) (taking other_times u x)) in
    implied (taking undecided_times t o) (differ? (taking one_meter_times t o) (taking other_times t o))
    (all_below_at 9 (test t) (all_below_at 6 (λ u. all_below 9 (test u)) refl t w.0) o w.1) h

module _ (V : Clauses) (kept : Kept (water_line 1) V) where
  sound : (times : List (List ℕ)) → IsPlan (water_line 1) 6 (taking times) → (m : Mark) → Forced (water_line 1) 6 no_pins V m → agrees (water_line 1) (taking times) m ≡ true
  sound times plan m h =
      let well = water_well 1 (omega arith) (omega arith) in
      marks_sound (water_line 1) 6 no_pins V (taking times) well plan (keeps_none times) (kept_hold (water_line 1) 6 V (taking times) well kept plan) m h

  pub one_meter_forces : OneMeterForces V
  one_meter_forces = record {
    takes = λ t o h M closed. takes V M closed t o h;
    leaves = λ t o r q h k M closed. leaves V M closed t o r q h k;
    not_taken = λ t o h f. not_both (taking one_meter_times t o) (taking other_times t o) (differs t o h)
        (sound one_meter_times one_meter_plan (taken t o) f) (sound other_times other_plan (taken t o) f);
    not_left_out = λ t o h f. not_neither (taking one_meter_times t o) (taking other_times t o) (differs t o h)
        (sound one_meter_times one_meter_plan (left_out t o) f) (sound other_times other_plan (left_out t o) f);
  }
