-- The steps of the water line by their numbers, which of them interfere, and the plan for one meter.
use Rattle.std.proofs.Common.{◌≡◌, ℕ, zero, suc, ◌+◌, ◌*◌, ◌<◌, ◌≤◌, true, false, sym, refl, ◌∙◌, subst, inl, arith}
use Rattle.std.specs.Fmt.{digits}
use Rattle.std.proofs.lemmas.Bool.{both_ways}
use Rattle.sets.specs.Has.{has}
use Rattle.sets.specs.Literals.{pos, neg}
use Rattle.sets.specs.Sets.{fact_in, lit_in, with_fact, with_literal}
use Rattle.model.specs.declared.step.Step.{Step}
use Rattle.model.specs.Problems.{closed_step, step, Interfere}
use Rattle.sources.specs.Listed.{tabulate}
use Rattle.sources.specs.Water.{water_line, water_step, shut, note, lift}
use Rattle.sources.specs.Tables.{tabulate_within}
use Rattle.sources.specs.Waters.{water_well}
use Rattle.examples.specs.Meters.{Interference, OneMeter, EightMeters}
use Rattle.examples.proofs.Levels.{goal_in_time}
use Rattle.examples.proofs.OneMeterFirst.{one_meter_first}
use Rattle.examples.proofs.OneMeterMarks.{one_meter_plan, one_meter_forces}
use Rattle.examples.proofs.PlanTests.{undoes?, tested_apart}

-- what holds of each of eight meters
each_meter : (P : ℕ → Type 0) → P 0 → P 1 → P 2 → P 3 → P 4 → P 5 → P 6 → P 7 → (j : ℕ) → j < 8 → P j
each_meter P a b c d e f g h zero l = a
each_meter P a b c d e f g h (suc zero) l = b
each_meter P a b c d e f g h (suc (suc zero)) l = c
each_meter P a b c d e f g h (suc (suc (suc zero))) l = d
each_meter P a b c d e f g h (suc (suc (suc (suc zero)))) l = e
each_meter P a b c d e f g h (suc (suc (suc (suc (suc zero))))) l = f
each_meter P a b c d e f g h (suc (suc (suc (suc (suc (suc zero)))))) l = g
each_meter P a b c d e f g h (suc (suc (suc (suc (suc (suc (suc zero))))))) l = h
each_meter P a b c d e f g h (suc (suc (suc (suc (suc (suc (suc (suc j)))))))) l = absurd (omega arith)

module _ (k j : ℕ) (few : k ≤ 8) (within : j < k) where
  below : j < 8
  below = omega arith

  at : (o : ℕ) → o < 2 + 7 * k → step (water_line k) o ≡ water_step k o
  at o l = tabulate_within (2 + 7 * k) (water_step k) o closed_step l

  is_note : step (water_line k) (2 + 7 * j) ≡ note j
  is_note = at (2 + 7 * j) (omega arith) ∙ each_meter (λ i. water_step k (2 + 7 * i) ≡ note i) refl refl refl refl refl refl refl refl j below

  is_lift : step (water_line k) (4 + 7 * j) ≡ lift j
  is_lift = at (4 + 7 * j) (omega arith) ∙ each_meter (λ i. water_step k (4 + 7 * i) ≡ lift i) refl refl refl refl refl refl refl refl j below

  shut_and_note : Interfere (water_line k) 0 (2 + 7 * j) → ⊥
  unfolding has fact_in lit_in with_fact with_literal
  shut_and_note = tested_apart (water_line k) (water_well k (omega arith) few) 57 (omega arith) 0 (2 + 7 * j) shut (note j) (at 0 (omega arith)) is_note
      (each_meter (λ i. undoes? 57 shut (note i) ≡ false) refl refl refl refl refl refl refl refl j below)
      (each_meter (λ i. undoes? 57 (note i) shut ≡ false) refl refl refl refl refl refl refl refl j below)

  turn_on_and_lift : Interfere (water_line k) 1 (4 + 7 * j)
  unfolding has fact_in lit_in with_fact with_literal
  turn_on_and_lift =
      let makes : lit_in (step (water_line k) 1).makes (pos 0) ≡ true = subst (λ (s : Step). lit_in s.makes (pos 0) ≡ true) (sym (at 1 (omega arith))) refl in
      let needs : lit_in (lift j).needs (neg 0) ≡ true = each_meter (λ i. lit_in (lift i).needs (neg 0) ≡ true) refl refl refl refl refl refl refl refl j below in
      ((λ e. omega arith), inl (neg 0, makes, inl (subst (λ (s : Step). lit_in s.needs (neg 0) ≡ true) (sym is_lift) needs)))

  pub interference : Interference k j
  interference = record {
    is_shut = at 0 (omega arith);
    is_turn_on = at 1 (omega arith);
    is_note = is_note;
    is_lift = is_lift;
    shut_and_note = shut_and_note;
    turn_on_and_lift = turn_on_and_lift;
  }

pub one_meter : OneMeter
unfolding digits has fact_in lit_in with_fact with_literal tabulate
one_meter = record {
  plan = one_meter_plan;
  first = one_meter_first;
  forces = one_meter_forces;
  card = refl;
  nine_steps = refl;
  too_early = λ h. both_ways false refl (h.ready 0 3 (pos 4) refl refl);
  too_short = λ c h. both_ways false refl (goal_in_time (water_line 1) 5 c h (pos 7) refl);
}

pub eight_meters : EightMeters
unfolding tabulate
eight_meters = record { facts = refl; steps_in_all = refl }
