-- The plan for one meter comes first forward: every other takes a cell that it leaves out, and agrees with it on all before.
use Rattle.std.proofs.Common.{◌≡◌, ℕ, zero, suc, ◌+◌, ◌*◌, ◌/◌, ◌%◌, ◌<◌, Bool, true, false, not, ◌&&◌, ◌||◌, eqb, ◌⊎◌, sym, refl, ◌∙◌, subst, inl, inr, ⊎_elim, arith}
use Rattle.std.proofs.lemmas.Bool.{both_ways, or_cases, not-true, eqb-true, cases_Bool}
use Rattle.sets.specs.Has.{has}
use Rattle.sets.specs.Literals.{neg}
use Rattle.sets.specs.Sets.{fact_in, lit_in, with_fact, with_literal}
use Rattle.model.specs.Problems.{Makes, step}
use Rattle.model.specs.Plans.{Cells, Taken, LeftOut}
use Rattle.model.specs.Clauses.{Clauses, Kept}
use Rattle.model.specs.Firsts.{First, Such, Same, Before}
use Rattle.model.specs.Marks.{Mark, true_at, taken, left_out, Forced, agrees}
use Rattle.model.specs.Paths.{at}
use Rattle.model.specs.Rankings.{Ranked}
use Rattle.model.proofs.KeptHold.{kept_hold}
use Rattle.model.proofs.MarksSound.{marks_sound}
use Rattle.model.proofs.States.{comes_from}
use Rattle.sources.specs.Built.{forward}
use Rattle.sources.specs.Listed.{tabulate}
use Rattle.sources.specs.Water.{water_line}
use Rattle.sources.specs.Bijections.{forward_undo}
use Rattle.sources.specs.Waters.{water_well}
use Rattle.examples.specs.Meters.{one_meter_times, forced_times, undecided_times}
use Rattle.examples.specs.Plans.{taking, no_pins}
use Rattle.examples.proofs.OneMeterMarks.{one_meter_plan, one_meter_forces, shut_by_two}
use Rattle.examples.proofs.PlanTests.{all_below, all_below_at, implies, implied}
use Rattle.examples.proofs.TwoSteps.{keeps_none}

-- no clause at all is a kept set
abbrev no_clauses : Clauses
no_clauses = λ a b. false

none_kept : Kept (water_line 1) no_clauses
none_kept = record {
  in_range = λ a b h. absurd (both_ways false refl h);
  unordered = λ a b h. h;
  at_start = λ a b h. absurd (both_ways false refl h);
  unspoiled = λ a b h. absurd (both_ways false refl h);
}

-- a cell of which something is forced is done alike by the plan and by the forced marks
abbrev alike? : Bool → Bool → Bool
alike? a b = (a && b) || (not a && not b)

alike : (a b : Bool) → alike? a b ≡ true → a ≡ b
alike true true e = refl
alike true false e = absurd (both_ways false refl e)
alike false true e = absurd (both_ways false refl e)
alike false false e = refl

as_forced : (t o : ℕ) → t < 6 → o < 9 → LeftOut (taking undecided_times) t o → taking one_meter_times t o ≡ taking forced_times t o
as_forced t o r q h =
    let test : ℕ → ℕ → Bool = λ u x. taking undecided_times u x || alike? (taking one_meter_times u x) (taking forced_times u x) in
    ⊎_elim
    (λ e. absurd (both_ways (taking undecided_times t o) h e))
    (alike (taking one_meter_times t o) (taking forced_times t o))
    (or_cases (taking undecided_times t o) (alike? (taking one_meter_times t o) (taking forced_times t o))
    (all_below_at 9 (test t) (all_below_at 6 (λ u. all_below 9 (test u)) refl t r) o q))

at_cell : (P : ℕ → Type 0) (o n : ℕ) → (eqb o n || false) ≡ true → P n → P o
at_cell P o n e h = ⊎_elim (λ q. subst P (sym (eqb-true o n q)) h) (λ q. absurd (both_ways false refl q)) (or_cases (eqb o n) false e)

each_undecided : (P : ℕ → ℕ → Type 0) → P 0 0 → P 1 0 → P 1 2 → P 5 6 → (t o : ℕ) → Taken (taking undecided_times) t o → P t o
each_undecided P a b c d zero o e = at_cell (P 0) o 0 e a
each_undecided P a b c d (suc zero) o e =
    ⊎_elim (λ q. subst (P 1) (sym (eqb-true o 0 q)) b) (λ q. at_cell (P 1) o 2 q c) (or_cases (eqb o 0) (eqb o 2 || false) e)
each_undecided P a b c d (suc (suc zero)) o e = absurd (both_ways false refl e)
each_undecided P a b c d (suc (suc (suc zero))) o e = absurd (both_ways false refl e)
each_undecided P a b c d (suc (suc (suc (suc zero)))) o e = absurd (both_ways false refl e)
each_undecided P a b c d (suc (suc (suc (suc (suc zero))))) o e = at_cell (P 5) o 6 e d
each_undecided P a b c d (suc (suc (suc (suc (suc (suc t)))))) o e = absurd (both_ways false refl e)

-- only shut makes the line not open
shuts : (o : ℕ) → o < 9 → Makes (water_line 1) o (neg 0) → o ≡ 0
unfolding has fact_in lit_in with_fact with_literal tabulate
shuts o r m = eqb-true o 0 (implied (lit_in (step (water_line 1) o).makes (neg 0)) (eqb o 0)
    (all_below_at 9 (λ x. implies (lit_in (step (water_line 1) x).makes (neg 0)) (eqb x 0)) refl o r) m)

module _ (q : Cells) (such : Such (water_line 1) 6 no_pins q) where
  agreed : (m : Mark) → Forced (water_line 1) 6 no_pins no_clauses m → agrees (water_line 1) q m ≡ true
  agreed m h =
      let well = water_well 1 (omega arith) (omega arith) in
      marks_sound (water_line 1) 6 no_pins no_clauses q well such.plan such.keeps (kept_hold (water_line 1) 6 no_clauses q well none_kept such.plan) m h

  decided : (t o : ℕ) → t < 6 → o < 9 → LeftOut (taking undecided_times) t o → taking one_meter_times t o ≡ q t o
  decided t o r s h =
      let forces = one_meter_forces no_clauses none_kept in
      ⊎_elim
      (λ e. as_forced t o r s h ∙ e ∙ sym (agreed (taken t o) (forces.takes t o e)))
      (λ e. as_forced t o r s h ∙ e ∙ sym (not-true (q t o) (agreed (left_out t o) (forces.leaves t o r s e h))))
      (cases_Bool (taking forced_times t o))

  -- the line is shut at time 0 or 1
  shut_once : LeftOut q 0 0 → Taken q 1 0
  unfolding has fact_in with_fact tabulate
  shut_once h =
      let within = such.plan.within in
      let by : (t : ℕ) → (o : ℕ) × Taken q t o × Makes (water_line 1) o (neg 0) → Taken q t 0 =
      λ t m. subst (λ (o : ℕ). Taken q t o) (shuts m.0 (within t m.0 m.1).1 m.2) m.1 in
      ⊎_elim
      (by 1)
      (λ still. ⊎_elim
      (λ m. absurd (both_ways (q 0 0) h (by 0 m)))
      (λ first. absurd (both_ways false refl first.0))
      (comes_from (water_line 1) 6 q within 0 (neg 0) still.0))
      (comes_from (water_line 1) 6 q within 1 (neg 0) (agreed (true_at (neg 0) 2) (shut_by_two no_clauses)))

  -- agreement on the undecided cells of places below k is agreement on all cells of places below k
  below : (k : ℕ) → ((t o : ℕ) → Taken (taking undecided_times) t o → t * 9 + o < k → taking one_meter_times t o ≡ q t o)
      → (t o : ℕ) → t < 6 → o < 9 → t * 9 + o < k → taking one_meter_times t o ≡ q t o
  below k h t o r s l = ⊎_elim (λ e. h t o e l) (decided t o r s) (cases_Bool (taking undecided_times t o))

  places_below : (k : ℕ) → k < 54 → ((t o : ℕ) → Taken (taking undecided_times) t o → t * 9 + o < k → taking one_meter_times t o ≡ q t o)
      → (j : ℕ) → j < k → at (taking one_meter_times) (forward.cell 6 9 j) ≡ at q (forward.cell 6 9 j)
  places_below k few h j l =
      let ranked : Ranked 6 9 = record { short = omega arith; few = omega arith } in
      let inside : j < 54 = omega arith in
      let place : j / 9 * 9 + j % 9 ≡ j = forward_undo.back 6 9 j ranked inside in
      below k h (j / 9) (j % 9) (forward_undo.time_within 6 9 j ranked inside) (forward_undo.step_within 6 9 j ranked inside) (subst (λ (n : ℕ). n < k) (sym place) l)

  compared : Same 6 9 (taking one_meter_times) q ⊎ Before 54 (forward.cell 6 9) (taking one_meter_times) q
  compared =
      ⊎_elim
      (λ (a : Taken q 0 0). inr (0, omega arith, refl, a, λ j l. absurd (omega arith)))
      (λ (a : LeftOut q 0 0). let b = shut_once a in ⊎_elim
      (λ (c : Taken q 1 2). inr (
        11,
        omega arith,
        refl,
        c,
        places_below 11 (omega arith)
            (each_undecided (λ t o. t * 9 + o < 11 → taking one_meter_times t o ≡ q t o) (λ l. sym a) (λ l. sym b) (λ l. absurd (omega arith)) (λ l. absurd (omega arith))),
      ))
      (λ (c : LeftOut q 1 2). ⊎_elim
      (λ (d : Taken q 5 6). inr (
        51,
        omega arith,
        refl,
        d,
        places_below 51 (omega arith)
            (each_undecided (λ t o. t * 9 + o < 51 → taking one_meter_times t o ≡ q t o) (λ l. sym a) (λ l. sym b) (λ l. sym c) (λ l. absurd (omega arith))),
      ))
      (λ (d : LeftOut q 5 6). inl (λ t o r s. sym (below 54
      (each_undecided (λ t o. t * 9 + o < 54 → taking one_meter_times t o ≡ q t o) (λ l. sym a) (λ l. sym b) (λ l. sym c) (λ l. sym d))
      t o r s (omega arith))))
      (cases_Bool (q 5 6)))
      (cases_Bool (q 1 2)))
      (cases_Bool (q 0 0))

pub one_meter_first : First (Such (water_line 1) 6 no_pins) 6 9 (forward.cell 6 9) (taking one_meter_times)
one_meter_first = (record { plan = one_meter_plan; keeps = keeps_none one_meter_times }, compared)
