-- The two-step problem: its limits, its plan, and what the rules force in it.
use Rattle.std.proofs.Common.{◌≡◌, ℕ, zero, suc, ◌<◌, Bool, true, false, List, [], ◌∷◌, sym, refl, subst, inl, arith}
use Rattle.std.proofs.lemmas.Bool.{both_ways}
use Rattle.sets.specs.Has.{has}
use Rattle.sets.specs.Literals.{pos, neg}
use Rattle.sets.specs.Sets.{fact_in, lit_in, with_fact, with_literal}
use Rattle.model.specs.Problems.{WellFormed, Makes, step}
use Rattle.model.specs.Plans.{IsPlan, Keeps, unpinned, take, leave}
use Rattle.model.specs.Clauses.{Clauses, Largest}
use Rattle.model.specs.Marks.{Mark, true_at, taken, left_out, Closed}
use Rattle.model.proofs.ContradictionNone.{contradiction_none}
use Rattle.sources.specs.Listed.{tabulate}
use Rattle.sources.specs.Tested.{well_from}
use Rattle.examples.specs.Plans.{taking, no_pins}
use Rattle.examples.specs.Sheets.{two_steps}
use Rattle.examples.specs.TwoSteps.{Forces}
use Rattle.examples.proofs.PlanTests.{lists_plan}

pub two_steps_well : WellFormed two_steps
unfolding with_fact with_literal tabulate
two_steps_well = well_from 2 2 (step two_steps) two_steps.start two_steps.goal refl

pub two_steps_plan : IsPlan two_steps 2 (taking ((0 ∷ []) ∷ (1 ∷ []) ∷ []))
unfolding has fact_in lit_in with_fact with_literal
two_steps_plan = lists_plan two_steps ((0 ∷ []) ∷ (1 ∷ []) ∷ []) two_steps_well refl

-- only fit makes done
done_makers : (o : ℕ) → o < 2 → Makes two_steps o (pos 1) → o ≡ 1
unfolding has fact_in lit_in with_fact with_literal
done_makers zero r m = absurd (both_ways false refl m)
done_makers (suc zero) r m = refl
done_makers (suc (suc o)) r m = absurd (omega arith)

-- only dry makes wet false
dry_makers : (o : ℕ) → o < 2 → Makes two_steps o (neg 0) → o ≡ 0
unfolding has fact_in lit_in with_fact with_literal
dry_makers zero r m = refl
dry_makers (suc zero) r m = absurd (both_ways false refl m)
dry_makers (suc (suc o)) r m = absurd (omega arith)

-- marks closed under the rules, at any length from 1 on
module _ (T : ℕ) (long : 0 < T) (V : Clauses) (M : Mark → Bool) (closed : Closed two_steps T no_pins V (λ m. M m ≡ true)) where
  wet_0 : M (true_at (pos 0) 0) ≡ true
  unfolding has fact_in with_fact
  wet_0 = closed.frame.start (pos 0) (omega arith) refl

  not_done_0 : M (true_at (neg 1) 0) ≡ true
  unfolding has fact_in with_fact
  not_done_0 = closed.frame.start (neg 1) (omega arith) refl

  fit_out_0 : M (left_out 0 1) ≡ true
  unfolding has fact_in lit_in with_fact with_literal
  fit_out_0 = closed.need_false 0 1 (neg 0) long (omega arith) refl wet_0

  not_done_1 : M (true_at (neg 1) 1) ≡ true
  not_done_1 = closed.frame.stays_false 0 (pos 1) long
      (λ o r m. subst (λ (x : ℕ). M (left_out 0 x) ≡ true) (sym (done_makers o r m)) fit_out_0) not_done_0

  done_T : M (true_at (pos 1) T) ≡ true
  unfolding has fact_in lit_in with_fact with_literal
  done_T = closed.frame.goal (pos 1) refl

-- marks closed under the rules, at length 2
module _ (V : Clauses) (M : Mark → Bool) (closed : Closed two_steps 2 no_pins V (λ m. M m ≡ true)) where
  fit_1 : M (taken 1 1) ≡ true
  unfolding has fact_in lit_in with_fact with_literal
  fit_1 = closed.only_maker 1 1 (pos 1) (omega arith) (omega arith) refl (λ o r d m. absurd (d (done_makers o r m)))
      (not_done_1 2 (omega arith) V M closed) (done_T 2 (omega arith) V M closed)

  dry_1 : M (true_at (neg 0) 1) ≡ true
  unfolding has fact_in lit_in with_fact with_literal
  dry_1 = closed.frame.needs 1 1 (neg 0) fit_1 refl

  dry_0 : M (taken 0 0) ≡ true
  unfolding has fact_in lit_in with_fact with_literal
  dry_0 = closed.only_maker 0 0 (neg 0) (omega arith) (omega arith) refl (λ o r d m. absurd (d (dry_makers o r m)))
      (wet_0 2 (omega arith) V M closed) dry_1

  dry_out_1 : M (left_out 1 0) ≡ true
  unfolding has fact_in lit_in with_fact with_literal
  dry_out_1 = closed.need_false 1 0 (pos 0) (omega arith) (omega arith) refl dry_1

-- a plan keeps pins that ask nothing
pub keeps_none : (times : List (List ℕ)) → Keeps no_pins (taking times)
keeps_none times = record { takes = λ t o e. absurd (unpinned_other e); leaves = λ t o e. absurd (unpinned_left e) }
  where
    unpinned_other : unpinned ≡ take → ⊥
    unpinned_other e = let z : ◌≡◌ {A = ℕ} 0 1 = cc in omega arith

    unpinned_left : unpinned ≡ leave → ⊥
    unpinned_left e = let z : ◌≡◌ {A = ℕ} 0 1 = cc in omega arith

pub two_steps_force : (V : Clauses) → Largest two_steps V → Forces V
two_steps_force V largest = record {
  dry_first = λ M h. dry_0 V M h;
  fit_second = λ M h. fit_1 V M h;
  fit_not_first = λ M h. fit_out_0 2 (omega arith) V M h;
  dry_not_second = λ M h. dry_out_1 V M h;
  no_contradiction = λ d. contradiction_none two_steps 2 no_pins V two_steps_well largest.kept d
      (taking ((0 ∷ []) ∷ (1 ∷ []) ∷ [])) two_steps_plan (keeps_none ((0 ∷ []) ∷ (1 ∷ []) ∷ []));
  too_short = inl (pos 1, 1, (λ M h. done_T 1 (omega arith) V M h), (λ M h. not_done_1 1 (omega arith) V M h));
}
