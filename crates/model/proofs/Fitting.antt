-- A table that holds a problem within the limits is itself within them.
use Rattle.std.proofs.Common.{◌≡◌, ℕ, true, false, List, sym, subst, arith}
use Rattle.std.proofs.lemmas.Bool.{both_ways}
use Rattle.sets.specs.Literals.{Literal, pos, neg}
use Rattle.sets.specs.Sets.{lit_in, fact_in, no_facts, no_literals}
use Rattle.sets.specs.declared.facts.FactSet.{FactSet}
use Rattle.sets.specs.declared.facts.LiteralSet.{LiteralSet}
use Rattle.sets.proofs.Bits.{has_zero}
use Rattle.model.specs.declared.step.Step.{Step}
use Rattle.model.specs.Problems.{Problem, WellFormed, empty_problem}

pub same_problem : {f f' : ℕ} {r r' : List Step} {s s' : FactSet} {g g' : LiteralSet} → f ≡ f' → r ≡ r' → s ≡ s' → g ≡ g'
    → ◌≡◌ {A = Problem} (record { facts = f; rows = r; start = s; goal = g }) (record { facts = f'; rows = r'; start = s'; goal = g' })
same_problem ef er es eg = λ i. record { facts = ef i; rows = er i; start = es i; goal = eg i }

-- what has the parts of a problem within the limits is within them
pub fits : (p : Problem) → WellFormed p → {facts : ℕ} {rows : List Step} {start : FactSet} {goal : LiteralSet}
    → facts ≡ p.facts → rows ≡ p.rows → start ≡ p.start → goal ≡ p.goal
    → WellFormed (record { facts = facts; rows = rows; start = start; goal = goal })
fits p limits ef er es eg = subst WellFormed (sym (same_problem ef er es eg)) limits

pub no_fact : (f : ℕ) → fact_in no_facts f ≡ false
unfolding fact_in
no_fact f = has_zero f

pub no_literal : (l : Literal) → lit_in no_literals l ≡ false
unfolding lit_in
no_literal (pos f) = no_fact f
no_literal (neg f) = no_fact f

pub empty_well_formed : WellFormed empty_problem
empty_well_formed =
    let none : (l : Literal) → lit_in no_literals l ≡ true → ⊥ = λ l h. both_ways _ (no_literal l) h in
    record {
      some_fact = omega arith;
      few_facts = omega arith;
      few_steps = omega arith;
      start_in_range = λ f h. absurd (both_ways _ (no_fact f) h);
      needs_in_range = λ o l h. absurd (none l h);
      makes_in_range = λ o l h. absurd (none l h);
      goal_in_range = λ l h. absurd (none l h);
      needs_agree = λ o l h k. none l h;
      makes_agree = λ o l h k. none l h;
      goal_agrees = λ l h k. none l h;
    }
