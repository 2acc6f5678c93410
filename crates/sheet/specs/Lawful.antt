-- A sheet problem keeps the limits of every problem.
use Rattle.std.specs.Prelude.{◌≡◌, ℕ, zero, suc, ◌<◌, ◌≤◌, false, cond, List, [], ◌∷◌, map, length, get_or, take, ◌==◌, ◌≢◌, slice_index_or}
use Rattle.std.proofs.Common.{sym, ap, subst, ◌∙◌, arith}
use Rattle.std.proofs.lemmas.List.{length-map, get_or-take, get_or-map, get_or_past}
use Rattle.std.proofs.lemmas.Bool.{both_ways}
use Rattle.std.proofs.lemmas.Bool.Decides.{nat_tests}
use Rattle.sets.specs.Literals.{Literal, fact}
use Rattle.sets.specs.Sets.{lit_in, no_literals}
use Rattle.model.specs.Problems.{WellFormed, closed_step, steps, step}
use Rattle.model.specs.declared.step.Step.{Step}
use Rattle.model.specs.Tables.{LiteralsBelow, NoOpposites}
use Rattle.sheet.specs.Job.{JobStep, no_step, open_step, problem_in}
use Rattle.sheet.specs.Records.{job_step}
use Rattle.sheet.specs.Stated.{stated}
use Rattle.sheet.specs.declared.record.StepRecord.{StepRecord}
use Rattle.sheet.specs.declared.problem.SheetProblem.{SheetProblem}
use Rattle.sheet.specs.Stating.{facts_count, steps_count}

-- the facts of a problem are those named, or one
one_or : (n : ℕ) → 1 ≤ cond {A = ℕ} (n == 0) 1 n
one_or n = grind (arith, nat_tests)

few_or : (n : ℕ) → n ≤ 64 → cond {A = ℕ} (n == 0) 1 n ≤ 64
few_or n h = grind (arith, nat_tests)

below_or : (k n : ℕ) → k < n → k < cond {A = ℕ} (n == 0) 1 n
below_or k n h = grind (arith, nat_tests)

pub named_or : (n m : ℕ) → m ≡ n → (n ≢ 0) → n ≡ cond {A = ℕ} (m == 0) 1 m
named_or n m e h = grind (arith, nat_tests)

-- what holds of each step in a table, and of a closed one, holds of those in use and beyond
each_in_use : (P : Step → Type 0) → P closed_step → (n : ℕ) (js : List JobStep) (o : ℕ) → ((k : ℕ) → P (open_step (get_or js k no_step))) → P (get_or (map open_step (take n js)) o closed_step)
each_in_use P d zero js o h = d
each_in_use P d (suc n) [] o h = d
each_in_use P d (suc n) (x ∷ js) zero h = h zero
each_in_use P d (suc n) (x ∷ js) (suc o) h = each_in_use P d n js o (λ k. h (suc k))

module _ (none : (l : Literal) → lit_in no_literals l ≡ false) where
  none_below : (n : ℕ) → LiteralsBelow n no_literals
  none_below n l h = absurd (both_ways (lit_in no_literals l) (none l) h)

  none_apart : NoOpposites no_literals
  none_apart l h k = both_ways (lit_in no_literals l) (none l) h

  rows_apart : (rows : List StepRecord) (o : ℕ) → NoOpposites (get_or (map job_step rows) o no_step).needs × NoOpposites (get_or (map job_step rows) o no_step).makes
  rows_apart [] o = (none_apart, none_apart)
  rows_apart (x ∷ rows) zero = (x.needs_agree, x.makes_agree)
  rows_apart (x ∷ rows) (suc o) = rows_apart rows o

  pub lawful : (p : SheetProblem) → WellFormed (problem_in (stated p))
  lawful p =
      let n = length (stated p).facts in
      let named : (k : ℕ) → k < p.named → k < cond {A = ℕ} (n == 0) 1 n = λ k h. below_or k n (subst (λ (m : ℕ). k < m) (sym (facts_count p)) h) in
      let js = map job_step p.steps in
      record {
        some_fact = one_or n;
        few_facts = few_or n (omega (arith, facts_count p, p.few_facts));
        few_steps = omega (arith, length-map (stated p).steps open_step, steps_count p, p.few_steps);
        start_in_range = λ f h. named f (p.start_in f h);
        needs_in_range = λ o l h. named (fact l) (each_in_use (λ (s : Step). LiteralsBelow p.named s.needs) (none_below p.named) p.count js o p.needs_in l h);
        makes_in_range = λ o l h. named (fact l) (each_in_use (λ (s : Step). LiteralsBelow p.named s.makes) (none_below p.named) p.count js o p.makes_in l h);
        goal_in_range = λ l h. named (fact l) (p.goal_in l h);
        needs_agree = λ o. each_in_use (λ (s : Step). NoOpposites s.needs) none_apart p.count js o (λ k. (rows_apart p.steps k).0);
        makes_agree = λ o. each_in_use (λ (s : Step). NoOpposites s.makes) none_apart p.count js o (λ k. (rows_apart p.steps k).1);
        goal_agrees = p.goal_agrees;
      }

-- the step of a number that is in use, and what stands beyond
pub in_use : (p : SheetProblem) (o : ℕ) (d : StepRecord) → o < p.count → open_step (job_step (slice_index_or p.steps o d)) ≡ step (problem_in (stated p)) o
in_use p o d h =
    let room : o < length p.steps = omega (arith, p.few_steps, p.step_room) in
    sym (get_or-map open_step (stated p).steps o no_step closed_step (omega (arith, steps_count p))
    ∙ ap open_step (get_or-take p.count (map job_step p.steps) o no_step h ∙ get_or-map job_step p.steps o d no_step room))

pub beyond : (p : SheetProblem) (o : ℕ) → p.count ≤ o → closed_step ≡ step (problem_in (stated p)) o
beyond p o h = sym (get_or_past (map open_step (stated p).steps) o closed_step (omega (arith, length-map (stated p).steps open_step, steps_count p)))

pub how_many : (p : SheetProblem) → p.count ≡ steps (problem_in (stated p))
how_many p = sym (length-map (stated p).steps open_step ∙ steps_count p)
