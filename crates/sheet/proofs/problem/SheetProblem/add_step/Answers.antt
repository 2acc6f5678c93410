use Rattle.std.proofs.Common.{ℕ, ◌<◌, ◌≤◌, List, map, length, sym, ap, ◌∙◌, subst, inl, inr, arith}
use Rattle.std.proofs.lemmas.Bool.{both_ways}
use Rattle.std.proofs.lemmas.List.{length-set}
use Rattle.std.proofs.lemmas.Result.{err_from_is_err_and}
use Rattle.sheet.specs.Entry.{Unknown, Stands}
use Rattle.model.specs.Tables.{LiteralsBelow}
use Rattle.sheet.specs.Job.{JobStep}
use Rattle.sheet.specs.Records.{job_step, NeedsBelow, MakesBelow}
use Rattle.sheet.specs.declared.record.StepRecord.{StepRecord}
use Rattle.sheet.specs.Stated.{stated}
use Rattle.sheet.specs.Stating.{steps_count, steps_taken, at_rows, bare, more, with_steps}
use Rattle.sheet.proofs.problem.SheetProblem.add_step.Goals as goal

pub returns-in_err-check_new : goal.returns-in_err-check_new
returns-in_err-check_new c =
    let w = c.in_err-check_new.ensures in
    let q = err_from_is_err_and c.from_residual.result c.from_residual.ensures.1 in
    rw (q.1, q.2)
    (inl (w.0, subst (λ (names : List (List ℕ)). Stands names c.args.name.bytes.now w.0) (steps_taken c.args.self.now) w.1, w.2))

pub returns-in_err-self : goal.returns-in_err-self
returns-in_err-self c =
    let p = c.args.self.now in
    let w = c.in_err-self.ensures in
    let q = err_from_is_err_and c.from_residual-in_err-self.result c.from_residual-in_err-self.ensures.1 in
    rw (q.1, q.2)
    (inr (
      subst (λ (names : List (List ℕ)). Unknown names c.args.name.bytes.now) (steps_taken p) c.in_ok-check_new.ensures,
      subst (λ (n : ℕ). 256 ≤ n) (sym (steps_count p)) w.0,
      w.2,
    ))

pub invariant_of-self-2-clause-step_room : goal.invariant_of-self-2-clause-step_room
invariant_of-self-2-clause-step_room c = ap length c.in_ok-self.ensures.2 ∙ length-set c.args.self.now.steps _ _ ∙ c.args.self.now.step_room

pub invariant_of-self-2-clause-needs_in : goal.invariant_of-self-2-clause-needs_in
invariant_of-self-2-clause-needs_in c =
    let p = c.args.self.now in
    subst (λ (t : List StepRecord). NeedsBelow p.named (map job_step t)) (sym c.in_ok-self.ensures.2)
    (at_rows (λ (s : JobStep). LiteralsBelow p.named s.needs) p.steps p.count c.new-step.result (λ l h. absurd (both_ways _ (c.new-step.ensures.needs l) h)) p.needs_in)

pub invariant_of-self-2-clause-makes_in : goal.invariant_of-self-2-clause-makes_in
invariant_of-self-2-clause-makes_in c =
    let p = c.args.self.now in
    subst (λ (t : List StepRecord). MakesBelow p.named (map job_step t)) (sym c.in_ok-self.ensures.2)
    (at_rows (λ (s : JobStep). LiteralsBelow p.named s.makes) p.steps p.count c.new-step.result (λ l h. absurd (both_ways _ (c.new-step.ensures.makes l) h)) p.makes_in)

pub returns : goal.returns
returns c =
    let p = c.args.self.now in
    let a = c.in_ok-self.ensures in (
      subst (λ (names : List (List ℕ)). Unknown names c.args.name.bytes.now) (steps_taken p) c.in_ok-check_new.ensures,
      subst (λ (n : ℕ). n < 256) (sym (steps_count p)) a.0,
      ap (with_steps (stated p)) (more job_step p.steps c.append.new.table p.count c.in_ok-self.field-0 _ _ (omega (arith, a.0, p.step_room)) a.1 a.2 (c.new-step.ensures.value ∙ ap bare c.from.ensures)),
    )
