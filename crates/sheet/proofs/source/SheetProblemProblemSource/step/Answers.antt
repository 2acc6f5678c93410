use Rattle.std.proofs.Common.{◌<◌, ap, ◌∙◌, arith}
use Rattle.std.proofs.lemmas.List.{get_or-take, length-take-le}
use Rattle.sheet.specs.Job.{open_step}
use Rattle.sheet.specs.Records.{job_step}
use Rattle.sheet.specs.Lawful.{in_use}
use Rattle.sheet.specs.declared.record.StepRecord.{StepRecord}
use Rattle.sheet.proofs.source.SheetProblemProblemSource.step.Goals as goal

pub returns-in-Some : goal.returns-in-Some
returns-in-Some c =
    let p = c.args.self.now in
    let h = c.in-Some.ensures.lookup in
    let few : c.args.number < p.count = omega (arith, h.3.0, length-take-le p.count p.steps (omega (arith, p.few_steps, p.step_room))) in
    ap (λ (r : StepRecord). open_step (job_step r)) (h.1 ∙ get_or-take p.count p.steps c.args.number c.in-Some.row.now few)
    ∙ in_use p c.args.number c.in-Some.row.now few
