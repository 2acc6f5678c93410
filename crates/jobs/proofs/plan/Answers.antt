use Rattle.sheet.specs.Stated.{stated}
use Rattle.sheet.specs.Job.{problem_in}
use Rattle.sheet.specs.Lawful.{lawful}
use Rattle.sheet.specs.Empty.{none_in}
use Rattle.sources.specs.Reach.{closing}
use Rattle.jobs.proofs.Cards.{ask_left, begun_then, job_answered}
use Rattle.jobs.proofs.plan.Goals as goal

pub returns : goal.returns
returns c =
    let j = stated c.args.problem in
    let w = c.new-filter.ensures in
    let F = closing (problem_in (stated c.new-filter.result.below)) c.new-filter.result.closed in
    let e = ask_left j F (lawful none_in c.args.problem) w.filters.steps_same w.plans c.args.planner.now c.open.new.self c.ask.new.self c.length-length.result
    c.length-length.ensures.value c.length-length.ensures.within c.open.ensures.obeys c.in_ok-ask.ensures.obeys in
    job_answered j F (lawful none_in c.args.problem) w.filters.steps_same w.plans c.ask.new.self c.run_out.new.planner c.args.out.now c.report.new.out c.report.result
    w.filters e (c.in_ok-run_out.ensures (begun_then j F (lawful none_in c.args.problem) w.filters.steps_same w.plans c.ask.new.self e)) c.report.ensures.obeys
