-- The job that a sheet problem holds. Assumes nothing.
use Rattle.std.specs.Prelude.{map, take}
use Rattle.sheet.specs.Job.{Job}
use Rattle.sheet.specs.Records.{fact_name, job_step}
use Rattle.sheet.specs.declared.problem.SheetProblem.{SheetProblem}

-- the records in use
abbrev pub stated : SheetProblem → Job
stated p = record {
  times = p.times;
  facts = take p.named (map fact_name p.facts);
  start = p.start;
  goal = p.goal;
  steps = take p.count (map job_step p.steps);
}
