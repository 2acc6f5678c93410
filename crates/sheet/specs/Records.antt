-- Step records as steps of a job, and literals of facts below a count. Assumes nothing.
use Rattle.std.specs.Prelude.{ℕ, List, slice_index_or}
use Rattle.model.specs.Tables.{LiteralsBelow}
use Rattle.sheet.specs.Job.{JobStep, no_step}
use Rattle.sheet.specs.Name.{name_bytes}
use Rattle.sheet.specs.declared.record.FactRecord.{FactRecord}
use Rattle.sheet.specs.declared.record.StepRecord.{StepRecord}

abbrev pub fact_name : FactRecord → List ℕ
fact_name r = name_bytes r.name

abbrev pub job_step : StepRecord → JobStep
job_step r = record { name = name_bytes r.name; needs = r.needs; makes = r.makes }

abbrev pub NeedsBelow : ℕ → List JobStep → Type 0
NeedsBelow n steps = (o : ℕ) → LiteralsBelow n (slice_index_or steps o no_step).needs

abbrev pub MakesBelow : ℕ → List JobStep → Type 0
MakesBelow n steps = (o : ℕ) → LiteralsBelow n (slice_index_or steps o no_step).makes
