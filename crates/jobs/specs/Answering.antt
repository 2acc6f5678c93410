-- What answers a sheet. Assumes nothing.
use Rattle.std.specs.Prelude.{◌≡◌, ℕ, ◌⊎◌, List, Ok, Err, Result}
use Rattle.model.specs.declared.answers.Decline.{Decline}
use Rattle.model.specs.declared.answers.Decline.TheVariants.{TooShort}
use Rattle.sheet.specs.declared.fault.SheetFault.{SheetFault}
use Rattle.sheet.specs.Job.{Job}
use Rattle.sheet.specs.Sheet.{Reads, Refused}
use Rattle.sheet.specs.Fault.{fault_line}
use Rattle.text.specs.Written.{Stands, TooFew}

-- the fault's line is written whole, or there are too few bytes for it and they stand as before
abbrev pub FaultAnswer : SheetFault → List ℕ → Result ℕ Decline → List ℕ → Type 0
FaultAnswer e out (Ok n) out' = Stands (fault_line e) out n out'
FaultAnswer e out (Err d) out' = (d ≡ TooShort) × TooFew (fault_line e) out out'

-- the bytes are a sheet, or they are declined and the fault line says by what
abbrev pub Answered : List ℕ → List ℕ → Result ℕ Decline → List ℕ → Type 0
Answered bytes out r out' = ((job : Job) × Reads bytes job) ⊎ ((e : SheetFault) × Refused bytes e × FaultAnswer e out r out')
