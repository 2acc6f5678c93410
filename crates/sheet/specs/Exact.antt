-- Reading is a function of the bytes. Assumes nothing.
use Rattle.std.specs.Prelude.{◌≡◌, ℕ, ◌<◌, ◌≤◌, ◌⊎◌, List, length, Ok, Err, Result}
use Rattle.sheet.specs.Job.{Job}
use Rattle.sheet.specs.Sheet.{Reads, Broken, Unfinished, Refused}
use Rattle.sheet.specs.declared.fault.ByteFault.TheVariants as byte_is
use Rattle.sheet.specs.declared.fault.LineFault.TheVariants as line_is
use Rattle.sheet.specs.declared.fault.SheetFault.{SheetFault}
use Rattle.sheet.specs.declared.fault.SheetFault.TheVariants as sheet_is

-- s is all of lines that may stand, at least one, and ends before an `f` line
pub record Stopped (s : List ℕ) (e : SheetFault) : Type 0 where
  pub short : Unfinished s e
  pub some : 0 < length short.lines

-- the fault of the bytes s is e: they are too many; or a line is at fault, after lines that may stand; or they stop too soon, after at
-- least one line. It is `Refused`, but that the empty sheet does not count as one that stops too soon: its first line is at fault
abbrev pub Faulted : List ℕ → SheetFault → Type 0
Faulted s e =
    ((65535 < length s) × (e ≡ sheet_is.Line (line_is.Byte byte_is.TooLong))) ⊎
    ((length s ≤ 65535) × (Broken s e ⊎ Stopped s e))

-- no bytes state two jobs, none have two faults, and none that are a sheet are refused
pub record OneReading : Type 0 where
  pub one_job : (s : List ℕ) (j k : Job) → Reads s j → Reads s k → j ≡ k
  pub one_fault : (s : List ℕ) (e f : SheetFault) → Faulted s e → Faulted s f → e ≡ f
  pub never_both : (s : List ℕ) (j : Job) (e : SheetFault) → Reads s j → Refused s e → ⊥

-- if the bytes s are a sheet, the answer r is Ok and the job is what they state; if they have a fault, r is that fault; and a fault that is
-- answered is theirs
pub record Exact (s : List ℕ) (r : Result (Unit {0}) SheetFault) (job : Job) : Type 0 where
  pub sheet : (k : Job) → Reads s k → (r ≡ Ok tt) × (job ≡ k)
  pub fault : (e : SheetFault) → Faulted s e → r ≡ Err e
  pub refused : (e : SheetFault) → r ≡ Err e → Faulted s e
