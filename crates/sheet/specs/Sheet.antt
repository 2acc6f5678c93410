-- A sheet is the print of its lines, each allowed after the one before and adding to the job so far. Assumes nothing.
use Rattle.std.specs.Prelude.{◌≡◌, ℕ, ◌+◌, ◌<◌, ◌≤◌, true, false, ◌⊎◌, List, [], ◌∷◌, ◌++◌, length, Some, None, Option}
use Rattle.sheet.specs.Kind.{allowed, may_end}
use Rattle.sheet.specs.Job.{Job, no_job, Adds, Flawed, field}
use Rattle.sheet.specs.Statement.{Statement, print, Proper, kind_stated}
use Rattle.sheet.specs.Cut.{LineWrong}
use Rattle.sheet.specs.declared.kind.LineKind.{LineKind}
use Rattle.sheet.specs.declared.fault.ByteFault.TheVariants as byte_is
use Rattle.sheet.specs.declared.fault.LineFault.{LineFault}
use Rattle.sheet.specs.declared.fault.LineFault.TheVariants as line_is
use Rattle.sheet.specs.declared.fault.SheetFault.{SheetFault}
use Rattle.sheet.specs.declared.fault.SheetFault.TheVariants as sheet_is

-- the bytes of a list of lines, each with its line feed, and of what comes after them
abbrev pub print_all : List Statement → List ℕ → List ℕ
print_all [] rest = rest
print_all (t ∷ ts) rest = print t ++ 10 ∷ print_all ts rest

-- after a line of kind p and the job j, these lines may stand: each is proper, of an allowed kind, and adds to the job;
-- the last is of kind q and leaves the job k
pub data Run : Option LineKind → Job → List Statement → Option LineKind → Job → Type 0 where
  stop : {p : Option LineKind} {j : Job} → Run p j [] p j
  go : {p q : Option LineKind} {j i k : Job} {t : Statement} {ts : List Statement}
      → Proper t → allowed p (kind_stated t) ≡ true → Adds j t i → Run (Some (kind_stated t)) i ts q k → Run p j (t ∷ ts) q k

-- the first line of s is proper, and after is what follows it
pub record Next (s : List ℕ) (t : Statement) (after : List ℕ) : Type 0 where
  pub proper : Proper t
  pub whole : s ≡ print t ++ 10 ∷ after

-- the line at the front of s, line n, after a line of kind p and the job j, is at fault: its bytes or its form; or it is
-- of the stated form and its kind may not stand here; or it may, and what it states may not
pub data Wrong (s : List ℕ) (p : Option LineKind) (j : Job) (n : ℕ) : SheetFault → Type 0 where
  not_a_line : (l : LineFault) → LineWrong s n l → Wrong s p j n (sheet_is.Line l)
  not_here : (t : Statement) (after : List ℕ) (e : SheetFault) → Next s t after → allowed p (kind_stated t) ≡ false
      → e ≡ sheet_is.Order (record { line = n; byte = 1 }) → Wrong s p j n e
  not_so : (t : Statement) (after : List ℕ) (e : SheetFault) → Next s t after → allowed p (kind_stated t) ≡ true
      → Flawed j t (record { line = n; byte = field t }) e → Wrong s p j n e

-- s is a sheet, and its lines state the job
pub record Reads (s : List ℕ) (job : Job) : Type 0 where
  pub small : length s ≤ 65535
  pub lines : List Statement
  pub last : Option LineKind
  pub run : Run None no_job lines last job
  pub same : s ≡ print_all lines []
  pub ends : may_end last ≡ true

-- s begins with lines that may stand, and the next line is at fault, be it the first of no byte
pub record Broken (s : List ℕ) (e : SheetFault) : Type 0 where
  pub lines : List Statement
  pub rest : List ℕ
  pub last : Option LineKind
  pub job : Job
  pub run : Run None no_job lines last job
  pub same : s ≡ print_all lines rest
  pub unread : (0 < length rest) ⊎ (length lines ≡ 0)
  pub fault : Wrong rest last job (length lines + 1) e

-- s is all of lines that may stand, and ends before an `f` line
pub record Unfinished (s : List ℕ) (e : SheetFault) : Type 0 where
  pub lines : List Statement
  pub last : Option LineKind
  pub job : Job
  pub run : Run None no_job lines last job
  pub same : s ≡ print_all lines []
  pub ends : may_end last ≡ false
  pub fault : e ≡ sheet_is.NoFact (record { line = length lines + 1; byte = 1 })

-- the bytes s are refused with the fault e: they are too many; or a line is at fault; or there are too few lines
abbrev pub Refused : List ℕ → SheetFault → Type 0
Refused s e =
    ((65535 < length s) × (e ≡ sheet_is.Line (line_is.Byte byte_is.TooLong))) ⊎
    ((length s ≤ 65535) × (Broken s e ⊎ Unfinished s e))
