-- The number of a refused fault line. Assumes nothing.
use Rattle.std.specs.Prelude.{ℕ}
use Rattle.sheet.specs.declared.fault_line.WriteFault.{WriteFault}
use Rattle.sheet.specs.declared.fault_line.WriteFault.TheVariants.{TooFewBytes}

abbrev pub write_number : WriteFault → ℕ
write_number TooFewBytes = 28
