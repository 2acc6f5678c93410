use Rattle.sheet.specs.Cut.{Clean}
use Rattle.sheet.proofs.cut.Reader.cut_line.Given as goal

abbrev pub invariant-loop-i : goal.invariant-loop-i
invariant-loop-i l = Clean l.self.rest.now l.i
