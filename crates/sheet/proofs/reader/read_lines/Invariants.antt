use Rattle.std.proofs.Common.{◌≡◌, ◌<◌, true, ◌⊎◌, length}
use Rattle.sheet.specs.Kind.{after_step}
use Rattle.sheet.specs.Stated.{stated}
use Rattle.sheet.proofs.Lines.{Sofar}
use Rattle.sheet.proofs.reader.read_lines.Given as goal

abbrev pub invariant-loop : goal.invariant-loop
invariant-loop l =
    Sofar l.front.rest.now l.reader.rest.now l.reader.previous l.reader.line (stated l.problem) ×
    ((0 < length l.reader.rest.now) ⊎ (l.reader.line ≡ 1)) ×
    (after_step l.reader.previous ≡ true → 0 < l.problem.count)

abbrev pub decreases-loop : goal.decreases-loop
decreases-loop l = length l.reader.rest.now
