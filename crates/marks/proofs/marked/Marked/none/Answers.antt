use Rattle.std.proofs.Common.{replicate}
use Rattle.marks.proofs.Empties.{no_number, unmarked}
use Rattle.marks.proofs.marked.Marked.none.Goals as goal

pub returns : goal.returns
returns c = unmarked (replicate 33 c.empty.result) c.none.result (no_number c.empty.result c.empty.ensures.members 33) c.none.ensures
