use Rattle.marks.proofs.Undone.{restored}
use Rattle.marks.proofs.tables.Marks.retreat.Goals as goal

pub returns-then-n-self-clause-restores : goal.returns-then-n-self-clause-restores
returns-then-n-self-clause-restores c h = restored c.args.self.now c.take_back.new.self c.args.n c.take_back.ensures
