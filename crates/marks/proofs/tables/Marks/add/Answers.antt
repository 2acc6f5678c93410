use Rattle.marks.proofs.Growth.{put_added}
use Rattle.marks.proofs.tables.Marks.add.Goals as goal

pub returns : goal.returns
returns c = put_added c.args.self.now c.args.x c.put.new.self c.put.ensures
