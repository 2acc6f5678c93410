use Rattle.sheet.specs.Stated.{stated}
use Rattle.sheet.proofs.Unique.{exact}
use Rattle.sheet.proofs.reader.read.Goals as goal

pub returns-clause-exact : goal.returns-clause-exact
returns-clause-exact c = exact c.args.sheet.now c.fill.result (stated c.fill.new.problem) c.fill.ensures
