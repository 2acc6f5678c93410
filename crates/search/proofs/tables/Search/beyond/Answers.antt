use Rattle.search.proofs.Searches.{newest_beyond}
use Rattle.search.proofs.tables.Search.beyond.Goals as goal

pub returns-in-Some : goal.returns-in-Some
returns-in-Some c = newest_beyond c.args.self.now c.in-Some.level c.in-Some.ensures.0 c.in-Some.ensures.1
