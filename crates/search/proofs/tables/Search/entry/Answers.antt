use Rattle.search.proofs.Searches.{place_small}
use Rattle.search.proofs.tables.Search.entry.Goals as goal

pub bounds-self-level : goal.bounds-self-level
bounds-self-level c = place_small c.args.self.now c.args.place c.in_ok-level.level c.in_ok-level.ensures.0 c.in_ok-level.ensures.1
