use Rattle.std.proofs.Common.{◌≡◌, List, ◌++◌}
use Rattle.model.specs.declared.path.Entry.{Entry}
use Rattle.model.specs.Firsts.{NoneAgrees}
use Rattle.search.specs.Looks.{asked, path_of, Wanted}
use Rattle.search.proofs.tables.Search.turn.Given as goal

-- no wanted plan agrees with what is left of the path, which is the front of what there was
abbrev pub invariant-loop-level : goal.invariant-loop-level
invariant-loop-level l =
    (asked l.self ≡ asked l.initial.self)
    × NoneAgrees (Wanted (asked l.self)) (path_of l.self)
    × ((behind : List Entry) × (path_of l.initial.self ≡ path_of l.self ++ behind))

abbrev pub decreases-loop-level : goal.decreases-loop-level
decreases-loop-level l = l.self.path.depth
