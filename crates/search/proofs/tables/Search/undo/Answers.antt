use Rattle.std.proofs.Common.{refl, arith}
use Rattle.search.proofs.Searches.{newest_trail, newest_path, newest_placed, newest_lower, undone}
use Rattle.search.proofs.tables.Search.undo.Goals as goal

pub invariant_of-self-2-clause-sound : goal.invariant_of-self-2-clause-sound
invariant_of-self-2-clause-sound c =
    let s = c.args.self.now in
    let l = c.in_ok-level.level in
    let top = c.in_ok-level.ensures.top in
    undone s l top.0 top.1 c.retreat.new.self (c.retreat.ensures.back (newest_trail s l top.0 top.1)) c.pop.new.self c.pop.ensures.levels c.pop.ensures.depth

pub returns : goal.returns
returns c =
    let s = c.args.self.now in
    let l = c.in_ok-level.level in
    let top = c.in_ok-level.ensures.top in
    let back = c.retreat.ensures.back (newest_trail s l top.0 top.1) in
    record {
      same = refl;
      plan = refl;
      less = (
        newest_path s l top.0 top.1 c.pop.new.self c.pop.ensures.levels c.pop.ensures.depth,
        newest_placed s l top.0 top.1,
        back.calm,
        newest_lower s l top.0 top.1 c.retreat.new.self back,
      );
      fewer = omega (arith, top.0, c.pop.ensures.depth);
    }
