use Rattle.std.proofs.Common.{sym, refl, ◌∙◌}
use Rattle.clauses.specs.Pairs.{rel}
use Rattle.clauses.proofs.Strikes.{strike_cut, strike_done}
use Rattle.clauses.proofs.Waits.{struck_one}
use Rattle.clauses.proofs.record.ClauseRecord.strike.Goals as goal

pub returns : goal.returns
returns c =
    let r = c.args.self.now in
    let a = c.args.a.number in
    let b = c.args.b.number in
    let m = c.strike.new.self in
    let e = c.strike.ensures in
    let n = c.note.ensures in
    record {
      struck = struck_one r _ m a b (strike_cut (rel r.pairs) (rel m) a b e.pairs) (e.falls (sym c.contains.ensures ∙ c.if-not-contains.false))
          refl refl n.noted n.held;
      done = strike_done (rel r.pairs) (rel m) a b e.pairs;
    }
