use Rattle.std.proofs.Common.{◌<◌, length, ◌∙◌, arith}
use Rattle.std.proofs.lemmas.List.Sums.{sum_by-set}
use Rattle.sets.specs.Literals.{lit}
use Rattle.sets.specs.Sets.{weight, no_literals}
use Rattle.clauses.specs.Pairs.{rel, load}
use Rattle.clauses.proofs.Laws.{row_of, struck_row}
use Rattle.clauses.proofs.pairs.Pairs.strike_one.Goals as goal

pub returns : goal.returns
unfolding rel load
returns c =
    let m = c.args.self.now in
    let a = c.args.a.number in
    let s = c.remove.result in
    let e = c.remove.ensures in
    let inside : a < length m.rows = omega arith in
    let sums = sum_by-set weight m.rows a s no_literals inside in
    record {
      pairs = struck_row m.rows a c.args.b.number s inside e.members;
      less = omega (arith, sums, e.less);
      falls = λ h. omega (arith, sums, e.falls (row_of m a (lit c.args.b.number) ∙ h));
    }
