use Rattle.std.proofs.Common.{false, get_or, sym, ap, ◌∙◌, arith}
use Rattle.std.proofs.lemmas.List.{get_or_past}
use Rattle.model.specs.Problems.{closed_step}
use Rattle.sources.specs.Reach.{closed_where}
use Rattle.sources.specs.Tables.{closing_step}
use Rattle.sources.proofs.filter.ReachFilterProblemSource.step.Goals as goal

pub returns-then-number-lt256 : goal.returns-then-number-lt256
returns-then-number-lt256 g c =
    let p = g.S.ProblemSource.meaning c.args.self.now.below in
    let table = c.args.self.now.closed in
    ap (closed_where (get_or table c.args.number false)) c.step-step.ensures ∙ sym (closing_step p table c.args.number)

pub returns-else-number-lt256 : goal.returns-else-number-lt256
returns-else-number-lt256 g c =
    let p = g.S.ProblemSource.meaning c.args.self.now.below in
    let flag = get_or c.args.self.now.closed c.args.number false in
    let few = (g.met.S.ProblemSource.limits c.args.self.now.below).few_steps in
    let past = get_or_past p.rows c.args.number closed_step (omega (arith, few, c.if-number-lt256.false)) in
    c.step-step.ensures ∙ past ∙ sym (closing_step p c.args.self.now.closed c.args.number ∙ ap (closed_where flag) past)
