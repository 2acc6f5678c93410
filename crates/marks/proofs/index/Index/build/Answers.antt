use Rattle.std.proofs.Common.{◌≤◌, refl, ap, arith, rules, length-take-le}
use Rattle.sets.specs.Literals.{lit}
use Rattle.sets.specs.declared.facts.LiteralSet.{LiteralSet}
use Rattle.model.specs.declared.step.Step.{Step}
use Rattle.model.specs.Problems.{steps}
use Rattle.model.specs.Held.{problem_of}
use Rattle.marks.specs.Tables.{number_in}
use Rattle.marks.proofs.Made.{filled, needs_are, makes_are, needers_are, rival_interferes, interferes_rival, clauses_are}
use Rattle.marks.proofs.index.Index.build.Goals as goal

pub returns : goal.returns
returns c =
    let t = c.args.problem.now in let p = problem_of t in
    let few : steps p ≤ 256 = omega (arith, length-take-le t.count t.steps (omega (arith, t.sized, t.few_steps)), t.few_steps) in
    let needs = c.fill.new.rows in let makes = c.fill-2.new.rows in let rivals = c.fill_rivals.new.rivals in
    let makers = c.transpose-2.new.columns in let needers = c.transpose.new.columns in
    let nr = filled t (λ (s : Step). s.needs) needs c.fill.ensures.sized refl (λ o h. let e = c.fill.ensures.rows o h in search rules) in
    let mr = filled t (λ (s : Step). s.makes) makes c.fill-2.ensures.sized refl (λ o h. let e = c.fill-2.ensures.rows o h in search rules) in
    let mt = c.transpose-2.ensures in let nt = c.transpose.ensures in
    let rr = c.fill_rivals.ensures.rows in let sz = c.fill_rivals.ensures.sized in
    record {
      needs = needs_are needs makes rivals makers needers p few nr mr mt nt rr sz;
      needers = needers_are needs makes rivals makers needers p few nr mr mt nt rr sz;
      makes = makes_are needs makes rivals makers needers p few nr mr mt nt rr sz;
      rivals = rival_interferes needs makes rivals makers needers p few nr mr mt nt rr sz;
      all_rivals = interferes_rival needs makes rivals makers needers p few nr mr mt nt rr sz;
      clauses = clauses_are c.args.kept.now;
      start = λ l h. c.start_literals-self.ensures.why (lit l) h;
      all_start = λ l h k. c.start_literals-self.ensures.there (lit l) h k;
      goal = λ l. ap (λ (s : LiteralSet). number_in s l) c.goal-self.ensures;
      closed = λ o h. c.closed_steps-self.ensures.why o h;
      all_closed = λ o h k. c.closed_steps-self.ensures.there o h k;
    }
