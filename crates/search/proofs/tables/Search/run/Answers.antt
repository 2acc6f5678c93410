use Rattle.std.proofs.Common.{refl, ◌∙◌}
use Rattle.model.specs.Choices.{Walk}
use Rattle.search.proofs.Turning.{walk_on, plan_found}
use Rattle.search.proofs.tables.Search.run.Goals as goal

pub loop-done-init : goal.loop-done-init
loop-done-init c = (refl, Walk.stay _)

pub loop-done-preserved : goal.loop-done-preserved
loop-done-preserved c = (
  c.advance.ensures.same ∙ c.loop-done.invariant.0,
  walk_on c.args.self.now c.loop-done.self c.advance.new.self c.loop-done.done c.loop-done.invariant.0 c.loop-done.invariant.1 c.in-NotYet.ensures.advanced,
)

pub returns-in-Plan : goal.returns-in-Plan
returns-in-Plan c = record {
  same = c.finish.ensures.same ∙ c.advance.ensures.same ∙ c.loop-done.invariant.0;
  ran = (
    plan_found c.args.self.now c.loop-done.self c.advance.new.self c.finish.new.self c.loop-done.invariant.0 c.advance.ensures.same c.finish.ensures.same
        c.finish.ensures.plan c.in-Plan.ensures.advanced,
    c.finish.ensures.empty,
  );
}
