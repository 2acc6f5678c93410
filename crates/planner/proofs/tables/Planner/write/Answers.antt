use Rattle.std.proofs.Common.{ap, ◌∙◌}
use Rattle.planner.specs.declared.tables.Stage.TheVariants as stage
use Rattle.planner.proofs.Saying.{writes_plan}
use Rattle.planner.proofs.Telling.{writes_not_yet, writes_none, writes_plan as tells_plan}
use Rattle.planner.proofs.tables.Planner.write.Goals as goal

pub returns-in-NotYet-clause-told : goal.returns-in-NotYet-clause-told
returns-in-NotYet-clause-told c asked =
    writes_not_yet c.args.self.now c.args.out.now c.write_not_yet.new.out c.write_not_yet.result (asked ∙ ap stage.Asked c.in-NotYet.is) c.write_not_yet.ensures

pub returns-in-NoPlan-clause-told : goal.returns-in-NoPlan-clause-told
returns-in-NoPlan-clause-told c asked =
    writes_none c.args.self.now c.args.out.now c.write_none.new.out c.write_none.result (asked ∙ ap stage.Asked c.in-NoPlan.is) c.write_none.ensures

pub returns-in-Plan : goal.returns-in-Plan
returns-in-Plan c =
    record {
      card = λ asked. writes_plan c.args.self.now c.args.out.now c.write_card.new.out c.write_card.result c.taken.result.now c.steps.result c.length.result (asked ∙ ap stage.Asked c.in-Plan.is)
          c.taken.ensures c.steps.ensures.value c.length.ensures.value c.write_card.ensures;
      told = λ asked. tells_plan c.args.self.now c.args.out.now c.write_card.new.out c.write_card.result c.taken.result.now c.steps.result c.length.result (asked ∙ ap stage.Asked c.in-Plan.is)
          c.taken.ensures c.steps.ensures.value c.length.ensures.value c.write_card.ensures;
    }
