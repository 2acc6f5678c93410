use Rattle.std.proofs.Common.{◌-◌, refl, ◌∙◌, arith}
use Rattle.std.proofs.lemmas.List.{length-set}
use Rattle.model.specs.Tables.{LiteralsBelow}
use Rattle.sheet.specs.Job.{JobStep}
use Rattle.sheet.specs.Joins.{with_makes}
use Rattle.sheet.proofs.Joining.{joins_below}
use Rattle.sheet.specs.Stating.{named_below, at_row, at_rows, newest_told}
use Rattle.sheet.proofs.problem.SheetProblem.add_make.Goals as goal

pub invariant_of-self-clause-step_room : goal.invariant_of-self-clause-step_room
invariant_of-self-clause-step_room c = length-set c.args.self.now.steps _ _ ∙ c.args.self.now.step_room

pub invariant_of-self-clause-makes_in : goal.invariant_of-self-clause-makes_in
invariant_of-self-clause-makes_in c =
    let p = c.args.self.now in
    let f = c.in_ok-fact.fact in
    at_rows (λ (s : JobStep). LiteralsBelow p.named s.makes) p.steps (p.count - 1) _
    (joins_below p.named _ _ f.fact f.negative f.field c.join.result c.join.ensures (named_below p c.args.signed.name.bytes.now f.fact c.in_ok-fact.ensures.0)
    (at_row (λ (s : JobStep). LiteralsBelow p.named s.makes) p.steps (p.count - 1) c.index-steps-newest.result (omega (arith, c.requires, p.few_steps, p.step_room)) p.makes_in))
    p.makes_in

pub invariant_of-self-clause-needs_in : goal.invariant_of-self-clause-needs_in
invariant_of-self-clause-needs_in c =
    let p = c.args.self.now in
    at_rows (λ (s : JobStep). LiteralsBelow p.named s.needs) p.steps (p.count - 1) _
    (at_row (λ (s : JobStep). LiteralsBelow p.named s.needs) p.steps (p.count - 1) c.index-steps-newest.result (omega (arith, c.requires, p.few_steps, p.step_room)) p.needs_in)
    p.needs_in

pub returns : goal.returns
returns c =
    let f = c.in_ok-fact.fact in
    rw (← c.in_ok-fact.ensures.1, ← c.in_ok-fact.ensures.2)
    (newest_told c.args.self.now c.requires with_makes (λ (s : JobStep). s.makes) c.index-steps-newest.result _ f.fact f.negative c.args.signed.name.bytes.now f.field c.join.result _ c.in_ok-fact.ensures.0 c.join.ensures refl)
