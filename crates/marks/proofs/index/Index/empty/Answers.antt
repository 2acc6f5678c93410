use Rattle.std.proofs.Common.{sym, ◌∙◌}
use Rattle.sets.specs.Literals.{lit}
use Rattle.marks.proofs.Empties.{no_member, no_number}
use Rattle.marks.proofs.index.Index.empty.Goals as goal

pub invariant_of-result : goal.invariant_of-result
invariant_of-result c = record { makers_are = (λ i l. no_number c.empty-2.result c.empty-2.ensures.members 256 i l ∙ sym (no_member c.empty-4.result c.empty-4.ensures 128 l i)) }

pub returns : goal.returns
returns c = record {
  needs = no_number c.empty.result c.empty.ensures.members 256;
  makes = no_number c.empty-2.result c.empty-2.ensures.members 256;
  rivals = no_member c.empty-3.result c.empty-3.ensures 256;
  makers = no_member c.empty-4.result c.empty-4.ensures 128;
  needers = no_member c.empty-5.result c.empty-5.ensures 128;
  clauses = no_number c.empty-6.result c.empty-6.ensures.members 128;
  start = λ l. c.empty-7.ensures.members (lit l);
  goal = λ l. c.empty-8.ensures.members (lit l);
  closed = c.empty-9.ensures;
}
