use Rattle.std.proofs.Common.{ℕ, not, ◌&&◌, eqb, get_or, ap, ◌∙◌}
use Rattle.sets.specs.Literals.{lit}
use Rattle.sets.specs.Sets.{no_literals}
use Rattle.sets.proofs.Literals.{code_lit}
use Rattle.marks.specs.Tables.{number_in}
use Rattle.marks.proofs.Changes.{struck}
use Rattle.marks.proofs.undo.strike_literal.Goals as goal

pub returns : goal.returns
returns c u k = let xs = c.args.table.now in let t = c.args.t in let i = c.args.l in
    struck number_in no_literals xs t i c.remove-set.result c.requires
    (λ j. c.remove-set.ensures.members (lit j) ∙ ap (λ (n : ℕ). number_in (get_or xs t no_literals) j && not (eqb n i)) (code_lit j)) u k
