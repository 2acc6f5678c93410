use Rattle.std.proofs.Common.{ℕ, Bool, ◌&&◌, ◌||◌, eqb, get_or, ◌∙◌, ap₂}
use Rattle.std.proofs.lemmas.Bool.{lt-ltb}
use Rattle.sets.specs.Literals.{lit}
use Rattle.sets.specs.Sets.{no_literals}
use Rattle.sets.proofs.Literals.{code_lit}
use Rattle.marks.specs.Tables.{number_in}
use Rattle.marks.proofs.Changes.{entered}
use Rattle.marks.proofs.put.enter_literal.Goals as goal

pub returns : goal.returns
returns c u k = let xs = c.args.table.now in let t = c.args.t in let i = c.args.l in
    entered number_in no_literals xs t i c.insert-set.result c.requires.0
    (λ j. c.insert-set.ensures.members (lit j)
    ∙ ap₂ (λ (b : Bool) (n : ℕ). number_in (get_or xs t no_literals) j || (b && eqb n i)) (lt-ltb i 128 c.requires.1) (code_lit j)) u k
