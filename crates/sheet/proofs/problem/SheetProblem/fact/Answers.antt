use Rattle.std.proofs.Common.{ℕ, List, subst}
use Rattle.sheet.specs.Entry.{First}
use Rattle.sheet.specs.Stated.{stated}
use Rattle.sheet.specs.Stating.{facts_taken, found_or}
use Rattle.sheet.proofs.problem.SheetProblem.fact.Goals as goal

pub returns : goal.returns
returns c =
    found_or (stated c.args.self.now).facts c.args.name.now c.first_match.result _ c.ok_or.result c.ok_or.ensures.value
    (subst (λ (names : List (List ℕ)). First names c.args.name.now c.first_match.result) (facts_taken c.args.self.now) c.first_match.ensures)
