use Rattle.std.proofs.Common.{◌≡◌, ap, ◌∙◌, rules}
use Rattle.sets.specs.Literals.{Literal, code, lit}
use Rattle.sets.specs.Sets.{lit_in, no_literals}
use Rattle.sets.proofs.Literals.{lit_code}
use Rattle.model.specs.Held.{problem_of}
use Rattle.model.proofs.Made.{made_at}
use Rattle.clauses.specs.Pairs.{rel}
use Rattle.clauses.proofs.Laws.{paired, good_start}
use Rattle.clauses.proofs.pairs.Pairs.at_start.Goals as goal

pub returns : goal.returns
unfolding rel
returns c =
    let all = c.every_literal-all.result in
    let first = c.start_literals-first.result in
    good_start (problem_of c.args.problem.now) c.args.problem.now.few_facts all first c.every_literal-all.ensures c.start_literals-first.ensures
    (record { rows = c.from_fn.result; sized = c.from_fn.ensures.items.long })
    -- a call needs nothing of c, in which a search would read each of the 128 rows
    (λ k x l. made_at _ (λ i row. lit_in row x ≡ paired all first (lit i) x) _ (λ i y c k. search rules) c.from_fn.result 128 c.from_fn.ensures.items (code k) no_literals l
    ∙ ap (λ (y : Literal). paired all first y x) (lit_code k))
