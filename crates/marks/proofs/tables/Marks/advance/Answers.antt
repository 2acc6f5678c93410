use Rattle.std.proofs.Common.{◌≡◌, ℕ, ◌+◌, true, sym, refl, ◌∙◌, subst}
use Rattle.marks.specs.Grows.{Has}
use Rattle.marks.proofs.Trail.{at_in_trail}
use Rattle.marks.specs.Tables.{mark_at, in_trail}
use Rattle.marks.specs.Rules.{Rules}
use Rattle.marks.proofs.Closure.{settled_more}
use Rattle.marks.proofs.tables.Marks.advance.Goals as goal

pub process-requires-clause-there : goal.process-requires-clause-there
process-requires-clause-there c = let a = c.args.self.now in a.listed (mark_at a.trail a.head) ∙ at_in_trail a.trail a.len a.head c.requires

pub returns-clause-settled : goal.returns-clause-settled
returns-clause-settled c st =
    let ix = c.args.ix.now in let a = c.args.self.now in let b = c.process.new.self in let g = c.process.ensures.worked.grows in
    subst (λ (T : ℕ). Rules ix T (λ y. in_trail b.trail (a.head + 1) y ≡ true) (Has b)) (sym g.same_length)
    (settled_more ix a b (mark_at a.trail a.head) refl c.requires g st c.process.ensures.covers)
