use Rattle.std.proofs.Common.{◌≡◌, true, false, ap, ◌∙◌, rules}
use Rattle.sets.specs.Sets.{lit_in}
use Rattle.sheet.proofs.Joining.{or_left, or_right, lit_true, lit_false}
use Rattle.sheet.proofs.signed.SignedFact.stands_in.Goals as goal

pub returns-then-contains : goal.returns-then-contains
returns-then-contains c =
    let t : c.contains.result ≡ true = search rules in
    or_left _ _ _ (c.contains.ensures ∙ ap (lit_in c.args.list) (lit_true c.args.self.fact)) t

pub returns-else-contains : goal.returns-else-contains
returns-else-contains c =
    let t : c.contains.result ≡ false = search rules in
    or_right c.contains.result _ _ _ (c.contains.ensures ∙ ap (lit_in c.args.list) (lit_true c.args.self.fact)) t
    (c.contains-else-contains.ensures ∙ ap (lit_in c.args.list) (lit_false c.args.self.fact))
