use Rattle.std.proofs.Common.{◌≡◌, ◌+◌, ◌-◌, ◌*◌, get_or, take, sym, ap, ◌∙◌, subst, arith, rules, below_more}
use Rattle.std.specs.Int.{IsInRange}
use Rattle.std.specs.Char.{digit_value}
use Rattle.std.specs.Str.Parse.{digits_value}
use Rattle.std.proofs.lemmas.Int.Digits.{digits_value_more}
use Rattle.std.proofs.lemmas.Bool.Decides.{nat_tests}
use Rattle.board.proofs.Cutting.{Stands, next_digit}
use Rattle.board.proofs.field.number.Goals as goal

pub loop-b-preserved : goal.loop-b-preserved
loop-b-preserved c =
    let d : IsInRange 48 57 (get_or c.args.s.now c.loop-b.b-index 0) = search rules in
    let dv : digit_value (get_or c.args.s.now c.loop-b.b-index 0) ≡ get_or c.args.s.now c.loop-b.b-index 0 - 48 = grind (arith, nat_tests) in
    let v = digits_value_more 10 c.args.s.now c.loop-b.b-index (omega arith) ∙ ap (λ x. digits_value 10 (take c.loop-b.b-index c.args.s.now) * 10 + x) dv in
    (below_more _ _ c.loop-b.invariant.0 d, subst (λ k. Stands k c.further-n.result) (sym v) (next_digit _ _ _ _ c.loop-b.invariant.1 c.further-n.ensures.small c.further-n.ensures.large))
