use Rattle.std.proofs.Common.{◌≡◌, true, false, Some, refl, ap, subst}
use Rattle.std.proofs.lemmas.Result.{err_from_is_err_and}
use Rattle.sheet.specs.Kind.{allowed}
use Rattle.sheet.specs.Statement.{meant}
use Rattle.sheet.specs.Sheet.{not_a_line, not_here, not_so}
use Rattle.sheet.specs.declared.kind.LineKind.{LineKind}
use Rattle.sheet.proofs.Lines.{next_line}
use Rattle.sheet.proofs.cut.Reader.one_line.Goals as goal

pub returns-in_err-stated : goal.returns-in_err-stated
returns-in_err-stated c =
    let p = err_from_is_err_and c.from_residual.result c.from_residual.ensures.1 in
    rw (p.1, p.2) (not_a_line _ c.in_err-stated.ensures)

pub returns-in_err-check_order : goal.returns-in_err-check_order
returns-in_err-check_order c =
    let w = c.in_ok-stated.ensures in
    let o = c.in_err-check_order.ensures in
    let p = err_from_is_err_and c.from_residual-in_err-check_order.result c.from_residual-in_err-check_order.ensures.1 in
    rw (p.1, p.2)
    (not_here (meant c.in_ok-stated.stated) c.in_ok-stated.after.now _ (next_line c.args.self.now.rest.now w.0 _ _ w.1 w.2 w.3)
    (subst (λ (k : LineKind). allowed c.args.self.now.previous k ≡ false) c.kind-kind.ensures o.0) o.1)

pub returns-in_err-add_line : goal.returns-in_err-add_line
returns-in_err-add_line c =
    let w = c.in_ok-stated.ensures in
    let p = err_from_is_err_and c.from_residual-in_err-add_line.result c.from_residual-in_err-add_line.ensures.1 in
    rw (p.1, p.2)
    (not_so (meant c.in_ok-stated.stated) c.in_ok-stated.after.now _ (next_line c.args.self.now.rest.now w.0 _ _ w.1 w.2 w.3)
    (subst (λ (k : LineKind). allowed c.args.self.now.previous k ≡ true) c.kind-kind.ensures c.in_ok-check_order.ensures) c.in_err-add_line.ensures)

pub returns : goal.returns
returns c =
    let w = c.in_ok-stated.ensures in (
      meant c.in_ok-stated.stated,
      next_line c.args.self.now.rest.now w.0 _ _ w.1 w.2 w.3,
      ap Some c.kind-kind.ensures,
      refl,
      subst (λ (k : LineKind). allowed c.args.self.now.previous k ≡ true) c.kind-kind.ensures c.in_ok-check_order.ensures,
      c.in_ok-add_line.ensures,
    )
