use Rattle.std.proofs.Common.{◌≡◌, true, false, Option, refl, subst, inl, inr, arith}
use Rattle.std.proofs.lemmas.Result.{err_from_is_err_and}
use Rattle.std.proofs.lemmas.Bool.{both_ways}
use Rattle.sheet.specs.Kind.{after_step}
use Rattle.sheet.specs.Statement.{kind_stated}
use Rattle.sheet.specs.Stated.{stated}
use Rattle.sheet.specs.declared.kind.LineKind.{LineKind}
use Rattle.sheet.proofs.Lines.{at_first, one_more, shorter, broken, finished, some_left, none_left}
use Rattle.sheet.proofs.Reading.{below_step, still_begun}
use Rattle.sheet.proofs.reader.read_lines.Goals as goal

pub loop-init : goal.loop-init
loop-init c =
    let w = c.requires.front in (
      at_first c.args.front.rest.now _ _ _ _ refl w.0 w.1 c.requires.fresh,
      inr w.0,
      λ s. absurd (both_ways false refl (subst (λ (k : Option LineKind). after_step k ≡ true) w.1 s)),
    )

pub loop-preserved : goal.loop-preserved
loop-preserved c =
    let w = c.in_ok-one_line.ensures in
    let r = c.loop.reader in
    let q = c.one_line.new.self in (
      one_more c.args.front.rest.now r.rest.now q.rest.now r.previous q.previous r.line q.line (stated c.loop.problem) (stated c.one_line.new.problem) w.0 c.loop.invariant.0 w.1 w.2 w.3 w.4 w.5,
      inl (some_left q.rest.now c.if-is_empty.ensures),
      λ s. still_begun c.loop.problem c.one_line.new.problem w.0 w.5 (λ i. c.loop.invariant.2 (below_step r.previous (kind_stated w.0) w.4 i))
          (subst (λ (k : Option LineKind). after_step k ≡ true) w.2 s),
    )

pub loop-smaller : goal.loop-smaller
loop-smaller c = let w = c.in_ok-one_line.ensures in shorter c.loop.reader.rest.now w.0 c.one_line.new.self.rest.now w.1

pub returns-in_err-one_line : goal.returns-in_err-one_line
returns-in_err-one_line c =
    let p = err_from_is_err_and c.from_residual.result c.from_residual.ensures.1 in
    let r = c.loop.reader in
    rw (p.1, p.2)
    (inr (omega (arith, c.args.front.room, c.requires.front.0), inl (broken c.args.front.rest.now r.rest.now r.previous r.line (stated c.loop.problem) _ c.loop.invariant.0 c.loop.invariant.1 c.in_err-one_line.ensures)))

pub returns : goal.returns
returns c =
    let w = c.in_ok-one_line.ensures in
    let r = c.loop.reader in
    let q = c.one_line.new.self in
    finished c.args.front.rest.now q.rest.now q.previous q.line (stated c.one_line.new.problem) c.check_end.result (omega (arith, c.args.front.room, c.requires.front.0)) (omega (arith, c.loop.invariant.0.count, w.3))
    (one_more c.args.front.rest.now r.rest.now q.rest.now r.previous q.previous r.line q.line (stated c.loop.problem) (stated c.one_line.new.problem) w.0 c.loop.invariant.0 w.1 w.2 w.3 w.4 w.5)
    (none_left q.rest.now c.if-is_empty.ensures) c.check_end.ensures
