use Rattle.std.proofs.Common.{ℕ, ◌<◌, ◌≤◌, List, sym, ap, subst, inl, inr, arith}
use Rattle.std.proofs.lemmas.Result.{err_from_is_err_and}
use Rattle.sheet.specs.Entry.{Unknown, Stands}
use Rattle.sheet.specs.Records.{fact_name}
use Rattle.sheet.specs.Stated.{stated}
use Rattle.sheet.specs.Stating.{facts_count, facts_taken, more, with_facts}
use Rattle.sheet.proofs.problem.SheetProblem.add_fact.Goals as goal

pub returns-in_err-check_new : goal.returns-in_err-check_new
returns-in_err-check_new c =
    let w = c.in_err-check_new.ensures in
    let q = err_from_is_err_and c.from_residual.result c.from_residual.ensures.1 in
    rw (q.1, q.2)
    (inl (w.0, subst (λ (names : List (List ℕ)). Stands names c.args.name.bytes.now w.0) (facts_taken c.args.self.now) w.1, w.2))

pub returns-in_err-self : goal.returns-in_err-self
returns-in_err-self c =
    let p = c.args.self.now in
    let w = c.in_err-self.ensures in
    let q = err_from_is_err_and c.from_residual-in_err-self.result c.from_residual-in_err-self.ensures.1 in
    rw (q.1, q.2)
    (inr (
      subst (λ (names : List (List ℕ)). Unknown names c.args.name.bytes.now) (facts_taken p) c.in_ok-check_new.ensures,
      subst (λ (n : ℕ). 64 ≤ n) (sym (facts_count p)) w.0,
      w.2,
    ))

pub returns : goal.returns
returns c =
    let p = c.args.self.now in
    let a = c.in_ok-self.ensures in (
      subst (λ (names : List (List ℕ)). Unknown names c.args.name.bytes.now) (facts_taken p) c.in_ok-check_new.ensures,
      subst (λ (n : ℕ). n < 64) (sym (facts_count p)) a.0,
      ap (with_facts (stated p)) (more fact_name p.facts c.append.new.table p.named c.in_ok-self.field-0 _ _ (omega (arith, a.0, p.fact_room)) a.1 a.2 c.from.ensures),
    )
