-- Need and make lines stand below a step.
use Rattle.std.proofs.Common.{◌≡◌, ℕ, ◌-◌, ◌<◌, true, length, Some, None, Option, sym, refl, ap, ◌∙◌, subst, arith, length-set}
use Rattle.std.proofs.lemmas.List.{length_push}
use Rattle.sheet.specs.Job.{Job, Adds}
use Rattle.sheet.specs.Kind.{allowed, in_step, after_step}
use Rattle.sheet.specs.Statement.{Statement, version, length as length_line, fact, holds, wanted, step, need, make, kind_stated}
use Rattle.sheet.specs.Stated.{stated}
use Rattle.sheet.specs.declared.kind.LineKind.{LineKind}
use Rattle.sheet.specs.declared.kind.LineKind.TheVariants.{Version, Length, Fact, True, Wanted, Step, Need, Make}
use Rattle.sheet.specs.declared.problem.SheetProblem.{SheetProblem}
use Rattle.sheet.specs.Stating.{steps_count, bare}

-- a need or a make may follow only a line of a step
pub below_step : (p : Option LineKind) (k : LineKind) → allowed p k ≡ true → in_step k ≡ true → after_step p ≡ true
below_step p Version a s = cc
below_step p Length a s = cc
below_step p Fact a s = cc
below_step p True a s = cc
below_step p Wanted a s = cc
below_step p Step a s = cc
below_step None Need a s = cc
below_step (Some Version) Need a s = cc
below_step (Some Length) Need a s = cc
below_step (Some Fact) Need a s = cc
below_step (Some True) Need a s = cc
below_step (Some Wanted) Need a s = cc
below_step (Some Step) Need a s = refl
below_step (Some Need) Need a s = refl
below_step (Some Make) Need a s = refl
below_step None Make a s = cc
below_step (Some Version) Make a s = cc
below_step (Some Length) Make a s = cc
below_step (Some Fact) Make a s = cc
below_step (Some True) Make a s = cc
below_step (Some Wanted) Make a s = cc
below_step (Some Step) Make a s = refl
below_step (Some Need) Make a s = refl
below_step (Some Make) Make a s = refl

-- one line on, a line of a step still has its step
begun : (j k : Job) (t : Statement) → Adds j t k → (in_step (kind_stated t) ≡ true → 0 < length j.steps) → after_step (Some (kind_stated t)) ≡ true → 0 < length k.steps
begun j k (version n) a h s = absurd cc
begun j k (length_line n) a h s = absurd cc
begun j k (fact name) a h s = absurd cc
begun j k (holds name) a h s = absurd cc
begun j k (wanted b name) a h s = absurd cc
begun j k (step name) a h s = omega (arith, ap (λ (i : Job). length i.steps) a.2, length_push j.steps (bare name))
begun j k (need b name) a h s =
    let e : length k.steps ≡ length j.steps = ap (λ (i : Job). length i.steps) a.3 ∙ length-set j.steps (length j.steps - 1) _ in
    omega (arith, h refl)
begun j k (make b name) a h s =
    let e : length k.steps ≡ length j.steps = ap (λ (i : Job). length i.steps) a.3 ∙ length-set j.steps (length j.steps - 1) _ in
    omega (arith, h refl)

pub still_begun : (p q : SheetProblem) (t : Statement) → Adds (stated p) t (stated q) → (in_step (kind_stated t) ≡ true → 0 < p.count) → after_step (Some (kind_stated t)) ≡ true → 0 < q.count
still_begun p q t a h s = subst (λ (n : ℕ). 0 < n) (steps_count q) (begun (stated p) (stated q) t a (λ i. subst (λ (n : ℕ). 0 < n) (sym (steps_count p)) (h i)) s)
