-- A problem of numbered rows is within the limits when a test that can be computed says so.
use Rattle.std.specs.Prelude.{◌≡◌, ℕ, zero, suc, ◌^◌, ◌<◌, ◌≤◌, Bool, true, ◌&&◌, ◌==◌, ◌≢◌, bit_and, nat_le, nat_lt}
use Rattle.std.proofs.Common.{sym, ap, subst, ◌∙◌, ⊎_elim, arith}
use Rattle.std.proofs.lemmas.Bool.{ltb-true, leb-true, eqb-true, and_parts, and_from, true≢false, cases_eq, cases_lt}
use Rattle.sets.specs.Has.{has}
use Rattle.sets.specs.Literals.{Literal, pos, neg, fact}
use Rattle.sets.specs.Sets.{fact_in, lit_in, no_literals}
use Rattle.sets.specs.declared.facts.FactSet.{FactSet}
use Rattle.sets.specs.declared.facts.LiteralSet.{LiteralSet}
use Rattle.sets.proofs.Bits.{has_and, has_zero, has_inside}
use Rattle.model.specs.declared.step.Step.{Step}
use Rattle.model.specs.Problems.{Problem, WellFormed, step, closed_step, Consistent, ◌∈◌}
use Rattle.sources.specs.Listed.{tabulate}
use Rattle.sources.specs.Tables.{length_tabulate, tabulate_within, tabulate_past}

-- a set of literals of the facts below n, none beside its opposite
record Fine (n : ℕ) (s : LiteralSet) : Type 0 where
  pub in_range : (l : Literal) → l ∈ s → fact l < n
  pub agrees : Consistent s

-- the test of that
abbrev fine? : ℕ → LiteralSet → Bool
fine? n s = nat_lt s.truths.bits (2 ^ n) && (nat_lt s.falsities.bits (2 ^ n) && bit_and s.truths.bits s.falsities.bits == 0)

apart : (s : LiteralSet) → bit_and s.truths.bits s.falsities.bits ≡ 0 → (f : ℕ) → lit_in s (pos f) ≡ true → lit_in s (neg f) ≢ true
unfolding lit_in fact_in
apart s e f t u = true≢false (sym (and_from _ _ t u) ∙ sym (has_and s.truths.bits s.falsities.bits f) ∙ ap (λ (x : ℕ). has x f) e ∙ has_zero f)

within : (n : ℕ) (s : LiteralSet) → s.truths.bits < 2 ^ n → s.falsities.bits < 2 ^ n → (l : Literal) → l ∈ s → fact l < n
unfolding lit_in fact_in
within n s a b (pos f) h = has_inside s.truths.bits n f a h
within n s a b (neg f) h = has_inside s.falsities.bits n f b h

agree : (s : LiteralSet) → bit_and s.truths.bits s.falsities.bits ≡ 0 → Consistent s
agree s e (pos f) h k = apart s e f h k
agree s e (neg f) h k = apart s e f k h

fine_from : (n : ℕ) (s : LiteralSet) → fine? n s ≡ true → Fine n s
fine_from n s e =
    let a = and_parts _ _ e in
    let b = and_parts _ _ a.1 in
    record { in_range = within n s (ltb-true _ _ a.0) (ltb-true _ _ b.0); agrees = agree s (eqb-true _ _ b.1) }

none_in : (l : Literal) → l ∈ no_literals → ⊥
unfolding lit_in fact_in
none_in (pos f) h = true≢false (sym h ∙ has_zero f)
none_in (neg f) h = true≢false (sym h ∙ has_zero f)

fine_none : (n : ℕ) → Fine n no_literals
fine_none n = record { in_range = λ l h. absurd (none_in l h); agrees = λ l h k. none_in l h }

-- the rows below a count
abbrev rows? : ℕ → (ℕ → Step) → ℕ → Bool
rows? facts row zero = true
rows? facts row (suc n) = (fine? facts (row n).needs && fine? facts (row n).makes) && rows? facts row n

rows_from : (facts : ℕ) (row : ℕ → Step) (n : ℕ) → rows? facts row n ≡ true → (o : ℕ) → o < n → Fine facts (row o).needs × Fine facts (row o).makes
rows_from facts row zero e o l = absurd (omega arith)
rows_from facts row (suc n) e o l =
    let a = and_parts _ _ e in
    let b = and_parts _ _ a.0 in
    ⊎_elim
    (λ q. subst (λ (j : ℕ). Fine facts (row j).needs × Fine facts (row j).makes) (sym q) (fine_from _ _ b.0, fine_from _ _ b.1))
    (λ q. rows_from facts row n a.1 o (omega arith))
    (cases_eq o n)

-- whether a problem of these facts, rows, start and goal is within the limits
abbrev pub well? : ℕ → ℕ → (ℕ → Step) → FactSet → LiteralSet → Bool
well? facts n row start goal =
    nat_le 1 facts && (nat_le facts 64 && (nat_le n 256 && (nat_lt start.bits (2 ^ facts) && (fine? facts goal && rows? facts row n))))

start_within : (n : ℕ) (s : FactSet) → s.bits < 2 ^ n → (f : ℕ) → fact_in s f ≡ true → f < n
unfolding fact_in
start_within n s a f h = has_inside s.bits n f a h

-- the problem of those parts
abbrev told : ℕ → ℕ → (ℕ → Step) → FactSet → LiteralSet → Problem
told facts n row start goal = record { facts = facts; rows = tabulate n row; start = start; goal = goal }

pub well_from : (facts n : ℕ) (row : ℕ → Step) (start : FactSet) (goal : LiteralSet) → well? facts n row start goal ≡ true → WellFormed (told facts n row start goal)
well_from facts n row start goal e =
    let a = and_parts _ _ e in
    let b = and_parts _ _ a.1 in
    let c = and_parts _ _ b.1 in
    let d = and_parts _ _ c.1 in
    let f = and_parts _ _ d.1 in
    let g = fine_from facts goal f.0 in
    record {
      some_fact = leb-true _ _ a.0;
      few_facts = leb-true _ _ b.0;
      few_steps = subst (λ (m : ℕ). m ≤ 256) (sym (length_tabulate n row)) (leb-true _ _ c.0);
      start_in_range = start_within facts start (ltb-true _ _ d.0);
      needs_in_range = λ o. (each f.1 o).0.in_range;
      makes_in_range = λ o. (each f.1 o).1.in_range;
      goal_in_range = g.in_range;
      needs_agree = λ o. (each f.1 o).0.agrees;
      makes_agree = λ o. (each f.1 o).1.agrees;
      goal_agrees = g.agrees;
    }
  where
    each : rows? facts row n ≡ true → (o : ℕ) → Fine facts (step (told facts n row start goal) o).needs × Fine facts (step (told facts n row start goal) o).makes
    each h o =
        ⊎_elim
        (λ l. subst (λ (s : Step). Fine facts s.needs × Fine facts s.makes) (sym (tabulate_within n row o closed_step l)) (rows_from facts row n h o l))
        (λ l. subst (λ (s : Step). Fine facts s.needs × Fine facts s.makes) (sym (tabulate_past n row o closed_step l)) (fine_none facts, fine_none facts))
        (cases_lt o n)
