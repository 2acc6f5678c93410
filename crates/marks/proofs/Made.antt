-- An index whose tables hold a problem's rows means the problem. Assumes nothing.
use Rattle.std.proofs.Common.{◌≡◌, ℕ, ◌<◌, ◌≤◌, true, List, length, get_or, sym, ap, ◌∙◌, subst, inl, inr, ⊎_elim, arith}
use Rattle.std.proofs.lemmas.Bool.{both_ways, cases_lt}
use Rattle.std.proofs.lemmas.List.{get_or_past}
use Rattle.sets.specs.Literals.{Literal, opposite, lit, code}
use Rattle.sets.specs.Sets.{step_in, lit_in, no_literals, no_steps}
use Rattle.sets.specs.declared.facts.LiteralSet.{LiteralSet}
use Rattle.sets.specs.declared.steps.StepSet.{StepSet}
use Rattle.sets.proofs.Literals.{lit_code, code_lit, opposite_opposite}
use Rattle.model.specs.declared.step.Step.{Step}
use Rattle.model.specs.declared.table.ProblemTable.{ProblemTable}
use Rattle.model.specs.Held.{problem_of}
use Rattle.model.specs.Problems.{Problem, closed_step, steps, step, Interfere, Needs, Makes}
use Rattle.model.proofs.Rows.{row_beyond}
use Rattle.marks.specs.Tables.{number_in, opp_lit, Transposed}
use Rattle.marks.specs.Building.{In, RivalsOf}
use Rattle.marks.specs.Meaning.{clauses_of}
use Rattle.marks.proofs.Empties.{no_step}
use Rattle.marks.proofs.Meaning.{lit_opp, code_opp, opp_back, needs_within, makes_within}

-- a table of which each set is a part of its step, beyond the count too
pub filled : (t : ProblemTable) (part : Step → LiteralSet) (sets : List LiteralSet) → length sets ≡ 256 → part closed_step ≡ no_literals
    → ((o : ℕ) → o < 256 → get_or sets o no_literals ≡ part (step (problem_of t) o)) → (o : ℕ) → get_or sets o no_literals ≡ part (step (problem_of t) o)
filled t part sets size none rows o = ⊎_elim (rows o)
    (λ h. get_or_past sets o no_literals (omega arith)
    ∙ sym (ap part (row_beyond t.steps t.count o closed_step (omega (arith, t.sized, t.few_steps)) (omega (arith, t.few_steps))) ∙ none))
    (cases_lt o 256)

-- the tables, one by one
module _ (needs makes : List LiteralSet) (rivals makers needers : List StepSet) (p : Problem) (few : steps p ≤ 256)
    (needs-rows : (o : ℕ) → get_or needs o no_literals ≡ (step p o).needs)
    (makes-rows : (o : ℕ) → get_or makes o no_literals ≡ (step p o).makes)
    (makers-turned : Transposed makes makers)
    (needers-turned : Transposed needs needers)
    (rivals-rows : (o : ℕ) → o < 256 → RivalsOf makers needers (get_or needs o no_literals) (get_or makes o no_literals) o (get_or rivals o no_steps))
    (size : length rivals ≡ 256) where
  pub needs_are : (o l : ℕ) → number_in (get_or needs o no_literals) l ≡ number_in (step p o).needs l
  needs_are o l = ap (λ (s : LiteralSet). number_in s l) (needs-rows o)

  pub makes_are : (o l : ℕ) → number_in (get_or makes o no_literals) l ≡ number_in (step p o).makes l
  makes_are o l = ap (λ (s : LiteralSet). number_in s l) (makes-rows o)

  makers_are : (l o : ℕ) → step_in (get_or makers l no_steps) o ≡ number_in (step p o).makes l
  makers_are l o = sym (makers-turned o l) ∙ makes_are o l

  pub needers_are : (l o : ℕ) → step_in (get_or needers l no_steps) o ≡ number_in (step p o).needs l
  needers_are l o = sym (needers-turned o l) ∙ needs_are o l

  pub rival_interferes : (o i : ℕ) → step_in (get_or rivals o no_steps) i ≡ true → (i < steps p) × Interfere p o i
  rival_interferes o i h = ⊎_elim
      (λ small. let r = rivals-rows o small in ⊎_elim
      (λ w. let l = w.0 in
      let m : Makes p o (opposite (lit (opp_lit l))) = subst (Makes p o) (sym (opp_back l)) (sym (makes_are o l) ∙ w.1) in
      ⊎_elim
      (λ k. let n = sym (makers_are (opp_lit l) i) ∙ k in (makes_within p i (lit (opp_lit l)) n, ((λ e. r.other i h (sym e)), inl (lit (opp_lit l), m, inr n))))
      (λ k. let n = sym (needers_are (opp_lit l) i) ∙ k in (needs_within p i (lit (opp_lit l)) n, ((λ e. r.other i h (sym e)), inl (lit (opp_lit l), m, inl n))))
      w.2)
      (λ w. let l = w.0 in let n = sym (makers_are (opp_lit l) i) ∙ w.2 in
      (makes_within p i (lit (opp_lit l)) n, ((λ e. r.other i h (sym e)), inr (lit l, subst (Makes p i) (lit_opp l) n, inl (sym (needs_are o l) ∙ w.1)))))
      (r.why i h))
      (λ big. absurd (both_ways (step_in (get_or rivals o no_steps) i) (ap (λ (s : StepSet). step_in s i) (get_or_past rivals o no_steps (omega arith)) ∙ no_step i) h))
      (cases_lt o 256)

  at_makes : (o : ℕ) (l : Literal) → Makes p o l → number_in (get_or makes o no_literals) (code l) ≡ true
  at_makes o l h = makes_are o (code l) ∙ ap (lit_in (step p o).makes) (lit_code l) ∙ h

  at_needs : (o : ℕ) (l : Literal) → Needs p o l → number_in (get_or needs o no_literals) (code l) ≡ true
  at_needs o l h = needs_are o (code l) ∙ ap (lit_in (step p o).needs) (lit_code l) ∙ h

  -- by the opposite of a literal's number
  at_makers : (o : ℕ) (l : Literal) → Makes p o (opposite l) → In makers (opp_lit (code l)) o
  at_makers o l h = subst (λ (k : ℕ). In makers k o) (code_opp l) (makers_are (code (opposite l)) o ∙ ap (lit_in (step p o).makes) (lit_code (opposite l)) ∙ h)

  at_needers : (o : ℕ) (l : Literal) → Needs p o (opposite l) → In needers (opp_lit (code l)) o
  at_needers o l h = subst (λ (k : ℕ). In needers k o) (code_opp l) (needers_are (code (opposite l)) o ∙ ap (lit_in (step p o).needs) (lit_code (opposite l)) ∙ h)

  back_needs : (o : ℕ) (l : Literal) → Needs p o l → Needs p o (opposite (opposite l))
  back_needs o l h = subst (Needs p o) (sym (opposite_opposite l)) h

  back_makes : (o : ℕ) (l : Literal) → Makes p o l → Makes p o (opposite (opposite l))
  back_makes o l h = subst (Makes p o) (sym (opposite_opposite l)) h

  pub interferes_rival : (o i : ℕ) → i < steps p → Interfere p o i → step_in (get_or rivals o no_steps) i ≡ true
  interferes_rival o i r (d, u) = ⊎_elim
      (λ w. let l = opposite w.0 in let a = rivals-rows o (omega (arith, makes_within p o l w.1)) in
      ⊎_elim (λ n. a.made_needed i (code l) (λ e. d (sym e)) (at_makes o l w.1) (at_needers i l (back_needs i w.0 n)))
      (λ n. a.made_made i (code l) (λ e. d (sym e)) (at_makes o l w.1) (at_makers i l (back_makes i w.0 n))) w.2)
      (λ w. let l = w.0 in
      ⊎_elim (λ n. (rivals-rows o (omega (arith, needs_within p o l n))).needed_made i (code l) (λ e. d (sym e)) (at_needs o l n) (at_makers i l w.1))
      (λ n. (rivals-rows o (omega (arith, makes_within p o l n))).made_made i (code l) (λ e. d (sym e)) (at_makes o l n) (at_makers i l w.1)) w.2)
      u

-- the clauses by a literal's number
pub clauses_are : (kept : List LiteralSet) (a b : ℕ) → number_in (get_or kept a no_literals) b ≡ clauses_of kept (lit a) (lit b)
clauses_are kept a b = ap (λ (k : ℕ). number_in (get_or kept k no_literals) b) (sym (code_lit a))
