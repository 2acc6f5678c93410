-- What follows from the makers that are not left out. Assumes nothing.
use Rattle.std.proofs.Common.{◌≡◌, ℕ, ◌+◌, true, false, not, ◌&&◌, ◌⊎◌, get_or, sym, refl, ◌∙◌, inl, inr, ⊎_elim}
use Rattle.std.proofs.lemmas.Bool.{false_from_ne_true, cases_Bool, cases_eq, and_parts, and_from, and_cases, both_ways, not-true, not-false, not_from_false}
use Rattle.sets.specs.Sets.{step_in, OnlyStep, no_steps}
use Rattle.sets.specs.declared.steps.StepSet.{StepSet}
use Rattle.marks.specs.declared.mark.Mark.{Mark}
use Rattle.marks.specs.declared.mark.Mark.TheVariants.{Fact, Taken, LeftOut}
use Rattle.marks.specs.declared.tables.Marks.{Marks}
use Rattle.marks.specs.declared.index.Index.{Index}
use Rattle.marks.specs.Tables.{opp_lit}
use Rattle.marks.specs.Grows.{on}
use Rattle.marks.specs.Rules.{Maker, On, NoMaker, NoMakerBut, Concluded}
use Rattle.marks.specs.Rules.{Concluded.stays_false, Concluded.was_true, Concluded.only_maker}

module _ (ix : Index) (m : Marks) (t l : ℕ) (rest : StepSet)
    (is : (i : ℕ) → step_in rest i ≡ (step_in (get_or ix.makers l no_steps) i && not (step_in (get_or m.marked.cells.left t no_steps) i))) where
  in_rest : (o : ℕ) → Maker ix l o → (On m (LeftOut t o) → ⊥) → step_in rest o ≡ true
  in_rest o k h = is o ∙ and_from _ _ k (not_from_false _ (false_from_ne_true _ h))

  of_rest : (o : ℕ) → step_in rest o ≡ true → Maker ix l o × (On m (LeftOut t o) → ⊥)
  of_rest o h = let a = and_parts (step_in (get_or ix.makers l no_steps) o) (not (step_in (get_or m.marked.cells.left t no_steps) o)) (sym (is o) ∙ h) in
      (a.0, λ e. both_ways _ (not-true _ a.1) e)

  out_of_rest : (o : ℕ) → Maker ix l o → step_in rest o ≡ false → On m (LeftOut t o)
  out_of_rest o k h = ⊎_elim (λ e. absurd (both_ways _ e k)) (λ e. not-false _ e) (and_cases _ _ (sym (is o) ∙ h))

  pub none_left : ((i : ℕ) → step_in rest i ≡ false) → NoMaker ix (On m) t l
  none_left h o k = out_of_rest o k (h o)

  but_left : (o : ℕ) → OnlyStep rest o → NoMakerBut ix (On m) o t l
  but_left o h i d k = ⊎_elim (λ e. absurd (d (h.1 i e))) (λ e. out_of_rest i k e) (cases_Bool (step_in rest i))

  pub only_left : (o : ℕ) → OnlyStep rest o → On m (Fact t (opp_lit l)) → On m (Fact (t + 1) l) → Concluded ix (On m) t l (Taken t o)
  only_left o h f g = only_maker o (of_rest o h.0).0 (of_rest o h.0).1 (but_left o h) f g

  pub where_none : ((i : ℕ) → step_in rest i ≡ false) → (y : Mark) → Concluded ix (On m) t l y
      → (On m (Fact t (opp_lit l)) × (y ≡ Fact (t + 1) (opp_lit l))) ⊎ (On m (Fact (t + 1) l) × (y ≡ Fact t l))
  where_none h y (stays_false n f) = inl (f, refl)
  where_none h y (was_true n f) = inr (f, refl)
  where_none h y (only_maker o k d n f g) = absurd (both_ways _ (h o) (in_rest o k d))

  pub where_some : (i : ℕ) → step_in rest i ≡ true → (y : Mark) → Concluded ix (On m) t l y
      → (o : ℕ) × OnlyStep rest o × On m (Fact t (opp_lit l)) × On m (Fact (t + 1) l) × (y ≡ Taken t o)
  where_some i h y (stays_false n f) = absurd ((of_rest i h).1 (n i (of_rest i h).0))
  where_some i h y (was_true n f) = absurd ((of_rest i h).1 (n i (of_rest i h).0))
  where_some i h y (only_maker o k d n f g) =
      (o, (in_rest o k d, λ j e. ⊎_elim (λ q. q) (λ q. absurd ((of_rest j e).1 (n j q (of_rest j e).0))) (cases_eq j o)), f, g, refl)

-- nothing follows where the literal is neither false before nor true after
pub nothing : (ix : Index) (m : Marks) (t l : ℕ) → on m (Fact t (opp_lit l)) ≡ false → on m (Fact (t + 1) l) ≡ false → (y : Mark) → Concluded ix (On m) t l y → ⊥
nothing ix m t l f g y (stays_false n h) = both_ways _ f h
nothing ix m t l f g y (was_true n h) = both_ways _ g h
nothing ix m t l f g y (only_maker o k d n h j) = both_ways _ f h
