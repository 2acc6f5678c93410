-- The sets by which a step is looked at mean what the step's words say.
use Rattle.std.proofs.Common.{◌≡◌, ℕ, true, false, not, ◌&&◌, ◌||◌, sym, ap, ◌∙◌, inl, inr, ⊎_elim}
use Rattle.std.proofs.lemmas.Bool.{or_cases, or_left, or_right}
use Rattle.sets.specs.Literals.{Literal, opposite}
use Rattle.sets.specs.Sets.{lit_in}
use Rattle.sets.specs.declared.facts.LiteralSet.{LiteralSet}
use Rattle.sets.proofs.Literals.{opposite_opposite}
use Rattle.model.specs.Problems.{Problem, Needs, step}
use Rattle.model.specs.Clauses.{Clauses, Clause, Barred, Known, SpoilsBy}
use Rattle.clauses.specs.Pairs.{Linked}
use Rattle.clauses.proofs.Strikes.{unsafe_spoils, spoils_unsafe}

-- against: the needs' opposites; linked: what shares a clause with one of them
module _ (p : Problem) (o : ℕ) (W : Clauses) (against linked : LiteralSet)
    (in-against : (l : Literal) → lit_in against l ≡ lit_in (step p o).needs (opposite l))
    (some : (l : Literal) → lit_in linked l ≡ true → Linked W against l)
    (all : (k l : Literal) → lit_in against k ≡ true → Clause W k l → lit_in linked l ≡ true) where
  need_against : (l : Literal) → Needs p o l → lit_in against (opposite l) ≡ true
  need_against l h = in-against (opposite l) ∙ ap (lit_in (step p o).needs) (opposite_opposite l) ∙ h

  pub meets_barred : (l : Literal) → lit_in linked l ≡ true → lit_in against l ≡ true → Barred p W o
  meets_barred l h g =
      let q = some l h in (
        opposite q.0,
        opposite l,
        sym (in-against q.0) ∙ q.1,
        sym (in-against l) ∙ g,
        ap (λ (x : Literal). W x (opposite (opposite l))) (opposite_opposite q.0) ∙ ap (W q.0) (opposite_opposite l) ∙ q.2,
      )

  pub barred_meets : ((l : Literal) → lit_in linked l ≡ true → lit_in against l ≡ true → ⊥) → Barred p W o → ⊥
  barred_meets n b = n (opposite b.1) (all (opposite b.0) (opposite b.1) (need_against b.0 b.2) b.4) (need_against b.1 b.3)

  -- known: the literals known where the needs hold; undone: the makes' opposites; safe: what the step makes, or leaves known
  module _ (known undone safe : LiteralSet)
      (in-known : (l : Literal) → lit_in known l ≡ ((W l l || lit_in (step p o).needs l) || lit_in linked l))
      (in-undone : (l : Literal) → lit_in undone l ≡ lit_in (step p o).makes (opposite l))
      (in-safe : (l : Literal) → lit_in safe l ≡ (lit_in (step p o).makes l || (lit_in known l && not (lit_in undone l)))) where
    known_is : (l : Literal) → lit_in known l ≡ true → Known p W o l
    known_is l h = ⊎_elim (λ q. ⊎_elim inl (λ n. inr (inl n)) (or_cases _ _ q))
        (λ q. let s = some l q in
        inr (inr (opposite s.0, sym (in-against s.0) ∙ s.1, ap (λ (x : Literal). W x l) (opposite_opposite s.0) ∙ s.2)))
        (or_cases _ _ (sym (in-known l) ∙ h))

    is_known : (l : Literal) → Known p W o l → lit_in known l ≡ true
    is_known l (inl h) = in-known l ∙ or_left _ _ (or_left _ _ h)
    is_known l (inr (inl h)) = in-known l ∙ or_left _ _ (or_right _ _ h)
    is_known l (inr (inr q)) = in-known l ∙ or_right _ _ (all (opposite q.0) l (need_against q.0 q.1) q.2)

    pub unsafe_spoilt : (k x : Literal) → lit_in undone k ≡ true → lit_in safe x ≡ false → SpoilsBy p W o k x
    unsafe_spoilt k x h g =
        let q = unsafe_spoils (lit_in (step p o).makes x) (lit_in known x) (lit_in undone x) (lit_in safe x) (in-safe x) g in
        (sym (in-undone k) ∙ h, q.0, ⊎_elim (λ n. inl (λ i. n (is_known x i))) (λ e. inr (sym (in-undone x) ∙ e)) q.1)

    pub spoilt_undone : (k x : Literal) → SpoilsBy p W o k x → lit_in undone k ≡ true
    spoilt_undone k x s = in-undone k ∙ s.0

    pub spoilt_unsafe : (k x : Literal) → SpoilsBy p W o k x → lit_in safe x ≡ false
    spoilt_unsafe k x s = spoils_unsafe (lit_in (step p o).makes x) (lit_in known x) (lit_in undone x) (lit_in safe x) (in-safe x) s.1
        (⊎_elim (λ n. inl (λ i. n (known_is x i))) (λ e. inr (in-undone x ∙ e)) s.2)
