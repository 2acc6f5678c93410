-- Kept clauses hold in every state of every plan.
use Rattle.std.proofs.Common.{ℕ, zero, suc, ◌≢◌, ◌⊎◌, sym, subst, inl, inr, ⊎_elim}
use Rattle.sets.specs.Literals.{Literal, opposite}
use Rattle.model.specs.Problems.{Problem, WellFormed, Holds, Needs, Makes}
use Rattle.model.specs.Plans.{Cells, Taken, IsPlan, state}
use Rattle.model.specs.Clauses.{Clauses, Clause, Barred, Known, Kept, AllHold}
use Rattle.model.specs.Theorems.{KeptHold}
use Rattle.model.proofs.States.{never_both, one_of, made_holds, comes_from}

module _ (p : Problem) (wf : WellFormed p) (T : ℕ) (V : Clauses) (kept : Kept p V) (c : Cells) (plan : IsPlan p T c)
    (t : ℕ) (now : AllHold V (state p c t)) where
  -- the clause {opposite of a, b}, for a literal a that holds, gives b
  gives : (a b : Literal) → Holds (state p c t) a → Clause V (opposite a) b → Holds (state p c t) b
  gives a b h v = ⊎_elim (λ e. absurd (never_both (state p c t) a h e)) (λ e. e) (now (opposite a) b v)

  not_barred : (o : ℕ) → Taken c t o → Barred p V o → ⊥
  not_barred o k r = never_both (state p c t) r.1 (plan.ready t o r.1 k r.3)
      (gives r.0 (opposite r.1) (plan.ready t o r.0 k r.2) r.4)

  -- what is known to a taken step holds
  known_holds : (o : ℕ) (b : Literal) → Taken c t o → Known p V o b → Holds (state p c t) b
  known_holds o b k (inl v) = ⊎_elim (λ e. e) (λ e. e) (now b b v)
  known_holds o b k (inr (inl n)) = plan.ready t o b k n
  known_holds o b k (inr (inr r)) = gives r.0 b (plan.ready t o r.0 k r.1) r.2

  -- a taken step that makes a false, and not b true, does not make b false, and b is known to it
  knows : (o : ℕ) (a b : Literal) → Taken c t o → Clause V a b → Makes p o (opposite a) → (Makes p o b → ⊥)
      → ((Makes p o (opposite b) → ⊥) → Known p V o b → ⊥) → ⊥
  knows o a b k v m n f = spoils (inl (f (λ q. spoils (inr q))))
    where
      spoils : ((Known p V o b → ⊥) ⊎ Makes p o (opposite b)) → ⊥
      spoils s = kept.unspoiled a b v o (plan.opens t o k) (not_barred o k) (inl (m, n, s))

  -- a literal that holds and is made false: the two makers of a clause's opposites
  module _ (o o' : ℕ) (a b : Literal) (k : Taken c t o) (k' : Taken c t o') (m : Makes p o (opposite a)) (m' : Makes p o' (opposite b)) (d : o ≢ o') where
    -- o' does not need a, and does not make it
    no_use : (Needs p o' a ⊎ Makes p o' a) → ⊥
    no_use u = plan.apart t o o' k k' (d, inl (a, m, u))

    -- a is not known to o' by a need r of o' with the clause {opposite of r, a}
    not_by_need : (r : Literal) → Needs p o' r → Clause V (opposite r) a → ⊥
    not_by_need r n v = knows o a (opposite r) k (kept.unordered (opposite r) a v) m
        (λ q. plan.apart t o o' k k' (d, inl (r, q, inl n)))
        (λ s w. never_both (state p c t) r (plan.ready t o' r k' n) (known_holds o (opposite r) k w))

    not_known : Known p V o' a → ⊥
    not_known (inl v) = knows o a a k v m (λ q. wf.makes_agree o a q m) (λ q w. q m)
    not_known (inr (inl n)) = no_use (inl n)
    not_known (inr (inr r)) = not_by_need r.0 r.1 r.2

    not_both_made : Clause V a b → ⊥
    not_both_made v = knows o' b a k' (kept.unordered a b v) m' (λ q. no_use (inr q)) (λ q w. not_known w)

  -- a step that makes a false leaves b true
  other_true : (o : ℕ) (a b : Literal) → Taken c t o → Makes p o (opposite a) → Clause V a b → Holds (state p c (suc t)) (opposite b) → ⊥
  other_true o a b k m v h = knows o a b k v m
      (λ q. never_both (state p c (suc t)) b (made_holds p wf T c plan t o b k q) h)
      (λ q w. ⊎_elim
      (λ e. not_both_made o e.0 a b k e.1 m e.2 (λ s. q (subst (λ x. Makes p x (opposite b)) (sym s) e.2)) v)
      (λ e. never_both (state p c t) b (known_holds o b k w) e.0)
      (comes_from p T c plan.within t (opposite b) h))

  next : AllHold V (state p c (suc t))
  next a b v = ⊎_elim inl (λ h. ⊎_elim inr (λ h'. absurd (broken h h')) (one_of (state p c (suc t)) b)) (one_of (state p c (suc t)) a)
    where
      broken : Holds (state p c (suc t)) (opposite a) → Holds (state p c (suc t)) (opposite b) → ⊥
      broken h h' = ⊎_elim
          (λ e. other_true e.0 a b e.1 e.2 v h')
          (λ e. ⊎_elim
          (λ e'. other_true e'.0 b a e'.1 e'.2 (kept.unordered a b v) h)
          (λ e'. ⊎_elim (λ x. never_both (state p c t) a x e.0) (λ x. never_both (state p c t) b x e'.0) (now a b v))
          (comes_from p T c plan.within t (opposite b) h'))
          (comes_from p T c plan.within t (opposite a) h)

pub kept_hold : KeptHold
kept_hold p T V c wf kept plan zero = kept.at_start
kept_hold p T V c wf kept plan (suc t) = next p wf T V kept c plan t (kept_hold p T V c wf kept plan t)
