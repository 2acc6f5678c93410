-- The steps of one time, taken singly in any order.
use Rattle.std.proofs.Common.{◌≡◌, ℕ, suc, Bool, true, false, not, List, [], ◌∷◌, sym, refl, subst, inl, inr, ⊎_elim}
use Rattle.std.proofs.lemmas.Bool.{cases_Bool}
use Rattle.sets.specs.Literals.{Literal, pos, neg, opposite}
use Rattle.sets.specs.Sets.{lit_in}
use Rattle.model.specs.Problems.{Problem, WellFormed, step, Needs, Makes, State, Holds}
use Rattle.model.specs.Plans.{Cells, Taken, IsPlan, state}
use Rattle.model.specs.Singly.{Among, NoRepeats, OrderOf, after, after_all, NeverLacks}
use Rattle.model.specs.Theorems.{OrderFree}
use Rattle.model.proofs.States.{put_makes, put_keeps, makes_agree, comes_from}

not_made : (p : Problem) (o : ℕ) (l : Literal) → (Makes p o l → ⊥) → lit_in (step p o).makes l ≡ false
not_made p o l h = ⊎_elim (λ e. absurd (h e)) (λ e. e) (cases_Bool (lit_in (step p o).makes l))

module _ (p : Problem) where
  -- what holds, and no step of the list makes false, holds at the end
  lasts : (l : Literal) (os : List ℕ) (s : State) → Holds s l → ((o : ℕ) → Among o os → Makes p o (opposite l) → ⊥) → Holds (after_all p s os) l
  lasts l [] s h k = h
  lasts l (o ∷ os) s h k = lasts l os (after p s o)
      (put_keeps s (lit_in (step p o).makes) l h (not_made p o (opposite l) (k o (inl refl)))) (λ o' i. k o' (inr i))

  -- what some step of the list makes, and none makes false, holds at the end
  arrives : (l : Literal) (os : List ℕ) (s : State) (m : ℕ) → Among m os → Makes p m l → ((o : ℕ) → Among o os → Makes p o (opposite l) → ⊥) → Holds (after_all p s os) l
  arrives l [] s m i h k = absurd i
  arrives l (o ∷ os) s m (inl e) h k = lasts l os (after p s o)
      (put_makes s (lit_in (step p o).makes) l (subst (λ x. Makes p x l) e h) (not_made p o (opposite l) (k o (inl refl)))) (λ o' i. k o' (inr i))
  arrives l (o ∷ os) s m (inr i) h k = arrives l os (after p s o) m i h (λ o' j. k o' (inr j))

same_value : (x y : Bool) → (y ≡ true → x ≡ true) → (not y ≡ true → not x ≡ true) → x ≡ y
same_value x true h k = h refl
same_value true false h k = sym (k refl)
same_value false false h k = refl

module _ (p : Problem) (wf : WellFormed p) (T : ℕ) (c : Cells) (plan : IsPlan p T c) (t : ℕ) where
  never_lacks : (os : List ℕ) (s : State) → ((o : ℕ) → Among o os → Taken c t o) → NoRepeats os
      → ((o : ℕ) (l : Literal) → Among o os → Needs p o l → Holds s l) → NeverLacks p s os
  never_lacks [] s tk nr h = tt
  never_lacks (o ∷ os) s tk nr h = (λ l n. h o l (inl refl) n, never_lacks os (after p s o) (λ o' i. tk o' (inr i)) nr.1 left)
    where
      left : (o' : ℕ) (l : Literal) → Among o' os → Needs p o' l → Holds (after p s o) l
      left o' l i n = put_keeps s (lit_in (step p o).makes) l (h o' l (inr i) n)
          (not_made p o (opposite l) (λ m. plan.apart t o o' (tk o (inl refl)) (tk o' (inr i))
          ((λ e. nr.0 (subst (λ x. Among x os) (sym e) i)), inl (l, m, inl n))))

  ends_right : (os : List ℕ) → OrderOf c t os → (l : Literal) → Holds (state p c (suc t)) l → Holds (after_all p (state p c t) os) l
  ends_right os r l h = ⊎_elim
      (λ e. arrives p l os (state p c t) e.0 ((r.each e.0).1 e.1) e.2
      (λ o i m. makes_agree p wf T c plan t e.0 o l e.1 ((r.each o).0 i) e.2 m))
      (λ e. lasts p l os (state p c t) e.0 (λ o i m. e.1 o ((r.each o).0 i) m))
      (comes_from p T c plan.within t l h)

pub order_free : OrderFree
order_free p T c wf plan t order r = (
  never_lacks p wf T c plan t order (state p c t) (λ o i. (r.each o).0 i) r.once (λ o l i n. plan.ready t o l ((r.each o).0 i) n),
  λ f. same_value _ _ (ends_right p wf T c plan t order r (pos f)) (ends_right p wf T c plan t order r (neg f)),
)
