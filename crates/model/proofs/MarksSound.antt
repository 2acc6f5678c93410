-- Forced marks agree with every plan: the marks that agree with a plan are closed under the rules.
use Rattle.std.proofs.Common.{◌≡◌, ℕ, suc, Bool, true, not, subst, ⊎_elim}
use Rattle.std.proofs.lemmas.Bool.{both_ways, cases_Bool, cases_eq, not-true, not_from_false}
use Rattle.sets.specs.Literals.{Literal, opposite}
use Rattle.model.specs.Problems.{Problem, WellFormed, Makes, Holds}
use Rattle.model.specs.Plans.{Cells, Taken, IsPlan, state, Pins, Keeps}
use Rattle.model.specs.Clauses.{Clauses, AllHold}
use Rattle.model.specs.Marks.{Mark, NoMaker, NoMakerBut, Frame, Closed, agrees}
use Rattle.model.specs.Theorems.{MarksSound}
use Rattle.model.proofs.States.{opposite_opposite, never_both, made_holds, stays, comes_from}

left_unless : (b : Bool) → (b ≡ true → ⊥) → not b ≡ true
left_unless b h = ⊎_elim (λ e. absurd (h e)) (λ e. not_from_false b e) (cases_Bool b)

module _ (p : Problem) (wf : WellFormed p) (T : ℕ) (pins : Pins) (V : Clauses) (c : Cells) (plan : IsPlan p T c) (keeps : Keeps pins c)
    (clauses : (t : ℕ) → AllHold V (state p c t)) where
  Agrees : Mark → Type 0
  Agrees m = agrees p c m ≡ true

  -- no step that is taken at t makes a literal of which all makers are left out
  no_taken_maker : (t : ℕ) (l : Literal) → NoMaker p T pins Agrees l t → (o : ℕ) → Taken c t o → Makes p o l → ⊥
  unfolding Agrees
  no_taken_maker t l h o k m = both_ways (c t o) (not-true (c t o) (h o (plan.within t o k).1 m)) k

  no_taken_opposite : (t : ℕ) (l : Literal) → NoMaker p T pins Agrees l t → (o : ℕ) → Taken c t o → Makes p o (opposite (opposite l)) → ⊥
  no_taken_opposite t l h o k m = no_taken_maker t l h o k (subst (Makes p o) (opposite_opposite l) m)

  frame : Frame p T pins Agrees
  unfolding Agrees
  frame = record {
    start = λ l r h. h;
    goal = plan.reaches;
    pinned_in = λ t o r q e. keeps.takes t o e;
    pinned_out = λ t o r q e. not_from_false (c t o) (keeps.leaves t o e);
    closed = λ t o r q e. left_unless (c t o) (λ k. e (plan.opens t o k));
    needs = λ t o l k n. plan.ready t o l k n;
    makes = λ t o l k m. made_holds p wf T c plan t o l k m;
    rivals = λ t o o' r k d. left_unless (c t o') (λ k'. plan.apart t o o' k k' d);
    stays_false = λ t l r n h. stays p T c plan.within t (opposite l) h (no_taken_opposite t l n);
    was_true = λ t l r n h. ⊎_elim (λ e. absurd (no_taken_maker t l n e.0 e.1 e.2)) (λ e. e.0) (comes_from p T c plan.within t l h);
  }

  -- a literal that turns true was made
  turned : (t o : ℕ) (l : Literal) → NoMakerBut p T pins Agrees o l t → Holds (state p c t) (opposite l) → Holds (state p c (suc t)) l → Taken c t o
  unfolding Agrees
  turned t o l n h k = ⊎_elim
      (λ e. ⊎_elim (λ q. subst (Taken c t) q e.1)
      (λ d. absurd (both_ways (c t e.0) (not-true _ (n e.0 (plan.within t e.0 e.1).1 d e.2)) e.1)) (cases_eq e.0 o))
      (λ e. absurd (never_both (state p c t) l e.0 h))
      (comes_from p T c plan.within t l k)

  closed : Closed p T pins V Agrees
  unfolding Agrees
  closed = record {
    frame = frame;
    need_false = λ t o l r q n h. left_unless (c t o) (λ k. never_both (state p c t) l (plan.ready t o l k n) h);
    make_false = λ t o l r q m h. left_unless (c t o) (λ k. never_both (state p c (suc t)) l (made_holds p wf T c plan t o l k m) h);
    only_maker = λ t o l r q m n h k. turned t o l n h k;
    clause = λ t a b v h. ⊎_elim (λ e. absurd (never_both (state p c t) a e h)) (λ e. e) (clauses t a b v);
  }

pub marks_sound : MarksSound
unfolding Agrees
marks_sound p T pins V c wf plan keeps clauses m forced = forced (agrees p c) (closed p wf T pins V c plan keeps clauses)
