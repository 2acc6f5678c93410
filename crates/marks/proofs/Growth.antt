-- Laws of growth. Assumes nothing.
use Rattle.std.proofs.Common.{◌≡◌, ℕ, ◌≤◌, true, false, ◌⊎◌, sym, refl, ap, ◌∙◌, subst, inl, inr, ⊎_elim, arith}
use Rattle.std.proofs.lemmas.Bool.{and_parts, false_from_ne_true, leb-true, ltb-true, or_cases, or_left, or_right}
use Rattle.marks.specs.declared.mark.Mark.{Mark}
use Rattle.marks.specs.declared.tables.Marks.{Marks}
use Rattle.marks.specs.declared.mark.Mark.TheVariants.{Fact, Taken, LeftOut}
use Rattle.marks.specs.Tables.{same, opp, ranged}
use Rattle.marks.specs.Grows.{on, Has, Grows, Put, Added}
use Rattle.marks.proofs.Trail.{same_is, same_self, find_in}

pub grows_refl : (a : Marks) → Grows a a
grows_refl a = record { same_length = refl; longer = omega arith; prefix = λ i h. refl; keeps = λ x h. h; stuck = λ h. h }

pub grows_trans : {a b c : Marks} → Grows a b → Grows b c → Grows a c
grows_trans {a = a} {b = b} {c = c} f g = record {
  same_length = g.same_length ∙ f.same_length;
  longer = omega (arith, f.longer, g.longer);
  prefix = λ i h. g.prefix i (omega (arith, f.longer)) ∙ f.prefix i h;
  keeps = λ x h. g.keeps x (f.keeps x h);
  stuck = λ h. g.stuck (f.stuck h);
}

pub has_grows : {a b : Marks} → Grows a b → (x : Mark) → Has a x → Has b x
has_grows g x = ⊎_elim (λ h. inl (g.stuck h)) (λ h. inr (g.keeps x h))

pub put_added : (a : Marks) (x : Mark) (b : Marks) → Put a x b → Added a (λ y. y ≡ x) b
put_added a x b p = record {
  grows = record {
    same_length = p.same_length;
    longer = omega (arith, p.one_more);
    prefix = p.pushed;
    keeps = λ y h. p.now_on y ∙ or_right (same x y) (on a y) h;
    stuck = λ h. p.same_conflict ∙ h;
  };
  same_head = p.same_head;
  there = λ y e. inr (p.now_on y ∙ or_left (same x y) (on a y) (subst (λ (z : Mark). same x z ≡ true) (sym e) (same_self x)));
  new = λ y h. ⊎_elim (λ e. inr (sym (same_is x y e))) (λ e. inl e) (or_cases (same x y) (on a y) (sym (p.now_on y) ∙ h));
  why = λ h. inl (sym p.same_conflict ∙ h);
}

-- nothing was to be put in
pub added_nothing : {S : Mark → Type 0} (a : Marks) → ((y : Mark) → S y → ⊥) → Added a S a
added_nothing a none = record { grows = grows_refl a; same_head = refl; there = λ y h. absurd (none y h); new = λ y h. inl h; why = λ h. inl h }

-- first the one set, then the other
pub added_then : {S R Q : Mark → Type 0} {a b c : Marks} → Added a S b → Added b R c → ((y : Mark) → Q y → S y ⊎ R y) → ((y : Mark) → S y → Q y) → ((y : Mark) → R y → Q y) → Added a Q c
added_then f g split left right = record {
  grows = grows_trans f.grows g.grows;
  same_head = g.same_head ∙ f.same_head;
  there = λ y q. ⊎_elim (λ s. has_grows g.grows y (f.there y s)) (λ r. g.there y r) (split y q);
  new = λ y h. ⊎_elim (λ e. ⊎_elim (λ k. inl k) (λ k. inr (left y k)) (f.new y e)) (λ r. inr (right y r)) (g.new y h);
  why = λ h. ⊎_elim
      (λ e. ⊎_elim (λ k. inl k) (λ k. inr (k.0, left k.0 k.1, g.grows.keeps (opp k.0) k.2)) (f.why e))
      (λ e. inr (e.0, right e.0 e.1, e.2)) (g.why h);
}

-- the same set by another name
pub added_as : {S Q : Mark → Type 0} {a b : Marks} → Added a S b → ((y : Mark) → Q y → S y) → ((y : Mark) → S y → Q y) → Added a Q b
added_as f back forth = record {
  grows = f.grows;
  same_head = f.same_head;
  there = λ y q. f.there y (back y q);
  new = λ y h. ⊎_elim (λ e. inl e) (λ s. inr (forth y s)) (f.new y h);
  why = λ h. ⊎_elim (λ e. inl e) (λ e. inr (e.0, forth e.0 e.1, e.2)) (f.why h);
}

-- part of the set was on already
pub added_rest : {S Q : Mark → Type 0} {a b : Marks} → Added a S b → ((y : Mark) → Q y → (on a y ≡ true) ⊎ S y) → ((y : Mark) → S y → Q y) → Added a Q b
added_rest f back forth = record {
  grows = f.grows;
  same_head = f.same_head;
  there = λ y q. ⊎_elim (λ h. inr (f.grows.keeps y h)) (λ s. f.there y s) (back y q);
  new = λ y h. ⊎_elim (λ e. inl e) (λ s. inr (forth y s)) (f.new y h);
  why = λ h. ⊎_elim (λ e. inl e) (λ e. inr (e.0, forth e.0 e.1, e.2)) (f.why h);
}

-- ---- a mark beyond the length is not on

pub on_ranged : (m : Marks) (x : Mark) → on m x ≡ true → ranged m.length x ≡ true
on_ranged m x h = let i = find_in m.trail m.len x (sym (m.listed x) ∙ h) in
    sym (ap (ranged m.length) i.2) ∙ m.ranged i.0 i.1

pub fact_off : (m : Marks) (t l : ℕ) → 33 ≤ t → on m (Fact t l) ≡ false
fact_off m t l h = false_from_ne_true _ (λ e. let b = leb-true t m.length (and_parts _ _ (on_ranged m (Fact t l) e)).0 in omega (arith, m.short))

pub taken_off : (m : Marks) (t o : ℕ) → 32 ≤ t → on m (Taken t o) ≡ false
taken_off m t o h = false_from_ne_true _ (λ e. let b = ltb-true t m.length (and_parts _ _ (on_ranged m (Taken t o) e)).0 in omega (arith, m.short))

pub left_off : (m : Marks) (t o : ℕ) → 32 ≤ t → on m (LeftOut t o) ≡ false
left_off m t o h = false_from_ne_true _ (λ e. let b = ltb-true t m.length (and_parts _ _ (on_ranged m (LeftOut t o) e)).0 in omega (arith, m.short))
