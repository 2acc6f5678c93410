-- One mark more, and going back. Assumes nothing.
use Rattle.std.proofs.Common.{◌≡◌, ℕ, Bool, true, false, sym, ap, ◌∙◌, subst, inl, inr, ⊎_elim, arith}
use Rattle.std.proofs.lemmas.Bool.{both_ways, cases_Bool}
use Rattle.marks.specs.declared.mark.Mark.{Mark}
use Rattle.marks.specs.declared.tables.Marks.{Marks}
use Rattle.marks.specs.declared.index.Index.{Index}
use Rattle.marks.specs.Tables.{opp, in_trail}
use Rattle.marks.specs.Grows.{on, Has, Grows, Added, Retreated}
use Rattle.marks.specs.Rules.{On, Rules, Forced, Contradiction, Good, Done, Settled, Exactly, OneMore}
use Rattle.marks.specs.Deciding.{Restores}
use Rattle.marks.proofs.Trail.{in_trail_prefix}
use Rattle.marks.proofs.Growth.{has_grows}
use Rattle.marks.proofs.Closure.{rules_map}

pub settled_added : {S : Mark → Type 0} (ix : Index) (a b : Marks) → Added a S b → Settled ix a → Settled ix b
settled_added ix a b d s = subst (λ (T : ℕ). Rules ix T (Done b) (Has b)) (sym d.grows.same_length)
    (rules_map ix a.length (Done a) (Has a) (Done b) (Has b)
    (λ x h. sym (in_trail_prefix b.trail a.trail a.head (λ i k. d.grows.prefix i (omega (arith, a.passed))) x)
    ∙ subst (λ (n : ℕ). in_trail b.trail n x ≡ true) d.same_head h)
    (λ x h. has_grows d.grows x h) s)

module _ (ix : Index) (a b : Marks) (x : Mark) (d : Added a (λ y. y ≡ x) b) (seed more : Mark → Bool) (one : OneMore seed x more) (e : Exactly ix seed a) where
  forced_more : (T : ℕ) (y : Mark) → Forced ix T seed y → Forced ix T more y
  forced_more T y f = λ M k s. f M k (λ z h. s z (one.old z h))

  forced_one : (T : ℕ) (y : Mark) → y ≡ x → Forced ix T more y
  forced_one T y q = λ M k s. s y (subst (λ (z : Mark). more z ≡ true) (sym q) one.here)

  sound_at : (y : Mark) → On b y → Forced ix a.length more y
  sound_at y h = ⊎_elim (λ k. forced_more a.length y (e.sound y k)) (λ q. forced_one a.length y q) (d.new y h)

  pub good_more : Good ix more b
  good_more = record {
    sound = λ y h. subst (λ (T : ℕ). Forced ix T more y) (sym d.grows.same_length) (sound_at y h);
    broken = λ h. subst (λ (T : ℕ). Contradiction (Forced ix T more)) (sym d.grows.same_length) (⊎_elim
        (λ c. let k = e.broken c in (k.0, forced_more a.length k.0 k.1, forced_more a.length (opp k.0) k.2))
        (λ q. (q.0, forced_one a.length q.0 q.1, sound_at (opp q.0) q.2)) (d.why h));
  }

  old : (y : Mark) → seed y ≡ true → Has a y
  old y h = ⊎_elim (λ c. inl c) (λ f. inr (e.complete f y (λ M k s. s y h))) (cases_Bool a.conflict)

  pub seeded_more : (y : Mark) → more y ≡ true → Has b y
  seeded_more y h = ⊎_elim (λ s. has_grows d.grows y (old y s)) (λ q. d.there y q) (one.only y h)

-- ---- going back

module _ (ix : Index) (a b c : Marks) (calm : a.conflict ≡ false) (whole : a.head ≡ a.len) (g : Grows a b) (r : Retreated b a.len c) where
  same_on : (x : Mark) → on c x ≡ on a x
  same_on x = r.back x ∙ in_trail_prefix b.trail a.trail a.len g.prefix x ∙ sym (a.listed x)

  same_length : c.length ≡ a.length
  same_length = r.same_length ∙ g.same_length

  pub settled_back : Settled ix a → Settled ix c
  settled_back s = subst (λ (T : ℕ). Rules ix T (Done c) (Has c)) (sym same_length) (rules_map ix a.length (Done a) (Has a) (Done c) (Has c)
      (λ x h. subst (λ (n : ℕ). in_trail a.trail n x ≡ true) (sym whole) (sym (a.listed x) ∙ sym (same_on x) ∙ c.listed x
      ∙ ap (λ (n : ℕ). in_trail c.trail n x) (r.shorter ∙ sym r.head_at) ∙ h))
      (λ x h. ⊎_elim (λ e. absurd (both_ways a.conflict calm e)) (λ e. inr (same_on x ∙ e)) h) s)

  pub exactly_back : (seed : Mark → Bool) → Exactly ix seed a → Exactly ix seed c
  exactly_back seed e = record {
    sound = λ x h. subst (λ (T : ℕ). Forced ix T seed x) (sym same_length) (e.sound x (sym (same_on x) ∙ h));
    complete = λ f x h. same_on x ∙ e.complete calm x (subst (λ (T : ℕ). Forced ix T seed x) same_length h);
    broken = λ h. absurd (both_ways c.conflict r.calm h);
    tells = λ k. absurd (both_ways a.conflict calm (e.tells (subst (λ (T : ℕ). Contradiction (Forced ix T seed)) same_length k)));
  }

pub restored : (b c : Marks) (n : ℕ) → Retreated b n c → Restores b n c
restored b c n r' ix seed a calm en g e =
    let r : Retreated b a.len c = subst (λ (k : ℕ). Retreated b k c) (sym en) r' in
    let whole : a.head ≡ a.len = ⊎_elim (λ q. absurd (both_ways a.conflict calm q)) (λ q. q) e.done in
    record {
      settled = settled_back ix a b c calm whole g r e.settled;
      done = inr (r.head_at ∙ sym r.shorter);
      exact = exactly_back ix a b c calm whole g r seed e.exact;
    }
