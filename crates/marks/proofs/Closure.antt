-- The rules, what they force, and one more mark processed. Assumes nothing.
use Rattle.std.proofs.Common.{◌≡◌, ℕ, ◌+◌, ◌<◌, Bool, true, false, ◌⊎◌, get_or, sym, refl, ap, ◌∙◌, subst, inl, inr, ⊎_elim, arith}
use Rattle.std.proofs.lemmas.Bool.{cases_Bool, cases_eq, or_cases, both_ways}
use Rattle.sets.specs.Sets.{step_in, no_steps}
use Rattle.marks.specs.declared.mark.Mark.{Mark}
use Rattle.marks.specs.declared.mark.Mark.TheVariants.{Fact, Taken, LeftOut}
use Rattle.marks.specs.declared.tables.Marks.{Marks}
use Rattle.marks.specs.declared.index.Index.{Index}
use Rattle.marks.specs.Tables.{opp, opp_lit, in_trail, same, mark_at}
use Rattle.marks.specs.Grows.{on, Has, Grows, Added}
use Rattle.marks.specs.Rules.{Maker, On, NoMaker, Concluded, Follows, Rules, Forced, Contradiction, Good, Worked, Covers, Done, Settled, Exactly}
use Rattle.marks.specs.Rules.{Concluded.stays_false, Concluded.was_true, Concluded.only_maker, Follows.f_stays_false, Follows.f_was_true, Follows.f_only_maker}
use Rattle.marks.proofs.Trail.{opp_lit_opp, same_is, same_self, find_in, in_trail_more, in_trail_prefix, at_in_trail, never_both_in}
use Rattle.marks.proofs.Growth.{grows_refl, grows_trans, has_grows}

-- ---- premises of what follows at t from a literal's makers

abbrev Touches : Index → ℕ → ℕ → Mark → Type 0
Touches ix t l x = (x ≡ Fact t (opp_lit l)) ⊎ ((x ≡ Fact (t + 1) l) ⊎ ((o : ℕ) × Maker ix l o × (x ≡ LeftOut t o)))

pub follows_within : (ix : Index) (P Q : Mark → Type 0) (t l : ℕ) → ((x : Mark) → Touches ix t l x → P x → Q x) → (y : Mark) → Follows ix P t l y → Follows ix Q t l y
follows_within ix P Q t l h y (f_stays_false n f) = f_stays_false (λ o k. h (LeftOut t o) (inr (inr (o, k, refl))) (n o k)) (h (Fact t (opp_lit l)) (inl refl) f)
follows_within ix P Q t l h y (f_was_true n f) = f_was_true (λ o k. h (LeftOut t o) (inr (inr (o, k, refl))) (n o k)) (h (Fact (t + 1) l) (inr (inl refl)) f)
follows_within ix P Q t l h y (f_only_maker o k n f g) =
    f_only_maker o k (λ i d j. h (LeftOut t i) (inr (inr (i, j, refl))) (n i d j)) (h (Fact t (opp_lit l)) (inl refl) f) (h (Fact (t + 1) l) (inr (inl refl)) g)

pub follows_map : (ix : Index) (P Q : Mark → Type 0) (t l : ℕ) → ((x : Mark) → P x → Q x) → (y : Mark) → Follows ix P t l y → Follows ix Q t l y
follows_map ix P Q t l h y f = follows_within ix P Q t l (λ x u p. h x p) y f

-- rules with fewer premises and more conclusions
pub rules_map : (ix : Index) (T : ℕ) (P Q P' Q' : Mark → Type 0) → ((x : Mark) → P' x → P x) → ((x : Mark) → Q x → Q' x) → Rules ix T P Q → Rules ix T P' Q'
rules_map ix T P Q P' Q' p q r = record {
  needs = λ t o l d n. q (Fact t l) (r.needs t o l (p (Taken t o) d) n);
  makes = λ t o l d n. q (Fact (t + 1) l) (r.makes t o l (p (Taken t o) d) n);
  rivals = λ t o i d n. q (LeftOut t i) (r.rivals t o i (p (Taken t o) d) n);
  need_false = λ t l o h d n. q (LeftOut t o) (r.need_false t l o h (p (Fact t l) d) n);
  make_false = λ t l o h d n. q (LeftOut t o) (r.make_false t l o h (p (Fact (t + 1) l) d) n);
  clause = λ t l b d n. q (Fact t b) (r.clause t l b (p (Fact t l) d) n);
  follows = λ t l h y f. q y (r.follows t l h y (follows_map ix P' P t l p y f));
}

-- ---- what is forced is closed

pub forced_rules : (ix : Index) (T : ℕ) (seed : Mark → Bool) → Rules ix T (Forced ix T seed) (Forced ix T seed)
forced_rules ix T seed = record {
  needs = λ t o l f n M k s. k.needs t o l (f M k s) n;
  makes = λ t o l f n M k s. k.makes t o l (f M k s) n;
  rivals = λ t o i f n M k s. k.rivals t o i (f M k s) n;
  need_false = λ t l o r f n M k s. k.need_false t l o r (f M k s) n;
  make_false = λ t l o r f n M k s. k.make_false t l o r (f M k s) n;
  clause = λ t l b f n M k s. k.clause t l b (f M k s) n;
  follows = λ t l r y f M k s. k.follows t l r y (follows_map ix _ _ t l (λ x g. g M k s) y f);
}

-- ---- growth by what is forced

pub worked_refl : (ix : Index) (a : Marks) → Worked ix a a
worked_refl ix a = record { grows = grows_refl a; good = λ s g. g }

pub worked_trans : {ix : Index} {a b c : Marks} → Worked ix a b → Worked ix b c → Worked ix a c
worked_trans f g = record { grows = grows_trans f.grows g.grows; good = λ s h. g.good s (f.good s h) }

pub added_worked : {S : Mark → Type 0} {a b : Marks} (ix : Index) → Added a S b
    → ((seed : Mark → Bool) → Good ix seed a → (y : Mark) → S y → Forced ix a.length seed y) → Worked ix a b
added_worked {S = S} {a = a} {b = b} ix d f = record { grows = d.grows; good = go }
  where
    sound_at : (seed : Mark → Bool) → Good ix seed a → (x : Mark) → On b x → Forced ix a.length seed x
    sound_at seed g x h = ⊎_elim (λ e. g.sound x e) (λ e. f seed g x e) (d.new x h)

    go : (seed : Mark → Bool) → Good ix seed a → Good ix seed b
    go seed g = record {
      sound = λ x h. subst (λ (T : ℕ). Forced ix T seed x) (sym d.grows.same_length) (sound_at seed g x h);
      broken = λ h. subst (λ (T : ℕ). Contradiction (Forced ix T seed)) (sym d.grows.same_length)
          (⊎_elim (λ e. g.broken e) (λ e. (e.0, f seed g e.0 e.1, sound_at seed g (opp e.0) e.2)) (d.why h));
    }

-- ---- what check does

concluded_follows : (ix : Index) (P : Mark → Type 0) (t l : ℕ) (y : Mark) → Concluded ix P t l y → Follows ix P t l y
concluded_follows ix P t l y (stays_false n f) = f_stays_false n f
concluded_follows ix P t l y (was_true n f) = f_was_true n f
concluded_follows ix P t l y (only_maker o k d n f g) = f_only_maker o k n f g

pub never_both : (m : Marks) (x : Mark) → On m x → On m (opp x) → ⊥
never_both m x h k = never_both_in m.trail m.len m.apart x (sym (m.listed x) ∙ h) (sym (m.listed (opp x)) ∙ k)

module _ (ix : Index) (a b : Marks) (t l : ℕ) (d : Added a (Concluded ix (On a) t l) b) where
  pub check_worked : t < a.length → Worked ix a b
  check_worked r = added_worked ix d
      (λ seed g y q. (forced_rules ix a.length seed).follows t l r y (follows_map ix (On a) _ t l g.sound y (concluded_follows ix (On a) t l y q)))

  pub check_follows : (y : Mark) → Follows ix (On a) t l y → Has b y
  check_follows y (f_stays_false n f) = d.there _ (stays_false n f)
  check_follows y (f_was_true n f) = d.there _ (was_true n f)
  check_follows y (f_only_maker o k n f g) = ⊎_elim
      (λ e. let all : NoMaker ix (On a) t l = λ i j. ⊎_elim (λ q. subst (λ (z : ℕ). On a (LeftOut t z)) (sym q) e) (λ q. n i q j) (cases_eq i o) in
      ⊎_elim (λ q. inl q)
      (λ q. absurd (never_both b (Fact (t + 1) l) (d.grows.keeps (Fact (t + 1) l) g) q))
      (d.there (Fact (t + 1) (opp_lit l)) (stays_false all f)))
      (λ e. d.there _ (only_maker o k (λ q. both_ways _ e q) n f g))
      (cases_Bool (on a (LeftOut t o)))

-- ---- one mark more is processed

mark_eq : (x y : Mark) → (x ≡ y) ⊎ (x ≡ y → ⊥)
mark_eq x y = ⊎_elim (λ e. inl (same_is x y e))
    (λ e. inr (λ q. both_ways (same x y) e (subst (λ (z : Mark). same x z ≡ true) q (same_self x)))) (cases_Bool (same x y))

left_step : Mark → ℕ
left_step (Fact t l) = 0
left_step (Taken t o) = 0
left_step (LeftOut t o) = o

touch_left : (ix : Index) (t l : ℕ) (x : Mark) → ((o : ℕ) × Maker ix l o × (x ≡ LeftOut t o)) ⊎ ((o : ℕ) → Maker ix l o → x ≡ LeftOut t o → ⊥)
unfolding left_step
touch_left ix t l x = ⊎_elim
    (λ e. ⊎_elim (λ k. inl (left_step x, k, e))
    (λ k. inr (λ o h q. both_ways _ k (subst (λ (i : ℕ). Maker ix l i) (sym (ap left_step q)) h)))
    (cases_Bool (step_in (get_or ix.makers l no_steps) (left_step x))))
    (λ e. inr (λ o h q. e (q ∙ ap (λ (i : ℕ). LeftOut t i) (sym (ap left_step q)))))
    (mark_eq x (LeftOut t (left_step x)))

touch : (ix : Index) (t l : ℕ) (x : Mark) → Touches ix t l x ⊎ (Touches ix t l x → ⊥)
touch ix t l x = ⊎_elim (λ e. inl (inl e))
    (λ e. ⊎_elim (λ f. inl (inr (inl f)))
    (λ f. ⊎_elim (λ g. inl (inr (inr g))) (λ g. inr (λ u. ⊎_elim e (λ v. ⊎_elim f (λ k. g k.0 k.1 k.2) v) u)) (touch_left ix t l x))
    (mark_eq x (Fact (t + 1) l)))
    (mark_eq x (Fact t (opp_lit l)))

module _ (ix : Index) (a b : Marks) (x : Mark) (at : mark_at a.trail a.head ≡ x) (more : a.head < a.len)
    (grows : Grows a b) (settled : Settled ix a) (covers : Covers ix a.length (On a) (Has b) x) where
  -- processed now: x, or processed before
  abbrev pub Done' : Mark → Type 0
  Done' y = in_trail b.trail (a.head + 1) y ≡ true

  done_split : (y : Mark) → Done' y → (x ≡ y) ⊎ Done a y
  done_split y h = ⊎_elim
      (λ e. inl (sym at ∙ sym (grows.prefix a.head more) ∙ same_is (mark_at b.trail a.head) y e))
      (λ e. inr (sym (in_trail_prefix b.trail a.trail a.head (λ i k. grows.prefix i (omega arith)) y) ∙ e))
      (or_cases (same (mark_at b.trail a.head) y) (in_trail b.trail a.head y) (sym (in_trail_more b.trail a.head y) ∙ h))

  done_on : (y : Mark) → Done a y → On a y
  done_on y h = let i = find_in a.trail a.head y h in
      subst (On a) i.2 (a.listed (mark_at a.trail i.0) ∙ at_in_trail a.trail a.len i.0 (omega (arith, a.passed)))

  done_on' : (y : Mark) → Done' y → On a y
  done_on' y h = ⊎_elim
      (λ e. subst (On a) (at ∙ e) (a.listed (mark_at a.trail a.head) ∙ at_in_trail a.trail a.len a.head more))
      (λ e. done_on y e) (done_split y h)

  covers_at : (y : Mark) → x ≡ y → Covers ix a.length (On a) (Has b) y
  covers_at y e = subst (Covers ix a.length (On a) (Has b)) e covers

  follows_touched : (t l : ℕ) → t < a.length → (y : Mark) → Touches ix t l x → Follows ix (On a) t l y → Has b y
  follows_touched t l r y u f = ⊎_elim
      (λ e. (covers_at (Fact t (opp_lit l)) e).from_here r y (subst (λ (k : ℕ). Follows ix (On a) t k y) (sym (opp_lit_opp l)) f))
      (λ u'. ⊎_elim
      (λ e. (covers_at (Fact (t + 1) l) e).to_here t refl y f)
      (λ e. covers_at (LeftOut t e.0) e.2 l (ix.makers_are e.0 l ∙ e.1) y f) u') u

  pub settled_more : Rules ix a.length Done' (Has b)
  settled_more = record {
    needs = λ t o l d n. ⊎_elim (λ e. (covers_at (Taken t o) e).needs l n) (λ e. has_grows grows (Fact t l) (settled.needs t o l e n)) (done_split (Taken t o) d);
    makes = λ t o l d n. ⊎_elim (λ e. (covers_at (Taken t o) e).makes l n) (λ e. has_grows grows (Fact (t + 1) l) (settled.makes t o l e n)) (done_split (Taken t o) d);
    rivals = λ t o i d n. ⊎_elim (λ e. (covers_at (Taken t o) e).rivals i n) (λ e. has_grows grows (LeftOut t i) (settled.rivals t o i e n)) (done_split (Taken t o) d);
    need_false = λ t l o r d n. ⊎_elim (λ e. (covers_at (Fact t l) e).need_false r o n) (λ e. has_grows grows (LeftOut t o) (settled.need_false t l o r e n)) (done_split (Fact t l) d);
    make_false = λ t l o r d n. ⊎_elim (λ e. (covers_at (Fact (t + 1) l) e).make_false t refl o n) (λ e. has_grows grows (LeftOut t o) (settled.make_false t l o r e n)) (done_split (Fact (t + 1) l) d);
    clause = λ t l b d n. ⊎_elim (λ e. (covers_at (Fact t l) e).clause b n) (λ e. has_grows grows (Fact t b) (settled.clause t l b e n)) (done_split (Fact t l) d);
    follows = λ t l r y f. ⊎_elim
        (λ u. follows_touched t l r y u (follows_map ix Done' (On a) t l done_on' y f))
        (λ u. has_grows grows y (settled.follows t l r y (follows_within ix Done' (Done a) t l
        (λ z v d. ⊎_elim (λ e. absurd (u (subst (Touches ix t l) (sym e) v))) (λ e. e) (done_split z d)) y f)))
        (touch ix t l x);
  }

-- ---- at the end

module _ (ix : Index) (seed : Mark → Bool) (m : Marks) (good : Good ix seed m) (settled : Settled ix m) (seeded : (y : Mark) → seed y ≡ true → Has m y) where
  has_on : m.conflict ≡ false → (x : Mark) → Has m x → On m x
  has_on f x = ⊎_elim (λ e. absurd (both_ways m.conflict f e)) (λ e. e)

  module _ (f : m.conflict ≡ false) (all : m.head ≡ m.len) where
    on_done : (x : Mark) → On m x → Done m x
    on_done x h = subst (λ (n : ℕ). in_trail m.trail n x ≡ true) (sym all) (sym (m.listed x) ∙ h)

    closed : Rules ix m.length (On m) (On m)
    closed = record {
      needs = λ t o l d n. has_on f (Fact t l) (settled.needs t o l (on_done (Taken t o) d) n);
      makes = λ t o l d n. has_on f (Fact (t + 1) l) (settled.makes t o l (on_done (Taken t o) d) n);
      rivals = λ t o i d n. has_on f (LeftOut t i) (settled.rivals t o i (on_done (Taken t o) d) n);
      need_false = λ t l o r d n. has_on f (LeftOut t o) (settled.need_false t l o r (on_done (Fact t l) d) n);
      make_false = λ t l o r d n. has_on f (LeftOut t o) (settled.make_false t l o r (on_done (Fact (t + 1) l) d) n);
      clause = λ t l b d n. has_on f (Fact t b) (settled.clause t l b (on_done (Fact t l) d) n);
      follows = λ t l r y q. has_on f y (settled.follows t l r y (follows_map ix (On m) (Done m) t l on_done y q));
    }

    forced_on : (x : Mark) → Forced ix m.length seed x → On m x
    forced_on x g = g (on m) closed (λ y s. has_on f y (seeded y s))

  pub exactly : (m.conflict ≡ true) ⊎ (m.head ≡ m.len) → Exactly ix seed m
  exactly h = record {
    sound = good.sound;
    complete = λ f x g. ⊎_elim (λ e. absurd (both_ways m.conflict f e)) (λ e. forced_on f e x g) h;
    broken = good.broken;
    tells = λ k. ⊎_elim (λ e. e) (λ e. ⊎_elim (λ c. c)
        (λ f. absurd (never_both m k.0 (forced_on f e k.0 k.1) (forced_on f e (opp k.0) k.2))) (cases_Bool m.conflict)) h;
  }

-- what is exactly forced, without contradiction, is closed under the rules
pub exactly_rules : (ix : Index) (seed : Mark → Bool) (m : Marks) → Exactly ix seed m → m.conflict ≡ false → Rules ix m.length (On m) (On m)
exactly_rules ix seed m e f = rules_map ix m.length (Forced ix m.length seed) (Forced ix m.length seed) (On m) (On m) e.sound (e.complete f) (forced_rules ix m.length seed)
