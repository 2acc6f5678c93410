-- The trail: what one more mark does to it, and that it fits its table. Assumes nothing.
use Rattle.std.proofs.Common.{◌≡◌, ℕ, zero, suc, ◌+◌, ◌-◌, ◌*◌, ◌/◌, ◌%◌, ◌<◌, ◌≤◌, Bool, true, false, cond, not, ◌&&◌, ◌||◌, eqb, ◌≢◌, ◌⊎◌, List, [], ◌∷◌, length, set, sym, refl, ap, ◌∙◌, subst, ap₂, inl, inr, ⊎_elim, add-one, arith, get_or-set_other, get_or-set_same}
use Rattle.std.proofs.lemmas.Bool.{both_ways, cases_Bool, cases_eq, cases_order, and_parts, and_from, or_cases, or_left, or_right, eqb-true, eq-eqb, ne_eqb, lt-ltb, ltb-true, leb-true, cond-true, cond-false}
use Rattle.std.specs.List.{AllByRecursion, IsDistinct, list_any}
use Rattle.std.proofs.lemmas.Map.Steps.{length-le_from_distinct_below}
use Rattle.sets.specs.Literals.{Literal, lit, code, opposite}
use Rattle.sets.proofs.Literals.{lit_even, lit_odd, code_lit}
use Rattle.marks.specs.declared.mark.Mark.{Mark}
use Rattle.marks.specs.declared.mark.Mark.TheVariants.{Fact, Taken, LeftOut}
use Rattle.std.proofs.Math.Bool.{and-true}
use Rattle.marks.specs.Tables.{opp, opp_lit, same, ranged, mark_at, in_trail, slot, AllRanged, Apart}

-- ---- different numbers below N are at most N

-- the numbers before place n, the last one first
front : (ℕ → ℕ) → ℕ → List ℕ
front s zero = []
front s (suc n) = s n ∷ front s n

module _ (N : ℕ) (s : ℕ → ℕ) where
  front-length : (n : ℕ) → length (front s n) ≡ n
  unfolding front
  front-length zero = refl
  front-length (suc n) = ap suc (front-length n)

  front-below : (n : ℕ) → ((i : ℕ) → i < n → s i < N) → (q : ℕ) → list_any (eqb q) (front s n) ≡ true → q < N
  unfolding front
  front-below zero b q h = absurd (both_ways false refl h)
  front-below (suc n) b q h = ⊎_elim (λ e. subst (λ (k : ℕ). k < N) (sym (eqb-true q (s n) e)) (b n (omega arith)))
      (λ e. front-below n (λ i k. b i (omega arith)) q e) (or_cases (eqb q (s n)) (list_any (eqb q) (front s n)) h)

  front-misses : (n q : ℕ) → ((i : ℕ) → i < n → s i ≡ q → ⊥) → AllByRecursion (λ y. eqb q y ≡ false) (front s n)
  unfolding front
  front-misses zero q a = tt
  front-misses (suc n) q a = (ne_eqb q (s n) (λ e. a n (omega arith) (sym e)), front-misses n q (λ i k. a i (omega arith)))

  front-distinct : (n : ℕ) → ((i j : ℕ) → i < j → j < n → s i ≡ s j → ⊥) → IsDistinct eqb (front s n)
  unfolding front IsDistinct
  front-distinct zero a = tt
  front-distinct (suc n) a = (front-misses n (s n) (λ i k. a i n k (omega arith)), front-distinct n (λ i j h k. a i j h (omega arith)))

  pub pigeon : (n : ℕ) → ((i : ℕ) → i < n → s i < N) → ((i j : ℕ) → i < j → j < n → s i ≡ s j → ⊥) → n ≤ N
  pigeon n b a = subst (λ (k : ℕ). k ≤ N) (front-length n) (length-le_from_distinct_below (front s n) N (front-distinct n a) (front-below n b))

-- ---- the same mark

pub same_is : (x y : Mark) → same x y ≡ true → x ≡ y
unfolding same
same_is (Fact t l) (Fact u k) h = ap₂ Fact (eqb-true t u (and_parts _ _ h).0) (eqb-true l k (and_parts _ _ h).1)
same_is (Taken t l) (Taken u k) h = ap₂ Taken (eqb-true t u (and_parts _ _ h).0) (eqb-true l k (and_parts _ _ h).1)
same_is (LeftOut t l) (LeftOut u k) h = ap₂ LeftOut (eqb-true t u (and_parts _ _ h).0) (eqb-true l k (and_parts _ _ h).1)
same_is (Fact t l) (Taken u k) h = absurd (both_ways false refl h)
same_is (Fact t l) (LeftOut u k) h = absurd (both_ways false refl h)
same_is (Taken t l) (Fact u k) h = absurd (both_ways false refl h)
same_is (Taken t l) (LeftOut u k) h = absurd (both_ways false refl h)
same_is (LeftOut t l) (Fact u k) h = absurd (both_ways false refl h)
same_is (LeftOut t l) (Taken u k) h = absurd (both_ways false refl h)

pub same_self : (x : Mark) → same x x ≡ true
unfolding same
same_self (Fact t l) = and_from _ _ (eq-eqb t t refl) (eq-eqb l l refl)
same_self (Taken t l) = and_from _ _ (eq-eqb t t refl) (eq-eqb l l refl)
same_self (LeftOut t l) = and_from _ _ (eq-eqb t t refl) (eq-eqb l l refl)

pub opp_even : (l : ℕ) → l % 2 ≡ 0 → opp_lit l ≡ l + 1
unfolding opp_lit code
opp_even l h = let e : 2 * (l / 2) + 1 ≡ l + 1 = omega arith in ap (λ (z : Literal). code (opposite z)) (lit_even l h) ∙ e

pub opp_odd : (l : ℕ) → (l % 2 ≡ 0 → ⊥) → opp_lit l ≡ l - 1
unfolding opp_lit code
opp_odd l h = let e : 2 * (l / 2) ≡ l - 1 = omega arith in ap (λ (z : Literal). code (opposite z)) (lit_odd l h) ∙ e

-- either of the two numbers of a fact
pub opp_either : (l : ℕ) → ((l % 2 ≡ 0) × (opp_lit l ≡ l + 1)) ⊎ ((l % 2 ≡ 1) × (opp_lit l ≡ l - 1))
opp_either l = ⊎_elim (λ e. inl (e, opp_even l e)) (λ e. inr (omega arith, opp_odd l e)) (cases_eq (l % 2) 0)

pub opp_lit_opp : (l : ℕ) → opp_lit (opp_lit l) ≡ l
opp_lit_opp l = ⊎_elim
    (λ e. ⊎_elim (λ f. omega arith) (λ f. omega arith) (opp_either (opp_lit l)))
    (λ e. ⊎_elim (λ f. omega arith) (λ f. omega arith) (opp_either (opp_lit l)))
    (opp_either l)

-- a number whose literal is the opposite is the opposite number
pub opp_is : (l r : ℕ) → lit r ≡ opposite (lit l) → r ≡ opp_lit l
unfolding opp_lit
opp_is l r e = sym (code_lit r) ∙ ap code e

pub opp_lit_byte : (l : ℕ) → l < 256 → opp_lit l < 256
opp_lit_byte l h = ⊎_elim (λ e. omega arith) (λ e. omega arith) (opp_either l)

pub opp_lit_small : (l : ℕ) → l < 128 → opp_lit l < 128
opp_lit_small l h = ⊎_elim (λ e. omega arith) (λ e. omega arith) (opp_either l)

pub opp_ranged : (T : ℕ) (x : Mark) → ranged T x ≡ true → ranged T (opp x) ≡ true
opp_ranged T (Fact t l) h = let a = and_parts _ _ h in and_from _ _ a.0 (lt-ltb _ _ (opp_lit_small l (ltb-true l 128 a.1)))
opp_ranged T (Taken t l) h = h
opp_ranged T (LeftOut t l) h = h

pub opp_opp : (x : Mark) → opp (opp x) ≡ x
opp_opp (Fact t l) = ap (λ (k : ℕ). Fact t k) (opp_lit_opp l)
opp_opp (Taken t o) = refl
opp_opp (LeftOut t o) = refl

-- ---- membership in the trail

pub in_trail_prefix : (r q : List Mark) (n : ℕ) → ((i : ℕ) → i < n → mark_at r i ≡ mark_at q i) → (y : Mark) → in_trail r n y ≡ in_trail q n y
unfolding in_trail
in_trail_prefix r q zero e y = refl
in_trail_prefix r q (suc n) e y = ap₂ (λ (m : Mark) (b : Bool). same m y || b) (e n (omega arith)) (in_trail_prefix r q n (λ i h. e i (omega arith)) y)

pub in_trail_more : (r : List Mark) (n : ℕ) (y : Mark) → in_trail r (n + 1) y ≡ (same (mark_at r n) y || in_trail r n y)
unfolding in_trail
in_trail_more r n y = ap (λ (k : ℕ). in_trail r k y) (add-one n)

pub set_at : (r : List Mark) (n : ℕ) (x : Mark) → n < length r → mark_at (set r n x) n ≡ x
set_at r n x h = get_or-set_same r n x (Fact 0 0) h

pub set_off : (r : List Mark) (n : ℕ) (x : Mark) (i : ℕ) → i ≢ n → mark_at (set r n x) i ≡ mark_at r i
set_off r n x i h = get_or-set_other r n i x (Fact 0 0) h

pub in_trail_push : (r : List Mark) (n : ℕ) (x y : Mark) → n < length r → in_trail (set r n x) (n + 1) y ≡ (same x y || in_trail r n y)
in_trail_push r n x y h = in_trail_more (set r n x) n y
    ∙ ap₂ (λ (m : Mark) (b : Bool). same m y || b) (set_at r n x h) (in_trail_prefix (set r n x) r n (λ i k. set_off r n x i (omega arith)) y)

pub at_in_trail : (r : List Mark) (n i : ℕ) → i < n → in_trail r n (mark_at r i) ≡ true
unfolding in_trail
at_in_trail r zero i h = absurd (omega arith)
at_in_trail r (suc n) i h = ⊎_elim
    (λ (e : i ≡ n). or_left _ _ (subst (λ (k : ℕ). same (mark_at r n) (mark_at r k) ≡ true) (sym e) (same_self (mark_at r n))))
    (λ e. or_right _ _ (at_in_trail r n i (omega arith)))
    (cases_eq i n)

-- ---- what a mark speaks of

pub slot_small : (T : ℕ) (x : Mark) → T ≤ 32 → ranged T x ≡ true → slot x < 10304
unfolding slot
slot_small T (Fact t l) h k = let a = and_parts _ _ k in let b = leb-true t T a.0 in let d = ltb-true l 128 a.1 in omega arith
slot_small T (Taken t l) h k = let a = and_parts _ _ k in let b = ltb-true t T a.0 in let d = ltb-true l 256 a.1 in omega arith
slot_small T (LeftOut t l) h k = let a = and_parts _ _ k in let b = ltb-true t T a.0 in let d = ltb-true l 256 a.1 in omega arith

-- two marks that speak of the same thing are the same or opposite
pub slot_same : (T : ℕ) (x y : Mark) → T ≤ 32 → ranged T x ≡ true → ranged T y ≡ true → slot x ≡ slot y → (x ≡ y) ⊎ (x ≡ opp y)
unfolding slot
slot_same T (Fact t l) (Fact u k) h p q e =
    let a = and_parts _ _ p in let b = and_parts _ _ q in
    let lb = ltb-true l 128 a.1 in let kb = ltb-true k 128 b.1 in
    let tu : t ≡ u = omega arith in
    let half : l / 2 ≡ k / 2 = omega arith in
    ⊎_elim (λ (z : l ≡ k). inl (ap₂ Fact tu z))
    (λ z. inr (ap₂ Fact tu (⊎_elim (λ w. omega arith) (λ w. omega arith) (opp_either k))))
    (cases_eq l k)
slot_same T (Fact t l) (Taken u k) h p q e = let a = and_parts _ _ p in let b = leb-true t T a.0 in let d = ltb-true l 128 a.1 in absurd (omega arith)
slot_same T (Fact t l) (LeftOut u k) h p q e = let a = and_parts _ _ p in let b = leb-true t T a.0 in let d = ltb-true l 128 a.1 in absurd (omega arith)
slot_same T (Taken u k) (Fact t l) h q p e = let a = and_parts _ _ p in let b = leb-true t T a.0 in let d = ltb-true l 128 a.1 in absurd (omega arith)
slot_same T (LeftOut u k) (Fact t l) h q p e = let a = and_parts _ _ p in let b = leb-true t T a.0 in let d = ltb-true l 128 a.1 in absurd (omega arith)
slot_same T (Taken t l) (Taken u k) h p q e =
    let lb = ltb-true l 256 (and_parts _ _ p).1 in let kb = ltb-true k 256 (and_parts _ _ q).1 in
    inl (ap₂ Taken (omega arith) (omega arith))
slot_same T (LeftOut t l) (LeftOut u k) h p q e =
    let lb = ltb-true l 256 (and_parts _ _ p).1 in let kb = ltb-true k 256 (and_parts _ _ q).1 in
    inl (ap₂ LeftOut (omega arith) (omega arith))
slot_same T (Taken t l) (LeftOut u k) h p q e =
    let lb = ltb-true l 256 (and_parts _ _ p).1 in let kb = ltb-true k 256 (and_parts _ _ q).1 in
    inr (ap₂ Taken (omega arith) (omega arith))
slot_same T (LeftOut t l) (Taken u k) h p q e =
    let lb = ltb-true l 256 (and_parts _ _ p).1 in let kb = ltb-true k 256 (and_parts _ _ q).1 in
    inr (ap₂ LeftOut (omega arith) (omega arith))

-- ---- one mark more, of something that has none

module _ (T : ℕ) (r : List Mark) (n : ℕ) (x : Mark) (short : T ≤ 32) (ok : AllRanged T r n) (apart : Apart r n) (okx : ranged T x ≡ true)
    (free : in_trail r n x ≡ false) (unopposed : in_trail r n (opp x) ≡ false) where
  pub fresh : (i : ℕ) → i < n → slot (mark_at r i) ≡ slot x → ⊥
  fresh i h e = ⊎_elim
      (λ q. both_ways _ free (subst (λ (m : Mark). in_trail r n m ≡ true) q (at_in_trail r n i h)))
      (λ q. both_ways _ unopposed (subst (λ (m : Mark). in_trail r n m ≡ true) q (at_in_trail r n i h)))
      (slot_same T (mark_at r i) x short (ok i h) okx e)

  slots : ℕ → ℕ
  slots i = cond (eqb i n) (slot x) (slot (mark_at r i))

  slots_at : slots n ≡ slot x
  unfolding slots
  slots_at = cond-true _ _ _ (eq-eqb n n refl)

  slots_below : (i : ℕ) → i < n → slots i ≡ slot (mark_at r i)
  unfolding slots
  slots_below i h = cond-false _ _ _ (ne_eqb i n (λ e. omega arith))

  -- there is room for it
  pub has_room : n < 10304
  has_room = pigeon 10304 slots (suc n)
      (λ i h. ⊎_elim (λ (e : i ≡ n). subst (λ (k : ℕ). slots k < 10304) (sym e) (subst (λ (k : ℕ). k < 10304) (sym slots_at) (slot_small T x short okx)))
      (λ e. subst (λ (k : ℕ). k < 10304) (sym (slots_below i (omega arith))) (slot_small T (mark_at r i) short (ok i (omega arith)))) (cases_eq i n))
      (λ i j h k e. ⊎_elim
      (λ (q : j ≡ n). fresh i (omega arith) (sym (slots_below i (omega arith)) ∙ e ∙ ap slots q ∙ slots_at))
      (λ q. apart i j h (omega arith) (sym (slots_below i (omega arith)) ∙ e ∙ slots_below j (omega arith))) (cases_eq j n))

  module _ (room : n < length r) where
    pub ranged_push : AllRanged T (set r n x) (n + 1)
    ranged_push i h = ⊎_elim
        (λ (e : i ≡ n). subst (λ (k : ℕ). ranged T (mark_at (set r n x) k) ≡ true) (sym e) (ap (ranged T) (set_at r n x room) ∙ okx))
        (λ e. ap (ranged T) (set_off r n x i e) ∙ ok i (omega arith)) (cases_eq i n)

    pub apart_push : Apart (set r n x) (n + 1)
    apart_push i j h k e = ⊎_elim
        (λ (q : j ≡ n). fresh i (omega arith) (ap slot (sym (set_off r n x i (λ z. omega arith))) ∙ e ∙ ap (λ (m : ℕ). slot (mark_at (set r n x) m)) q ∙ ap slot (set_at r n x room)))
        (λ q. apart i j h (omega arith) (ap slot (sym (set_off r n x i (λ z. omega arith))) ∙ e ∙ ap slot (set_off r n x j q))) (cases_eq j n)

-- ---- no two marks of the trail are opposite

pub find_in : (r : List Mark) (n : ℕ) (x : Mark) → in_trail r n x ≡ true → (i : ℕ) × (i < n) × (mark_at r i ≡ x)
unfolding in_trail
find_in r zero x h = absurd (both_ways false refl h)
find_in r (suc n) x h = ⊎_elim
    (λ e. (n, omega arith, same_is (mark_at r n) x e))
    (λ e. let w = find_in r n x e in (w.0, omega arith, w.2))
    (or_cases (same (mark_at r n) x) (in_trail r n x) h)

pub slot_opp : (x : Mark) → slot (opp x) ≡ slot x
unfolding slot
slot_opp (Fact t l) = ⊎_elim (λ e. omega arith) (λ e. omega arith) (opp_either l)
slot_opp (Taken t o) = refl
slot_opp (LeftOut t o) = refl

opp_differs : (x : Mark) → opp x ≡ x → ⊥
opp_differs (Fact t l) e = let k : opp_lit l ≡ l = cc in ⊎_elim (λ q. omega arith) (λ q. omega arith) (opp_either l)
opp_differs (Taken t o) e = cc
opp_differs (LeftOut t o) e = cc

pub never_both_in : (r : List Mark) (n : ℕ) → Apart r n → (x : Mark) → in_trail r n x ≡ true → in_trail r n (opp x) ≡ true → ⊥
never_both_in r n apart x h k =
    let i = find_in r n x h in let j = find_in r n (opp x) k in
    let e : slot (mark_at r i.0) ≡ slot (mark_at r j.0) = ap slot i.2 ∙ sym (slot_opp x) ∙ ap slot (sym j.2) in
    ⊎_elim
    (λ (q : i.0 ≡ j.0). opp_differs x (sym j.2 ∙ ap (mark_at r) (sym q) ∙ i.2))
    (λ q. ⊎_elim (λ z. apart i.0 j.0 z j.1 e) (λ z. apart j.0 i.0 z i.1 (sym e)) q)
    (cases_order i.0 j.0)

-- ---- one mark less

pub in_trail_pop : (r : List Mark) (n k : ℕ) → n ≡ k + 1 → Apart r n → (x : Mark) → (in_trail r n x && not (same (mark_at r k) x)) ≡ in_trail r k x
in_trail_pop r n k e apart x = ap (λ (m : ℕ). in_trail r m x && not (same (mark_at r k) x)) e
    ∙ ap (λ (b : Bool). b && not (same (mark_at r k) x)) (in_trail_more r k x) ∙ go (same (mark_at r k) x) refl
  where
    gone : same (mark_at r k) x ≡ true → in_trail r k x ≡ true → ⊥
    gone q h = let i = find_in r k x h in
        apart i.0 k i.1 (omega arith) (ap slot (i.2 ∙ sym (same_is (mark_at r k) x q)))

    go : (s : Bool) → same (mark_at r k) x ≡ s → ((s || in_trail r k x) && not s) ≡ in_trail r k x
    go true q = ⊎_elim (λ h. absurd (gone q h)) (λ h. sym h) (cases_Bool (in_trail r k x))
    go false q = and-true (in_trail r k x)
