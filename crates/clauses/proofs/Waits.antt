-- What awaits another look, and why nothing is missed. Assumes nothing.
use Rattle.std.proofs.Common.{◌≡◌, ℕ, ◌<◌, ◌≤◌, min, Bool, true, false, not, ◌&&◌, ◌||◌, eqb, ltb, ◌⊎◌, List, [], ◌∷◌, ◌++◌, length, take, sym, refl, ap, ◌∙◌, subst, inl, inr, ⊎_elim, arith}
use Rattle.std.proofs.lemmas.Bool.{cases_Bool, both_ways, or_parts, not-false, or_left}
use Rattle.std.proofs.lemmas.Bool.Decides.{nat_tests}
use Rattle.sets.specs.Literals.{Literal, pos, neg, opposite, fact, lit, code}
use Rattle.sets.specs.Sets.{lit_in}
use Rattle.sets.specs.declared.facts.LiteralSet.{LiteralSet}
use Rattle.sets.proofs.Literals.{lit_code, code_lit}
use Rattle.model.specs.Problems.{Problem, InRange, step, steps}
use Rattle.model.specs.Clauses.{Clause}
use Rattle.clauses.specs.declared.pairs.Pairs.{Pairs}
use Rattle.clauses.specs.declared.record.ClauseRecord.{ClauseRecord}
use Rattle.clauses.specs.declared.waiting.Waiting.{Waiting}
use Rattle.clauses.specs.declared.waiting.Touched.{Touched}
use Rattle.clauses.specs.Pairs.{rel, load}
use Rattle.clauses.specs.Striking.{Cut, Spoilt, Good, Settled, Looks}
use Rattle.clauses.specs.Waiting.{kept_in, On, waiting, Held, Idle, NoneLooks, one_if, size, Noted, Struck, Caught, Gathered, Due, Moved, Visited, Ready}
use Rattle.clauses.proofs.Theory.{cut_none, cut_more, cut_by, good_after, later, settled_within}

on_front : (x : ℕ × ℕ) (xs ys : List (ℕ × ℕ)) → On x xs → On x (xs ++ ys)
on_front x [] ys h = elim h [ ]
on_front x (z ∷ xs) ys (inl e) = inl e
on_front x (z ∷ xs) ys (inr h) = inr (on_front x xs ys h)

on_last : (x : ℕ × ℕ) (xs : List (ℕ × ℕ)) → On x (xs ++ x ∷ [])
on_last x [] = inl refl
on_last x (z ∷ xs) = inr (on_last x xs)

on_split : (x y : ℕ × ℕ) (xs : List (ℕ × ℕ)) → On x (xs ++ y ∷ []) → On x xs ⊎ (x ≡ y)
on_split x y [] (inl e) = inr e
on_split x y [] (inr h) = elim h [ ]
on_split x y (z ∷ xs) (inl e) = inl (inl e)
on_split x y (z ∷ xs) (inr h) = ⊎_elim (λ q. inl (inr q)) inr (on_split x y xs h)

-- one more on the stack
pub held_more : (r r' : Waiting) (z : ℕ × ℕ) → waiting r' ≡ waiting r ++ z ∷ [] → (x y : ℕ) → Held r x y → Held r' x y
unfolding Held
held_more r r' z e x y h = subst (On (x, y)) (sym e) (on_front (x, y) (waiting r) (z ∷ []) h)

pub held_last : (r r' : Waiting) (x y : ℕ) → waiting r' ≡ waiting r ++ (x, y) ∷ [] → Held r' x y
unfolding Held
held_last r r' x y e = subst (On (x, y)) (sym e) (on_last (x, y) (waiting r))

pub held_same : (r r' : Waiting) → waiting r' ≡ waiting r → (x y : ℕ) → Held r x y → Held r' x y
unfolding Held
held_same r r' e x y h = subst (On (x, y)) (sym e) h

pub held_split : (r r' : Waiting) (a b : ℕ) → waiting r ≡ waiting r' ++ (a, b) ∷ [] → (x y : ℕ) → Held r x y → Held r' x y ⊎ (◌≡◌ {A = ℕ × ℕ} (x, y) (a, b))
unfolding Held
held_split r r' a b e x y h = on_split (x, y) (a, b) (waiting r') (subst (On (x, y)) e h)

pub none_held : (r : Waiting) → r.len ≡ 0 → (x y : ℕ) → Held r x y → ⊥
unfolding Held
none_held r e x y h = subst (On (x, y)) (ap (λ (n : ℕ). take n r.pairs) e) h

-- ---- sizes

one_if_small : (b : Bool) → one_if b ≤ 1
one_if_small true = omega arith
one_if_small false = omega arith

pub size_fell : (r r' : ClauseRecord) → load r'.pairs < load r.pairs → size r' ≤ size r
unfolding size
size_fell r r' h = omega (arith, r'.waiting.fits, one_if_small r'.waiting.all)

-- whatever awaited is taken up, and something did
pub size_idle : (r r' : ClauseRecord) → r'.pairs ≡ r.pairs → Idle r'.waiting → (Idle r.waiting → ⊥) → size r' < size r
unfolding size
size_idle r r' e idle busy = grind (arith, idle.0, idle.1)

-- ---- notes

pub noted_none : (w : Waiting) → Noted w w
noted_none w = record { held = λ x y h. h; all = λ e. e }

pub noted_more : (u v w : Waiting) → Noted u v → Noted v w → Noted u w
noted_more u v w a b = record { held = λ x y h. b.held x y (a.held x y h); all = λ e. a.all (b.all e) }

-- ---- strikes

pub struck_none : (r : ClauseRecord) (G : Literal → Literal → Type 0) → Struck r r G
struck_none r G = record {
  facts = refl;
  cut = cut_none (kept_in r) G;
  noted = noted_none r.waiting;
  logged = λ k x q h f. absurd (both_ways (kept_in r k x) f h);
  less = omega arith;
}

pub struck_more : (r s t : ClauseRecord) (G : Literal → Literal → Type 0) → Struck r s G → Struck s t G → Struck r t G
struck_more r s t G a b = record {
  facts = b.facts ∙ a.facts;
  cut = cut_more (kept_in r) (kept_in s) (kept_in t) G a.cut b.cut;
  noted = noted_more r.waiting s.waiting t.waiting a.noted b.noted;
  logged = λ k x q h f. go k x q h f (cases_Bool (kept_in s k x));
  less = omega (arith, a.less, b.less);
}
  where
    go : (k x : Literal) → t.waiting.all ≡ false → Clause (kept_in r) k x → kept_in t k x ≡ false → (kept_in s k x ≡ true) ⊎ (kept_in s k x ≡ false)
        → Held t.waiting (code k) (code x) ⊎ Held t.waiting (code x) (code k)
    go k x q h f (inl e) = b.logged k x q e f
    go k x q h f (inr e) = ⊎_elim (λ u. inl (b.noted.held (code k) (code x) u)) (λ u. inr (b.noted.held (code x) (code k) u)) (a.logged k x (b.noted.all q) h e)

pub struck_by : (r s : ClauseRecord) (G H : Literal → Literal → Type 0) → ((a b : Literal) → G a b → H a b) → Struck r s G → Struck r s H
struck_by r s G H f a = record {
  facts = a.facts;
  cut = cut_by (kept_in r) (kept_in s) G H f a.cut;
  noted = a.noted;
  logged = a.logged;
  less = a.less;
}

-- one pair struck and noted
pub struck_one : (r r' : ClauseRecord) (m : Pairs) (a b : ℕ) → Cut (kept_in r) (rel m) (λ k x. (code k ≡ a) × (code x ≡ b)) → load m < load r.pairs
    → r'.facts ≡ r.facts → r'.pairs ≡ m → Noted r.waiting r'.waiting → (r'.waiting.all ≡ false → Held r'.waiting a b) → Struck r r' (λ k x. (code k ≡ a) × (code x ≡ b))
struck_one r r' m a b cut falls facts same noted note = record {
  facts = facts;
  cut = subst (λ (n : Pairs). Cut (kept_in r) (rel n) (λ k x. (code k ≡ a) × (code x ≡ b))) (sym same) cut;
  noted = noted;
  logged = λ k x q h f. ⊎_elim
      (λ e. inl (at (code k) (code x) e.0 e.1 (note q))) (λ e. inr (at (code x) (code k) e.0 e.1 (note q)))
      (cut.only k x h (ap (λ (n : Pairs). rel n k x) (sym same) ∙ f));
  less = size_fell r r' (subst (λ (n : Pairs). load n < load r.pairs) (sym same) falls);
}
  where
    at : (x y : ℕ) → x ≡ a → y ≡ b → Held r'.waiting a b → Held r'.waiting x y
    at x y e q h = subst (λ (n : ℕ). Held r'.waiting n y) (sym e) (subst (λ (n : ℕ). Held r'.waiting a n) (sym q) h)

-- ---- one step looked at

looks_swap : (p : Problem) (o : ℕ) (a b : Literal) → Looks p o a b → Looks p o b a
looks_swap p o a b (inl h) = inr (inl h)
looks_swap p o a b (inr (inl h)) = inl h
looks_swap p o a b (inr (inr e)) = inr (inr (sym e))

looks_at : (p : Problem) (o : ℕ) (a b : Literal) → Looks p o a b → Looks p o (lit (code a)) (lit (code b))
looks_at p o a b h = subst (λ (x : Literal). Looks p o x (lit (code b))) (sym (lit_code a)) (subst (λ (y : Literal). Looks p o a y) (sym (lit_code b)) h)

module _ (p : Problem) (o : ℕ) (r r' : ClauseRecord) (e : Struck r r' (Spoilt p o (kept_in r))) where
  unlooked : (o' : ℕ) → r'.waiting.all ≡ false → NoneLooks p r'.waiting o'
      → (a b : Literal) → Clause (kept_in r) a b → kept_in r' a b ≡ false → Looks p o' a b → ⊥
  unlooked o' q none a b h f look = ⊎_elim
      (λ w. none (code a) (code b) w (looks_at p o' a b look))
      (λ w. none (code b) (code a) w (looks_at p o' b a (looks_swap p o' a b look)))
      (e.logged a b q h f)

  pub here_after : Settled p (kept_in r) (kept_in r') o → r'.waiting.all ≡ false → NoneLooks p r'.waiting o → Settled p (kept_in r') (kept_in r') o
  here_after s q none = later p o (kept_in r) (kept_in r') (unlooked o q none) s

  pub moved_after : Moved p r r'
  moved_after = record {
    facts = e.facts;
    good = λ g. good_after p o (kept_in r) (kept_in r') g e.cut;
    noted = e.noted;
    less = e.less;
    carried = λ o' q none s. later p o' (kept_in r) (kept_in r') (unlooked o' q none)
        (settled_within p o' (kept_in r) (kept_in r') e.cut.within s);
  }

-- ---- moves

pub moved_none : (p : Problem) (r : ClauseRecord) → Moved p r r
moved_none p r = record { facts = refl; good = λ g. g; noted = record { held = λ x y h. h; all = λ e. e }; carried = λ o q n s. s; less = omega arith }

pub moved_more : (p : Problem) (r s t : ClauseRecord) → Moved p r s → Moved p s t → Moved p r t
moved_more p r s t m n = record {
  facts = n.facts ∙ m.facts;
  good = λ g. n.good (m.good g);
  noted = noted_more r.waiting s.waiting t.waiting m.noted n.noted;
  carried = λ o q none x. n.carried o q none (m.carried o (n.noted.all q) (λ x y h. none x y (n.noted.held x y h)) x);
  less = omega (arith, m.less, n.less);
}

pub visited_more : (p : Problem) (r s t : ClauseRecord) (o : ℕ) (D : Type 0) → Moved p s t → Visited p r s o D → Visited p r t o D
visited_more p r s t o D n v q none h = n.carried o q none (v (n.noted.all q) (λ x y k. none x y (n.noted.held x y k)) h)

pub visited_here : (p : Problem) (r s t : ClauseRecord) (o : ℕ) (D : Type 0) → Moved p r s → Moved p s t → Visited p s t o D → Visited p r t o D
visited_here p r s t o D m n v q none h =
    v q none (λ nl. m.carried o (n.noted.all q) (λ x y k. none x y (n.noted.held x y k)) (h nl))

-- ---- what awaited, taken up

-- one pair taken up
pub caught_more : (s t : Waiting) (a b : ℕ) (touched more : LiteralSet) → waiting s ≡ waiting t ++ (a, b) ∷ []
    → ((l : Literal) → lit_in touched l ≡ true → lit_in more l ≡ true)
    → (a < 128 → lit_in more (opposite (lit a)) ≡ true) → (b < 128 → lit_in more (opposite (lit b)) ≡ true) → (a ≡ b → ⊥)
    → (x y : ℕ) → Held s x y ⊎ Caught touched x y → Held t x y ⊎ Caught more x y
caught_more s t a b touched more w grows ha hb n x y (inr c) = inr (c.0, λ l. grows _ (c.1 l), λ l. grows _ (c.2 l))
caught_more s t a b touched more w grows ha hb n x y (inl h) = ⊎_elim inl
    (λ e. inr (subst (λ (z : ℕ × ℕ). Caught more z.0 z.1) (sym e) (n, ha, hb))) (held_split s t a b w x y h)

-- a literal's opposite put in by its number
pub insert_has : (s s' : LiteralSet) (n a : ℕ) → ((l : Literal) → lit_in s' l ≡ (lit_in s l || (ltb n 128 && eqb (code l) n)))
    → n < 128 → lit n ≡ opposite (lit a) → lit_in s' (opposite (lit a)) ≡ true
insert_has s s' n a is small e = let q = is (opposite (lit a)) in let w : code (opposite (lit a)) ≡ n = ap code (sym e) ∙ code_lit n in grind (arith, nat_tests)

pub insert_keeps : (s s' : LiteralSet) (n : ℕ) → ((l : Literal) → lit_in s' l ≡ (lit_in s l || (ltb n 128 && eqb (code l) n)))
    → (l : Literal) → lit_in s l ≡ true → lit_in s' l ≡ true
insert_keeps s s' n is l h = is l ∙ or_left (lit_in s l) _ h

small_code : (l : Literal) → fact l < 64 → code l < 128
unfolding code
small_code (pos f) h = omega arith
small_code (neg f) h = omega arith

opposite_small : (a : ℕ) → fact (opposite (lit a)) < 64 → a < 128
opposite_small a h = go (lit a) refl h
  where
    go : (l : Literal) → lit a ≡ l → fact (opposite l) < 64 → a < 128
    go (pos f) e h = let q : a ≡ code (pos f) = sym (code_lit a) ∙ ap code e in let k = small_code (pos f) h in omega arith
    go (neg f) e h = let q : a ≡ code (neg f) = sym (code_lit a) ∙ ap code e in let k = small_code (neg f) h in omega arith

-- a step that looks at a pair that was taken up is due
caught_due : (p : Problem) (o : ℕ) (touched : Touched) (x y : ℕ) → p.facts ≤ 64 → InRange p (step p o).needs
    → Caught touched.needs x y → Looks p o (lit x) (lit y) → Due p o touched
caught_due p o touched x y few range c (inl h) = inr (opposite (lit x), h, c.1 (opposite_small x (omega (arith, range (opposite (lit x)) h))))
caught_due p o touched x y few range c (inr (inl h)) = inr (opposite (lit y), h, c.2 (opposite_small y (omega (arith, range (opposite (lit y)) h))))
caught_due p o touched x y few range c (inr (inr e)) = absurd (c.0 (sym (code_lit x) ∙ ap code e ∙ code_lit y))

-- r: before; u: all that awaited taken up; t: after the steps that were due
pub ready_round : (p : Problem) (r u t : ClauseRecord) (touched : Touched) → p.facts ≤ 64 → ((o : ℕ) → InRange p (step p o).needs)
    → Gathered r.waiting u.waiting touched → u.pairs ≡ r.pairs → Moved p u t
    → ((o : ℕ) → o < steps p → Visited p u t o (Due p o touched)) → Ready p r → Ready p t
ready_round p r u t touched few range g pairs m v k = record { good = m.good good; awaits = λ o l q none. v o l q none (λ nd. settled o l nd (cases_Bool touched.all)) }
  where
    good : Good p (kept_in u)
    good = subst (λ (x : Pairs). Good p (rel x)) (sym pairs) k.good

    settled : (o : ℕ) → o < steps p → (Due p o touched → ⊥) → (touched.all ≡ true) ⊎ (touched.all ≡ false) → Settled p (kept_in u) (kept_in u) o
    settled o l nd (inl e) = absurd (nd (inl e))
    settled o l nd (inr e) = subst (λ (x : Pairs). Settled p (rel x) (rel x) o) (sym pairs)
        (k.awaits o l (g.all e) (λ x y h look. nd (caught_due p o touched x y few (range o) (g.caught x y h e) look)))

pub falls_round : (p : Problem) (r u t : ClauseRecord) → u.pairs ≡ r.pairs → Idle u.waiting → (Idle r.waiting → ⊥) → Moved p u t → size t < size r
falls_round p r u t e idle busy m = omega (arith, size_idle r u e idle busy, m.less)

-- ---- the stack

-- no more await than the table holds
pub resumes : (r : Waiting) → min r.len (length r.pairs) ≡ r.len
resumes r = omega (arith, r.fits, r.sized)

-- one pair put on the stack, or all steps await
pub noted_push : (w w' : Waiting) (a b : ℕ) (ok : Bool) → (ok ≡ true → waiting w' ≡ waiting w ++ (a, b) ∷ []) → (ok ≡ false → waiting w' ≡ waiting w)
    → w'.all ≡ (w.all || not ok) → Noted w w' × (w'.all ≡ false → Held w' a b)
noted_push w w' a b ok more same all = (
  record { held = λ x y h. ⊎_elim (λ q. held_more w w' (a, b) (more q) x y h) (λ q. held_same w w' (same q) x y h) (cases_Bool ok); all = λ q. (or_parts _ _ (sym all ∙ q)).0 },
  λ q. held_last w w' a b (more (not-false ok (or_parts _ _ (sym all ∙ q)).1)),
)
