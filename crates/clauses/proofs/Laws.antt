-- The laws of a table of pairs.
use Rattle.std.proofs.Common.{◌≡◌, ℕ, zero, suc, ◌+◌, ◌/◌, ◌%◌, ◌<◌, ◌≤◌, Bool, true, false, cond, not, ◌&&◌, ◌||◌, eqb, ltb, ◌⊎◌, List, length, get_or, set, replicate, sym, refl, ap, ◌∙◌, subst, inl, inr, ⊎_elim, arith, get_or-set_other, get_or-set_same}
use Rattle.std.proofs.lemmas.Bool.{cases_lt, both_ways}
use Rattle.std.proofs.lemmas.Bool.Decides.{nat_tests}
use Rattle.std.proofs.lemmas.List.{get_or_past}
use Rattle.sets.specs.Literals.{Literal, pos, neg, fact, code, lit}
use Rattle.model.specs.Problems.{Problem, StartLiterals, value, start_state}
use Rattle.clauses.specs.Striking.{Good}
use Rattle.sets.specs.Sets.{fact_in, lit_in, no_literals}
use Rattle.sets.proofs.Bits.{has_zero}
use Rattle.sets.proofs.Literals.{code_lit, lit_code}
use Rattle.sets.specs.declared.facts.LiteralSet.{LiteralSet}
use Rattle.clauses.specs.declared.pairs.Pairs.{Pairs}
use Rattle.clauses.specs.Pairs.{rel}

pub row_of : (m : Pairs) (a : ℕ) (l : Literal) → lit_in (get_or m.rows a no_literals) l ≡ rel m (lit a) l
unfolding rel
row_of m a l = ap (λ (n : ℕ). lit_in (get_or m.rows n no_literals) l) (sym (code_lit a))

pub no_literal_in : (l : Literal) → lit_in no_literals l ≡ false
unfolding lit_in fact_in
no_literal_in (pos f) = has_zero f
no_literal_in (neg f) = has_zero f

beyond_is_none : (n k : ℕ) (x : LiteralSet) → x ≡ no_literals → get_or (replicate n x) k no_literals ≡ no_literals
beyond_is_none zero k x e = refl
beyond_is_none (suc n) zero x e = e
beyond_is_none (suc n) (suc k) x e = beyond_is_none n k x e

-- a table of empty rows
pub no_pairs : (n k : ℕ) (x : LiteralSet) → x ≡ no_literals → (l : Literal) → lit_in (get_or (replicate n x) k no_literals) l ≡ false
no_pairs n k x e l = ap (λ (s : LiteralSet). lit_in s l) (beyond_is_none n k x e) ∙ no_literal_in l

pub rel_narrow : (m : Pairs) (k l : Literal) → rel m k l ≡ true → code k < 128
unfolding rel
rel_narrow m k l h = let past = get_or_past m.rows (code k) no_literals in let none = no_literal_in l in grind (arith, m.sized, both_ways)

-- past the end of the table there are no pairs
pub row_past : (m : Pairs) (a : ℕ) → 128 ≤ a → (l : Literal) → rel m (lit a) l ≡ false
unfolding rel
row_past m a h l =
    let e = get_or_past m.rows (code (lit a)) no_literals (omega (arith, m.sized, code_lit a)) in ap (λ (s : LiteralSet). lit_in s l) e ∙ no_literal_in l

-- one literal left out of one row
pub struck_row : (xs : List LiteralSet) (a b : ℕ) (s : LiteralSet) → a < length xs
    → ((l : Literal) → lit_in s l ≡ (lit_in (get_or xs a no_literals) l && not (eqb (code l) b))) → (k l : Literal)
    → lit_in (get_or (set xs a s) (code k) no_literals) l ≡ (lit_in (get_or xs (code k) no_literals) l && not (eqb (code k) a && eqb (code l) b))
struck_row xs a b s h f k l = grind (arith, nat_tests, get_or-set_same, get_or-set_other, f l)

-- ---- a walk over the literals by their numbers

-- what holds of the members before number `from`, and of number a, holds of those before a + 1 where there are none between
pub walk_lit : (P : Literal → Type 0) (s : LiteralSet) (from a : ℕ) → ((x : Literal) → code x < from → lit_in s x ≡ true → P x)
    → ((b : ℕ) → from ≤ b → b < a → lit_in s (lit b) ≡ false) → P (lit a) → (x : Literal) → code x < a + 1 → lit_in s x ≡ true → P x
walk_lit P s from a f gap here x lt m = go (cases_lt (code x) from) (cases_lt (code x) a)
  where
    go : (code x < from) ⊎ (from ≤ code x) → (code x < a) ⊎ (a ≤ code x) → P x
    go (inl l) k = f x l m
    go (inr l) (inl k) = absurd (both_ways (lit_in s x) (ap (lit_in s) (sym (lit_code x)) ∙ gap (code x) l k) m)
    go (inr l) (inr k) = let e : code x ≡ a = omega arith in subst P (ap lit (sym e) ∙ lit_code x) here

-- at the walk's end every member was met
pub walk_end : (s : LiteralSet) (from : ℕ) → ((b : ℕ) → from ≤ b → lit_in s (lit b) ≡ false) → (x : Literal) → lit_in s x ≡ true → code x < from
walk_end s from gap x m = go (cases_lt (code x) from)
  where
    go : (code x < from) ⊎ (from ≤ code x) → code x < from
    go (inl l) = l
    go (inr l) = absurd (both_ways (lit_in s x) (ap (lit_in s) (sym (lit_code x)) ∙ gap (code x) l) m)

-- a set built one literal at a time from those that pass
pub single_yes : (r v v' : Bool) (c a : ℕ) → v ≡ (r && ltb c a) → v' ≡ (v || eqb c a) → (c ≡ a → r ≡ true) → v' ≡ (r && ltb c (a + 1))
single_yes r v v' c a e f h = grind (arith, nat_tests)

pub single_no : (r v : Bool) (c a : ℕ) → v ≡ (r && ltb c a) → (c ≡ a → r ≡ false) → v ≡ (r && ltb c (a + 1))
single_no r v c a e h = grind (arith, nat_tests)

-- a pair with itself, at a number
pub self_at : (m : Pairs) (x : Literal) (a : ℕ) (t : Bool) → t ≡ rel m (lit a) (lit a) → code x ≡ a → rel m x x ≡ t
self_at m x a t h e = let q : x ≡ lit a = sym (lit_code x) ∙ ap lit e in ap (λ (y : Literal). rel m y y) q ∙ sym h

pub single_all : (m : Pairs) (x : Literal) (a : ℕ) (v : Bool) → 128 ≤ a → v ≡ (rel m x x && ltb (code x) a) → v ≡ rel m x x
single_all m x a v h e = let n = rel_narrow m x x in grind (arith, nat_tests)

-- ---- the pairs at the start: `all` has the problem's literals, `first` those of them that hold

abbrev pub paired : LiteralSet → LiteralSet → Literal → Literal → Bool
paired all first k x = cond (lit_in first k) (lit_in all x) (cond (lit_in all k) (lit_in first x) false)

module _ (p : Problem) (few : p.facts ≤ 64) (all first : LiteralSet)
    (in_all : (l : Literal) → lit_in all l ≡ ltb (fact l) p.facts)
    (starts : StartLiterals p first) where
  -- a pair is in the table where both are the problem's and one holds
  pub paired_is : (k x : Literal) → paired all first k x ≡ true
      → (fact k < p.facts) × (fact x < p.facts) × ((value (start_state p) k ≡ true) ⊎ (value (start_state p) x ≡ true))
  paired_is k x h = let ak = in_all k in let ax = in_all x in let sk = starts.only k in let sx = starts.only x in grind (arith, nat_tests)

  pub paired_from : (k x : Literal) → fact k < p.facts → fact x < p.facts → (value (start_state p) k ≡ true) ⊎ (value (start_state p) x ≡ true) → paired all first k x ≡ true
  paired_from k x lk lx s = let ak = in_all k in let ax = in_all x in let sk = starts.all k lk in let sx = starts.all x lx in grind (arith, nat_tests)

  code_narrow : (k : Literal) → fact k < 64 → code k < 128
  unfolding code
  code_narrow (pos f) h = omega arith
  code_narrow (neg f) h = omega arith

  pub good_start : (m : Pairs) → ((k x : Literal) → code k < 128 → rel m k x ≡ paired all first k x) → Good p (rel m)
  good_start m is = record {
    in_range = λ a b h. let q = told a b h in (q.0, q.1);
    unordered = λ a b h. let q = told a b h in made b a q.1 q.0 (⊎_elim inr inl q.2);
    at_start = λ a b h. (told a b h).2;
    above = λ V k a b v. let r = k.in_range a b v in made a b r.0 r.1 (k.at_start a b v);
  }
    where
      told : (a b : Literal) → rel m a b ≡ true → (fact a < p.facts) × (fact b < p.facts) × ((value (start_state p) a ≡ true) ⊎ (value (start_state p) b ≡ true))
      told a b h = paired_is a b (sym (is a b (rel_narrow m a b h)) ∙ h)

      made : (a b : Literal) → fact a < p.facts → fact b < p.facts → (value (start_state p) a ≡ true) ⊎ (value (start_state p) b ≡ true) → rel m a b ≡ true
      made a b la lb s = is a b (code_narrow a (omega arith)) ∙ paired_from a b la lb s

pub or_at : (x y z : Bool) → y ≡ z → (x || y) ≡ (x || z)
or_at x y z e = ap (λ (t : Bool). x || t) e

pub and_true_at : (x y : Bool) → x ≡ true → (x && y) ≡ y
and_true_at true y e = refl
and_true_at false y e = absurd (both_ways false refl e)

-- the fact of the literal numbered a
pub fact_lit : (a : ℕ) → fact (lit a) ≡ a / 2
unfolding lit
fact_lit a = go (eqb (a % 2) 0)
  where
    go : (t : Bool) → fact (cond t (pos (a / 2)) (neg (a / 2))) ≡ a / 2
    go true = refl
    go false = refl
