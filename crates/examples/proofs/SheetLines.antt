-- The two-step sheet is read as its job, line by line; of two lines one is of the stated form.
use Rattle.std.proofs.Common.{◌≡◌, ℕ, ◌<◌, Bool, true, false, not, ◌&&◌, ◌||◌, eqb, ltb, leb, List, [], ◌∷◌, length as size, get_or, drop, Some, codes, refl, ap, subst, inl, inr, ⊎_elim, arith}
use Rattle.std.specs.Int.{IsInRange}
use Rattle.std.specs.Fmt.{digits}
use Rattle.std.proofs.lemmas.Bool.{both_ways, and_parts, and_from, or_cases, not-true, leb-true, ltb-true, eq-eqb}
use Rattle.sets.specs.Has.{has}
use Rattle.sets.specs.Sets.{fact_in, lit_in, with_fact, with_literal}
use Rattle.sheet.specs.Entry.{Unknown, Stands}
use Rattle.sheet.specs.Print.{IsName}
use Rattle.sheet.specs.Sheet.{Run}
use Rattle.sheet.specs.Statement.{Statement, version, length, fact, holds, wanted, step, need, make, Prints}
use Rattle.sheet.specs.declared.kind.LineKind.TheVariants as kind_is
use Rattle.examples.specs.Sheets.{SheetStates, Forms}
use Rattle.examples.proofs.PlanTests.{all_below, all_below_at}

-- ---- names, and where they stand

abbrev letter? : ℕ → Bool
letter? b = leb 97 b && leb b 122

abbrev digit? : ℕ → Bool
digit? b = leb 48 b && leb b 57

in_range : (lo hi b : ℕ) → (leb lo b && leb b hi) ≡ true → IsInRange lo hi b
in_range lo hi b e = let a = and_parts (leb lo b) (leb b hi) e in (leb-true lo b a.0, leb-true b hi a.1)

abbrev name? : List ℕ → Bool
name? s = ltb 0 (size s) && (leb (size s) 15 && (letter? (get_or s 0 0) && all_below (size s) (λ i. letter? (get_or s i 0) || digit? (get_or s i 0))))

name_from : (s : List ℕ) → name? s ≡ true → IsName s
name_from s e =
    let each : Bool = all_below (size s) (λ i. letter? (get_or s i 0) || digit? (get_or s i 0)) in
    let a = and_parts (ltb 0 (size s)) (leb (size s) 15 && (letter? (get_or s 0 0) && each)) e in
    let b = and_parts (leb (size s) 15) (letter? (get_or s 0 0) && each) a.1 in
    let c = and_parts (letter? (get_or s 0 0)) each b.1 in
    record {
      some = ltb-true 0 (size s) a.0;
      few = leb-true (size s) 15 b.0;
      first = in_range 97 122 (get_or s 0 0) c.0;
      each = λ i l. ⊎_elim
          (λ h. inl (in_range 97 122 (get_or s i 0) h))
          (λ h. inr (in_range 48 57 (get_or s i 0) h))
          (or_cases (letter? (get_or s i 0)) (digit? (get_or s i 0)) (all_below_at (size s) (λ k. letter? (get_or s k 0) || digit? (get_or s k 0)) c.1 i l));
    }

abbrev same? : List ℕ → List ℕ → Bool
same? [] [] = true
same? [] (y ∷ ys) = false
same? (x ∷ xs) [] = false
same? (x ∷ xs) (y ∷ ys) = eqb x y && same? xs ys

same_itself : (s : List ℕ) → same? s s ≡ true
same_itself [] = refl
same_itself (x ∷ xs) = and_from (eqb x x) (same? xs xs) (eq-eqb x x refl) (same_itself xs)

differ : (s t : List ℕ) → not (same? s t) ≡ true → s ≡ t → ⊥
differ s t e q = both_ways (same? s t) (not-true (same? s t) e) (subst (λ (x : List ℕ). same? s x ≡ true) q (same_itself s))

abbrev none_before? : ℕ → List (List ℕ) → List ℕ → Bool
none_before? i names name = all_below i (λ j. not (same? (get_or names j []) name))

none_before : (i : ℕ) (names : List (List ℕ)) (name : List ℕ) → none_before? i names name ≡ true → (j : ℕ) → j < i → get_or names j [] ≡ name → ⊥
none_before i names name e j l = differ (get_or names j []) name (all_below_at i (λ k. not (same? (get_or names k []) name)) e j l)

unknown : (names : List (List ℕ)) (name : List ℕ) → none_before? (size names) names name ≡ true → Unknown names name
unknown names name e = none_before (size names) names name e

stands : (names : List (List ℕ)) (name : List ℕ) (i : ℕ) → ltb i (size names) ≡ true → get_or names i [] ≡ name → none_before? i names name ≡ true → Stands names name i
stands names name i l here e = (ltb-true i (size names) l, here, none_before i names name e)

-- ---- the sheet

abbrev facts : List (List ℕ)
facts = codes "wet" ∷ codes "done" ∷ []

wet_name : IsName (codes "wet")
wet_name = name_from (codes "wet") refl

done_name : IsName (codes "done")
done_name = name_from (codes "done") refl

wet_stands : Stands facts (codes "wet") 0
wet_stands = stands facts (codes "wet") 0 refl refl refl

done_stands : Stands facts (codes "done") 1
done_stands = stands facts (codes "done") 1 refl refl refl

abbrev the_lines : List Statement
the_lines =
    version 1 ∷ length 2 ∷ fact (codes "wet") ∷ fact (codes "done") ∷ holds (codes "wet") ∷ wanted false (codes "done")
    ∷ step (codes "dry") ∷ need false (codes "wet") ∷ make true (codes "wet")
    ∷ step (codes "fit") ∷ need true (codes "wet") ∷ make false (codes "done") ∷ []

pub sheet_states : SheetStates
unfolding digits has fact_in lit_in with_fact with_literal
sheet_states = record {
  small = leb-true _ 65535 refl;
  lines = the_lines;
  last = Some kind_is.Make;
  run =
      Run.go (omega arith) refl (refl, refl)
      (Run.go (omega arith) refl (omega arith, refl)
      (Run.go wet_name refl (unknown [] (codes "wet") refl, omega arith, refl)
      (Run.go done_name refl (unknown (codes "wet" ∷ []) (codes "done") refl, omega arith, refl)
      (Run.go wet_name refl (0, wet_stands, refl, refl)
      (Run.go done_name refl (1, done_stands, refl, refl)
      (Run.go (name_from (codes "dry") refl) refl (unknown [] (codes "dry") refl, omega arith, refl)
      (Run.go wet_name refl (0, wet_stands, refl, refl)
      (Run.go wet_name refl (0, wet_stands, refl, refl)
      (Run.go (name_from (codes "fit") refl) refl (unknown (codes "dry" ∷ []) (codes "fit") refl, omega arith, refl)
      (Run.go wet_name refl (0, wet_stands, refl, refl)
      (Run.go done_name refl (1, done_stands, refl, refl)
      Run.stop)))))))))));
  same = refl;
  ends = refl;
}

-- ---- lines

-- the byte at a place, the same in both
byte : (s t : List ℕ) (i : ℕ) → s ≡ t → get_or s i 0 ≡ get_or t i 0
byte s t i e = ap (λ (x : List ℕ). get_or x i 0) e

none_prints : (t : Statement) → Prints t (codes "n Gap") → ⊥
none_prints (version n) h = omega (arith, byte _ _ 0 h.whole)
none_prints (length n) h = omega (arith, byte _ _ 0 h.whole)
none_prints (fact name) h = omega (arith, byte _ _ 0 h.whole)
none_prints (holds name) h = omega (arith, byte _ _ 0 h.whole)
none_prints (wanted b name) h = omega (arith, byte _ _ 0 h.whole)
none_prints (step name) h = omega (arith, byte _ _ 0 h.whole)
none_prints (need true name) h = omega (arith, byte _ _ 2 h.whole)
none_prints (need false name) h =
    let same : codes "Gap" ≡ name = ap (λ (x : List ℕ). drop 2 x) h.whole in
    omega (arith, byte (codes "Gap") name 0 same, h.proper.first.0)
none_prints (make b name) h = omega (arith, byte _ _ 0 h.whole)

pub forms : Forms
forms = record {
  states = need true (codes "gap");
  of_the_form = record { proper = name_from (codes "gap") refl; whole = refl };
  not_of_the_form = none_prints;
}
