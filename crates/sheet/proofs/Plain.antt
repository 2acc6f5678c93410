-- A printed line has no line feed in it, and no byte of class other.
use Rattle.std.proofs.Common.{◌≡◌, ℕ, zero, suc, ◌<◌, ◌≤◌, Bool, true, false, List, ◌∷◌, ◌++◌, length, get_or, decimal, sym, refl, ap, subst, ⊎_elim, arith}
use Rattle.std.proofs.lemmas.List.{take_at, get_or_at, get_or_append_left, length-append}
use Rattle.std.proofs.lemmas.Bool.{both_ways}
use Rattle.sheet.specs.Class.{class_told}
use Rattle.sheet.specs.Cut.{Begins}
use Rattle.sheet.specs.Print.{IsName}
use Rattle.sheet.specs.Statement.{Statement, version, length as length_line, fact, holds, wanted, step, need, make, Proper, kind_stated, field_in, headed, signed, print}
use Rattle.sheet.specs.declared.class.ByteClass.{ByteClass}
use Rattle.sheet.specs.declared.class.ByteClass.TheVariants.{SmallLetter, Digit, Minus, Blank, LineFeed, Capital, Other}
use Rattle.sheet.specs.declared.kind.LineKind.{LineKind}
use Rattle.sheet.specs.declared.kind.LineKind.TheVariants as kind_is
use Rattle.sheet.proofs.Bytes.{in_letter, in_digit, spelled_digits}

-- a byte of this class may stand within a line
abbrev inner : ByteClass → Bool
inner SmallLetter = true
inner Digit = true
inner Minus = true
inner Blank = true
inner LineFeed = false
inner Capital = true
inner Other = false

abbrev Plain : List ℕ → Type 0
Plain s = (i : ℕ) → i < length s → inner (class_told (get_or s i 0)) ≡ true

one_more : (b : ℕ) (s : List ℕ) → inner (class_told b) ≡ true → Plain s → Plain (b ∷ s)
one_more b s h p zero l = h
one_more b s h p (suc i) l = p i (omega arith)

plain_name : (s : List ℕ) → IsName s → Plain s
plain_name s n i h = ⊎_elim (λ l. ap inner (in_letter (get_or s i 0) l)) (λ d. ap inner (in_digit (get_or s i 0) d)) (n.each i h)

plain_signed : (b : Bool) (s : List ℕ) → IsName s → Plain (signed b s)
plain_signed true s n = one_more 45 s refl (plain_name s n)
plain_signed false s n = plain_name s n

plain_number : (n : ℕ) → n ≤ 65535 → Plain (decimal n)
plain_number n h i l = ap inner (in_digit (get_or (decimal n) i 0) (spelled_digits (decimal n) n (record { small = h; whole = refl }) i l))

plain_field : (t : Statement) → Proper t → Plain (field_in t)
plain_field (version n) p = plain_number n p
plain_field (length_line n) p = plain_number n p
plain_field (fact name) p = plain_name name p
plain_field (holds name) p = plain_name name p
plain_field (wanted b name) p = plain_signed b name p
plain_field (step name) p = plain_name name p
plain_field (need b name) p = plain_signed b name p
plain_field (make b name) p = plain_signed b name p

one_letter : (b : ℕ) (f : List ℕ) → inner (class_told b) ≡ true → Plain f → Plain (b ∷ 32 ∷ f)
one_letter b f h p = one_more b (32 ∷ f) h (one_more 32 f refl p)

plain_headed : (k : LineKind) (f : List ℕ) → Plain f → Plain (headed k f)
plain_headed kind_is.Version f p = one_more 77 (88 ∷ 80 ∷ 32 ∷ f) refl (one_more 88 (80 ∷ 32 ∷ f) refl (one_letter 80 f refl p))
plain_headed kind_is.Length f p = one_letter 108 f refl p
plain_headed kind_is.Fact f p = one_letter 102 f refl p
plain_headed kind_is.True f p = one_letter 116 f refl p
plain_headed kind_is.Wanted f p = one_letter 119 f refl p
plain_headed kind_is.Step f p = one_letter 115 f refl p
plain_headed kind_is.Need f p = one_letter 110 f refl p
plain_headed kind_is.Make f p = one_letter 109 f refl p

-- plain bytes and a line feed are the first line of what they begin
first_line : (x after : List ℕ) → Plain x → Begins (x ++ 10 ∷ after) x
first_line x after p =
    let at : (i : ℕ) → i < length x → inner (class_told (get_or (x ++ 10 ∷ after) i 0)) ≡ true =
    λ i h. subst (λ (b : ℕ). inner (class_told b) ≡ true) (sym (get_or_append_left x (10 ∷ after) 0 i h)) (p i h) in
    record {
      inside = omega (arith, length-append x (10 ∷ after));
      same = sym (take_at x (10 ∷ after) (length x) refl);
      clean = record { feed = λ i h e. both_ways _ (ap inner e) (at i h); other = λ i h e. both_ways _ (ap inner e) (at i h) };
      ends = ap class_told (get_or_at x 10 after 0 (length x) refl);
    }

pub begins_print : (s after : List ℕ) (t : Statement) → Proper t → s ≡ print t ++ 10 ∷ after → Begins s (print t)
begins_print s after t p e =
    subst (λ (l : List ℕ). Begins l (print t)) (sym e) (first_line (print t) after (plain_headed (kind_stated t) (field_in t) (plain_field t p)))
