-- A printed line determines what it states.
use Rattle.std.proofs.Common.{◌≡◌, ℕ, ◌≤◌, Bool, true, false, cond, eqb, List, get_or, drop, decimal, sym, refl, ap, ◌∙◌, arith}
use Rattle.std.specs.Str.Parse.{digits_value}
use Rattle.std.proofs.lemmas.Fmt.{digits_value-decimal}
use Rattle.std.proofs.lemmas.Bool.{ne_eqb}
use Rattle.sheet.specs.Print.{IsName}
use Rattle.sheet.specs.Statement.{Statement, version, length as length_line, fact, holds, wanted, step, need, make, Proper, kind_stated, field_in, print, signed}
use Rattle.sheet.specs.declared.kind.LineKind.{LineKind}
use Rattle.sheet.specs.declared.kind.LineKind.TheVariants as kind_is
use Rattle.sheet.proofs.Bytes.{own}
use Rattle.sheet.proofs.Heads.{same_head, no_minus}

-- a statement, from its sign and its name
abbrev by_sign : (Bool → List ℕ → Statement) → List ℕ → Statement
by_sign make-line f = cond (eqb (get_or f 0 0) 45) (make-line true (drop 1 f)) (make-line false f)

-- a statement, from its kind and its field
abbrev back : LineKind → List ℕ → Statement
back kind_is.Version f = version (digits_value 10 f)
back kind_is.Length f = length_line (digits_value 10 f)
back kind_is.Fact f = fact f
back kind_is.True f = holds f
back kind_is.Wanted f = by_sign wanted f
back kind_is.Step f = step f
back kind_is.Need f = by_sign need f
back kind_is.Make f = by_sign make f

back_number : (n : ℕ) → n ≤ 65535 → digits_value 10 (decimal n) ≡ n
back_number n h = digits_value-decimal own n (omega arith)

back_sign : (to : Bool → List ℕ → Statement) (b : Bool) (name : List ℕ) → IsName name → by_sign to (signed b name) ≡ to b name
back_sign to true name n = refl
back_sign to false name n = ap (λ (m : Bool). cond m (to true (drop 1 name)) (to false name)) (ne_eqb (get_or name 0 0) 45 (no_minus name n))

back_is : (t : Statement) → Proper t → back (kind_stated t) (field_in t) ≡ t
back_is (version n) p = ap version (back_number n p)
back_is (length_line n) p = ap length_line (back_number n p)
back_is (fact name) p = refl
back_is (holds name) p = refl
back_is (wanted b name) p = back_sign wanted b name p
back_is (step name) p = refl
back_is (need b name) p = back_sign need b name p
back_is (make b name) p = back_sign make b name p

pub one_print : (t u : Statement) → Proper t → Proper u → print t ≡ print u → t ≡ u
one_print t u p q e =
    let same = same_head (kind_stated t) (kind_stated u) (field_in t) (field_in u) e in
    sym (back_is t p) ∙ ap (λ (k : LineKind). back k (field_in t)) same.0 ∙ ap (back (kind_stated u)) same.1 ∙ back_is u q
