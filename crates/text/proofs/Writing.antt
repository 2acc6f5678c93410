-- How what the writer adds joins, and what its two runs give.
use Rattle.std.proofs.Common.{◌≡◌, ℕ, ◌+◌, ◌/◌, ◌%◌, ◌^◌, ◌<◌, ◌≤◌, List, [], ◌∷◌, ◌++◌, length, take, drop, replicate, decimal, sym, refl, ap, ◌∙◌, ⊎_elim, subst, append_assoc, length-append, arith}
use Rattle.std.proofs.lemmas.Fmt.{decimal_digit, decimal_step, length-decimal-le}
use Rattle.std.proofs.lemmas.Bool.{cases_lt}
use Rattle.std.proofs.lemmas.List.{append-nil, drop_at, length-replicate, length-take-le, take-append-drop, take_at}
use Rattle.text.specs.declared.write.Writer.{Writer}
use Rattle.text.specs.Written.{Wrote, Adds, Stands, TooFew}
use Rattle.text.specs.Writers.{Writes}

-- one text behind another
pub writes_more : {a b : List ℕ} {u v w : Writer} → Writes a u v → Writes b v w → Writes (a ++ b) u w
writes_more {a} {b} f g = record {
  same_bytes = g.same_bytes ∙ f.same_bytes;
  counts = let long = length-append a b in let i = f.counts in let j = g.counts in grind arith;
  adds = λ h base text w.
      let long = length-append a b in
      let i = f.counts in
      rw (sym (append_assoc text a b)) (g.adds (grind arith) base (text ++ a) (f.adds (grind arith) base text w));
}

-- the same of lists alone, whatever a word counts
pub adds_more : {a b o p q : List ℕ} {i j k : ℕ} → Adds a o i p j → Adds b p j q k → Adds (a ++ b) o i q k
adds_more {a} {b} f g base text w = rw (sym (append_assoc text a b)) (g base (text ++ a) (f base text w))

pub adds_none : {o : List ℕ} {i : ℕ} → Adds [] o i o i
adds_none base text w = rw append-nil w

-- the same text in another form
pub writes_same : {a b : List ℕ} {u v : Writer} → b ≡ a → Writes a u v → Writes b u v
writes_same {a} {b} {u} {v} e f = subst (λ (t : List ℕ). Writes t u v) (sym e) f

pub adds_same : {a b o p : List ℕ} {i j : ℕ} → b ≡ a → Adds a o i p j → Adds b o i p j
adds_same e f = rw e f

-- the writer can stand at any place
some_text : (out : List ℕ) (at : ℕ) → (text : List ℕ) × Wrote out out at text
some_text out at = ⊎_elim
    (λ (past : length out < at). (
      replicate at 0,
      record {
        long = refl;
        counts = sym (length-replicate {A = ℕ} at 0);
        same = λ fits. let no : ⊥ = omega (arith, length-replicate {A = ℕ} at 0, fits) in elim no [ ];
      },
    ))
    (λ (within : at ≤ length out). (
      take at out,
      record {
        long = refl;
        counts = sym (length-take-le at out within);
        same = λ _. sym (ap (λ n. take at out ++ drop n out) (length-take-le at out within) ∙ take-append-drop at out);
      },
    ))
    (cases_lt (length out) at)

-- what is added is counted
pub adds_count : {more o p : List ℕ} {i j : ℕ} → Adds more o i p j → j ≡ i + length more
adds_count {more} {o} {p} {i} {j} f =
    let start = some_text o i in
    let text = start.0 in
    (f o text start.1).counts ∙ (length-append text more ∙ ap (λ n. n + length more) (sym start.1.counts))

-- a number of one digit, and one of more
pub digit : (n : ℕ) {u v w : Writer} → n < 10 → v ≡ u → Writes ((48 + n % 10) ∷ []) v w → Writes (decimal n) u w
digit n {u} {v} {w} small is f =
    let e : 48 + n % 10 ≡ 48 + n = omega arith in
    let g : Writes ((48 + n % 10) ∷ []) u w = subst (λ z. Writes ((48 + n % 10) ∷ []) z w) is f in
    writes_same (decimal_digit n small ∙ ap (λ z. z ∷ []) (sym e)) g

pub digits : (n : ℕ) {u v v' w : Writer} → 10 ≤ n → n < 2 ^ 64 → Writes (decimal (n / 10)) u v → v' ≡ v → Writes ((48 + n % 10) ∷ []) v' w → Writes (decimal n) u w
digits n {u} {v} {v'} {w} more fits f is g =
    writes_same (decimal_step n more fits) (writes_more f (subst (λ z. Writes ((48 + n % 10) ∷ []) z w) is g))

-- a number that a word holds has at most twenty digits
pub twenty : (n : ℕ) {u v : Writer} → n < 2 ^ 64 → Writes (decimal n) u v → v.at ≤ u.at + 20
twenty n fits f =
    let place = f.counts in
    let few = length-decimal-le 20 n (omega arith) (omega arith) fits in
    grind arith

start : (base : List ℕ) → Wrote base base 0 []
start base = record { long = refl; counts = refl; same = λ _. refl }

-- what a run from the front over no bytes counts
pub measured : {text o : List ℕ} {n : ℕ} → Adds text [] 0 o n → n ≡ length text
measured f = (f [] [] (start [])).counts

-- what is written from the front is counted
counted : {text : List ℕ} {v w : Writer} → v.at ≡ 0 → length text < 2 ^ 64 → Writes text v w → Wrote v.out.now w.out.now w.at text
counted {text} {v} {w} none h f = f.adds (omega (arith, none, h)) v.out.now [] (subst (λ (n : ℕ). Wrote v.out.now v.out.now n []) (sym none) (start v.out.now))

-- the first run, over no bytes, counts; the second writes
pub too_few : {text out : List ℕ} {v w : Writer} → v.at ≡ 0 → Writes text v w → length out < w.at → TooFew text out out
too_few {text} none f less = let e = f.counts in record { fewer = grind arith; same = refl }

pub stands : {text out now : List ℕ} {n : ℕ} {v w : Writer} → v.at ≡ 0 → Writes text v w → w.at ≤ length out → length out < 2 ^ 63
    → {s t : Writer} → s.at ≡ 0 → s.out.now ≡ out → Writes text s t → n ≡ t.at → now ≡ t.out.now → Stands text out n now
stands {text} {out} {now} {n} none f room small {s} {t} front same g is left =
    let first = f.counts in
    let within : length text ≤ length out = grind arith in
    let w : Wrote out t.out.now t.at text = subst (λ (z : List ℕ). Wrote z t.out.now t.at text) same (counted front (omega (arith, within, small)) g) in
    let e : now ≡ text ++ drop (length text) out = left ∙ w.same within in
    let counts : n ≡ length text = is ∙ w.counts in
    let k : length text ≡ n = sym counts in
    record {
      counts = counts;
      written = ap (λ z. take n z) e ∙ take_at text (drop (length text) out) n k;
      beyond = ap (λ z. drop n z) e ∙ (drop_at text (drop (length text) out) n k ∙ ap (λ i. drop i out) k);
    }
