-- What one more line keeps.
use Rattle.std.proofs.Common.{◌≡◌, ℕ, ◌+◌, ◌<◌, ◌≤◌, true, false, eqb, ◌⊎◌, List, [], ◌∷◌, ◌++◌, length, drop, Some, None, Ok, Err, Option, Result, sym, refl, ap, ◌∙◌, subst, inl, inr, ⊎_elim, arith, length-append, take-append-drop, MatchResult}
use Rattle.sheet.specs.declared.fault.SheetFault.TheVariants as sheet_is
use Rattle.std.proofs.lemmas.List.{drop_more, length_push, nil_from_length}
use Rattle.std.proofs.lemmas.Bool.Decides.{nat_tests}
use Rattle.sheet.specs.Class.{class_told}
use Rattle.sheet.specs.Kind.{allowed, may_end}
use Rattle.sheet.specs.Job.{Job, no_job, Adds}
use Rattle.sheet.specs.Statement.{Statement, Prints, print, Proper, kind_stated}
use Rattle.sheet.specs.Cut.{Begins}
use Rattle.sheet.specs.Sheet.{print_all, Run, stop, go, Next, Wrong, Reads, Broken}
use Rattle.sheet.specs.Exact.{Faulted}
use Rattle.sheet.specs.declared.class.ByteClass.TheVariants.{LineFeed}
use Rattle.sheet.specs.declared.kind.LineKind.{LineKind}
use Rattle.sheet.specs.declared.fault.SheetFault.{SheetFault}

feed_is : (b : ℕ) → class_told b ≡ LineFeed → b ≡ 10
feed_is b e = grind (arith, nat_tests)

pub next_line : (s x after : List ℕ) (t : Statement) → Begins s x → Prints t x → after ≡ drop (length x + 1) s → Next s t after
next_line s x after t b p e = record {
  proper = p.proper;
  whole =
      sym (take-append-drop (length x) s)
      ∙ ap (λ (l : List ℕ). l ++ drop (length x) s) (sym b.same ∙ p.whole)
      ∙ ap (λ (l : List ℕ). print t ++ l) (drop_more s (length x) 0 b.inside ∙ ap (λ (c : ℕ). c ∷ drop (length x + 1) s) (feed_is _ b.ends) ∙ ap (λ (l : List ℕ). 10 ∷ l) (sym e));
}

more_run : {p q : Option LineKind} {j i k : Job} {ts : List Statement} (t : Statement) → Run p j ts q i → Proper t → allowed q (kind_stated t) ≡ true → Adds i t k → Run p j (ts ++ t ∷ []) (Some (kind_stated t)) k
more_run t stop w a d = go w a d stop
more_run t (go v b e r) w a d = go v b e (more_run t r w a d)

print_all_more : (ts : List Statement) (t : Statement) (rest : List ℕ) → print_all (ts ++ t ∷ []) rest ≡ print_all ts (print t ++ 10 ∷ rest)
print_all_more [] t rest = refl
print_all_more (u ∷ ts) t rest = ap (λ (l : List ℕ). print u ++ 10 ∷ l) (print_all_more ts t rest)

-- the lines so far, what is left, the last kind, the job, and the number of the next line
pub record Sofar (s : List ℕ) (rest : List ℕ) (last : Option LineKind) (n : ℕ) (job : Job) : Type 0 where
  pub lines : List Statement
  pub run : Run None no_job lines last job
  pub same : s ≡ print_all lines rest
  pub count : n ≡ length lines + 1

pub shorter : (s : List ℕ) (t : Statement) (after : List ℕ) → Next s t after → length after < length s
shorter s t after n = omega (arith, ap length n.whole, length-append (print t) (10 ∷ after))

pub at_first : (s r : List ℕ) (p : Option LineKind) (n : ℕ) (j : Job) → r ≡ s → n ≡ 1 → p ≡ None → j ≡ no_job → Sofar s r p n j
at_first s r p n j a b d e = subst (λ (i : Job). Sofar s r p n i) (sym e) (subst (λ (q : Option LineKind). Sofar s r q n no_job) (sym d)
    (record { lines = []; run = stop; same = sym a; count = b }))

pub one_more : (s rest after : List ℕ) (last next : Option LineKind) (n m : ℕ) (j k : Job) (t : Statement) → Sofar s rest last n j → Next rest t after → next ≡ Some (kind_stated t) → m ≡ n + 1
    → allowed last (kind_stated t) ≡ true → Adds j t k → Sofar s after next m k
one_more s rest after last next n m j k t f x e q a d = subst (λ (p : Option LineKind). Sofar s after p m k) (sym e) (record {
  lines = f.lines ++ t ∷ [];
  run = more_run t f.run x.proper a d;
  same = f.same ∙ ap (print_all f.lines) x.whole ∙ sym (print_all_more f.lines t after);
  count = omega (arith, f.count, length_push f.lines t);
})

pub broken : (s rest : List ℕ) (last : Option LineKind) (n : ℕ) (j : Job) (e : SheetFault) → Sofar s rest last n j → (0 < length rest) ⊎ (n ≡ 1) → Wrong rest last j n e → Broken s e
broken s rest last n j e f u w = record {
  lines = f.lines;
  rest = rest;
  last = last;
  job = j;
  run = f.run;
  same = f.same;
  unread = ⊎_elim inl (λ (h : n ≡ 1). inr (omega (arith, f.count))) u;
  fault = subst (λ (m : ℕ). Wrong rest last j m e) f.count w;
}

pub some_left : (s : List ℕ) → false ≡ eqb (length s) 0 → 0 < length s
some_left s e = grind (arith, nat_tests)

pub none_left : (s : List ℕ) → true ≡ eqb (length s) 0 → length s ≡ 0
none_left s e = grind (arith, nat_tests)

pub finished : (s rest : List ℕ) (last : Option LineKind) (n : ℕ) (j : Job) (r : Result (Unit {0}) SheetFault) → length s ≤ 65535 → 1 < n → Sofar s rest last n j → length rest ≡ 0
    → MatchResult r (λ _. may_end last ≡ true) (λ e. (may_end last ≡ false) × (e ≡ sheet_is.NoFact (record { line = n; byte = 1 })))
    → MatchResult r (λ _. Reads s j) (λ e. Faulted s e)
finished s rest last n j (Ok u) small begun f z m = record {
  small = small;
  lines = f.lines;
  last = last;
  run = f.run;
  same = f.same ∙ ap (print_all f.lines) (nil_from_length rest z);
  ends = m;
}
finished s rest last n j (Err e) small begun f z m = inr (
  small,
  inr (record {
    short = record {
      lines = f.lines;
      last = last;
      job = j;
      run = f.run;
      same = f.same ∙ ap (print_all f.lines) (nil_from_length rest z);
      ends = m.0;
      fault = subst (λ (k : ℕ). e ≡ sheet_is.NoFact (record { line = k; byte = 1 })) f.count m.1;
    };
    some = omega (arith, f.count);
  }),
)
