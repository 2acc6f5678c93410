-- Reading is a function of the bytes: they have one job or one fault, and never both.
use Rattle.std.proofs.Common.{◌≡◌, ℕ, suc, ◌+◌, ◌<◌, true, false, ◌⊎◌, List, [], length, Some, Ok, Err, Option, Result, sym, refl, ap, ◌∙◌, subst, inl, inr, ⊎_elim, arith, MatchResult}
use Rattle.std.proofs.lemmas.Bool.{both_ways}
use Rattle.sheet.specs.Statement.{Statement, kind_stated}
use Rattle.sheet.specs.declared.kind.LineKind.{LineKind}
use Rattle.sheet.specs.Exact.{Stopped, Faulted, OneReading, Exact}
use Rattle.sheet.specs.Job.{Job, no_job, Adds}
use Rattle.sheet.specs.Kind.{may_end}
use Rattle.sheet.specs.Sheet.{print_all, Run, stop, go, Wrong, Reads, Broken, Unfinished, Refused}
use Rattle.sheet.specs.declared.fault.SheetFault.{SheetFault}
use Rattle.sheet.specs.declared.fault.SheetFault.TheVariants as sheet_is
use Rattle.sheet.proofs.Adding.{one_job}
use Rattle.sheet.proofs.Faults.{Good, one_next, not_wrong, one_wrong}
use Rattle.sheet.proofs.Lines.{shorter}

-- two ways through the same bytes end at the same place
record Same (q q' : Option LineKind) (k k' : Job) (r r' : List ℕ) (m m' : ℕ) : Type 0 where
  last : q ≡ q'
  job : k ≡ k'
  rest : r ≡ r'
  count : m ≡ m'

-- or one of them could go on
abbrev Met : Option LineKind → Option LineKind → Job → Job → List ℕ → List ℕ → ℕ → ℕ → Type 0
Met q q' k k' r r' m m' = Same q q' k k' r r' m m' ⊎ (Good q k r ⊎ Good q' k' r')

further : {q q' : Option LineKind} {k k' : Job} {r r' : List ℕ} {m m' : ℕ} → Met q q' k k' r r' m m' → Met q q' k k' r r' (suc m) (suc m')
further (inl e) = inl (record { last = e.last; job = e.job; rest = e.rest; count = ap suc e.count })
further (inr g) = inr g

meet : {p q q' : Option LineKind} {j k k' : Job} {ts us : List Statement} (r r' s : List ℕ) → Run p j ts q k → Run p j us q' k' → s ≡ print_all ts r → s ≡ print_all us r'
    → Met q q' k k' r r' (length ts) (length us)
meet r r' s stop stop d e = inl (record { last = refl; job = refl; rest = sym d ∙ e; count = refl })
meet r r' s stop (go {i = i} {t = u} {ts = us} w a x n) d e =
    inr (inl (record { line = u; after = print_all us r'; job = i; next = record { proper = w; whole = sym d ∙ e }; here = a; adds = x }))
meet r r' s (go {i = i} {t = t} {ts = ts} w a x n) stop d e =
    inr (inr (record { line = t; after = print_all ts r; job = i; next = record { proper = w; whole = sym e ∙ d }; here = a; adds = x }))
meet {q' = q'} {j = j} {k' = k'} r r' s (go {i = i} {t = t} {ts = ts} w a x n) (go {i = i'} {t = u} {ts = us} w' a' x' n') d e =
    let o = one_next s (print_all ts r) (print_all us r') t u (record { proper = w; whole = d }) (record { proper = w'; whole = e }) in
    let same : i' ≡ i = one_job j t i' i (subst (λ (c : Statement). Adds j c i') (sym o.0) x') x in
    further (meet r r' (print_all ts r) n
    (subst (λ (c : Job). Run (Some (kind_stated t)) c us q' k') same (subst (λ (c : Statement). Run (Some (kind_stated c)) i' us q' k') (sym o.0) n')) refl o.1)

-- nothing can go on after the last byte
at_end : {p : Option LineKind} {j : Job} → Good p j [] → ⊥
at_end g = omega (arith, shorter [] g.line g.after g.next)

-- with no line yet the kind is as at first
unbegun : {p q : Option LineKind} {j k : Job} {ts : List Statement} → Run p j ts q k → length ts ≡ 0 → q ≡ p
unbegun stop z = refl
unbegun (go w a x n) z = absurd (omega arith)

one_reading : (s : List ℕ) (j k : Job) → Reads s j → Reads s k → j ≡ k
one_reading s j k a b =
    ⊎_elim (λ e. e.job) (⊎_elim (λ g. absurd (at_end g)) (λ g. absurd (at_end g))) (meet [] [] s a.run b.run a.same b.same)

-- bytes that are all read have no line at fault
all_read : (s : List ℕ) (j : Job) (e : SheetFault) → Reads s j → Broken s e → ⊥
all_read s j e a b =
    ⊎_elim
    (λ m. ⊎_elim
    (λ (l : 0 < length b.rest). omega (arith, ap length m.rest))
    (λ (z : length b.lines ≡ 0). both_ways false refl (sym (ap may_end (m.last ∙ unbegun b.run z)) ∙ a.ends))
    b.unread)
    (⊎_elim at_end (λ g. not_wrong g b.fault))
    (meet [] b.rest s a.run b.run a.same b.same)

too_few : (s : List ℕ) (j : Job) (e : SheetFault) → Reads s j → Unfinished s e → ⊥
too_few s j e a b =
    ⊎_elim (λ m. both_ways (may_end b.last) b.ends (subst (λ (p : Option LineKind). may_end p ≡ true) m.last a.ends))
    (⊎_elim at_end at_end)
    (meet [] [] s a.run b.run a.same b.same)

never_both : (s : List ℕ) (j : Job) (e : SheetFault) → Reads s j → Refused s e → ⊥
never_both s j e a (inl r) = omega (arith, a.small, r.0)
never_both s j e a (inr r) = ⊎_elim (all_read s j e a) (too_few s j e a) r.1

one_broken : (s : List ℕ) (e f : SheetFault) → Broken s e → Broken s f → e ≡ f
one_broken s e f a b =
    ⊎_elim
    (λ m. one_wrong a.fault
    (subst (λ (n : ℕ). Wrong a.rest a.last a.job (n + 1) f) (sym m.count)
    (subst (λ (p : Option LineKind). Wrong a.rest p a.job (length b.lines + 1) f) (sym m.last)
    (subst (λ (j : Job). Wrong a.rest b.last j (length b.lines + 1) f) (sym m.job)
    (subst (λ (r : List ℕ). Wrong r b.last b.job (length b.lines + 1) f) (sym m.rest) b.fault)))))
    (⊎_elim (λ g. absurd (not_wrong g a.fault)) (λ g. absurd (not_wrong g b.fault)))
    (meet a.rest b.rest s a.run b.run a.same b.same)

one_unfinished : (s : List ℕ) (e f : SheetFault) → Unfinished s e → Unfinished s f → e ≡ f
one_unfinished s e f a b =
    ⊎_elim
    (λ m. a.fault ∙ ap (λ (n : ℕ). sheet_is.NoFact (record { line = n + 1; byte = 1 })) m.count ∙ sym b.fault)
    (⊎_elim (λ g. absurd (at_end g)) (λ g. absurd (at_end g)))
    (meet [] [] s a.run b.run a.same b.same)

one_stop : (s : List ℕ) (e f : SheetFault) → Stopped s e → Stopped s f → e ≡ f
one_stop s e f a b = one_unfinished s e f a.short b.short

-- a sheet that ends too soon has no line at fault
broken_or_stopped : (s : List ℕ) (e f : SheetFault) → Broken s e → Stopped s f → ⊥
broken_or_stopped s e f a c =
    let b = c.short in
    ⊎_elim
    (λ m. ⊎_elim (λ (l : 0 < length a.rest). omega (arith, ap length m.rest)) (λ (z : length a.lines ≡ 0). omega (arith, m.count, c.some)) a.unread)
    (⊎_elim (λ g. not_wrong g a.fault) at_end)
    (meet a.rest [] s a.run b.run a.same b.same)

one_fault : (s : List ℕ) (e f : SheetFault) → Faulted s e → Faulted s f → e ≡ f
one_fault s e f (inl a) (inl b) = a.1 ∙ sym b.1
one_fault s e f (inl a) (inr b) = absurd (omega (arith, a.0, b.0))
one_fault s e f (inr a) (inl b) = absurd (omega (arith, a.0, b.0))
one_fault s e f (inr a) (inr b) =
    ⊎_elim
    (λ x. ⊎_elim (one_broken s e f x) (λ y. absurd (broken_or_stopped s e f x y)) b.1)
    (λ x. ⊎_elim (λ y. absurd (broken_or_stopped s f e y x)) (one_stop s e f x) b.1)
    a.1

pub one_way : OneReading
one_way = record { one_job = one_reading; one_fault = one_fault; never_both = never_both }

-- what is at fault is refused
pub refused_if : (s : List ℕ) (e : SheetFault) → Faulted s e → Refused s e
refused_if s e (inl a) = inl a
refused_if s e (inr a) = inr (a.0, ⊎_elim (λ b. inl b) (λ b. inr b.short) a.1)

pub cases_refused : (s : List ℕ) (r : Result (Unit {0}) SheetFault) (job : Job) → MatchResult r (λ _. Reads s job) (λ e. Faulted s e × (job ≡ no_job))
    → MatchResult r (λ _. Reads s job) (λ e. Refused s e × (job ≡ no_job))
cases_refused s (Ok u) job a = a
cases_refused s (Err f) job a = (refused_if s f a.0, a.1)

-- an answer that fits is the only one
pub exact : (s : List ℕ) (r : Result (Unit {0}) SheetFault) (job : Job) → MatchResult r (λ _. Reads s job) (λ e. Faulted s e × (job ≡ no_job)) → Exact s r job
exact s (Ok u) job a = record {
  sheet = λ k b. (refl, one_reading s job k a b);
  fault = λ e b. absurd (never_both s job e a (refused_if s e b));
  refused = λ e h. absurd (ok_or_err h);
}
  where
    ok_or_err : {e : SheetFault} → Ok u ≡ Err e → ⊥
    ok_or_err h = cc
exact s (Err f) job a = record {
  sheet = λ k b. absurd (never_both s k f b (refused_if s f a.0));
  fault = λ e b. ap Err (one_fault s f e a.0 b);
  refused = λ e h. subst (λ (x : SheetFault). Faulted s x) (same_err h) a.0;
}
  where
    same_err : {e : SheetFault} → ◌≡◌ {A = Result (Unit {0}) SheetFault} (Err f) (Err e) → f ≡ e
    same_err h = cc
