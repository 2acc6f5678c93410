-- A line at fault has one fault, and a line that may stand has none.
use Rattle.std.proofs.Common.{◌≡◌, ℕ, true, false, List, Option, sym, ap, ◌∙◌, subst}
use Rattle.std.proofs.lemmas.Bool.{both_ways}
use Rattle.sheet.specs.Statement.{Statement, kind_stated}
use Rattle.sheet.specs.declared.kind.LineKind.{LineKind}
use Rattle.sheet.proofs.FirstLine.{one_line, one_line_fault, no_line_fault}
use Rattle.sheet.specs.Job.{Job, Adds, Flawed, field}
use Rattle.sheet.specs.Kind.{allowed}
use Rattle.sheet.specs.Sheet.{Next, Wrong, not_a_line, not_here, not_so}
use Rattle.sheet.specs.declared.fault.SheetFault.{SheetFault}
use Rattle.sheet.specs.declared.fault.SheetFault.TheVariants as sheet_is
use Rattle.sheet.proofs.Adding.{one_flaw, no_flaw}

pub one_next : (s a b : List ℕ) (t u : Statement) → Next s t a → Next s u b → (t ≡ u) × (a ≡ b)
one_next s a b t u x y = one_line s a b t u x.proper y.proper x.whole y.whole

same_kind : (s a b : List ℕ) (t u : Statement) → Next s t a → Next s u b → kind_stated t ≡ kind_stated u
same_kind s a b t u x y = ap kind_stated (one_next s a b t u x y).0

-- the first line of s may stand after a line of kind p, and adds to the job j
pub record Good (p : Option LineKind) (j : Job) (s : List ℕ) : Type 0 where
  pub line : Statement
  pub after : List ℕ
  pub job : Job
  pub next : Next s line after
  pub here : allowed p (kind_stated line) ≡ true
  pub adds : Adds j line job

pub not_wrong : {p : Option LineKind} {j : Job} {s : List ℕ} {n : ℕ} {e : SheetFault} → Good p j s → Wrong s p j n e → ⊥
not_wrong {s = s} {n = n} g (not_a_line l w) = no_line_fault s g.after g.line n l g.next.proper g.next.whole w
not_wrong {p = p} {s = s} g (not_here u b e x barred is) =
    both_ways (allowed p (kind_stated u)) barred (subst (λ (k : LineKind). allowed p k ≡ true) (same_kind s g.after b g.line u g.next x) g.here)
not_wrong {j = j} {s = s} g (not_so u b e x may f) =
    no_flaw j g.job u _ e (subst (λ (t : Statement). Adds j t g.job) (one_next s g.after b g.line u g.next x).0 g.adds) f

-- the kind may not stand here, or it may
here_or_not : (p : Option LineKind) (s a b : List ℕ) (t u : Statement) → Next s t a → Next s u b → allowed p (kind_stated t) ≡ false → allowed p (kind_stated u) ≡ true → ⊥
here_or_not p s a b t u x y barred may = both_ways (allowed p (kind_stated u)) (subst (λ (k : LineKind). allowed p k ≡ false) (same_kind s a b t u x y) barred) may

pub one_wrong : {p : Option LineKind} {j : Job} {s : List ℕ} {n : ℕ} {e f : SheetFault} → Wrong s p j n e → Wrong s p j n f → e ≡ f
one_wrong {s = s} {n = n} (not_a_line l v) (not_a_line m w) = ap sheet_is.Line (one_line_fault s n l m v w)
one_wrong {s = s} {n = n} (not_a_line l v) (not_here u b f y barred is) = absurd (no_line_fault s b u n l y.proper y.whole v)
one_wrong {s = s} {n = n} (not_a_line l v) (not_so u b f y may w) = absurd (no_line_fault s b u n l y.proper y.whole v)
one_wrong {s = s} {n = n} (not_here t a e x barred is) (not_a_line m w) = absurd (no_line_fault s a t n m x.proper x.whole w)
one_wrong (not_here t a e x barred is) (not_here u b f y barred' is') = is ∙ sym is'
one_wrong {p = p} {s = s} (not_here t a e x barred is) (not_so u b f y may w) = absurd (here_or_not p s a b t u x y barred may)
one_wrong {s = s} {n = n} (not_so t a e x may v) (not_a_line m w) = absurd (no_line_fault s a t n m x.proper x.whole w)
one_wrong {p = p} {s = s} (not_so t a e x may v) (not_here u b f y barred is) = absurd (here_or_not p s b a u t y x barred may)
one_wrong {j = j} {s = s} {n = n} (not_so t a e x may v) (not_so u b f y may' w) =
    one_flaw j u (record { line = n; byte = field u }) e f
    (subst (λ (c : Statement). Flawed j c (record { line = n; byte = field c }) e) (one_next s a b t u x y).0 v) w
