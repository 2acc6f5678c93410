-- What a line adds to a job is one thing, why it may not be added is one thing, and never are there both.
use Rattle.std.proofs.Common.{◌≡◌, ℕ, ◌≤◌, Bool, true, false, ◌⊎◌, List, length as size, sym, ap, ◌∙◌, subst, ⊎_elim, arith}
use Rattle.std.proofs.lemmas.Bool.{both_ways, cases_order}
use Rattle.sets.specs.Sets.{fact_in}
use Rattle.sheet.specs.Statement.{Statement, version, length, fact, holds, wanted, step, need, make}
use Rattle.sheet.specs.declared.fault.Place.{Place}
use Rattle.sheet.specs.Entry.{Unknown, Stands}
use Rattle.sheet.specs.Job.{Job, Adds, Flawed, literal, mentions, newest, starting, wanting, needing, making, step_names}
use Rattle.sheet.specs.declared.fault.SheetFault.{SheetFault}
use Rattle.sheet.specs.declared.fault.SheetFault.TheVariants as sheet_is

-- there is one first place
first_place : (names : List (List ℕ)) (name : List ℕ) (i k : ℕ) → Stands names name i → Stands names name k → i ≡ k
first_place names name i k s t =
    ⊎_elim (λ e. e) (⊎_elim (λ l. absurd (t.2 i l s.1)) (λ l. absurd (s.2 k l t.1))) (cases_order i k)

pub one_job : (j : Job) (t : Statement) (k l : Job) → Adds j t k → Adds j t l → k ≡ l
one_job j (version n) k l a b = a.1 ∙ sym b.1
one_job j (length n) k l a b = a.1 ∙ sym b.1
one_job j (fact name) k l a b = a.2 ∙ sym b.2
one_job j (holds name) k l a b = a.3 ∙ ap (λ (f : ℕ). starting f j) (first_place j.facts name a.0 b.0 a.1 b.1) ∙ sym b.3
one_job j (wanted n name) k l a b = a.3 ∙ ap (λ (f : ℕ). wanting (literal n f) j) (first_place j.facts name a.0 b.0 a.1 b.1) ∙ sym b.3
one_job j (step name) k l a b = a.2 ∙ sym b.2
one_job j (need n name) k l a b = a.3 ∙ ap (λ (f : ℕ). needing (literal n f) j) (first_place j.facts name a.0 b.0 a.1 b.1) ∙ sym b.3
one_job j (make n name) k l a b = a.3 ∙ ap (λ (f : ℕ). making (literal n f) j) (first_place j.facts name a.0 b.0 a.1 b.1) ∙ sym b.3

-- by where a name stands among the names
module _ (names : List (List ℕ)) (name : List ℕ) where
  unlisted : (i : ℕ) → Stands names name i → Unknown names name → ⊥
  unlisted i s u = u i s.0 s.1

  -- a name may not be added that stands there already, or is one too many
  abbrev pub NotNew : Type 0 → SheetFault → SheetFault → SheetFault → Type 0
  NotNew many r x e = ((i : ℕ) × Stands names name i × (e ≡ r)) ⊎ (Unknown names name × many × (e ≡ x))

  not_new : (many : Type 0) (r x e f : SheetFault) → NotNew many r x e → NotNew many r x f → e ≡ f
  not_new many r x e f v w =
      ⊎_elim
      (λ a. ⊎_elim (λ b. a.2 ∙ sym b.2) (λ b. absurd (unlisted a.0 a.1 b.0)) w)
      (λ a. ⊎_elim (λ b. absurd (unlisted b.0 b.1 a.0)) (λ b. a.2 ∙ sym b.2) w)
      v

  new : (many : Type 0) (r x e : SheetFault) → Unknown names name → (many → ⊥) → NotNew many r x e → ⊥
  new many r x e u few v = ⊎_elim (λ a. unlisted a.0 a.1 u) (λ a. few a.1) v

  -- a name may not be used that stands nowhere, or is listed already
  abbrev pub NotFree : (ℕ → Bool) → SheetFault → SheetFault → SheetFault → Type 0
  NotFree listed u r e = (Unknown names name × (e ≡ u)) ⊎ ((i : ℕ) × Stands names name i × (listed i ≡ true) × (e ≡ r))

  not_free : (listed : ℕ → Bool) (u r e f : SheetFault) → NotFree listed u r e → NotFree listed u r f → e ≡ f
  not_free listed u r e f v w =
      ⊎_elim
      (λ a. ⊎_elim (λ b. a.1 ∙ sym b.1) (λ b. absurd (unlisted b.0 b.1 a.0)) w)
      (λ a. ⊎_elim (λ b. absurd (unlisted a.0 a.1 b.0)) (λ b. a.3 ∙ sym b.3) w)
      v

  free : (listed : ℕ → Bool) (u r e : SheetFault) (i : ℕ) → Stands names name i → listed i ≡ false → NotFree listed u r e → ⊥
  free listed u r e i s out v =
      ⊎_elim (λ a. unlisted i s a.0)
      (λ a. both_ways (listed i) out (subst (λ (k : ℕ). listed k ≡ true) (first_place names name a.0 i a.1 s) a.2))
      v

pub one_flaw : (j : Job) (t : Statement) (w : Place) (e f : SheetFault) → Flawed j t w e → Flawed j t w f → e ≡ f
one_flaw j (version n) w e f a b = a.1 ∙ sym b.1
one_flaw j (length n) w e f a b = a.1 ∙ sym b.1
one_flaw j (fact name) w e f a b = not_new j.facts name (64 ≤ size j.facts) (sheet_is.Repeated w) (sheet_is.Full w) e f a b
one_flaw j (holds name) w e f a b = not_free j.facts name (fact_in j.start) (sheet_is.UnknownFact w) (sheet_is.Repeated w) e f a b
one_flaw j (wanted n name) w e f a b = not_free j.facts name (mentions j.goal) (sheet_is.UnknownFact w) (sheet_is.Repeated w) e f a b
one_flaw j (step name) w e f a b = not_new (step_names j) name (256 ≤ size j.steps) (sheet_is.Repeated w) (sheet_is.Full w) e f a b
one_flaw j (need n name) w e f a b = not_free j.facts name (mentions (newest j).needs) (sheet_is.UnknownFact w) (sheet_is.Repeated w) e f a b
one_flaw j (make n name) w e f a b = not_free j.facts name (mentions (newest j).makes) (sheet_is.UnknownFact w) (sheet_is.Repeated w) e f a b

pub no_flaw : (j k : Job) (t : Statement) (w : Place) (e : SheetFault) → Adds j t k → Flawed j t w e → ⊥
no_flaw j k (version n) w e a b = b.0 a.0
no_flaw j k (length n) w e a b = omega (arith, a.0, b.0)
no_flaw j k (fact name) w e a b = new j.facts name (64 ≤ size j.facts) (sheet_is.Repeated w) (sheet_is.Full w) e a.0 (λ m. omega (arith, a.1)) b
no_flaw j k (holds name) w e a b = free j.facts name (fact_in j.start) (sheet_is.UnknownFact w) (sheet_is.Repeated w) e a.0 a.1 a.2 b
no_flaw j k (wanted n name) w e a b = free j.facts name (mentions j.goal) (sheet_is.UnknownFact w) (sheet_is.Repeated w) e a.0 a.1 a.2 b
no_flaw j k (step name) w e a b = new (step_names j) name (256 ≤ size j.steps) (sheet_is.Repeated w) (sheet_is.Full w) e a.0 (λ m. omega (arith, a.1)) b
no_flaw j k (need n name) w e a b = free j.facts name (mentions (newest j).needs) (sheet_is.UnknownFact w) (sheet_is.Repeated w) e a.0 a.1 a.2 b
no_flaw j k (make n name) w e a b = free j.facts name (mentions (newest j).makes) (sheet_is.UnknownFact w) (sheet_is.Repeated w) e a.0 a.1 a.2 b
