-- What the tables of a sheet problem say of its job.
use Rattle.std.specs.Prelude.{◌≡◌, ℕ, zero, suc, ◌+◌, ◌-◌, ◌<◌, ◌≤◌, Bool, true, false, ◌&&◌, ◌||◌, ◌⊎◌, List, [], ◌∷◌, ◌++◌, map, length, get_or, take, set, replicate, Some, None, Ok, Err, Option, Result, MatchResult, ◌==◌, nat_lt, slice_index_or, slice_set, refl}
use Rattle.std.proofs.Common.{sym, ap, subst, ◌∙◌, inl, inr, ⊎_elim, arith}
use Rattle.std.specs.Option.{ok_or}
use Rattle.std.proofs.Math.Nat.{sub-zero}
use Rattle.std.proofs.lemmas.List.{length-map, length-set, length-take-le, take-map, map-set, take_more_set, get_or-take, get_or-map}
use Rattle.std.proofs.lemmas.Bool.{eqb-true}
use Rattle.sets.specs.Literals.{Literal}
use Rattle.sets.specs.Sets.{fact_in, with_literal, no_literals}
use Rattle.sets.specs.declared.facts.FactSet.{FactSet}
use Rattle.sets.specs.declared.facts.LiteralSet.{LiteralSet}
use Rattle.model.specs.Tables.{FactsBelow}
use Rattle.sheet.specs.Entry.{First, Unknown, Stands}
use Rattle.sheet.specs.Job.{Job, JobStep, no_step, newest, Names, Adds, Flawed, amending, literal, mentions, step_names}
use Rattle.sheet.specs.Joins.{Joins, NeedJoins, MakeJoins, with_needs, with_makes}
use Rattle.sheet.specs.Name.{name_bytes}
use Rattle.sheet.specs.Records.{fact_name, job_step}
use Rattle.sheet.specs.Stated.{stated}
use Rattle.sheet.specs.Statement.{wanted, need, make}
use Rattle.sheet.specs.declared.fault.Place.{Place}
use Rattle.sheet.specs.declared.fault.SheetFault.{SheetFault}
use Rattle.sheet.specs.declared.fault.SheetFault.TheVariants as sheet_is
use Rattle.sheet.specs.declared.record.StepRecord.{StepRecord}
use Rattle.sheet.specs.declared.problem.SheetProblem.{SheetProblem}

pub facts_count : (p : SheetProblem) → length (stated p).facts ≡ p.named
facts_count p = length-take-le p.named (map fact_name p.facts) (omega (arith, length-map p.facts fact_name, p.few_facts, p.fact_room))

pub steps_count : (p : SheetProblem) → length (stated p).steps ≡ p.count
steps_count p = length-take-le p.count (map job_step p.steps) (omega (arith, length-map p.steps job_step, p.few_steps, p.step_room))

pub named_below : (p : SheetProblem) (name : List ℕ) (f : ℕ) → Stands (stated p).facts name f → f < p.named
named_below p name f s = subst (λ (n : ℕ). f < n) (facts_count p) s.0

pub below_64 : (p : SheetProblem) (name : List ℕ) (f : ℕ) → Stands (stated p).facts name f → f < 64
below_64 p name f s = omega (arith, named_below p name f s, p.few_facts)

-- the first records of a table, by their names
pub found : {X : Type 0} (f : X → List ℕ) (n : ℕ) (l : List X) (name : List ℕ) (r : Option ℕ) → First (map f (take (n - 0) l)) name r → First (take n (map f l)) name r
found f n l name r h = subst (λ (k : List (List ℕ)). First k name r) (ap (λ (m : ℕ). map f (take m l)) (sub-zero n) ∙ sym (take-map f n l)) h

-- the names in use are those of the first records
pub facts_taken : (p : SheetProblem) → map fact_name (take p.named p.facts) ≡ (stated p).facts
facts_taken p = sym (take-map fact_name p.named p.facts)

names_taken : (n : ℕ) (l : List StepRecord) → map (λ (e : StepRecord). name_bytes e.name) (take n l) ≡ map (λ (s : JobStep). s.name) (take n (map job_step l))
names_taken zero l = refl
names_taken (suc n) [] = refl
names_taken (suc n) (x ∷ l) = ap (λ (t : List (List ℕ)). name_bytes x.name ∷ t) (names_taken n l)

pub found_step : (n : ℕ) (l : List StepRecord) (name : List ℕ) (r : Option ℕ) → First (map (λ (e : StepRecord). name_bytes e.name) (take (n - 0) l)) name r → First (map (λ (s : JobStep). s.name) (take n (map job_step l))) name r
found_step n l name r h = subst (λ (k : List (List ℕ)). First k name r) (ap (λ (m : ℕ). map (λ (e : StepRecord). name_bytes e.name) (take m l)) (sub-zero n) ∙ names_taken n l) h

pub steps_taken : (p : SheetProblem) → map (λ (e : StepRecord). name_bytes e.name) (take p.count p.steps) ≡ step_names (stated p)
steps_taken p = names_taken p.count p.steps

-- the place that was found, or the fault that says of which there is none
pub found_or : (names : List (List ℕ)) (name : List ℕ) (o : Option ℕ) (e : SheetFault) (r : Result ℕ SheetFault) → r ≡ ok_or o e → First names name o
    → MatchResult r (λ i. Stands names name i) (λ x. Unknown names name × (x ≡ e))
found_or names name (Some i) e r q h = subst (λ (t : Result ℕ SheetFault). MatchResult t (λ i. Stands names name i) (λ x. Unknown names name × (x ≡ e))) (sym q) h
found_or names name None e r q h = subst (λ (t : Result ℕ SheetFault). MatchResult t (λ i. Stands names name i) (λ x. Unknown names name × (x ≡ e))) (sym q) (h, refl)

-- one record more behind the first ones
pub more : {X Y : Type 0} (f : X → Y) (rows table : List X) (i n : ℕ) (e : X) (y : Y) → i < length rows → n ≡ i + 1 → table ≡ slice_set rows i e → f e ≡ y → take n (map f table) ≡ take i (map f rows) ++ y ∷ []
more f rows table i n e y h k t v =
    ap (λ (m : ℕ). take m (map f table)) k
    ∙ ap (λ (l : List _). take (i + 1) (map f l)) t
    ∙ ap (take (i + 1)) (map-set f rows i e)
    ∙ take_more_set (map f rows) i (f e) (omega (arith, length-map rows f))
    ∙ ap (λ (z : _). take i (map f rows) ++ z ∷ []) v

-- what holds of each step of a table, and of what is set, holds of each after
pub at_set : (P : JobStep → Type 0) (js : List JobStep) (i : ℕ) (x : JobStep) → P x → ((o : ℕ) → P (slice_index_or js o no_step)) → (o : ℕ) → P (slice_index_or (slice_set js i x) o no_step)
at_set P [] i x h old o = old o
at_set P (y ∷ js) zero x h old zero = h
at_set P (y ∷ js) zero x h old (suc o) = old (suc o)
at_set P (y ∷ js) (suc i) x h old zero = old zero
at_set P (y ∷ js) (suc i) x h old (suc o) = at_set P js i x h (λ k. old (suc k)) o

pub at_all : (P : JobStep → Type 0) (n : ℕ) (x : StepRecord) → P (job_step x) → P no_step → (o : ℕ) → P (slice_index_or (map job_step (replicate n x)) o no_step)
at_all P zero x h d o = d
at_all P (suc n) x h d zero = h
at_all P (suc n) x h d (suc o) = at_all P n x h d o

pub same_room : (rows table : List StepRecord) (i : ℕ) (y : JobStep) → map job_step table ≡ slice_set (map job_step rows) i y → length table ≡ length rows
same_room rows table i y e = sym (length-map table job_step) ∙ ap length e ∙ length-set (map job_step rows) i y ∙ length-map rows job_step

-- at a table of records that was lent one of them
pub at_row : (P : JobStep → Type 0) (rows : List StepRecord) (i : ℕ) (d : StepRecord) → i < length rows → ((o : ℕ) → P (slice_index_or (map job_step rows) o no_step)) → P (job_step (slice_index_or rows i d))
at_row P rows i d h old = subst P (get_or-map job_step rows i d no_step h) (old i)

pub at_rows : (P : JobStep → Type 0) (rows : List StepRecord) (i : ℕ) (x : StepRecord) → P (job_step x) → ((o : ℕ) → P (slice_index_or (map job_step rows) o no_step)) → (o : ℕ) → P (slice_index_or (map job_step (slice_set rows i x)) o no_step)
at_rows P rows i x h old = subst (λ (js : List JobStep). (o : ℕ) → P (slice_index_or js o no_step)) (sym (map-set job_step rows i x)) (at_set P (map job_step rows) i (job_step x) h old)

-- one fact more at the start
abbrev pub with_start : Job → FactSet → Job
with_start j s = record { times = j.times; facts = j.facts; start = s; goal = j.goal; steps = j.steps }

abbrev pub with_goal : Job → LiteralSet → Job
with_goal j s = record { times = j.times; facts = j.facts; start = j.start; goal = s; steps = j.steps }

abbrev pub with_facts : Job → List (List ℕ) → Job
with_facts j s = record { times = j.times; facts = s; start = j.start; goal = j.goal; steps = j.steps }

abbrev pub with_steps : Job → List JobStep → Job
with_steps j s = record { times = j.times; facts = j.facts; start = j.start; goal = j.goal; steps = s }

pub or_and : (x t q : Bool) → (x || (t && q)) ≡ true → (x ≡ true) ⊎ (q ≡ true)
or_and true t q e = inl refl
or_and false true q e = inr e
or_and false false q e = absurd cc

pub starts_below : (n : ℕ) (s s' : FactSet) (f : ℕ) → ((i : ℕ) → fact_in s' i ≡ (fact_in s i || (nat_lt f 64 && i == f))) → f < n → FactsBelow n s → FactsBelow n s'
starts_below n s s' f h l old i e =
    ⊎_elim (old i) (λ q. subst (λ (k : ℕ). k < n) (sym (eqb-true i f q)) l) (or_and (fact_in s i) (nat_lt f 64) (i == f) (sym (h i) ∙ e))

-- a wanted line, by what its literal did to the goal
pub wanted_told : (j : Job) (s : LiteralSet) (f : ℕ) (b : Bool) (name : List ℕ) (w : Place) (r : Result (Unit {0}) SheetFault) → Names j name f → Joins j.goal f b w r s
    → MatchResult r (λ _. Adds j (wanted b name) (with_goal j s)) (λ e. Flawed j (wanted b name) w e)
wanted_told j s f b name w (Ok u) n h = (f, n, h.free, ap (with_goal j) h.more.value)
wanted_told j s f b name w (Err e) n h = inr (f, n, h.0, h.1)

take_set_in : {A : Type 0} (n i : ℕ) (l : List A) (a : A) → take n (slice_set l i a) ≡ slice_set (take n l) i a
take_set_in zero i l a = refl
take_set_in (suc n) i [] a = refl
take_set_in (suc n) zero (x ∷ l) a = refl
take_set_in (suc n) (suc i) (x ∷ l) a = ap (λ (t : List _). x ∷ t) (take_set_in n i l a)

-- the newest step of a problem, one of whose lists a literal joins: its needs or its makes
module _ (p : SheetProblem) (some : 0 < p.count) (put : LiteralSet → JobStep → JobStep) (got : JobStep → LiteralSet) where
  newest_row : (d : StepRecord) → newest (stated p) ≡ job_step (slice_index_or p.steps (p.count - 1) d)
  newest_row d =
      ap (λ (m : ℕ). slice_index_or (stated p).steps (m - 1) no_step) (steps_count p)
      ∙ get_or-take p.count (map job_step p.steps) (p.count - 1) no_step (omega arith)
      ∙ get_or-map job_step p.steps (p.count - 1) d no_step (omega (arith, p.few_steps, p.step_room))

  newest_set : (x : StepRecord) → take p.count (map job_step (slice_set p.steps (p.count - 1) x)) ≡ slice_set (stated p).steps (length (stated p).steps - 1) (job_step x)
  newest_set x =
      ap (take p.count) (map-set job_step p.steps (p.count - 1) x)
      ∙ take_set_in p.count (p.count - 1) (map job_step p.steps) (job_step x)
      ∙ ap (λ (m : ℕ). slice_set (stated p).steps (m - 1) (job_step x)) (sym (steps_count p))

  pub newest_told : (d x : StepRecord) (f : ℕ) (b : Bool) (name : List ℕ) (w : Place) (r : Result (Unit {0}) SheetFault) (n : LiteralSet) → Names (stated p) name f
      → Joins (got (job_step (slice_index_or p.steps (p.count - 1) d))) f b w r n → job_step x ≡ put n (job_step (slice_index_or p.steps (p.count - 1) d))
      → MatchResult r
      (λ _. (i : ℕ) × Names (stated p) name i × (mentions (got (newest (stated p))) i ≡ false) ×
      (with_steps (stated p) (take p.count (map job_step (slice_set p.steps (p.count - 1) x))) ≡ amending (put (with_literal (got (newest (stated p))) (literal b i)) (newest (stated p))) (stated p)))
      (λ e. (Unknown (stated p).facts name × (e ≡ sheet_is.UnknownFact w)) ⊎ ((i : ℕ) × Names (stated p) name i × (mentions (got (newest (stated p))) i ≡ true) × (e ≡ sheet_is.Repeated w)))
  newest_told d x f b name w (Ok u) n at h e = (
    f,
    at,
    subst (λ (s : JobStep). mentions (got s) f ≡ false) (sym (newest_row d)) h.free,
    ap (with_steps (stated p)) (newest_set x
        ∙ ap (slice_set (stated p).steps (length (stated p).steps - 1)) (e
        ∙ ap (λ (m : LiteralSet). put m (job_step (slice_index_or p.steps (p.count - 1) d))) h.more.value
        ∙ ap (λ (s : JobStep). put (with_literal (got s) (literal b f)) s) (sym (newest_row d)))),
  )
  newest_told d x f b name w (Err e) n at h q = inr (f, at, subst (λ (s : JobStep). mentions (got s) f ≡ true) (sym (newest_row d)) h.0, h.1)

-- the newest step of a job whose steps are the first of a table
module _ (j : Job) (js : List JobStep) (count : ℕ) (is : j.steps ≡ take count js) (some : 0 < count) (fit : count ≤ length js) where
  long : length j.steps ≡ count
  long = ap length is ∙ length-take-le count js fit

  pub last_is : get_or js (count - 1) no_step ≡ newest j
  last_is = sym (ap (λ (l : List JobStep). get_or l (length j.steps - 1) no_step) is ∙ ap (λ (n : ℕ). get_or (take count js) (n - 1) no_step) long ∙ get_or-take count js (count - 1) no_step (omega arith))

  pub last_set : (put : LiteralSet → JobStep → JobStep) (got : JobStep → LiteralSet) (ks : List JobStep) (n : LiteralSet) (l : Literal)
      → ks ≡ slice_set js (count - 1) (put n (slice_index_or js (count - 1) no_step)) → n ≡ with_literal (got (slice_index_or js (count - 1) no_step)) l
      → take count ks ≡ slice_set j.steps (length j.steps - 1) (put (with_literal (got (newest j)) l) (newest j))
  last_set put got ks n l k v =
      ap (take count) k
      ∙ take_set_in count (count - 1) js (put n (slice_index_or js (count - 1) no_step))
      ∙ ap (λ (m : LiteralSet). set (take count js) (count - 1) (put m (slice_index_or js (count - 1) no_step))) v
      ∙ ap (λ (y : JobStep). set (take count js) (count - 1) (put (with_literal (got y) l) y)) last_is
      ∙ ap (λ (t : List JobStep). set t (count - 1) (put (with_literal (got (newest j)) l) (newest j))) (sym is)
      ∙ ap (λ (m : ℕ). set j.steps (m - 1) (put (with_literal (got (newest j)) l) (newest j))) (sym long)

  pub need_told : (ks : List JobStep) (f : ℕ) (b : Bool) (name : List ℕ) (w : Place) (r : Result (Unit {0}) SheetFault) → Names j name f → NeedJoins js (count - 1) f b w r ks
      → MatchResult r (λ _. Adds j (need b name) (with_steps j (take count ks))) (λ e. Flawed j (need b name) w e)
  need_told ks f b name w (Ok u) n h = (
    f,
    n,
    subst (λ (s : JobStep). mentions s.needs f ≡ false) last_is h.2.free,
    ap (with_steps j) (last_set with_needs (λ (s : JobStep). s.needs) ks h.0 (literal b f) h.1 h.2.more.value),
  )
  need_told ks f b name w (Err e) n h = inr (f, n, subst (λ (s : JobStep). mentions s.needs f ≡ true) last_is h.2.0, h.2.1)

  pub make_told : (ks : List JobStep) (f : ℕ) (b : Bool) (name : List ℕ) (w : Place) (r : Result (Unit {0}) SheetFault) → Names j name f → MakeJoins js (count - 1) f b w r ks
      → MatchResult r (λ _. Adds j (make b name) (with_steps j (take count ks))) (λ e. Flawed j (make b name) w e)
  make_told ks f b name w (Ok u) n h = (
    f,
    n,
    subst (λ (s : JobStep). mentions s.makes f ≡ false) last_is h.2.free,
    ap (with_steps j) (last_set with_makes (λ (s : JobStep). s.makes) ks h.0 (literal b f) h.1 h.2.more.value),
  )
  make_told ks f b name w (Err e) n h = inr (f, n, subst (λ (s : JobStep). mentions s.makes f ≡ true) last_is h.2.0, h.2.1)

-- a step of which only the name is told
abbrev pub bare : List ℕ → JobStep
bare name = record { name = name; needs = no_literals; makes = no_literals }

-- a record that was lent and came back with one list changed
pub lent : (put : LiteralSet → JobStep → JobStep) (rows : List StepRecord) (i : ℕ) (d x : StepRecord) (n : LiteralSet) → i < length rows
    → job_step x ≡ put n (job_step (slice_index_or rows i d)) → map job_step (slice_set rows i x) ≡ slice_set (map job_step rows) i (put n (slice_index_or (map job_step rows) i no_step))
lent put rows i d x n h e = map-set job_step rows i x ∙ ap (set (map job_step rows) i) (e ∙ ap (put n) (sym (get_or-map job_step rows i d no_step h)))
