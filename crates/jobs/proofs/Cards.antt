-- The card that a planner reports of a job is the job's card. Assumes nothing.
use Rattle.std.proofs.Common.{◌≡◌, ℕ, zero, suc, ◌+◌, ◌*◌, ◌<◌, ◌≤◌, Bool, cond, eqb, ◌⊎◌, List, [], ◌∷◌, length, get_or, Ok, Err, Result, sym, refl, ap, ◌∙◌, subst, inl, inr, ⊎_elim, add-one, arith}
use mathlib.Core.Logic.{∥∥₁_map}
use Rattle.std.proofs.lemmas.List.{get_or_append_left, get_or_push, length_push}
use Rattle.std.proofs.lemmas.Bool.{cases_lt, le-ltb}
use Rattle.model.specs.declared.answers.Decline.{Decline}
use Rattle.model.specs.declared.answers.Decline.TheVariants.{Unopened, Unasked, TooLong, OutOfRange, Pinned, Unpinned, Grant, TooShort}
use Rattle.model.specs.declared.cell.Cell.{Cell}
use Rattle.model.specs.Problems.{Problem, WellFormed, steps}
use Rattle.model.specs.Plans.{Cells, unpinned, take, leave}
use Rattle.model.specs.Rankings.{cell_of}
use Rattle.model.specs.Answers.{decline_number}
use Rattle.model.specs.Paths.{at, passed}
use Rattle.model.specs.Choices.{Fair}
use Rattle.model.specs.Firsts.{Such, Before, First, None}
use Rattle.model.proofs.OrderFree.{order_free}
use Rattle.sources.specs.Built.{forward}
use Rattle.sources.specs.Reach.{Filters, SamePlans}
use Rattle.sheet.specs.Job.{Job, problem_in}
use Rattle.text.specs.Cards.{card_of}
use Rattle.planner.specs.declared.tables.Planner.{Planner}
use Rattle.planner.specs.Ledger.{Ledger, Ledger.opened, Ledger.asked, Reply.answered, Event.open_call, Event.ask_call, Event.report_call, no_pins, cells_upto, declines, enter, write}
use Rattle.planner.specs.Promises.{CardOf, FirstPlan, Reports}
use Rattle.planner.specs.Obeys.{Obeys, ledger, path, reply}
use Rattle.planner.proofs.Entering.{asked_same}
use Rattle.jobs.specs.JobCards.{PlanOf, step_count, cell_in, JobCard, JobCard.first_plan, JobCard.no_plan, JobCard.still_open, Written, JobAnswered}
use Rattle.jobs.specs.Running.{Begun, Stretch, RanOut}

-- the ledger of a job that is asked
abbrev pub job_ledger : Job → Problem → ℕ → Ledger
job_ledger j F n = asked F (record { length = j.times; order = cells_upto (cell_in j) (j.times * step_count j); pins = no_pins; outcome = n })

length_upto : (f : ℕ → Cell) (n : ℕ) → length (cells_upto f n) ≡ n
length_upto f zero = refl
length_upto f (suc n) = length_push (cells_upto f n) (f n) ∙ ap (λ (k : ℕ). k + 1) (length_upto f n) ∙ add-one n

upto_at : (f : ℕ → Cell) (n k : ℕ) → k < n → get_or (cells_upto f n) k (cell_of 0 0) ≡ f k
upto_at f zero k h = absurd (omega arith)
upto_at f (suc n) k h = ⊎_elim
    (λ l. get_or_append_left (cells_upto f n) (f n ∷ []) (cell_of 0 0) k (omega (arith, length_upto f n)) ∙ upto_at f n k l)
    (λ l. let e : k ≡ n = omega arith in get_or_push (cells_upto f n) (f n) (cell_of 0 0) k (length_upto f n ∙ sym e) ∙ ap f (sym e))
    (cases_lt k n)

one_of : (n : ℕ) → n ≤ 2 → (n ≡ 0) ⊎ ((n ≡ 1) ⊎ (n ≡ 2))
one_of zero h = inl refl
one_of (suc zero) h = inr (inl refl)
one_of (suc (suc n)) h = inr (inr (omega arith))

-- only one refusal has the number 28
short : (d : Decline) → decline_number d ≡ 28 → d ≡ TooShort
short Unopened h = absurd (omega arith)
short Unasked h = absurd (omega arith)
short TooLong h = absurd (omega arith)
short OutOfRange h = absurd (omega arith)
short Pinned h = absurd (omega arith)
short Unpinned h = absurd (omega arith)
short Grant h = absurd (omega arith)
short TooShort h = refl

not_take : unpinned ≡ take → ⊥
not_take e = let z : ◌≡◌ {A = ℕ} 0 1 = cc in omega arith

not_leave : unpinned ≡ leave → ⊥
not_leave e = let z : ◌≡◌ {A = ℕ} 0 1 = cc in omega arith

module _ (j : Job) (F : Problem) (well : WellFormed (problem_in j)) (count : steps F ≡ step_count j) (plans : SamePlans (problem_in j) F) where
  -- the filtered problem's plans, with no pins, are the job's
  such : (c : Cells) → PlanOf j c → Such F j.times no_pins c
  such c w = record { plan = (plans j.times c).1 w; keeps = record { takes = λ t o h. absurd (not_take h); leaves = λ t o h. absurd (not_leave h) } }

  cells_same : j.times * steps F ≡ j.times * step_count j
  cells_same = ap (λ (n : ℕ). j.times * n) count

  ordered_so : (k : ℕ) → k < j.times * step_count j → get_or (cells_upto (cell_in j) (j.times * step_count j)) k (cell_of 0 0) ≡ cell_in j k
  ordered_so k h = upto_at (cell_in j) (j.times * step_count j) k h

  before_so : (n : ℕ) (p q : Cells) → Before (j.times * steps F) (λ k. get_or (cells_upto (cell_in j) (j.times * step_count j)) k (cell_of 0 0)) p q
      → Before (j.times * step_count j) (cell_in j) p q
  before_so n p q b =
      let inside : b.0 < j.times * step_count j = subst (λ (m : ℕ). b.0 < m) cells_same b.1 in (
        b.0,
        inside,
        sym (ap (at p) (ordered_so b.0 inside)) ∙ b.2,
        sym (ap (at q) (ordered_so b.0 inside)) ∙ b.3,
        λ i l. let k : i < j.times * step_count j = omega arith in sym (ap (at p) (ordered_so i k)) ∙ b.4 i l ∙ ap (at q) (ordered_so i k),
      )

  first_so : (n : ℕ) (c : Cells) → FirstPlan (job_ledger j F n) c → First (PlanOf j) j.times (step_count j) (cell_in j) c
  first_so n c f = (
    (plans j.times c).0 f.0.plan,
    λ q w. ⊎_elim (λ e. inl (λ t o l k. e t o l (subst (λ (m : ℕ). o < m) (sym count) k))) (λ b. inr (before_so n c q b)) (f.1 q (such q w)),
  )

  pub job_card : (n : ℕ) (q : Planner) (text : List ℕ) → n ≤ 2 → (n ≡ 2 → None (Such F j.times no_pins)) → (n ≡ 0 → Stretch (job_ledger j F 0) 1000000000 q)
      → CardOf (job_ledger j F n) text → JobCard j text
  job_card n q text l none still card = ⊎_elim
      (λ e. let s = still e in subst (JobCard j) (sym (card.not_yet e))
      (still_open (path q) (subst (λ (m : ℕ). Fair j.times m no_pins (path q)) count (s.fair (omega arith)))
      (subst (λ (m : ℕ). 1000000000 ≤ passed m (path q)) cells_same s.passes) (λ c w. s.none_left (omega arith) c (such c w))))
      (⊎_elim
      (λ e. let k = card.plan e in
      let f = first_so n k.0 k.1 in
      subst (JobCard j) (sym (k.3 ∙ ap (λ (m : ℕ). card_of k.0 m j.times) count))
      (first_plan k.0 f (order_free (problem_in j) j.times k.0 well f.0)))
      (λ e. subst (JobCard j) (sym (card.none e)) (no_plan (λ c w. none e c (such c w)))))
      (one_of n l)

  -- what an open and an ask leave
  pub ask_left : (p q r : Planner) (T : ℕ) → T ≡ j.times → T ≤ 32 → Obeys p (open_call F) q → Obeys q (ask_call T forward (answered tt)) r → ledger r ≡ job_ledger j F 0
  ask_left p q r T e l o a =
      a.written ∙ ap (λ (L : Ledger). write L (ask_call T forward (answered tt))) o.written
      ∙ ap (λ (b : Bool). cond (eqb (cond b 23 0) 0) (enter (opened F) (ask_call T forward (answered tt))) (opened F)) (le-ltb 32 T l)
      ∙ asked_same refl e (ap (λ (m : ℕ). cells_upto (forward.cell T m) (T * m)) count ∙ ap (λ (t : ℕ). cells_upto (forward.cell t (step_count j)) (t * step_count j)) e) refl refl

  -- so runs may begin
  pub begun_then : (p : Planner) → ledger p ≡ job_ledger j F 0 → Begun (ledger p)
  begun_then p e = subst Begun (sym e) (record { known = refl; fresh = refl })

  -- what a report then writes
  pub job_answered : (p q : Planner) (out out' : List ℕ) (r : Result ℕ Decline) → Filters (problem_in j) F → ledger p ≡ job_ledger j F 0 → RanOut (ledger p) q
      → Obeys q (report_call out (reply (λ n. n) r) out') q → JobAnswered j out r out' q
  job_answered p q out out' r f e ran o =
      let done = subst (λ (L : Ledger). RanOut L q) e ran in
      let n = done.outcome in
      let to_card : (text : List ℕ) → CardOf (job_ledger j F n) text → JobCard j text = λ text k. job_card n q text done.small done.none done.open_still k in
      record {
        card = written r (subst (λ (L : Ledger). Reports L (declines L (report_call out (reply (λ k. k) r) out')) out (reply (λ k. k) r) out') done.left o.promised.1) to_card;
        filtered = F;
        filters = f;
        outcome = n;
        left = done.left;
      }
    where
      written : (x : Result ℕ Decline) {L : Ledger} → Reports L 0 out (reply (λ k. k) x) out' → ((text : List ℕ) → CardOf L text → JobCard j text)
          → ∥ ((text : List ℕ) × JobCard j text × Written text out x out') ∥₁
      written (Ok m) w k = ∥∥₁_map w.1 (λ y. (y.0, k y.0 y.1, y.2))
      written (Err d) w k = ⊎_elim (λ z. absurd (omega (arith, z.1))) (λ z. ∥∥₁_map z.2 (λ y. (y.0, k y.0 y.1, (short d z.1, record { fewer = y.2; same = w.0 })))) w.1
