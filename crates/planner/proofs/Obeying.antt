-- Each call obeys, from what the search under it promises. Assumes nothing.
use Rattle.std.proofs.Common.{◌≡◌, ℕ, ◌*◌, ◌≤◌, Bool, false, cond, ltb, List, length, get_or, take, Option, Some, None as Nothing, refl, ap, ◌∙◌, subst, inr, arith}
use native.Mathlib.Nat.{ℕ_set}
use mathlib.Core.Logic.{∥∥₁_map, ∥∥₁_elim}
use Rattle.std.proofs.lemmas.List.{same_lists}
use Rattle.std.proofs.lemmas.Bool.{ne_eqb, le-ltb, lt-leb, or_from}
use Rattle.model.specs.declared.cell.Cell.{Cell}
use Rattle.model.specs.declared.answers.Outcome.{Outcome}
use Rattle.model.specs.declared.answers.Outcome.TheVariants.{NotYet}
use Rattle.std.specs.Option.{ok_or}
use Rattle.model.specs.declared.answers.Decline.TheVariants.{TooShort}
use Rattle.model.specs.Problems.{steps}
use Rattle.model.specs.Rankings.{Order}
use Rattle.model.specs.Held.{problem_of}
use Rattle.model.specs.Answers.{outcome_number}
use Rattle.model.specs.Forcing.{ForcedSays}
use Rattle.marks.specs.Pinning.{pins_of}
use Rattle.search.specs.Begins.{Asked}
use Rattle.search.specs.Looks.{Ask, asked as asked_of, Ran}
use Rattle.planner.specs.declared.tables.Planner.{Planner}
use Rattle.planner.specs.declared.tables.Stage.{Stage}
use Rattle.planner.specs.declared.tables.Stage.TheVariants as stage
use Rattle.planner.specs.Ledger.{Ledger, Reply, Ledger.asked, Reply.declined, Reply.answered, unopened, out_of_range, bad_grant, problem, declines, Event.ask_call, Event.run_call, Event.forced_call, Event.report_call}
use Rattle.planner.specs.Promises.{Reports}
use Rattle.planner.specs.Cards.{Writes}
use Rattle.planner.specs.Obeys.{ledger_at, ledger, reply, Obeys}
use Rattle.planner.specs.Checks.{InRange}
use Rattle.planner.proofs.Entering.{ask_enters, obeys_done, obeys_look}
use Rattle.planner.proofs.Saying.{ended_with}
use Rattle.planner.proofs.Telling.{ledger_so, says, says_again}

-- a cell in range
in_range : (p : Planner) (x : Outcome) (t o : ℕ) (c : Cell) → InRange p t o c → out_of_range (ledger_at (stage.Asked x) p.search) t o ≡ false
in_range p x t o c r = or_from _ _ (lt-leb p.search.length t r.in_time) (lt-leb (steps (problem_of p.search.problem)) o r.in_count)

pub ask_obeys : (p q : Planner) (T : ℕ) (o : Order) → unopened (ledger p) ≡ false → T ≤ 32 → q.stage ≡ stage.Asked NotYet
    → Asked p.search T o q.search → Obeys p (ask_call T o (answered tt)) q
ask_obeys p q T o begun short s h =
    let d : declines (ledger p) (ask_call T o (answered tt)) ≡ 0 = ap (λ (b : Bool). cond b 21 (cond (ltb 32 T) 23 0)) begun ∙ ap (λ (b : Bool). cond b 23 0) (le-ltb 32 T short) in
    obeys_done p q (ask_call T o (answered tt)) (ledger p) refl d
    (ledger_so q (stage.Asked NotYet) s ∙ ask_enters p.search q.search T o (problem (ledger p)) (held p.stage begun) h) refl (d, h.fresh)
  where
    held : (st : Stage) → unopened (ledger_at st p.search) ≡ false → problem_of p.search.problem ≡ problem (ledger_at st p.search)
    held stage.New z = absurd (let u : ◌≡◌ {A = ℕ} 0 1 = cc in omega arith)
    held stage.Opened z = refl
    held (stage.Asked y) z = refl

granted : (g : ℕ) → (g ≡ 0 → ⊥) → g ≤ 1000000 → ◌≡◌ {A = ℕ} (cond (bad_grant g) 27 0) 0
granted g n l = ap (λ (b : Bool). cond b 27 0) (or_from _ _ (ne_eqb g 0 n) (le-ltb 1000000 g l))

-- a run of a search that was not ended
pub run_obeys : (p q : Planner) (g : ℕ) (o : Outcome) → p.stage ≡ stage.Asked NotYet → (g ≡ 0 → ⊥) → g ≤ 1000000 → q.stage ≡ stage.Asked o
    → asked_of q.search ≡ asked_of p.search → Ran p.search g o q.search → Obeys p (run_call g (answered (outcome_number o))) q
run_obeys p q g o s n l s' same r =
    obeys_done p q (run_call g (answered (outcome_number o))) (ledger_at (stage.Asked NotYet) p.search) (ledger_so p (stage.Asked NotYet) s) (granted g n l)
    (ledger_so q (stage.Asked o) s'
    ∙ ap (λ (a : Ask). asked a.problem (record { length = a.length; order = take (a.length * steps a.problem) a.order; pins = a.pins; outcome = outcome_number o })) same)
    refl (granted g n l, says p.search q.search g o same r)

-- a run after an ending
pub run_again : (p : Planner) (g : ℕ) (o : Outcome) → p.stage ≡ stage.Asked o → (o ≡ NotYet → ⊥) → (g ≡ 0 → ⊥) → g ≤ 1000000
    → Obeys p (run_call g (answered (outcome_number o))) p
run_again p g o s x n l =
    obeys_done p p (run_call g (answered (outcome_number o))) (ledger_at (stage.Asked o) p.search) (ledger_so p (stage.Asked o) s) (granted g n l)
    (ledger_so p (stage.Asked o) s) refl (granted g n l, says_again p.search g o x (ended_with p o s))

pub forced_obeys : (p : Planner) (t o : ℕ) (c : Cell) (n : ℕ) → InRange p t o c
    → ForcedSays (problem_of p.search.problem) p.search.length (pins_of p.search.pins) c.time c.step n → Obeys p (forced_call t o (answered n)) p
forced_obeys p t o c n r h =
    let told = subst (λ (k : ℕ). ForcedSays (problem_of p.search.problem) p.search.length (pins_of p.search.pins) t k n) r.step
    (subst (λ (k : ℕ). ForcedSays (problem_of p.search.problem) p.search.length (pins_of p.search.pins) k c.step n) r.time h) in
    obeys_look p (forced_call t o (answered n)) (ledger_at (stage.Asked r.outcome) p.search) (ledger_so p (stage.Asked r.outcome) r.stage) refl
    (refl, (ap (λ (b : Bool). cond b 24 0) (in_range p r.outcome t o c r), told))

-- a report, by whether there was room for its card
pub report_obeys : (p : Planner) (out out' : List ℕ) (o : Outcome) → p.stage ≡ stage.Asked o → (r : Option ℕ) → Writes p out r out'
    → Obeys p (report_call out (reply (λ n. n) (ok_or r TooShort)) out') p
report_obeys p out out' o s r w = obeys_look p (report_call out (reply (λ n. n) (ok_or r TooShort)) out') (ledger p) refl refl (refl, told r w)
  where
    none_fits : (x : Reply ℕ) → declines (ledger p) (report_call out x out') ≡ 0
    none_fits x = ap (λ (L : Ledger). declines L (report_call out x out')) (ledger_so p (stage.Asked o) s)

    told : (x : Option ℕ) → Writes p out x out' → Reports (ledger p) (declines (ledger p) (report_call out (reply (λ n. n) (ok_or x TooShort)) out')) out (reply (λ n. n) (ok_or x TooShort)) out'
    told (Some n) w = (none_fits (answered n), w)
    told Nothing w = (
      same_lists out' out (∥∥₁_elim w (ℕ_set _ _) (λ x. ap length x.2.same)) (λ k d l. ∥∥₁_elim w (ℕ_set _ _) (λ x. ap (λ (bytes : List ℕ). get_or bytes k d) x.2.same)),
      inr (none_fits (declined 28), refl, ∥∥₁_map w (λ x. (x.0, x.1, x.2.fewer))),
    )
