-- Runs one after another, up to an ending. Assumes nothing.
use Rattle.std.proofs.Common.{◌≡◌, ℕ, ◌+◌, ◌*◌, true, false, cond, eqb, sym, refl, ap, ◌∙◌, subst, arith}
use Rattle.model.specs.declared.answers.Outcome.{Outcome}
use Rattle.model.specs.declared.answers.Outcome.TheVariants.{NotYet, Plan, NoPlan}
use Rattle.model.specs.Answers.{outcome_number}
use Rattle.planner.specs.declared.tables.Planner.{Planner}
use Rattle.planner.specs.Ledger.{Ledger, Ledger.blank, Ledger.opened, Ledger.asked, Reply, Reply.declined, Reply.answered, Event.run_call, unasked, declines, enter}
use Rattle.planner.specs.Promises.{RunSays}
use Rattle.planner.specs.Obeys.{Obeys, ledger, path}
use Rattle.jobs.specs.Running.{Begun, with_outcome, Stretch, RanOut}

true_false : true ≡ false → ⊥
true_false e = let z : ◌≡◌ {A = ℕ} 0 1 = cc in omega arith

-- once something is asked, a run of a million choices is not declined
run_fits : (L : Ledger) (r : Reply ℕ) → unasked L ≡ false → declines L (run_call 1000000 r) ≡ 0
run_fits blank r h = absurd (true_false h)
run_fits (opened p) r h = absurd (true_false h)
run_fits (asked p a) r h = refl

with_same : (L : Ledger) → Begun L → with_outcome L 0 ≡ L
with_same blank b = absurd (true_false b.known)
with_same (opened p) b = absurd (true_false b.known)
with_same (asked p a) b = sym (ap (λ (n : ℕ). asked p (record { length = a.length; order = a.order; pins = a.pins; outcome = n })) b.fresh)

pub run_refused : (L : Ledger) (p q : Planner) (k : ℕ) → Begun L → ledger p ≡ L → Obeys p (run_call 1000000 (declined k)) q → ⊥
run_refused L p q k b same o =
    let n : declines (ledger p) (run_call 1000000 (declined k)) ≡ 0 = run_fits (ledger p) (declined k) (ap unasked same ∙ b.known) in
    omega (arith, o.promised.1, n)

module _ (L : Ledger) (p q : Planner) (n : ℕ) (b : Begun L) (same : ledger p ≡ L) (o : Obeys p (run_call 1000000 (answered n)) q) where
  run_left : ledger q ≡ with_outcome L n
  run_left =
      o.written
      ∙ ap (λ (k : ℕ). cond (eqb k 0) (enter (ledger p) (run_call 1000000 (answered n))) (ledger p)) (run_fits (ledger p) (answered n) (ap unasked same ∙ b.known))
      ∙ ap (λ (K : Ledger). with_outcome K n) same

  run_says : RunSays L 1000000 (path p) n (path q)
  run_says = subst (λ (K : Ledger). RunSays K 1000000 (path p) n (path q)) same o.promised.1

pub stretch_none : (p : Planner) → Stretch (ledger p) 0 p
stretch_none p = record { same = refl; passes = omega arith; fair = λ h. absurd (omega arith); none_left = λ h. absurd (omega arith) }

-- one run more that did not end
pub stretch_more : (L : Ledger) (p q : Planner) (i : ℕ) → Begun L → Stretch L (i * 1000000) p → Obeys p (run_call 1000000 (answered 0)) q → Stretch L ((i + 1) * 1000000) q
stretch_more L p q i b s o =
    let says = run_says L p q 0 b s.same o in
    record {
      same = run_left L p q 0 b s.same o ∙ with_same L b;
      passes = omega (arith, s.passes, says.passes refl);
      fair = λ h. says.fair refl;
      none_left = λ h. says.none_left refl;
    }

-- all runs, and no ending
pub ran_open : (L : Ledger) (q : Planner) → Begun L → Stretch L 1000000000 q → RanOut L q
ran_open L q b s = record {
  outcome = 0;
  left = s.same ∙ sym (with_same L b);
  small = omega arith;
  none = λ h. absurd (omega arith);
  open_still = λ h. s;
}

-- an ending
pub ran_ended : (L : Ledger) (p q : Planner) (x : Outcome) → Begun L → ledger p ≡ L → Obeys p (run_call 1000000 (answered (outcome_number x))) q → (x ≡ NotYet → ⊥) → RanOut L q
ran_ended L p q x b same o ends =
    let says = run_says L p q (outcome_number x) b same o in
    record {
      outcome = outcome_number x;
      left = run_left L p q (outcome_number x) b same o;
      small = says.small;
      none = says.none;
      open_still = λ h. absurd (open_not x h ends);
    }
  where
    open_not : (y : Outcome) → outcome_number y ≡ 0 → (y ≡ NotYet → ⊥) → ⊥
    open_not NotYet h n = n refl
    open_not Plan h n = omega arith
    open_not NoPlan h n = omega arith
