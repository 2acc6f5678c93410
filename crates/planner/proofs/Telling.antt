-- What a run says and a report writes, read from the ledger. Assumes nothing.
use Rattle.std.proofs.Common.{◌≡◌, ℕ, ◌*◌, ◌<◌, min, List, length, take, Option, sym, refl, ap, ◌∙◌, subst, inl, inr, ⊎_elim, arith, get_or-take}
use native.Mathlib.Nat.{ℕ_set}
use mathlib.Core.Logic.{∥∥₁_elim, ∥∥₁_map}
use mathlib.Core.HLevel.{⊥_prop}
use Rattle.sets.specs.declared.steps.StepSet.{StepSet}
use Rattle.model.specs.declared.cell.Cell.{Cell}
use Rattle.model.specs.declared.answers.Outcome.{Outcome}
use Rattle.model.specs.declared.answers.Outcome.TheVariants.{NotYet, Plan, NoPlan}
use Rattle.model.specs.Problems.{steps}
use Rattle.model.specs.Plans.{Cells}
use Rattle.model.specs.Rankings.{cell_of}
use Rattle.model.specs.Held.{problem_of}
use Rattle.model.specs.Answers.{outcome_number}
use Rattle.model.specs.Paths.{at}
use Rattle.model.specs.Choices.{Fair}
use Rattle.model.specs.Firsts.{Before, NoneLeft}
use Rattle.model.proofs.Counting.{walks_pass}
use Rattle.model.proofs.OrderFree.{order_free}
use Rattle.marks.specs.Pinning.{pins_of}
use Rattle.text.specs.Cards.{card_of, taken_in, none_card, not_yet_card}
use Rattle.text.specs.Written.{Fitted}
use Rattle.search.specs.declared.tables.Search.{Search}
use Rattle.search.specs.Levels.{cell_at}
use Rattle.search.specs.Looks.{Ask, asked, Wanted, path_of, plan_of, Ran}
use Rattle.search.proofs.Searches.{kept_now}
use Rattle.search.proofs.Beginnings.{table_well}
use Rattle.planner.specs.declared.tables.Planner.{Planner}
use Rattle.planner.specs.declared.tables.Stage.{Stage}
use Rattle.planner.specs.declared.tables.Stage.TheVariants as stage
use Rattle.planner.specs.Endings.{FirstOf, EndsWith}
use Rattle.planner.specs.Ledger.{Ledger}
use Rattle.planner.specs.Promises.{RunSays, CardOf, FirstPlan}
use Rattle.planner.specs.Obeys.{ledger_at, ledger}
use Rattle.planner.specs.Cards.{Writes}
use Rattle.planner.proofs.Saying.{no_entries, ended_with, table_card}

-- an ending answers the same again
pub says_again : (s : Search) (g : ℕ) (o : Outcome) → (o ≡ NotYet → ⊥) → ∥ EndsWith s o ∥₁
    → RunSays (ledger_at (stage.Asked o) s) g (path_of s) (outcome_number o) (path_of s)
says_again s g NotYet n t = absurd (n refl)
says_again s g Plan n t = record {
  small = omega arith;
  fair = λ h. absurd (omega arith);
  passes = λ h. absurd (omega arith);
  none_left = λ h. absurd (omega arith);
  plan = λ h. ∥∥₁_map t (λ w. (plan_of s, w.0.0));
  none = λ h. absurd (omega arith);
  ends = λ h. no_entries (path_of s) (∥∥₁_elim t (ℕ_set _ _) (λ w. ap length w.1));
  again = λ h. refl;
}
says_again s g NoPlan n t = record {
  small = omega arith;
  fair = λ h. absurd (omega arith);
  passes = λ h. absurd (omega arith);
  none_left = λ h. absurd (omega arith);
  plan = λ h. absurd (omega arith);
  none = λ h c w. ∥∥₁_elim t ⊥_prop (λ x. x.0 c w);
  ends = λ h. no_entries (path_of s) (∥∥₁_elim t (ℕ_set _ _) (λ w. ap length w.1));
  again = λ h. refl;
}

-- what a run says where nothing was known before it
pub says : (s s' : Search) (g : ℕ) (o : Outcome) → asked s' ≡ asked s → Ran s g o s'
    → RunSays (ledger_at (stage.Asked NotYet) s) g (path_of s) (outcome_number o) (path_of s')
says s s' g NotYet e r = record {
  small = omega arith;
  fair = λ h. subst (λ (a : Ask). Fair a.length (steps a.problem) a.pins (path_of s')) e (kept_now s').fair;
  passes = λ h. walks_pass s.length (steps (problem_of s.problem)) (pins_of s.pins) g (path_of s) (path_of s') r;
  none_left = λ h. subst (λ (a : Ask). NoneLeft (Wanted a) (path_of s')) e (kept_now s').none_left;
  plan = λ h. absurd (omega arith);
  none = λ h. absurd (omega arith);
  ends = λ h. absurd (omega arith);
  again = λ h. absurd (omega arith);
}
says s s' g Plan e r = record {
  small = omega arith;
  fair = λ h. absurd (omega arith);
  passes = λ h. absurd (omega arith);
  none_left = λ h. absurd (omega arith);
  plan = λ h. ∣ (plan_of s', r.0.0) ∣₁;
  none = λ h. absurd (omega arith);
  ends = λ h. r.1;
  again = λ h. absurd (omega arith);
}
says s s' g NoPlan e r = record {
  small = omega arith;
  fair = λ h. absurd (omega arith);
  passes = λ h. absurd (omega arith);
  none_left = λ h. absurd (omega arith);
  plan = λ h. absurd (omega arith);
  none = λ h. r.0;
  ends = λ h. r.1;
  again = λ h. absurd (omega arith);
}

-- ---- the card

-- only the places of cells count in an order
before_cut : (C : ℕ) (order : List Cell) (p q : Cells) → Before C (cell_at order) p q → Before C (cell_at (take C order)) p q
before_cut C order p q b =
    let same : (j : ℕ) → j < C → cell_at (take C order) j ≡ cell_at order j = λ j l. get_or-take C order j (cell_of 0 0) l in (
      b.0,
      b.1,
      ap (at p) (same b.0 b.1) ∙ b.2,
      ap (at q) (same b.0 b.1) ∙ b.3,
      λ j l. let k : j < C = omega (arith, b.1) in ap (at p) (same j k) ∙ b.4 j l ∙ sym (ap (at q) (same j k)),
    )

pub first_cut : (s : Search) (o : Outcome) (c : Cells) → FirstOf s c → FirstPlan (ledger_at (stage.Asked o) s) c
first_cut s o c f = (f.0, λ q w. ⊎_elim (λ e. inl e) (λ b. inr (before_cut (s.length * steps (problem_of s.problem)) s.order c q b)) (f.1 q w))

card_not_yet : (s : Search) → CardOf (ledger_at (stage.Asked NotYet) s) not_yet_card
card_not_yet s = record { not_yet = λ h. refl; plan = λ h. absurd (omega arith); none = λ h. absurd (omega arith) }

card_none : (s : Search) → CardOf (ledger_at (stage.Asked NoPlan) s) none_card
card_none s = record { not_yet = λ h. absurd (omega arith); plan = λ h. absurd (omega arith); none = λ h. refl }

card_plan : (s : Search) → FirstOf s (plan_of s) → CardOf (ledger_at (stage.Asked Plan) s) (card_of (plan_of s) (steps (problem_of s.problem)) s.length)
card_plan s f = record {
  not_yet = λ h. absurd (omega arith);
  plan = λ h. (plan_of s, first_cut s Plan (plan_of s) f, order_free (problem_of s.problem) s.length (plan_of s) (table_well s.problem) f.0.plan, refl);
  none = λ h. absurd (omega arith);
}

-- the ledger of a planner at a stage
pub ledger_so : (p : Planner) (x : Stage) → p.stage ≡ x → ledger p ≡ ledger_at x p.search
ledger_so p x h = ap (λ (y : Stage). ledger_at y p.search) h

writes_as : (p : Planner) (o : Outcome) (out out' : List ℕ) (r : Option ℕ) → p.stage ≡ stage.Asked o
    → ∥ ((text : List ℕ) × CardOf (ledger_at (stage.Asked o) p.search) text × Fitted text out r out') ∥₁ → Writes p out r out'
writes_as p o out out' r e w = subst (λ (L : Ledger). ∥ ((text : List ℕ) × CardOf L text × Fitted text out r out') ∥₁) (sym (ledger_so p (stage.Asked o) e)) w

pub writes_not_yet : (p : Planner) (out out' : List ℕ) (r : Option ℕ) → p.stage ≡ stage.Asked NotYet → Fitted not_yet_card out r out' → Writes p out r out'
writes_not_yet p out out' r e f = writes_as p NotYet out out' r e ∣ (not_yet_card, card_not_yet p.search, f) ∣₁

pub writes_none : (p : Planner) (out out' : List ℕ) (r : Option ℕ) → p.stage ≡ stage.Asked NoPlan → Fitted none_card out r out' → Writes p out r out'
writes_none p out out' r e f = writes_as p NoPlan out out' r e ∣ (none_card, card_none p.search, f) ∣₁

-- the card of the plan that was found
pub writes_plan : (p : Planner) (out out' : List ℕ) (r : Option ℕ) (table : List StepSet) (m T : ℕ) → p.stage ≡ stage.Asked Plan
    → table ≡ p.search.plan.taken → m ≡ steps (problem_of p.search.problem) → T ≡ p.search.length
    → Fitted (card_of (taken_in table) m (min T 32)) out r out' → Writes p out r out'
writes_plan p out out' r table m T e a b c f =
    let s = p.search in
    writes_as p Plan out out' r e
    (∥∥₁_map (ended_with p Plan e)
    (λ w. (card_of (plan_of s) (steps (problem_of s.problem)) s.length, card_plan s w.0, subst (λ (text : List ℕ). Fitted text out r out') (table_card s table m T a b c) f)))
