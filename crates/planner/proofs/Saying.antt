-- What a run says, from what the search did. Assumes nothing.
use Rattle.std.proofs.Common.{◌≡◌, ℕ, zero, suc, ◌<◌, min, Bool, true, cond, ◌&&◌, eqb, ltb, List, [], ◌∷◌, ◌++◌, length, get_or, Some, None as Nothing, decimal, Option, is_some, MatchOption, sym, refl, ap, ◌∙◌, subst, ⊎_elim, arith}
use native.Mathlib.Nat.{ℕ_set}
use mathlib.Core.Logic.{∥∥₁_elim, ∥∥₁_map}
use mathlib.Core.HLevel.{⊥_prop}
use Rattle.std.proofs.lemmas.Bool.{and_from, and_parts, lt-ltb, lt-leb, or_from, eq-eqb, eqb-true, cases_Bool, cond-true, cond-false}
use Rattle.model.specs.declared.cell.Cell.{Cell}
use Rattle.planner.specs.declared.tables.Stage.{Stage}
use Rattle.planner.specs.declared.tables.Stage.TheVariants.{Asked}
use Rattle.sets.specs.Sets.{step_in, no_steps}
use Rattle.model.specs.declared.answers.Outcome.{Outcome}
use Rattle.model.specs.declared.answers.Outcome.TheVariants.{NotYet, Plan, NoPlan}
use Rattle.model.specs.declared.path.Entry.{Entry}
use Rattle.model.specs.declared.path.Side.{Side}
use Rattle.model.specs.declared.path.Side.TheVariants as side
use Rattle.model.specs.Paths.{takes}
use Rattle.model.specs.Problems.{steps}
use Rattle.model.specs.Plans.{Cells, Pin, Pins, unpinned}
use Rattle.model.specs.Held.{problem_of}
use Rattle.model.specs.Choices.{Fair}
use Rattle.model.specs.Firsts.{First, None, NoneLeft}
use Rattle.model.proofs.Counting.{walks_pass}
use Rattle.marks.specs.Pinning.{pins_of, pin_of, with_pin}
use Rattle.text.specs.Cards.{steps_up_to, line_of, card_of, taken_in}
use Rattle.text.specs.Written.{Fitted}
use Rattle.sets.specs.declared.steps.StepSet.{StepSet}
use Rattle.search.specs.declared.tables.Search.{Search}
use Rattle.search.specs.Levels.{cell_at}
use Rattle.search.specs.Looks.{Ask, asked, Wanted, path_of, plan_of, Ran}
use Rattle.search.proofs.Searches.{kept_now}
use Rattle.model.specs.declared.answers.Decline.{Decline}
use Rattle.model.specs.declared.answers.Decline.TheVariants.{Unopened, Unasked, OutOfRange, Pinned}
use Rattle.planner.specs.declared.tables.Planner.{Planner}
use Rattle.planner.specs.Endings.{EndsWith, Ends}
use Rattle.planner.specs.Calls.{RunSays, CardOf, Writes, outcome, Pins as PinsOnly, unopened, unasked, unless_asked, unless_out, pin_declines}
use Rattle.planner.specs.Checks.{InRange}
use Rattle.planner.specs.Ledger.{pin_for, is_pinned}
use Rattle.search.specs.Begins.{Repinned}

pub no_entries : (path : List Entry) → length path ≡ 0 → path ≡ []
no_entries [] h = refl
no_entries (e ∷ path) h = absurd (omega arith)

-- how the search ended, after an ask
pub ended_with : (p : Planner) (o : Outcome) → p.stage ≡ Asked o → ∥ EndsWith p.search o ∥₁
ended_with p o e = subst (λ (x : Stage). ∥ Ends p.search x ∥₁) e p.ended

-- an ending answers the same again
pub again : (p : Planner) (g : ℕ) (o : Outcome) → p.stage ≡ Asked o → (o ≡ NotYet → ⊥) → RunSays p g o p
again p g NotYet e n = absurd (n refl)
again p g Plan e n =
    let t = ended_with p Plan e in
    (∥∥₁_map t (λ w. (plan_of p.search, w.0.0)), no_entries (path_of p.search) (∥∥₁_elim t (ℕ_set _ _) (λ w. ap length w.1)))
again p g NoPlan e n =
    let t = ended_with p NoPlan e in
    (λ c w. ∥∥₁_elim t ⊥_prop (λ x. x.0 c w), no_entries (path_of p.search) (∥∥₁_elim t (ℕ_set _ _) (λ w. ap length w.1)))

-- how the search ended holds of the search after it
pub ends : (s s' : Search) (g : ℕ) (o : Outcome) → asked s' ≡ asked s → Ran s g o s' → EndsWith s' o
ends s s' g NotYet e r = tt
ends s s' g Plan e r = (subst (λ (a : Ask). First (Wanted a) a.length (steps a.problem) (cell_at a.order) (plan_of s')) (sym e) r.0, r.1)
ends s s' g NoPlan e r = (subst (λ (a : Ask). None (Wanted a)) (sym e) r.0, r.1)

pub says : (p q : Planner) (g : ℕ) (o : Outcome) → asked q.search ≡ asked p.search → Ran p.search g o q.search → RunSays p g o q
says p q g NotYet e r = (
  subst (λ (a : Ask). Fair a.length (steps a.problem) a.pins (path_of q.search)) e (kept_now q.search).fair,
  walks_pass p.search.length (steps (problem_of p.search.problem)) (pins_of p.search.pins) g (path_of p.search) (path_of q.search) r,
  subst (λ (a : Ask). NoneLeft (Wanted a) (path_of q.search)) e (kept_now q.search).none_left,
)
says p q g Plan e r = (∣ (plan_of q.search, r.0.0) ∣₁, r.1)
says p q g NoPlan e r = r

-- cards of cells that agree in range are the same
steps_same : (a b : ℕ → Bool) (m : ℕ) → ((o : ℕ) → o < m → a o ≡ b o) → steps_up_to a m ≡ steps_up_to b m
steps_same a b zero h = refl
steps_same a b (suc m) h =
    ap (λ z. z ++ cond (a m) (32 ∷ decimal m) []) (steps_same a b m (λ o l. h o (omega arith)))
    ∙ ap (λ (x : Bool). steps_up_to b m ++ cond x (32 ∷ decimal m) []) (h m (omega arith))

pub card_same : (a b : Cells) (m T : ℕ) → ((t o : ℕ) → t < T → o < m → a t o ≡ b t o) → card_of a m T ≡ card_of b m T
card_same a b m zero h = refl
card_same a b m (suc t) h =
    ap (λ z. z ++ line_of (a t) m t) (card_same a b m t (λ u o l k. h u o (omega arith) k))
    ∙ ap (λ z. card_of b m t ++ ((decimal t ++ (58 ∷ [])) ++ (z ++ (10 ∷ [])))) (steps_same (a t) (b t) m (λ o l. h t o (omega arith) l))

-- the table's card is the plan's
pub plan_card : (s : Search) → card_of (taken_in s.plan.taken) (steps (problem_of s.problem)) s.length ≡ card_of (plan_of s) (steps (problem_of s.problem)) s.length
plan_card s = card_same (taken_in s.plan.taken) (plan_of s) (steps (problem_of s.problem)) s.length
    (λ t o l k. sym (ap (λ (b : Bool). b && step_in (get_or s.plan.taken t no_steps) o) (and_from _ _ (lt-ltb t s.length l) (lt-ltb o (steps (problem_of s.problem)) k))))

-- the pin of the side that takes, or of the other
pub pin_so : (x : Side) (taken : Bool) → takes x ≡ taken → pin_of x ≡ pin_for taken
pin_so side.Taken taken e = ap pin_for e
pin_so side.LeftOut taken e = ap pin_for e

-- the cell that was pinned or freed, and the others
module _ (pins new : Pins) (c : Cell) (pin : Pin) (t o : ℕ) (a : c.time ≡ t) (b : c.step ≡ o) where
  pin_here : t < 32 → new t o ≡ with_pin pins c pin t o → new t o ≡ pin
  pin_here l h = h ∙ cond-true _ _ _ (and_from _ _ (lt-ltb c.time 32 (omega arith)) (and_from _ _ (eq-eqb c.time t a) (eq-eqb c.step o b)))

  pin_there : (u k : ℕ) → ((u ≡ t) × (k ≡ o) → ⊥) → new u k ≡ with_pin pins c pin u k → new u k ≡ pins u k
  pin_there u k n h = ⊎_elim
      (λ q. let r = and_parts (ltb c.time 32) (eqb c.time u && eqb c.step k) q in let e = and_parts (eqb c.time u) (eqb c.step k) r.1 in
      absurd (n (sym (eqb-true _ _ e.0) ∙ a, sym (eqb-true _ _ e.1) ∙ b)))
      (λ q. h ∙ cond-false _ _ _ q)
      (cases_Bool (ltb c.time 32 && (eqb c.time u && eqb c.step k)))

pub repins : (p q : Planner) (t o : ℕ) (c : Cell) (x : Side) (taken : Bool) → InRange p t o c → takes x ≡ taken → Repinned p.search c (pin_of x) q.search
    → PinsOnly p t o (pin_for taken) q
repins p q t o c x taken r e h =
    let old = pins_of p.search.pins in
    let new = pins_of q.search.pins in
    record {
      problem = h.problem;
      length = h.length;
      order = h.order;
      here = pin_here old new c (pin_of x) t o r.time r.step (omega (arith, r.in_time, p.search.short)) (h.pins t o) ∙ pin_so x taken e;
      elsewhere = λ u k n. pin_there old new c (pin_of x) t o r.time r.step u k n (h.pins u k);
    }

-- a cell in range that is found with a pin is declined as pinned
module _ (p : Planner) (t o : ℕ) (c : Cell) (r : InRange p t o c) where
  at_cell : (m : Option Decline) → unless_asked p (unless_out p t o m) ≡ m
  at_cell m =
      ap (λ (x : Stage). cond (unopened x) (Some Unopened) (cond (unasked x) (Some Unasked) (unless_out p t o m))) r.stage
      ∙ ap (λ (b : Bool). cond b (Some OutOfRange) m) (or_from _ _ (lt-leb p.search.length t r.in_time) (lt-leb (steps (problem_of p.search.problem)) o r.in_count))

  pinned_so : (found : Option Side) → is_some found ≡ true
      → MatchOption found (pins_of p.search.pins c.time c.step ≡ unpinned) (λ x. pins_of p.search.pins c.time c.step ≡ pin_of x)
      → is_pinned (pins_of p.search.pins c.time c.step) ≡ true
  pinned_so Nothing e h = absurd (let z : ◌≡◌ {A = ℕ} 0 1 = cc in omega arith)
  pinned_so (Some side.Taken) e h = ap is_pinned h
  pinned_so (Some side.LeftOut) e h = ap is_pinned h

  pub pinned_number : (found : Option Side) → is_some found ≡ true
      → MatchOption found (pins_of p.search.pins c.time c.step ≡ unpinned) (λ x. pins_of p.search.pins c.time c.step ≡ pin_of x)
      → Some Pinned ≡ pin_declines p t o
  pinned_number found e h = sym
      (at_cell (cond (is_pinned (pins_of p.search.pins t o)) (Some Pinned) Nothing)
      ∙ ap (λ (u : ℕ). cond (is_pinned (pins_of p.search.pins u o)) (Some Pinned) Nothing) (sym r.time)
      ∙ ap (λ (k : ℕ). cond (is_pinned (pins_of p.search.pins c.time k)) (Some Pinned) Nothing) (sym r.step)
      ∙ ap (λ (b : Bool). cond b (Some Pinned) Nothing) (pinned_so found e h))

-- the card that is made of the search's tables is the plan's
pub table_card : (s : Search) (table : List StepSet) (m T : ℕ) → table ≡ s.plan.taken → m ≡ steps (problem_of s.problem) → T ≡ s.length
    → card_of (taken_in table) m (min T 32) ≡ card_of (plan_of s) (steps (problem_of s.problem)) s.length
table_card s table m T a b c =
    let short : min T 32 ≡ s.length = omega (arith, c, s.short) in
    ap (λ (z : List StepSet). card_of (taken_in z) m (min T 32)) a ∙ ap (λ (n : ℕ). card_of (taken_in s.plan.taken) n (min T 32)) b
    ∙ ap (λ (n : ℕ). card_of (taken_in s.plan.taken) (steps (problem_of s.problem)) n) short ∙ plan_card s

-- a card that is written, whatever the outcome
pub writes_as : (p : Planner) (o : Outcome) (out out' : List ℕ) (r : Option ℕ) → p.stage ≡ Asked o
    → ∥ ((text : List ℕ) × CardOf p o text × Fitted text out r out') ∥₁ → Writes p out r out'
writes_as p o out out' r e w = subst (λ (x : Stage). ∥ ((text : List ℕ) × CardOf p (outcome x) text × Fitted text out r out') ∥₁) (sym e) w

-- the card of the plan that was found
pub writes_plan : (p : Planner) (out out' : List ℕ) (r : Option ℕ) (table : List StepSet) (m T : ℕ) → p.stage ≡ Asked Plan
    → table ≡ p.search.plan.taken → m ≡ steps (problem_of p.search.problem) → T ≡ p.search.length
    → Fitted (card_of (taken_in table) m (min T 32)) out r out' → Writes p out r out'
writes_plan p out out' r table m T e a b c f =
    let s = p.search in
    writes_as p Plan out out' r e
    (∥∥₁_map (ended_with p Plan e)
    (λ w. (card_of (plan_of s) (steps (problem_of s.problem)) s.length, (plan_of s, w.0, refl), subst (λ (text : List ℕ). Fitted text out r out') (table_card s table m T a b c) f)))
