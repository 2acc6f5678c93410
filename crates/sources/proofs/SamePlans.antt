-- The filter closes no step that a plan takes: the needs of a plan's steps hold in its states, and what holds there can be reached.
use Rattle.std.proofs.Common.{◌≡◌, ℕ, zero, suc, ◌<◌, ◌&&◌, ◌≢◌, ◌⊎◌, sym, subst, ⊎_elim}
use Rattle.sets.specs.Literals.{Literal, opposite, fact}
use Rattle.sets.specs.Sets.{fact_in, lit_in}
use Rattle.sets.specs.declared.facts.LiteralSet.{LiteralSet}
use Rattle.model.specs.Problems.{Problem, WellFormed, State, steps, step, Open, Undoes, Interfere, Holds, ◌∈◌}
use Rattle.model.specs.Plans.{Cells, Taken, IsPlan, some_below, put, state}
use Rattle.model.proofs.States.{comes_from}
use Rattle.sources.specs.Reach.{Reached, Reachable, Filters, SamePlans}

-- ---- problems that differ only in which steps are open

record Alike (p q : Problem) : Type 0 where
  pub steps_same : steps q ≡ steps p
  pub start_same : q.start ≡ p.start
  pub goal_same : q.goal ≡ p.goal
  pub needs_same : (o : ℕ) → (step q o).needs ≡ (step p o).needs
  pub makes_same : (o : ℕ) → (step q o).makes ≡ (step p o).makes

back : (p q : Problem) → Alike p q → Alike q p
back p q a = record {
  steps_same = sym a.steps_same;
  start_same = sym a.start_same;
  goal_same = sym a.goal_same;
  needs_same = λ o. sym (a.needs_same o);
  makes_same = λ o. sym (a.makes_same o);
}

module _ (p q : Problem) (a : Alike p q) where
  state_same : (c : Cells) (t : ℕ) → state q c t ≡ state p c t
  state_same c zero = λ i f. fact_in (a.start_same i) f
  state_same c (suc t) =
      λ i. put (state_same c t i) (λ l. some_below (a.steps_same i) (λ o. c t o && lit_in (a.makes_same o i) l))

  undoes_same : (o o' : ℕ) → Undoes q o o' ≡ Undoes p o o'
  undoes_same o o' =
      λ i. (l : Literal) × (opposite l ∈ a.makes_same o i) × ((l ∈ a.needs_same o' i) ⊎ (l ∈ a.makes_same o' i))

  interfere_same : (o o' : ℕ) → Interfere q o o' ≡ Interfere p o o'
  interfere_same o o' = λ i. (o ≢ o') × (undoes_same o o' i ⊎ undoes_same o' o i)

  -- a plan of the one is a plan of the other if its steps are open there
  carried : (T : ℕ) (c : Cells) → ((t o : ℕ) → Taken c t o → Open q o) → IsPlan p T c → IsPlan q T c
  carried T c opens plan = record {
    within = λ t o k. ((plan.within t o k).0, subst (λ (n : ℕ). o < n) (sym a.steps_same) (plan.within t o k).1);
    opens = opens;
    apart = λ t o o' k k' d. plan.apart t o o' k k' (subst (λ (X : Type 0). X) (interfere_same o o') d);
    ready = λ t o l k n. subst (λ (s : State). Holds s l) (sym (state_same c t)) (plan.ready t o l k (subst (λ (s : LiteralSet). l ∈ s) (a.needs_same o) n));
    reaches = λ l g. subst (λ (s : State). Holds s l) (sym (state_same c T)) (plan.reaches l (subst (λ (s : LiteralSet). l ∈ s) a.goal_same g));
  }

-- ---- what holds in a plan's states can be reached

module _ (p : Problem) (w : WellFormed p) (T : ℕ) (c : Cells) (plan : IsPlan p T c) where
  held_reached : (t : ℕ) (l : Literal) → fact l < p.facts → Holds (state p c t) l → Reached p l
  held_reached zero l r h = Reached.at_start l r h
  held_reached (suc t) l r h =
      ⊎_elim
      (λ m. Reached.made_by m.0 l (plan.opens t m.0 m.1) (λ n e. held_reached t n (w.needs_in_range m.0 n e) (plan.ready t m.0 n m.1 e)) m.2)
      (λ m. held_reached t l r m.0)
      (comes_from p T c plan.within t l h)

  taken_reachable : (t o : ℕ) → Taken c t o → Reachable p o
  taken_reachable t o k n e = held_reached t n (w.needs_in_range o n e) (plan.ready t o n k e)

pub filter_keeps_plans : (p q : Problem) → WellFormed p → Filters p q → SamePlans p q
filter_keeps_plans p q w f T c =
    let a : Alike p q = record {
      steps_same = f.steps_same;
      start_same = f.start_same;
      goal_same = f.goal_same;
      needs_same = f.needs_same;
      makes_same = f.makes_same;
    } in (
      (λ plan. carried q p (back p q a) T c (λ t o k. (f.opens o (plan.opens t o k)).0) plan),
      (λ plan. carried p q a T c (λ t o k. f.stays_open o (plan.opens t o k) (taken_reachable p w T c plan t o k)) plan),
    )
