-- What can hold by a time at the earliest, as a test: a goal that cannot hold by the length leaves no plan.
use Rattle.std.proofs.Common.{◌≡◌, ℕ, zero, suc, Bool, true, ◌&&◌, ◌||◌, ⊎_elim}
use Rattle.std.proofs.lemmas.Bool.{and_from, or_left, or_right}
use Rattle.sets.specs.Literals.{Literal}
use Rattle.sets.specs.Sets.{lit_in}
use Rattle.model.specs.Problems.{Problem, steps, step, start_state, value, Holds, ◌∈◌}
use Rattle.model.specs.Plans.{Cells, IsPlan, some_below, state}
use Rattle.model.proofs.States.{comes_from, some_below_from}
use Rattle.examples.proofs.PlanTests.{every, every_from, implies, implies_from}

-- the literals of the start, and then those made by a step whose needs are there
abbrev pub by_time : Problem → ℕ → Literal → Bool
by_time p zero l = value (start_state p) l
by_time p (suc t) l = by_time p t l || some_below (steps p) (λ o. lit_in (step p o).makes l && every p.facts (λ n. implies (lit_in (step p o).needs n) (by_time p t n)))

module _ (p : Problem) (T : ℕ) (c : Cells) (plan : IsPlan p T c) where
  held_by_time : (t : ℕ) (l : Literal) → Holds (state p c t) l → by_time p t l ≡ true
  held_by_time zero l h = h
  held_by_time (suc t) l h =
      let more : ℕ → Bool = λ o. lit_in (step p o).makes l && every p.facts (λ n. implies (lit_in (step p o).needs n) (by_time p t n)) in
      ⊎_elim
      (λ m. or_right (by_time p t l) (some_below (steps p) more) (some_below_from (steps p) more m.0 (plan.within t m.0 m.1).1
      (and_from (lit_in (step p m.0).makes l) (every p.facts (λ n. implies (lit_in (step p m.0).needs n) (by_time p t n))) m.2
      (every_from p.facts (λ n. implies (lit_in (step p m.0).needs n) (by_time p t n))
      (λ n r. implies_from (lit_in (step p m.0).needs n) (by_time p t n) (λ e. held_by_time t n (plan.ready t m.0 n m.1 e)))))))
      (λ m. or_left (by_time p t l) (some_below (steps p) more) (held_by_time t l m.0))
      (comes_from p T c plan.within t l h)

  pub goal_in_time : (l : Literal) → l ∈ p.goal → by_time p T l ≡ true
  goal_in_time l g = held_by_time T l (plan.reaches l g)
