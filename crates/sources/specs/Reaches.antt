-- The reach set: a round through the steps, what a round that brings nothing shows, and the filter that follows.
use Rattle.std.specs.Prelude.{◌≡◌, ℕ, ◌+◌, ◌<◌, ◌≤◌, Bool, true, false, not, ◌&&◌, ◌≢◌, List, length, MatchBool, slice_index_or, slice_set, refl}
use Rattle.std.proofs.Common.{sym, ap, subst, ◌∙◌, ⊎_elim, arith, below_more, get_or-set_same, get_or-set_other}
use Rattle.std.proofs.lemmas.List.{get_or_past, ext_get_or}
use Rattle.std.proofs.lemmas.Bool.{and_parts, and_from, cases_Bool, cases_lt, true≢false, not-true}
use Rattle.std.proofs.lemmas.Bool.Decides.{nat_tests}
use Rattle.sets.specs.Literals.{Literal, code}
use Rattle.sets.specs.Sets.{lit_in}
use Rattle.sets.specs.declared.facts.LiteralSet.{LiteralSet}
use Rattle.model.specs.declared.step.Step.{Step}
use Rattle.model.specs.Problems.{Problem, WellFormed, StartLiterals, steps, step, closed_step, Open, InRange, Consistent, ◌∈◌}
use Rattle.sources.specs.Reach.{Reached, Filters, Exact, closing}
use Rattle.sources.specs.Rounds.{Within, Outside, Widened, Sound, ClosedTo, Round, ReachSet}
use Rattle.sources.specs.Tables.{closing_step, closing_steps}

-- ---- what `subset` answers

abbrev Subset : LiteralSet → LiteralSet → Bool → Type 0
Subset a b r = MatchBool r ((l : Literal) → (lit_in a l && not (lit_in b l)) ≡ false) ((l : Literal) × (code l < 128) × (lit_in a l ≡ true) × (lit_in b l ≡ false))

pub subset_yes : (a b : LiteralSet) (r : Bool) → Subset a b r → r ≡ true → Within a b
subset_yes a b true s e l h = let outside = s l in grind (arith, nat_tests)
subset_yes a b false s e l h = absurd (true≢false (sym e))

pub subset_no : (a b : LiteralSet) (r : Bool) → Subset a b r → r ≡ false → (l : Literal) × (l ∈ a) × (lit_in b l ≡ false)
subset_no a b true s e = absurd (true≢false e)
subset_no a b false s e = (s.0, s.2, s.3)

-- ---- a round

pub round_none : (p : Problem) (a : LiteralSet) → Round p 0 a a
round_none p a = record {
  keeps = λ l h. h;
  sound = λ s. s;
  closed = λ w o h. absurd (omega arith);
  weighs = omega arith;
  rises = λ l h e. absurd (true≢false (sym h ∙ e));
}

-- one step more
pub round_more : (p : Problem) (n : ℕ) (a b c : LiteralSet) → Round p n a b → Widened b (step p n) c → Round p (n + 1) a c
round_more p n a b c r w = record {
  keeps = λ l h. w.keeps l (r.keeps l h);
  sound = λ s l h.
      ⊎_elim
      (λ k. r.sound s l k)
      (λ k. Reached.made_by n l k.0 (λ m e. r.sound s m (k.1 m e)) k.2)
      (w.comes l h);
  closed = λ back. let within : Within b a = λ l h. back l (w.keeps l h) in
      below_more (λ o. Open p o → Within (step p o).needs a → Within (step p o).makes a) n
      (r.closed within)
      (λ o needs l h. back l (w.brings o (λ m e. r.keeps m (needs m e)) l h));
  weighs = omega (arith, r.weighs, w.weighs);
  rises = λ l h e.
      ⊎_elim
      (λ (k : lit_in b l ≡ true). let up = r.rises l k e in omega (arith, up, w.weighs))
      (λ (k : lit_in b l ≡ false). let up = w.rises l h k in omega (arith, up, r.weighs))
      (cases_Bool (lit_in b l));
}

-- ---- the whole

-- an open step is one of the problem's
pub open_within : (p : Problem) (o : ℕ) → Open p o → o < steps p
open_within p o h =
    ⊎_elim
    (λ l. l)
    (λ l. absurd (true≢false (sym h ∙ ap (λ (s : Step). s.enabled) (get_or_past p.rows o closed_step l))))
    (cases_lt o (steps p))

-- a set that holds the start and is closed under the steps holds all that can be reached
pub complete : (p : Problem) (a b : LiteralSet) → StartLiterals p a → Within a b → ClosedTo p b (steps p) → {l : Literal} → Reached p l → l ∈ b
complete p a b s w c (Reached.at_start l h k) = w l (s.all l h k)
complete p a b s w c (Reached.made_by o l h n m) = c o (open_within p o h) h (λ k e. complete p a b s w c (n k e)) l m

pub start_sound : (p : Problem) (a : LiteralSet) → StartLiterals p a → Sound p a
start_sound p a s l h = let k = s.only l h in Reached.at_start l k.0 k.1

-- a sound set that holds the start and that a round leaves as it is
pub reach_done : (p : Problem) (a b c : LiteralSet) → StartLiterals p a → Within a b → Sound p b → Round p (steps p) b c → Within c b → ReachSet p b
reach_done p a b c s w h r back = record { sound = h; complete = λ l. complete p a b s w (r.closed back) }

-- ---- the filter

-- a table that says which steps have a need outside the reach set
pub exact_from : (p : Problem) (a : LiteralSet) (table : List Bool) → ReachSet p a → ((o : ℕ) → o < steps p → Outside (step p o) a (slice_index_or table o false)) → Exact p table
exact_from p a table r h = record {
  spares = λ o l e n m. r.sound n ((h o l).none e n m);
  spared = λ o l n. (h o l).some (λ k m. r.complete k (n k m));
}

-- one step more in the table
pub told_more : (p : Problem) (a : LiteralSet) (o : ℕ) (table : List Bool) (s : Step) (flag : Bool) → o < length table
    → s ≡ step p o → Outside s a flag
    → ((k : ℕ) → k < o → Outside (step p k) a (slice_index_or table k false))
    → (k : ℕ) → k < o + 1 → Outside (step p k) a (slice_index_or (slice_set table o flag) k false)
told_more p a o table s flag room is here below =
    below_more (λ k. Outside (step p k) a (slice_index_or (slice_set table o flag) k false)) o
    (λ k h. let ne : k ≢ o = omega arith in subst (Outside (step p k) a) (sym (get_or-set_other table o k flag false ne)) (below k h))
    (subst (Outside (step p o) a) (sym (get_or-set_same table o flag false room)) (subst (λ (x : Step). Outside x a flag) is here))

-- an exact table makes the filter
pub filters_from : (p : Problem) (table : List Bool) → Exact p table → Filters p (closing p table)
filters_from p table e = record {
  facts_same = refl;
  steps_same = closing_steps p table;
  start_same = refl;
  goal_same = refl;
  needs_same = λ o. ap (λ (s : Step). s.needs) (closing_step p table o);
  makes_same = λ o. ap (λ (s : Step). s.makes) (closing_step p table o);
  opens = λ o h. let a = and_parts _ _ (sym (enabled o) ∙ h) in (a.0, e.spares o (open_within p o a.0) (not-true _ a.1));
  stays_open = λ o h r. enabled o ∙ and_from _ _ h (ap not (e.spared o (open_within p o h) r));
}
  where
    enabled : (o : ℕ) → (step (closing p table) o).enabled ≡ ((step p o).enabled && not (slice_index_or table o false))
    enabled o = ap (λ (s : Step). s.enabled) (closing_step p table o)

-- closing steps keeps a problem well-formed
pub closing_well : (p : Problem) (table : List Bool) → WellFormed p → WellFormed (closing p table)
closing_well p table w = record {
  some_fact = w.some_fact;
  few_facts = w.few_facts;
  few_steps = subst (λ (n : ℕ). n ≤ 256) (sym (closing_steps p table)) w.few_steps;
  start_in_range = w.start_in_range;
  needs_in_range = λ o. subst (λ (s : Step). InRange p s.needs) (sym (closing_step p table o)) (w.needs_in_range o);
  makes_in_range = λ o. subst (λ (s : Step). InRange p s.makes) (sym (closing_step p table o)) (w.makes_in_range o);
  goal_in_range = w.goal_in_range;
  needs_agree = λ o. subst (λ (s : Step). Consistent s.needs) (sym (closing_step p table o)) (w.needs_agree o);
  makes_agree = λ o. subst (λ (s : Step). Consistent s.makes) (sym (closing_step p table o)) (w.makes_agree o);
  goal_agrees = w.goal_agrees;
}

iff_same : (x y : Bool) → (x ≡ true → y ≡ true) → (y ≡ true → x ≡ true) → x ≡ y
iff_same x y f g = grind (arith, nat_tests)

-- a problem has one filter
pub filters_same : (p q r : Problem) → Filters p q → Filters p r → q ≡ r
filters_same p q r f g =
    let facts = f.facts_same ∙ sym g.facts_same in
    let rows = ext_get_or closed_step q.rows r.rows (f.steps_same ∙ sym g.steps_same) (λ o l. same o) in
    let start = f.start_same ∙ sym g.start_same in
    let goal = f.goal_same ∙ sym g.goal_same in
    λ i. record { facts = facts i; rows = rows i; start = start i; goal = goal i }
  where
    same : (o : ℕ) → step q o ≡ step r o
    same o =
        let enabled = iff_same (step q o).enabled (step r o).enabled (λ h. let k = f.opens o h in g.stays_open o k.0 k.1) (λ h. let k = g.opens o h in f.stays_open o k.0 k.1) in
        let needs = f.needs_same o ∙ sym (g.needs_same o) in
        let makes = f.makes_same o ∙ sym (g.makes_same o) in
        λ i. record { enabled = enabled i; needs = needs i; makes = makes i }
