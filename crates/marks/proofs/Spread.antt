-- Each rule with one premise, as a growth by what is forced. Assumes nothing.
use Rattle.sets.specs.Sets.{no_literals, no_steps}
use Rattle.std.proofs.Common.{◌≡◌, ℕ, ◌+◌, ◌<◌, Bool, get_or, sym, subst}
use Rattle.marks.specs.declared.mark.Mark.{Mark}
use Rattle.marks.specs.declared.mark.Mark.TheVariants.{Fact, Taken, LeftOut}
use Rattle.marks.specs.declared.tables.Marks.{Marks}
use Rattle.marks.specs.declared.index.Index.{Index}
use Rattle.marks.specs.Tables.{opp_lit}
use Rattle.marks.specs.Grows.{Added}
use Rattle.marks.specs.Rules.{On, Holds, LeavesOut, Forced, Good, Worked}
use Rattle.marks.proofs.Closure.{forced_rules, added_worked}

module _ (ix : Index) {a b : Marks} (t : ℕ) where
  -- each member's mark is forced
  each_worked : {P : ℕ → Type 0} (f : ℕ → Mark) → ((seed : Mark → Bool) → Good ix seed a → (o : ℕ) → P o → Forced ix a.length seed (f o))
      → Added a (λ y. (o : ℕ) × P o × (y ≡ f o)) b → Worked ix a b
  each_worked f h d = added_worked ix d (λ seed g y q. subst (Forced ix a.length seed) (sym q.2) (h seed g q.0 q.1))

  pub needs_worked : (o : ℕ) → On a (Taken t o) → Added a (Holds (get_or ix.needs o no_literals) t) b → Worked ix a b
  needs_worked o h = each_worked (λ l. Fact t l) (λ seed g l n. (forced_rules ix a.length seed).needs t o l (g.sound (Taken t o) h) n)

  pub makes_worked : (o : ℕ) → On a (Taken t o) → Added a (Holds (get_or ix.makes o no_literals) (t + 1)) b → Worked ix a b
  makes_worked o h = each_worked (λ l. Fact (t + 1) l) (λ seed g l n. (forced_rules ix a.length seed).makes t o l (g.sound (Taken t o) h) n)

  pub rivals_worked : (o : ℕ) → On a (Taken t o) → Added a (LeavesOut (get_or ix.rivals o no_steps) t) b → Worked ix a b
  rivals_worked o h = each_worked (λ i. LeftOut t i) (λ seed g i n. (forced_rules ix a.length seed).rivals t o i (g.sound (Taken t o) h) n)

  pub need_false_worked : (l : ℕ) → t < a.length → On a (Fact t l) → Added a (LeavesOut (get_or ix.needers (opp_lit l) no_steps) t) b → Worked ix a b
  need_false_worked l r h = each_worked (λ o. LeftOut t o) (λ seed g o n. (forced_rules ix a.length seed).need_false t l o r (g.sound (Fact t l) h) n)

  pub make_false_worked : (l : ℕ) → t < a.length → On a (Fact (t + 1) l) → Added a (LeavesOut (get_or ix.makers (opp_lit l) no_steps) t) b → Worked ix a b
  make_false_worked l r h = each_worked (λ o. LeftOut t o) (λ seed g o n. (forced_rules ix a.length seed).make_false t l o r (g.sound (Fact (t + 1) l) h) n)

  pub clause_worked : (l : ℕ) → On a (Fact t l) → Added a (Holds (get_or ix.clauses (opp_lit l) no_literals) t) b → Worked ix a b
  clause_worked l h = each_worked (λ k. Fact t k) (λ seed g k n. (forced_rules ix a.length seed).clause t l k (g.sound (Fact t l) h) n)
