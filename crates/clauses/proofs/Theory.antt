-- Striking spoilt pairs until none is left gives the largest kept set. Assumes nothing.
use Rattle.std.proofs.Common.{◌≡◌, ℕ, ◌<◌, true, false, ◌⊎◌, sym, refl, ap, subst, inl, inr, ⊎_elim, arith}
use Rattle.std.proofs.lemmas.Bool.{cases_Bool, cases_lt, both_ways}
use Rattle.std.proofs.lemmas.List.{get_or_past}
use Rattle.std.proofs.lemmas.Bool.Decides.{nat_tests}
use Rattle.sets.specs.Literals.{Literal, opposite}
use Rattle.sets.proofs.Literals.{opposite_opposite}
use Rattle.model.specs.declared.step.Step.{Step}
use Rattle.model.proofs.SpoiltGoes.{spoilt_goes}
use Rattle.model.specs.Problems.{Problem, Open, Needs, step, steps, closed_step}
use Rattle.model.specs.Clauses.{Clauses, Clause, Barred, Known, Spoils, Kept, Within, Largest}
use Rattle.clauses.specs.Striking.{Cut, Spoilt, Settled, Good, Looks}

-- ---- cuts

pub cut_none : (W : Clauses) (G : Literal → Literal → Type 0) → Cut W W G
cut_none W G = record { within = λ a b h. h; only = λ a b h k. absurd (both_ways (W a b) k h); unordered = λ u. u }

pub cut_more : (W₀ W W' : Clauses) (G : Literal → Literal → Type 0) → Cut W₀ W G → Cut W W' G → Cut W₀ W' G
cut_more W₀ W W' G c d = record {
  within = λ a b h. c.within a b (d.within a b h);
  only = λ a b h k. go a b h k (cases_Bool (W a b));
  unordered = λ u. d.unordered (c.unordered u);
}
  where
    go : (a b : Literal) → Clause W₀ a b → W' a b ≡ false → (W a b ≡ true) ⊎ (W a b ≡ false) → G a b ⊎ G b a
    go a b h k (inl e) = d.only a b e k
    go a b h k (inr e) = c.only a b h e

pub cut_by : (W₀ W : Clauses) (G H : Literal → Literal → Type 0) → ((a b : Literal) → G a b → H a b) → Cut W₀ W G → Cut W₀ W H
cut_by W₀ W G H f c = record { within = c.within; only = λ a b h k. ⊎_elim (λ g. inl (f a b g)) (λ g. inr (f b a g)) (c.only a b h k); unordered = c.unordered }

-- ---- one step looked at

pub good_after : (p : Problem) (o : ℕ) (W₀ W : Clauses) → Good p W₀ → Cut W₀ W (Spoilt p o W₀) → Good p W
good_after p o W₀ W g e = record {
  in_range = λ a b h. g.in_range a b (e.within a b h);
  unordered = e.unordered g.unordered;
  at_start = λ a b h. g.at_start a b (e.within a b h);
  above = λ V k a b v. go V k a b v (cases_Bool (W a b));
}
  where
    go : (V : Clauses) → Kept p V → (a b : Literal) → Clause V a b → (W a b ≡ true) ⊎ (W a b ≡ false) → Clause W a b
    go V k a b v (inl h) = h
    go V k a b v (inr h) = absurd (⊎_elim
        (λ s. spoilt_goes p V W₀ k (g.above V k) o a b s.0 s.1 (inl s.2) v)
        (λ s. spoilt_goes p V W₀ k (g.above V k) o a b s.0 s.1 (inr s.2) v)
        (e.only a b (g.above V k a b v) h))

pub largest : (p : Problem) (W : Clauses) → Good p W → ((o : ℕ) → Settled p W W o) → Largest p W
largest p W g s = record {
  kept = record { in_range = g.in_range; unordered = g.unordered; at_start = g.at_start; unspoiled = λ a b h o r n x. go a b h o r n x };
  above = g.above;
}
  where
    go : (a b : Literal) → Clause W a b → (o : ℕ) → Open p o → (Barred p W o → ⊥) → Spoils p W o a b → ⊥
    go a b h o r n (inl x) = s o r n a b h x
    go a b h o r n (inr x) = s o r n b a (g.unordered a b h) x

-- ---- what was settled stays so until a pair that the step looks at is struck

pub stays_out : (W₀ W : Clauses) (G : Literal → Literal → Type 0) → Cut W₀ W G → (a b : Literal) → W₀ a b ≡ false → W a b ≡ false
stays_out W₀ W G c a b h = let w = c.within a b in grind (arith, nat_tests)

module _ (p : Problem) (o : ℕ) (W₀ W : Clauses) (none : (a b : Literal) → Clause W₀ a b → W a b ≡ false → Looks p o a b → ⊥) where
  need_twice : (a : Literal) → Needs p o a → Needs p o (opposite (opposite a))
  need_twice a h = subst (Needs p o) (sym (opposite_opposite a)) h

  not_barred : (Barred p W o → ⊥) → Barred p W₀ o → ⊥
  not_barred n q = go (cases_Bool (W (opposite q.0) (opposite q.1)))
    where
      go : (W (opposite q.0) (opposite q.1) ≡ true) ⊎ (W (opposite q.0) (opposite q.1) ≡ false) → ⊥
      go (inl e) = n (q.0, q.1, q.2, q.3, e)
      go (inr e) = none (opposite q.0) (opposite q.1) q.4 e (inl (need_twice q.0 q.2))

  not_known : (b : Literal) → (Known p W o b → ⊥) → Known p W₀ o b → ⊥
  not_known b n (inl v) = ⊎_elim (λ e. n (inl e)) (λ e. none b b v e (inr (inr refl))) (cases_Bool (W b b))
  not_known b n (inr (inl k)) = n (inr (inl k))
  not_known b n (inr (inr q)) = ⊎_elim (λ e. n (inr (inr (q.0, q.1, e)))) (λ e. none (opposite q.0) b q.2 e (inl (need_twice q.0 q.1)))
      (cases_Bool (W (opposite q.0) b))

  pub later : Settled p W₀ W o → Settled p W W o
  later s r n a b h x = s r (not_barred n) a b h (x.0, x.1, ⊎_elim (λ k. inl (not_known b k)) inr x.2)

pub settled_within : (p : Problem) (o : ℕ) (W₀ W : Clauses) → Within W W₀ → Settled p W₀ W₀ o → Settled p W₀ W o
settled_within p o W₀ W sub s r n a b h x = s r n a b (sub a b h) x

pub settled_all : (p : Problem) (W : Clauses) → ((o : ℕ) → o < steps p → Settled p W W o) → (o : ℕ) → Settled p W W o
settled_all p W f o r = ⊎_elim (λ l. f o l r)
    (λ l. absurd (both_ways (step p o).enabled (ap (λ (s : Step). s.enabled) (get_or_past p.rows o closed_step l)) r)) (cases_lt o (steps p))
