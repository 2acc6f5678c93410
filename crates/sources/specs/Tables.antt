-- Rows that are told by their numbers: how many there are, and which one is read.
use Rattle.std.specs.Prelude.{◌≡◌, ℕ, zero, suc, ◌+◌, ◌<◌, ◌≤◌, Bool, false, cond, List, length, nat_lt, slice_index_or, refl}
use Rattle.std.proofs.Common.{sym, ap, subst, ◌∙◌, ⊎_elim, arith, add-one}
use Rattle.std.proofs.lemmas.List.{get_or_past}
use Rattle.std.proofs.lemmas.Bool.{cases_lt, lt-ltb, le-ltb, cond-true, cond-false}
use Rattle.model.specs.Problems.{Problem, steps, step, closed_step}
use Rattle.sources.specs.Listed.{tabulate, Gathers}
use Rattle.sources.specs.Reach.{closing, closed_where}

pub length_tabulate : {A : Type 0} (n : ℕ) (row : ℕ → A) → length (tabulate n row) ≡ n
unfolding tabulate
length_tabulate zero row = refl
length_tabulate (suc n) row = ap suc (length_tabulate n (λ i. row (suc i)))

pub tabulate_within : {A : Type 0} (n : ℕ) (row : ℕ → A) (i : ℕ) (d : A) → i < n → slice_index_or (tabulate n row) i d ≡ row i
unfolding tabulate
tabulate_within zero row i d l = absurd (omega arith)
tabulate_within (suc n) row zero d l = refl
tabulate_within (suc n) row (suc i) d l = tabulate_within n (λ j. row (suc j)) i d (omega arith)

pub tabulate_past : {A : Type 0} (n : ℕ) (row : ℕ → A) (i : ℕ) (d : A) → n ≤ i → slice_index_or (tabulate n row) i d ≡ d
tabulate_past n row i d l = get_or_past (tabulate n row) i d (omega (arith, length_tabulate n row))

pub index_or_tabulate : {A : Type 0} (n : ℕ) (row : ℕ → A) (i : ℕ) (d : A) → slice_index_or (tabulate n row) i d ≡ cond (nat_lt i n) (row i) d
index_or_tabulate n row i d =
    ⊎_elim
    (λ l. tabulate_within n row i d l ∙ sym (cond-true (nat_lt i n) (row i) d (lt-ltb i n l)))
    (λ l. tabulate_past n row i d l ∙ sym (cond-false (nat_lt i n) (row i) d (le-ltb i n l)))
    (cases_lt i n)

-- each step of a problem with closed steps, beyond the count too
pub closing_step : (p : Problem) (table : List Bool) (o : ℕ) → step (closing p table) o ≡ closed_where (slice_index_or table o false) (step p o)
closing_step p table o =
    ⊎_elim
    (λ l. tabulate_within (steps p) (λ i. closed_where (slice_index_or table i false) (step p i)) o closed_step l)
    (λ l. tabulate_past (steps p) (λ i. closed_where (slice_index_or table i false) (step p i)) o closed_step l ∙ sym (ap (closed_where (slice_index_or table o false)) (get_or_past p.rows o closed_step l)))
    (cases_lt o (steps p))

pub closing_steps : (p : Problem) (table : List Bool) → steps (closing p table) ≡ steps p
closing_steps p table = length_tabulate (steps p) (λ o. closed_where (slice_index_or table o false) (step p o))

-- what holds of the first, and of each number's sum where it held of the one before, holds of the last
pub gathered : {A : Type 0} (P : ℕ → A → Type 0) (add : ℕ → A → A → Type 0) (n : ℕ) (a b : A) → P 0 a
    → ((j : ℕ) (c d : A) → P j c → add j c d → P (suc j) d) → Gathers add n a b → P n b
gathered P add zero a b first more e = subst (P 0) (sym e) first
gathered P add (suc j) a b first more g = more j g.0 b (gathered P add j a g.0 first more g.1) g.2

pub gathers_more : {A : Type 0} (add : ℕ → A → A → Type 0) (n : ℕ) (a c b : A) → Gathers add n a c → add n c b → Gathers add (n + 1) a b
gathers_more add n a c b g s = rw add-one (c, g, s)
