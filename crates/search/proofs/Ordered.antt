-- A table that holds every cell once is an order of the cells. Assumes nothing.
use Rattle.std.proofs.Common.{◌≡◌, ℕ, zero, suc, ◌*◌, ◌<◌, ◌≤◌, true, false, List, [], ◌∷◌, length, refl, ap, ◌∙◌, subst, ⊎_elim, arith}
use Rattle.std.proofs.lemmas.Bool.{cases_Bool, cond-true, cond-false}
use Rattle.model.specs.declared.cell.Cell.{Cell}
use Rattle.model.specs.Rankings.{EachOnce}
use Rattle.model.specs.Firsts.{Ordered}
use Rattle.search.specs.Pinned.{is_cell}
use Rattle.search.specs.Levels.{cell_at}
use Rattle.search.specs.Ordering.{find_cell, places_in}
use Rattle.search.proofs.PinnedPath.{at_cell, own_cell, same_cells}

-- the first place of a cell is not behind any other of its places, and holds it
abbrev Finds : List Cell → Cell → ℕ → Type 0
Finds order c p = (find_cell order c ≤ p) × (cell_at order (find_cell order c) ≡ c)

here : (x : Cell) (xs : List Cell) (c : Cell) (p : ℕ) → is_cell x c.time c.step ≡ true → Finds (x ∷ xs) c p
here x xs c p k =
    let z : find_cell (x ∷ xs) c ≡ 0 = cond-true _ _ _ k in
    let q = at_cell x c.time c.step k in
    (omega arith, ap (cell_at (x ∷ xs)) z ∙ same_cells x c q.0 q.1)

there : (x : Cell) (xs : List Cell) (c : Cell) (p : ℕ) → is_cell x c.time c.step ≡ false → Finds xs c p → Finds (x ∷ xs) c (suc p)
there x xs c p k f =
    let z : find_cell (x ∷ xs) c ≡ suc (find_cell xs c) = cond-false _ _ _ k in
    (omega (arith, f.0), ap (cell_at (x ∷ xs)) z ∙ f.1)

finds : (order : List Cell) (c : Cell) (p : ℕ) → p < length order → cell_at order p ≡ c → Finds order c p
finds [] c p l h = absurd (omega arith)
finds (x ∷ xs) c zero l h = here x xs c zero (subst (λ (d : Cell). is_cell x d.time d.step ≡ true) h (own_cell x))
finds (x ∷ xs) c (suc p) l h = ⊎_elim
    (λ k. here x xs c (suc p) k)
    (λ k. there x xs c p k (finds xs c p (omega arith) h))
    (cases_Bool (is_cell x c.time c.step))

module _ (T m : ℕ) (order : List Cell) (once : EachOnce T m order) (room : T * m ≤ length order) where
  found : (c : Cell) → c.time < T → c.step < m → (find_cell order c < T * m) × (cell_at order (find_cell order c) ≡ c)
  found c r q =
      let w = once.complete c r q in
      let f = finds order c w.0 (omega (arith, w.1)) w.2 in
      (omega (arith, f.0, w.1), f.1)

  -- every cell once is an order of the cells
  pub ordered : Ordered T m (places_in order)
  ordered = record {
    place_below = λ c r q. (found c r q).0;
    cell_below = λ k l. once.within k l;
    cell_of_place = λ c r q. (found c r q).1;
    place_of_cell = λ k l.
        let f = finds order (cell_at order k) k (omega arith) refl in
        once.distinct (find_cell order (cell_at order k)) k (omega (arith, f.0)) l f.1;
  }
