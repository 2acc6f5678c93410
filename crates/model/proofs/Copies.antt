-- The whole order at the front of a table.
use Rattle.std.proofs.Common.{◌≡◌, ℕ, ◌+◌, ◌-◌, ◌*◌, ◌<◌, ◌≤◌, true, Result, Ok, Err, OnOk, is_ok, List, ◌++◌, length, get_or, drop, sym, ap, ◌∙◌, subst, arith, length-append}
use Rattle.std.proofs.lemmas.Bool.{true≢false}
use Rattle.std.proofs.Math.ListN.{get_or-append}
use Rattle.std.proofs.lemmas.List.{get_or-append_right, get_or-drop, length-drop}
use Rattle.model.specs.declared.cell.Cell.{Cell}
use Rattle.model.specs.Rankings.{Order, Undo, Ranked, Copied, EachOnce, cell_of}

-- what a copied table holds is every cell, each once
pub each_once : (o : Order) → Undo o → (times steps : ℕ) → Ranked times steps → (before after : List Cell) → Copied o times steps before after → EachOnce times steps after
each_once o u times steps l before after c = record {
  within = λ p h. subst (λ (x : Cell). (x.time < times) × (x.step < steps)) (sym (c.holds p h)) (u.time_within times steps p l h, u.step_within times steps p l h);
  distinct = λ p q h k e. sym (u.back times steps p l h) ∙ ap (o.place times steps) (sym (c.holds p h) ∙ e ∙ c.holds q k) ∙ u.back times steps q l k;
  complete = λ x t s. let p = o.place times steps x in let h = u.place_within times steps x l t s in (p, h, c.holds p h ∙ u.forth times steps x l t s);
}

-- cells in the order, before the rest of a table
pub copied_front : (o : Order) (times steps : ℕ) (cells table : List Cell) → length cells ≡ times * steps → times * steps ≤ length table
    → ((p : ℕ) → p < times * steps → get_or cells p (cell_of 0 0) ≡ o.cell times steps p) → Copied o times steps table (cells ++ drop (times * steps) table)
copied_front o times steps cells table long room each =
    let n = times * steps in
    let d = cell_of 0 0 in
    record {
      same_length = omega (arith, length-append cells (drop n table), length-drop n table, long, room);
      holds = λ p h. let below : p < length cells = omega arith in get_or-append cells (drop n table) d p below ∙ each p h;
      beyond = λ p h. let e : n + (p - n) ≡ p = omega arith in get_or-append_right cells (drop n table) n p d long h ∙ get_or-drop n table (p - n) d ∙ ap (λ i. get_or table i d) e;
    }

-- what is said of a success, where it was one
pub on_ok : {T E P : Type 0} (r : Result T E) → is_ok r ≡ true → OnOk r P → P
on_ok (Ok x) e p = p
on_ok (Err x) e p = absurd (true≢false (sym e))
