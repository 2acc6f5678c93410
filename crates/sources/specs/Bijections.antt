-- Rows of a width: quotient and remainder undo the place, and the place undoes them.
use Rattle.std.specs.Prelude.{◌≡◌, ℕ, zero, suc, ◌+◌, ◌*◌, ◌<◌}
use Rattle.std.proofs.Common.{subst, mul_comm, mul-zero, arith}
use Rattle.std.proofs.lemmas.Nat.{div-add-mod', div-mul-add, mod-mul-add, mul-add-lt, div_below, mod_below}
use Rattle.model.specs.Rankings.{Undo, cell_of}
use Rattle.sources.specs.Built.{forward, by_step}

-- a place below rows * w shows that a row is not empty
pub wide : (rows w p : ℕ) → p < rows * w → 0 < w
wide rows zero p h = omega (arith, mul-zero rows)
wide rows (suc w) p h = omega arith

same_cell : {t u s v : ℕ} → t ≡ u → s ≡ v → cell_of t s ≡ cell_of u v
same_cell p q = cc

pub forward_undo : Undo forward
forward_undo = record {
  time_within = λ times steps p l h. div_below p steps times (wide times steps p h) h;
  step_within = λ times steps p l h. mod_below p steps (wide times steps p h);
  place_within = λ times steps c l t s. subst (λ (n : ℕ). c.time * steps + c.step < n) (mul_comm steps times) (mul-add-lt c.time steps c.step times t s);
  back = λ times steps p l h. div-add-mod' p steps;
  forth = λ times steps c l t s. same_cell (div-mul-add c.time steps c.step s) (mod-mul-add c.time steps c.step s);
}

pub by_step_undo : Undo by_step
by_step_undo = record {
  time_within = λ times steps p l h. mod_below p times (wide steps times p (turned times steps p h));
  step_within = λ times steps p l h. div_below p times steps (wide steps times p (turned times steps p h)) (turned times steps p h);
  place_within = λ times steps c l t s. mul-add-lt c.step times c.time steps s t;
  back = λ times steps p l h. div-add-mod' p times;
  forth = λ times steps c l t s. same_cell (mod-mul-add c.step times c.time t) (div-mul-add c.step times c.time t);
}
  where
    turned : (times steps p : ℕ) → p < times * steps → p < steps * times
    turned times steps p h = subst (λ (n : ℕ). p < n) (mul_comm times steps) h
