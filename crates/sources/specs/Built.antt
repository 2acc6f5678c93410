-- The two rankings that are built. Assumes nothing.
use Rattle.std.specs.Prelude.{◌+◌, ◌*◌, ◌/◌, ◌%◌}
use Rattle.model.specs.Rankings.{Order, cell_of}

-- time by time: the cell of time t and step o has place t * steps + o
abbrev pub forward : Order
forward = record {
  cell = λ times steps p. cell_of (p / steps) (p % steps);
  place = λ times steps c. c.time * steps + c.step;
}

-- step by step: the cell of time t and step o has place o * times + t
abbrev pub by_step : Order
by_step = record {
  cell = λ times steps p. cell_of (p % times) (p / times);
  place = λ times steps c. c.step * times + c.time;
}
