use Rattle.std.proofs.Common.{◌≡◌, ℕ, ◌<◌, length, get_or}
use Rattle.sets.specs.Sets.{no_literals, no_steps}
use Rattle.marks.specs.Building.{RivalsOf}
use Rattle.marks.proofs.build.fill_rivals.Given as goal

abbrev pub invariant-loop-o : goal.invariant-loop-o
invariant-loop-o l = ((i : ℕ) → i < l.o → RivalsOf l.makers l.needers (get_or l.needs i no_literals) (get_or l.makes i no_literals) i (get_or l.rivals i no_steps)) × (length l.rivals ≡ 256)
