-- What a writer does. Assumes nothing.
use Rattle.std.specs.Prelude.{◌≡◌, ℕ, ◌+◌, ◌-◌, ◌^◌, ◌<◌, min, List, length}
use Rattle.text.specs.declared.write.Writer.{Writer}
use Rattle.text.specs.Written.{Adds}

-- the place is further by the length of the text, as far as a word counts; where it does count so far, the text was added to
-- what was written before, in the same bytes
pub record Writes (more : List ℕ) (before after : Writer) : Type 0 where
  pub same_bytes : after.out.ghost_name ≡ before.out.ghost_name
  pub counts : after.at ≡ min (before.at + length more) (2 ^ 64 - 1)
  pub adds : before.at + length more < 2 ^ 64 → Adds more before.out.now before.at after.out.now after.at
