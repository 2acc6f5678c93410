-- Text that is written into a caller's bytes. Assumes nothing.
use Rattle.std.specs.Prelude.{◌≡◌, ℕ, ◌<◌, ◌≤◌, List, ◌++◌, length, take, drop, Some, None, Ok, Err, Option, Result}

-- There is one writer. It counts every byte and writes only those for which there is room, so it is run twice:
-- over no bytes, to measure, and then over the caller's.

-- the writer began with the bytes of base and has counted so far the length of text; where the whole text has room,
-- the bytes now begin with it, and go on as they were
pub record Wrote (base now : List ℕ) (count : ℕ) (text : List ℕ) : Type 0 where
  pub long : length now ≡ length base
  pub counts : count ≡ length text
  pub same : length text ≤ length base → now ≡ text ++ drop (length text) base

-- whatever text was written before, more now stands behind it
abbrev pub Adds : List ℕ → List ℕ → ℕ → List ℕ → ℕ → Type 0
Adds more before at after next = (base text : List ℕ) → Wrote base before at text → Wrote base after next (text ++ more)

-- n bytes were written: the text, all of it, and no byte beyond it changed
pub record Stands (text before : List ℕ) (n : ℕ) (after : List ℕ) : Type 0 where
  pub counts : n ≡ length text
  pub written : take n after ≡ text
  pub beyond : drop n after ≡ drop n before

-- the bytes are too few for the text, and stand as before
pub record TooFew (text before after : List ℕ) : Type 0 where
  pub fewer : length before < length text
  pub same : after ≡ before

-- the text was written whole, or there was no room for it and nothing was
abbrev pub Fitted : List ℕ → List ℕ → Option ℕ → List ℕ → Type 0
Fitted text before (Some n) after = Stands text before n after
Fitted text before None after = TooFew text before after

-- the same of a call that says why it declines
abbrev pub Reported : {E : Type 0} → List ℕ → List ℕ → Result ℕ E → List ℕ → Type 0
Reported text before (Ok n) after = Stands text before n after
Reported text before (Err e) after = TooFew text before after
