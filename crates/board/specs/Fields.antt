-- How the fields of a command are spelled. Assumes nothing.
use Rattle.std.specs.Prelude.{◌≡◌, ℕ, ◌<◌, ◌≤◌, Bool, true, false, List, [], ◌∷◌, ◌++◌, length, ◌≢◌, slice_index}
use Rattle.std.specs.Str.Parse.{digits_value}
use Rattle.std.specs.Int.{IsInRange}
use Rattle.board.specs.declared.field.RankingName.{RankingName}
use Rattle.board.specs.declared.field.RankingName.TheVariants.{Forward, ByStep}
use Rattle.board.specs.declared.field.SourceName.{SourceName}
use Rattle.board.specs.declared.field.SourceName.TheVariants.{Sheet, Water}

-- one or more digits; a number beyond the largest stands for the largest
pub record Number (s : List ℕ) (n : ℕ) : Type 0 where
  pub some : 0 < length s
  pub digits : (i : ℕ) → i < length s → IsInRange 48 57 (slice_index s i)
  pub small : digits_value 10 s ≤ 4294967295 → n ≡ digits_value 10 s
  pub large : 4294967295 < digits_value 10 s → n ≡ 4294967295

abbrev pub NoBlank : List ℕ → Type 0
NoBlank s = (i : ℕ) → i < length s → slice_index s i ≢ 32

-- two numbers with one blank between
pub record Numbers (s : List ℕ) (a b : ℕ) : Type 0 where
  pub first : List ℕ
  pub second : List ℕ
  pub whole : s ≡ first ++ 32 ∷ second
  pub is_first : Number first a
  pub is_second : Number second b

-- forward
-- by-step
abbrev pub ranking_word : RankingName → List ℕ
ranking_word Forward = 102 ∷ 111 ∷ 114 ∷ 119 ∷ 97 ∷ 114 ∷ 100 ∷ []
ranking_word ByStep = 98 ∷ 121 ∷ 45 ∷ 115 ∷ 116 ∷ 101 ∷ 112 ∷ []

pub record Asks (s : List ℕ) (n : ℕ) (x : RankingName) : Type 0 where
  pub first : List ℕ
  pub whole : s ≡ first ++ 32 ∷ ranking_word x
  pub is_length : Number first n

-- taken
-- out
abbrev pub side_word : Bool → List ℕ
side_word true = 116 ∷ 97 ∷ 107 ∷ 101 ∷ 110 ∷ []
side_word false = 111 ∷ 117 ∷ 116 ∷ []

-- a step and a side
pub record Sided (s : List ℕ) (o : ℕ) (taken : Bool) : Type 0 where
  pub first : List ℕ
  pub whole : s ≡ first ++ 32 ∷ side_word taken
  pub is_step : Number first o

-- a time, a step and a side
pub record Pins (s : List ℕ) (t o : ℕ) (taken : Bool) : Type 0 where
  pub first : List ℕ
  pub second : List ℕ
  pub whole : s ≡ first ++ 32 ∷ second
  pub is_time : Number first t
  pub is_sided : Sided second o taken

-- sheet FILE
-- water METERS
abbrev pub SourceIs : SourceName → List ℕ → Type 0
SourceIs (Sheet file) s = s ≡ 115 ∷ 104 ∷ 101 ∷ 101 ∷ 116 ∷ 32 ∷ file.now
SourceIs (Water k) s = (d : List ℕ) × (s ≡ 119 ∷ 97 ∷ 116 ∷ 101 ∷ 114 ∷ 32 ∷ d) × Number d k

-- reach and what is opened, or what is opened alone
abbrev pub Opens : Bool → SourceName → List ℕ → Type 0
Opens true x s = (f : List ℕ) × (s ≡ 114 ∷ 101 ∷ 97 ∷ 99 ∷ 104 ∷ 32 ∷ f) × SourceIs x f
Opens false x s = SourceIs x s
