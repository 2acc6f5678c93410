-- Which line spells which command. Assumes nothing.
use Rattle.std.specs.Prelude.{◌≡◌, ℕ, List, [], ◌∷◌, ◌++◌}
use Rattle.board.specs.Fields.{Number, Numbers, Asks, Pins, Opens}
use Rattle.board.specs.declared.command.Command.{Command}
use Rattle.board.specs.declared.command.Command.TheVariants as command_is
use Rattle.board.specs.declared.command.Word.{Word}
use Rattle.board.specs.declared.command.Word.TheVariants as word_is

-- each first word with its blank; report has no field and no blank
abbrev pub spelled : Word → List ℕ
spelled word_is.Open = 111 ∷ 112 ∷ 101 ∷ 110 ∷ 32 ∷ []
spelled word_is.Ask = 97 ∷ 115 ∷ 107 ∷ 32 ∷ []
spelled word_is.Pin = 112 ∷ 105 ∷ 110 ∷ 32 ∷ []
spelled word_is.Unpin = 117 ∷ 110 ∷ 112 ∷ 105 ∷ 110 ∷ 32 ∷ []
spelled word_is.Run = 114 ∷ 117 ∷ 110 ∷ 32 ∷ []
spelled word_is.Forced = 102 ∷ 111 ∷ 114 ∷ 99 ∷ 101 ∷ 100 ∷ 32 ∷ []
spelled word_is.Path = 112 ∷ 97 ∷ 116 ∷ 104 ∷ 32 ∷ []
spelled word_is.Report = 114 ∷ 101 ∷ 112 ∷ 111 ∷ 114 ∷ 116 ∷ []
spelled word_is.Kept = 107 ∷ 101 ∷ 112 ∷ 116 ∷ 32 ∷ []

abbrev pub headed : Word → List ℕ → List ℕ
headed w f = spelled w ++ f

abbrev pub word_of : Command → Word
word_of (command_is.Open filtered source) = word_is.Open
word_of (command_is.Ask times ranking) = word_is.Ask
word_of (command_is.Pin time step taken) = word_is.Pin
word_of (command_is.Unpin time step) = word_is.Unpin
word_of (command_is.Run choices) = word_is.Run
word_of (command_is.Forced time step) = word_is.Forced
word_of (command_is.Path place) = word_is.Path
word_of command_is.Report = word_is.Report
word_of (command_is.Kept one other) = word_is.Kept

-- the fields of the command are spelled f
abbrev pub FieldsOf : Command → List ℕ → Type 0
FieldsOf (command_is.Open filtered source) f = Opens filtered source f
FieldsOf (command_is.Ask times ranking) f = Asks f times ranking
FieldsOf (command_is.Pin time step taken) f = Pins f time step taken
FieldsOf (command_is.Unpin time step) f = Numbers f time step
FieldsOf (command_is.Run choices) f = Number f choices
FieldsOf (command_is.Forced time step) f = Numbers f time step
FieldsOf (command_is.Path place) f = Number f place
FieldsOf command_is.Report f = f ≡ []
FieldsOf (command_is.Kept one other) f = Numbers f one other

-- the command has this first word, and its fields are spelled f
pub record InFields (c : Command) (w : Word) (f : List ℕ) : Type 0 where
  pub word : word_of c ≡ w
  pub fields : FieldsOf c f

-- the command has this first word, and the line is the word and the command's fields
pub record Begins (c : Command) (w : Word) (s : List ℕ) : Type 0 where
  pub rest : List ℕ
  pub whole : s ≡ headed w rest
  pub inside : InFields c w rest

-- the line is the command's first word and its fields
pub record Spells (c : Command) (s : List ℕ) : Type 0 where
  pub rest : List ℕ
  pub whole : s ≡ headed (word_of c) rest
  pub fields : FieldsOf c rest
