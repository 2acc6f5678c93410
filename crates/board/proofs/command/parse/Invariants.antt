use Rattle.std.proofs.Common.{ℕ, ◌<◌, get_or}
use Rattle.board.specs.declared.command.Command.{Command}
use Rattle.board.specs.declared.command.Word.TheVariants as word_is
use Rattle.board.specs.Commands.{Begins}
use Rattle.board.proofs.Words.{every_word}
use Rattle.board.proofs.command.parse.Given as goal

-- the line begins as no command of the words so far
abbrev pub invariant-loop-word : goal.invariant-loop-word
invariant-loop-word l = (k : ℕ) → k < l.word-index → (x : Command) → Begins x (get_or every_word k word_is.Open) l.line → ⊥
