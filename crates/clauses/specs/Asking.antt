-- What the clause record answers. Assumes nothing.
use Rattle.std.specs.Prelude.{ℕ, Bool, cond, ◌&&◌, Ok, Err, Result, nat_lt}
use Rattle.sets.specs.Literals.{fact, lit}
use Rattle.model.specs.declared.answers.Decline.{Decline}
use Rattle.model.specs.declared.answers.Decline.TheVariants.{OutOfRange}
use Rattle.clauses.specs.declared.record.ClauseRecord.{ClauseRecord}
use Rattle.clauses.specs.Waiting.{kept_in}

-- whether the pair is kept; declined where one of the numbers is no literal of the problem's facts
abbrev pub kept_answer : ClauseRecord → ℕ → ℕ → Result Bool Decline
kept_answer r a b = cond (nat_lt (fact (lit a)) r.facts && nat_lt (fact (lit b)) r.facts) (Ok (kept_in r (lit a) (lit b))) (Err OutOfRange)
