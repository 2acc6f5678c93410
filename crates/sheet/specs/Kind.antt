-- The kinds of lines: the letter that tells each, and which may follow which.
use Rattle.std.specs.Prelude.{ℕ, Bool, true, false, cond, ◌||◌, List, [], ◌∷◌, Some, None, Option, ◌==◌}
use Rattle.sheet.specs.declared.kind.LineKind.{LineKind}
use Rattle.sheet.specs.declared.kind.LineKind.TheVariants.{Version, Length, Fact, True, Wanted, Step, Need, Make}

-- the code of the letter
abbrev pub kind_of : ℕ → Option LineKind
kind_of b =
    cond (b == 108) (Some Length)
    (cond (b == 102) (Some Fact)
    (cond (b == 116) (Some True)
    (cond (b == 119) (Some Wanted)
    (cond (b == 115) (Some Step)
    (cond (b == 110) (Some Need)
    (cond (b == 109) (Some Make) None))))))

abbrev pub place : LineKind → ℕ
place Version = 0
place Length = 1
place Fact = 2
place True = 3
place Wanted = 4
place Step = 5
place Need = 6
place Make = 7

-- the kinds that may come next
abbrev pub next : Option LineKind → List LineKind
next None = Version ∷ []
next (Some Version) = Length ∷ []
next (Some Length) = Fact ∷ []
next (Some Fact) = Fact ∷ True ∷ Wanted ∷ Step ∷ []
next (Some True) = True ∷ Wanted ∷ Step ∷ []
next (Some Wanted) = Wanted ∷ Step ∷ []
next (Some Step) = Need ∷ Make ∷ Step ∷ []
next (Some Need) = Need ∷ Make ∷ Step ∷ []
next (Some Make) = Make ∷ Step ∷ []

abbrev pub among : LineKind → List LineKind → Bool
among k [] = false
among k (x ∷ xs) = place k == place x || among k xs

abbrev pub allowed : Option LineKind → LineKind → Bool
allowed p k = among k (next p)

-- the sheet may end after a line of kind p
abbrev pub may_end : Option LineKind → Bool
may_end None = false
may_end (Some Version) = false
may_end (Some Length) = false
may_end (Some Fact) = true
may_end (Some True) = true
may_end (Some Wanted) = true
may_end (Some Step) = true
may_end (Some Need) = true
may_end (Some Make) = true

-- need and make lines belong to a step
abbrev pub in_step : LineKind → Bool
in_step Version = false
in_step Length = false
in_step Fact = false
in_step True = false
in_step Wanted = false
in_step Step = false
in_step Need = true
in_step Make = true

-- a line of kind p stands in a step, as its own line or below it
abbrev pub after_step : Option LineKind → Bool
after_step None = false
after_step (Some Version) = false
after_step (Some Length) = false
after_step (Some Fact) = false
after_step (Some True) = false
after_step (Some Wanted) = false
after_step (Some Step) = true
after_step (Some Need) = true
after_step (Some Make) = true
