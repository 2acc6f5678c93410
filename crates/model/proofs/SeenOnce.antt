-- What a look at a path shows has one proof at most. Assumes nothing.
use Rattle.std.proofs.Common.{ℕ, true, false, List, [], ◌∷◌}
use native.Mathlib.Bridge.{le_prop}
use mathlib.Core.Bool.{Bool-set}
use mathlib.Core.HLevel.{Π_prop, ×_prop, Unit-prop, ⊥_prop, hedberg}
use Rattle.model.specs.declared.cell.Cell.{Cell}
use Rattle.model.specs.declared.path.Entry.{Entry}
use Rattle.model.specs.Problems.{Problem, step, value}
use Rattle.model.specs.Plans.{Cells, Pins, IsPlan, Keeps, state}
use Rattle.model.specs.Paths.{at, takes, Agrees}
use Rattle.model.specs.Firsts.{Places, Such}
use Rattle.model.specs.Kept.{Next, Only}
use Rattle.model.proofs.KeptOnce.{pin_discrete, absent_prop}

plan_prop : (p : Problem) (T : ℕ) (c : Cells) → IsProp (IsPlan p T c)
plan_prop p T c a b = λ i. record {
  within = (Π_prop λ t. Π_prop λ o. Π_prop λ h. ×_prop le_prop le_prop) a.within b.within i;
  opens = (Π_prop λ t. Π_prop λ o. Π_prop λ h. Bool-set (step p o).enabled true) a.opens b.opens i;
  apart = (Π_prop λ t. Π_prop λ o. Π_prop λ o'. Π_prop λ h. Π_prop λ k. Π_prop λ x. ⊥_prop) a.apart b.apart i;
  ready = (Π_prop λ t. Π_prop λ o. Π_prop λ l. Π_prop λ h. Π_prop λ n. Bool-set (value (state p c t) l) true) a.ready b.ready i;
  reaches = (Π_prop λ l. Π_prop λ h. Bool-set (value (state p c T) l) true) a.reaches b.reaches i;
}

keeps_prop : (pins : Pins) (c : Cells) → IsProp (Keeps pins c)
keeps_prop pins c a b = λ i. record {
  takes = (Π_prop λ t. Π_prop λ o. Π_prop λ h. Bool-set (c t o) true) a.takes b.takes i;
  leaves = (Π_prop λ t. Π_prop λ o. Π_prop λ h. Bool-set (c t o) false) a.leaves b.leaves i;
}

pub such_prop : (p : Problem) (T : ℕ) (pins : Pins) (c : Cells) → IsProp (Such p T pins c)
such_prop p T pins c a b = λ i. record { plan = plan_prop p T c a.plan b.plan i; keeps = keeps_prop pins c a.keeps b.keeps i }

agrees_prop : (c : Cells) (path : List Entry) → IsProp (Agrees c path)
agrees_prop c [] = Unit-prop
agrees_prop c (e ∷ path) = ×_prop (Bool-set (at c e.cell) (takes e.side)) (agrees_prop c path)

module _ (S : Cells → Type 0) (T m : ℕ) (path : List Entry) where
  pub only_prop : ((c : Cells) → IsProp (S c)) → (plan : Cells) → IsProp (Only S T m path plan)
  only_prop sp plan a b = λ i. record {
    such = sp plan a.such b.such i;
    agrees = agrees_prop plan path a.agrees b.agrees i;
    alone = (Π_prop λ q. Π_prop λ s. Π_prop λ h. Π_prop λ t. Π_prop λ o. Π_prop λ x. Π_prop λ y. Bool-set (q t o) (plan t o)) a.alone b.alone i;
  }

  pub next_prop : (pins : Pins) (o : Places) (c : Cell) → IsProp (Next S T m pins o path c)
  next_prop pins o c a b = λ i. record {
    in_time = le_prop a.in_time b.in_time i;
    in_count = le_prop a.in_count b.in_count i;
    free = hedberg pin_discrete _ _ a.free b.free i;
    absent = absent_prop c path a.absent b.absent i;
    lower = (Π_prop λ d. Π_prop λ h. Π_prop λ k. Π_prop λ lt. Π_prop λ p. Π_prop λ q. Π_prop λ sp. Π_prop λ sq. Π_prop λ ap. Π_prop λ aq.
        Bool-set (at p d) (at q d)) a.lower b.lower i;
  }
