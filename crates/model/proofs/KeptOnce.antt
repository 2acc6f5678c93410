-- That a path is kept has one proof at most, so it comes out of a truncation again.
use Rattle.std.proofs.Common.{ℕ, List, [], ◌∷◌, refl, arith}
use native.Mathlib.Bridge.{le_prop}
use mathlib.Core.Logic.{∥∥₁_elim}
use mathlib.Core.HLevel.{Π_prop, ¬_prop, ×_prop, Unit-prop, ⊥_prop, Discrete, hedberg}
use mathlib.Core.Bool.{Bool-set}
use Rattle.model.specs.declared.cell.Cell.{Cell}
use Rattle.model.specs.declared.path.Entry.{Entry}
use Rattle.model.specs.Plans.{Cells, Pin, Pins, unpinned, take, leave}
use Rattle.model.specs.Paths.{at}
use Rattle.model.specs.Choices.{Absent, Fair}
use Rattle.model.specs.Firsts.{Places, NoneLeft, Lowest}
use Rattle.model.specs.Kept.{Kept}

pub pin_discrete : Discrete Pin
pin_discrete unpinned unpinned = yes refl
pin_discrete unpinned take = no (λ e. grind arith)
pin_discrete unpinned leave = no (λ e. grind arith)
pin_discrete take unpinned = no (λ e. grind arith)
pin_discrete take take = yes refl
pin_discrete take leave = no (λ e. grind arith)
pin_discrete leave unpinned = no (λ e. grind arith)
pin_discrete leave take = no (λ e. grind arith)
pin_discrete leave leave = yes refl

pub absent_prop : (x : Cell) (path : List Entry) → IsProp (Absent x path)
absent_prop x [] = Unit-prop
absent_prop x (e ∷ path) = ×_prop ¬_prop (absent_prop x path)

pub fair_prop : (T m : ℕ) (pins : Pins) (path : List Entry) → IsProp (Fair T m pins path)
fair_prop T m pins [] f g = Unit-prop f g
fair_prop T m pins (e ∷ path) f g = λ i. (
  le_prop f.0 g.0 i,
  le_prop f.1 g.1 i,
  hedberg pin_discrete _ _ f.2 g.2 i,
  absent_prop e.cell path f.3 g.3 i,
  fair_prop T m pins path f.4 g.4 i,
)

none_left_prop : (S : Cells → Type 0) (path : List Entry) → IsProp (NoneLeft S path)
none_left_prop S path = Π_prop λ p. Π_prop λ s. Π_prop λ l. ⊥_prop

lowest_prop : (S : Cells → Type 0) (T m : ℕ) (o : Places) (path : List Entry) → IsProp (Lowest S T m o path)
lowest_prop S T m o path =
    Π_prop λ before. Π_prop λ e. Π_prop λ behind. Π_prop λ w. Π_prop λ d. Π_prop λ h. Π_prop λ k. Π_prop λ lt.
    Π_prop λ p. Π_prop λ q. Π_prop λ sp. Π_prop λ sq. Π_prop λ ap. Π_prop λ aq. Bool-set (at p d) (at q d)

module _ (S : Cells → Type 0) (T m : ℕ) (pins : Pins) (o : Places) (path : List Entry) where
  pub kept_prop : IsProp (Kept S T m pins o path)
  kept_prop k l = λ i. record {
    none_left = none_left_prop S path k.none_left l.none_left i;
    fair = fair_prop T m pins path k.fair l.fair i;
    lowest = lowest_prop S T m o path k.lowest l.lowest i;
  }

  pub kept_out : ∥ Kept S T m pins o path ∥₁ → Kept S T m pins o path
  kept_out t = ∥∥₁_elim t kept_prop (λ k. k)
