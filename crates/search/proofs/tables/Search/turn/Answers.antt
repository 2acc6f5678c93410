use Rattle.std.proofs.Common.{◌≡◌, ◌∷◌, ◌++◌, rules, sym, refl, ap, ◌∙◌}
use Rattle.std.proofs.lemmas.List.{append_assoc}
use denote.Enum.Bare.{same_true, same_false}
use Rattle.model.specs.declared.path.Side.{Side}
use Rattle.model.specs.declared.path.Side.TheVariants.{LeftOut, Taken}
use Rattle.model.specs.contracts.path.Side.{the_type}
use Rattle.search.specs.Levels.{entry_of}
use Rattle.search.specs.Looks.{path_of}
use Rattle.search.proofs.Turning.{turn_fits, turn_choice, drop_none}
use Rattle.search.proofs.tables.Search.turn.Goals as goal

taken_else : (s : Side) → (s ≡ LeftOut → ⊥) → s ≡ Taken
taken_else LeftOut n = absurd (n refl)
taken_else Taken n = refl

pub choose-requires : goal.choose-requires
choose-requires c = turn_fits c.loop-level.self c.undo.new.self c.in-Some.level c.undo.ensures.same c.in-Some.ensures.less
    (same_true the_type (search rules) _ _ (sym c.if-eq.ensures)) c.loop-level.invariant.1

pub returns-then-eq-clause-turned : goal.returns-then-eq-clause-turned
returns-then-eq-clause-turned c = turn_choice c.loop-level.self c.undo.new.self c.in-Some.level c.undo.ensures.same c.in-Some.ensures.less
    c.args.self.now c.choose.new.self c.loop-level.invariant.2.0 (same_true the_type (search rules) _ _ (sym c.if-eq.ensures)) c.loop-level.invariant.2.1 c.choose.ensures.more

pub loop-level-preserved : goal.loop-level-preserved
loop-level-preserved c =
    let s = c.loop-level.self in
    let l = c.in-Some.level in
    let less = c.in-Some.ensures.less in
    let inv = c.loop-level.invariant in (
      c.undo.ensures.same ∙ inv.0,
      drop_none s c.undo.new.self l c.undo.ensures.same less (taken_else l.side (same_false the_type _ _ (sym c.if-eq.ensures))) inv.1,
      (
        entry_of s.order l ∷ inv.2.0,
        inv.2.1 ∙ ap (λ z. z ++ inv.2.0) less.0 ∙ append_assoc (path_of c.undo.new.self) _ inv.2.0,
      ),
    )
