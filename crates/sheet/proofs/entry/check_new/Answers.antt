use Rattle.std.proofs.Common.{◌≡◌, ℕ, List, true, false, Some, None, Option, sym, refl, ◌∙◌}
use Rattle.std.specs.Option.{is_some}
use Rattle.std.proofs.lemmas.Bool.{both_ways}
use Rattle.sheet.specs.Entry.{First, Stands}
use Rattle.sheet.proofs.entry.check_new.Goals as goal

stands : (names : List (List ℕ)) (name : List ℕ) (o : Option ℕ) → First names name o → is_some o ≡ true → (i : ℕ) × Stands names name i
stands names name (Some i) h e = (i, h)
stands names name None h e = absurd (both_ways false refl e)

pub returns-then-is_some : goal.returns-then-is_some
returns-then-is_some g c =
    let s = stands _ _ c.first_match.result c.first_match.ensures (sym c.is_some.ensures ∙ c.if-is_some.true) in
    (s.0, s.1, refl)
