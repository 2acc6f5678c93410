use Rattle.std.proofs.Common.{◌≡◌, ℕ, ◌-◌, ◌<◌, Bool, true, not, ◌&&◌, List, length, sym, ap, ◌∙◌, subst, arith}
use Rattle.marks.specs.declared.mark.Mark.{Mark}
use Rattle.marks.specs.declared.mark.Mark.TheVariants.{Fact}
use Rattle.marks.specs.declared.marked.Marked.{Marked}
use Rattle.marks.specs.declared.tables.Marks.{Marks}
use Rattle.marks.specs.Tables.{marked_in, same, in_trail, mark_at, ranged, Listed, AllRanged, Apart}
use Rattle.marks.specs.Grows.{on}
use Rattle.marks.proofs.Trail.{in_trail_pop}
use Rattle.marks.proofs.Changes.{top_is}
use Rattle.marks.proofs.tables.Marks.pop.Goals as goal

-- the state before, the newest mark, the trail after and its length
module _ (m : Marks) (x : Mark) (some : m.head < m.len) (top : x ≡ mark_at m.trail (m.len - 1)) (r : List Mark) (n : ℕ) (er : r ≡ m.trail) (en : n ≡ m.len - 1) where
  listed-less : (k : Marked) → ((y : Mark) → marked_in k y ≡ (on m y && not (same x y))) → Listed k r n
  listed-less k e = λ y. e y ∙ ap (λ (b : Bool). b && not (same x y)) (m.listed y)
      ∙ ap (λ (z : Mark). in_trail m.trail m.len y && not (same z y)) top
      ∙ in_trail_pop m.trail m.len (m.len - 1) (omega arith) m.apart y
      ∙ ap (λ (i : ℕ). in_trail m.trail i y) (sym en) ∙ ap (λ (q : List Mark). in_trail q n y) (sym er)

  ranged-less : AllRanged m.length r n
  ranged-less = subst (λ (q : List Mark). AllRanged m.length q n) (sym er) (λ i h. m.ranged i (omega arith))

  apart-less : Apart r n
  apart-less = subst (λ (q : List Mark). Apart q n) (sym er) (λ i j h k. m.apart i j h (omega arith))

  ok-top : ranged m.length x ≡ true
  ok-top = ap (ranged m.length) top ∙ m.ranged (m.len - 1) (omega arith)

pub invariant_of-self-2 : goal.invariant_of-self-2
invariant_of-self-2 c =
    let m = c.args.self.now in let x = c.in-Some.x in
    let r = c.pop-top.new.self.table.now in let n = c.len-self.result in let s = c.resume-trail.ensures in let p = c.pop-top.ensures in
    let top = top_is m.trail c.resume-trail.result.table.now m.len c.resume-trail.result.len (omega (arith, m.room, m.sized)) s.table s.len
    r c.pop-top.new.self.len x (Fact 0 0) (omega (arith, c.requires.some)) p.table p.len c.in-Some.ensures.held in
    let er = p.table ∙ s.table in let en : n ≡ m.len - 1 = omega (arith, c.len-self.ensures, p.len, s.len, m.room, m.sized) in
    record {
      sized = ap length er ∙ m.sized;
      short = m.short;
      room = omega (arith, m.room, en);
      passed = omega (arith, en, c.requires.some);
      listed = listed-less m x c.requires.some top r n er en c.strike.new.self c.strike.ensures;
      ranged = ranged-less m x c.requires.some top r n er en;
      apart = apart-less m x c.requires.some top r n er en;
    }
