use Rattle.std.proofs.Common.{◌≡◌, ℕ, ◌+◌, ◌<◌, ◌≤◌, Bool, true, false, ◌||◌, List, length, set, sym, refl, ap, ◌∙◌, subst, arith, length-set}
use Rattle.marks.specs.declared.mark.Mark.{Mark}
use Rattle.marks.specs.declared.marked.Marked.{Marked}
use Rattle.marks.specs.declared.tables.Marks.{Marks}
use Rattle.marks.specs.Tables.{marked_in, same, opp, in_trail, mark_at, ranged, AllRanged, Apart, Listed}
use Rattle.marks.specs.Grows.{on}
use Rattle.marks.proofs.Trail.{has_room, ranged_push, apart_push, in_trail_push, set_off}
use Rattle.marks.proofs.Changes.{pushed}
use Rattle.marks.proofs.tables.Marks.put.Goals as goal

-- the state before, the mark, the trail after and its length
module _ (m : Marks) (x : Mark) (okx : ranged m.length x ≡ true) (free : on m x ≡ false) (unopposed : on m (opp x) ≡ false) where
  room_for : m.len < 10304
  room_for = has_room m.length m.trail m.len x m.short m.ranged m.apart okx (sym (m.listed x) ∙ free) (sym (m.listed (opp x)) ∙ unopposed)

  room_in : m.len < length m.trail
  room_in = let r = room_for in omega (arith, m.sized)

  module _ (r : List Mark) (n : ℕ) (er : r ≡ set m.trail m.len x) (en : n ≡ m.len + 1) where
    listed-on : (k : Marked) → ((y : Mark) → marked_in k y ≡ (same x y || on m y)) → Listed k r n
    listed-on k e = λ y. e y ∙ ap (λ (b : Bool). same x y || b) (m.listed y) ∙ sym (in_trail_push m.trail m.len x y room_in)
        ∙ ap (λ (q : List Mark). in_trail q (m.len + 1) y) (sym er) ∙ ap (λ (i : ℕ). in_trail r i y) (sym en)

    ranged-on : AllRanged m.length r n
    ranged-on = subst (λ (q : List Mark). AllRanged m.length q n) (sym er) (subst (AllRanged m.length (set m.trail m.len x)) (sym en)
        (ranged_push m.length m.trail m.len x m.short m.ranged m.apart okx (sym (m.listed x) ∙ free) (sym (m.listed (opp x)) ∙ unopposed) room_in))

    apart-on : Apart r n
    apart-on = subst (λ (q : List Mark). Apart q n) (sym er) (subst (Apart (set m.trail m.len x)) (sym en)
        (apart_push m.length m.trail m.len x m.short m.ranged m.apart okx (sym (m.listed x) ∙ free) (sym (m.listed (opp x)) ∙ unopposed) room_in))

    small-on : n ≤ 10304
    small-on = let r = room_for in omega arith

    kept_on : (i : ℕ) → i < m.len → mark_at r i ≡ mark_at m.trail i
    kept_on i h = ap (λ (q : List Mark). mark_at q i) er ∙ set_off m.trail m.len x i (λ e. omega arith)

pub invariant_of-self : goal.invariant_of-self
invariant_of-self c =
    let m = c.args.self.now in let x = c.args.x in let a = c.requires.ranged in let b = c.requires.free in let d = c.requires.unopposed in
    let r = c.push.new.self.table.now in let n = c.len-self.result in let s = c.resume-trail.ensures in let p = c.push.ensures in
    let w = pushed m.trail c.resume-trail.result.table.now m.len c.resume-trail.result.len (omega (arith, room_in m x a b d)) s.table s.len
    r c.push.new.self.len c.push.result x (room_in m x a b d) p.fits p.table p.len in
    let en = c.len-self.ensures ∙ w.1 in
    record {
      sized = ap length w.0 ∙ length-set m.trail m.len x ∙ m.sized;
      short = m.short;
      room = small-on m x a b d r n w.0 en;
      passed = omega (arith, m.passed, en);
      listed = listed-on m x a b d r n w.0 en c.enter.new.self c.enter.ensures;
      ranged = ranged-on m x a b d r n w.0 en;
      apart = apart-on m x a b d r n w.0 en;
    }

pub returns : goal.returns
returns c =
    let m = c.args.self.now in let x = c.args.x in let a = c.requires.ranged in let b = c.requires.free in let d = c.requires.unopposed in
    let r = c.push.new.self.table.now in let n = c.len-self.result in let s = c.resume-trail.ensures in let p = c.push.ensures in
    let w = pushed m.trail c.resume-trail.result.table.now m.len c.resume-trail.result.len (omega (arith, room_in m x a b d)) s.table s.len
    r c.push.new.self.len c.push.result x (room_in m x a b d) p.fits p.table p.len in
    let en = c.len-self.ensures ∙ w.1 in
    record {
      same_length = refl;
      same_head = refl;
      same_conflict = refl;
      one_more = en;
      pushed = kept_on m x a b d r n w.0 en;
      now_on = c.enter.ensures;
    }
