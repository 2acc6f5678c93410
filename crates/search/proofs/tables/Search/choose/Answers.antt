use Rattle.std.proofs.Common.{set, ap, ◌∙◌, arith}
use Rattle.search.proofs.Searches.{fits_room, fits_time, chosen}
use Rattle.search.proofs.tables.Search.choose.Goals as goal

pub push-requires : goal.push-requires
push-requires c = omega (arith, fits_room c.args.self.now c.args.place c.args.side c.requires)

pub invariant_of-self-clause-sound : goal.invariant_of-self-clause-sound
invariant_of-self-clause-sound c =
    let s = c.args.self.now in
    chosen s c.args.place c.args.side c.requires c.decide.new.self c.push.new.self.levels c.push.new.self.depth
    (c.push.ensures.levels ∙ ap (λ n. set s.path.levels s.path.depth (record { place = c.args.place; side = c.args.side; trail = n })) c.count-trail.ensures)
    c.push.ensures.depth (c.decide.ensures.decided (fits_time s c.args.place c.args.side c.requires))
