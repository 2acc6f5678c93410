use Rattle.std.proofs.Common.{◌≡◌, ℕ, true, sym, ◌∙◌, subst}
use Rattle.marks.specs.Grows.{Added}
use Rattle.marks.specs.Rules.{seeds, Exactly}
use Rattle.marks.specs.Pinning.{pins_of}
use Rattle.marks.proofs.Meaning.{exactly_tells}
use Rattle.marks.proofs.Seeds.{planted_good, settled_none}
use Rattle.marks.proofs.tables.Marks.work_out.Goals as goal

pub returns : goal.returns
returns c =
    let ix = c.args.ix.now in let places = pins_of c.args.pins.now in let T = c.args.length in
    let a = c.wipe.new.self in let b = c.plant.new.self in let m = c.propagate.new.self in
    let d : Added a (λ y. seeds ix places T y ≡ true) b = subst (λ (n : ℕ). Added a (λ y. seeds ix places n y ≡ true) b) c.wipe.ensures.length c.plant.ensures in
    let n = c.propagate.ensures.worked.grows.same_length ∙ d.grows.same_length ∙ c.wipe.ensures.length in
    let e = c.propagate.ensures.rest (seeds ix places T) (settled_none ix b (c.plant.ensures.same_head ∙ c.wipe.ensures.head))
    (planted_good a c.wipe.ensures.empty ix (seeds ix places T) b c.wipe.ensures.calm d) d.there in
    record {
      the_length = n;
      rest = e;
      tells = λ p V w fit. exactly_tells ix p places V m w fit (subst (λ (k : ℕ). Exactly ix (seeds ix places k) m) (sym n) e.exact);
    }
