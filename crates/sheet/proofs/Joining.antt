-- A literal that joins a list keeps it within its facts, and apart from opposites.
use Rattle.std.proofs.Common.{◌≡◌, ℕ, ◌+◌, ◌*◌, ◌<◌, Bool, true, false, ◌&&◌, ◌||◌, eqb, ltb, ◌⊎◌, Ok, Err, Result, sym, refl, ap, ◌∙◌, subst, inl, inr, ⊎_elim}
use Rattle.std.proofs.lemmas.Bool.{both_ways, eqb-true}
use Rattle.sets.specs.Literals.{Literal, pos, neg, opposite, fact, code, lit}
use Rattle.sets.specs.Sets.{lit_in, with_literal}
use Rattle.sets.specs.declared.facts.LiteralSet.{LiteralSet}
use Rattle.sets.proofs.Literals.{lit_code}
use Rattle.model.specs.Tables.{LiteralsBelow, NoOpposites}
use Rattle.sheet.specs.Job.{literal, mentions}
use Rattle.sheet.specs.Joins.{With, Joined, Joins}
use Rattle.sheet.specs.Stating.{or_and}
use Rattle.sheet.specs.declared.fault.Place.{Place}
use Rattle.sheet.specs.declared.fault.SheetFault.{SheetFault}

pub lit_true : (f : ℕ) → lit (2 * f) ≡ pos f
unfolding code
lit_true f = lit_code (pos f)

pub lit_false : (f : ℕ) → lit (2 * f + 1) ≡ neg f
unfolding code
lit_false f = lit_code (neg f)

pub or_left : (r a b : Bool) → r ≡ a → r ≡ true → r ≡ (a || b)
or_left r true b e t = t
or_left r false b e t = absurd (both_ways r e t)

pub or_right : (q r a b : Bool) → q ≡ a → q ≡ false → r ≡ b → r ≡ (a || b)
or_right q r true b e n h = absurd (both_ways q n e)
or_right q r false b e n h = h

or_none : (x y : Bool) → (x || y) ≡ false → (x ≡ false) × (y ≡ false)
or_none true y e = absurd (both_ways true e refl)
or_none false y e = (refl, e)

-- what a set says that took the literal of a number in
with_number : (s s' : LiteralSet) (a : ℕ) (l : Literal) → lit a ≡ l
    → ((m : Literal) → lit_in s' m ≡ (lit_in s m || (ltb a 128 && eqb (code m) a))) → s' ≡ with_literal s (lit a) → With s l s'
with_number s s' a l e h v = record {
  value = v ∙ ap (with_literal s) e;
  members = λ m i. ⊎_elim inl (λ q. inr (sym (lit_code m) ∙ ap lit (eqb-true (code m) a q) ∙ e)) (or_and (lit_in s m) (ltb a 128) (eqb (code m) a) (sym (h m) ∙ i));
}

pub with_true : (s s' : LiteralSet) (f : ℕ) (b : Bool) → b ≡ false
    → ((m : Literal) → lit_in s' m ≡ (lit_in s m || (ltb (2 * f) 128 && eqb (code m) (2 * f)))) → s' ≡ with_literal s (lit (2 * f)) → With s (literal b f) s'
with_true s s' f b n h v = with_number s s' (2 * f) (literal b f) (lit_true f ∙ sym (ap (λ (x : Bool). literal x f) n)) h v

pub with_false : (s s' : LiteralSet) (f : ℕ) (b : Bool) → b ≡ true
    → ((m : Literal) → lit_in s' m ≡ (lit_in s m || (ltb (2 * f + 1) 128 && eqb (code m) (2 * f + 1)))) → s' ≡ with_literal s (lit (2 * f + 1)) → With s (literal b f) s'
with_false s s' f b n h v = with_number s s' (2 * f + 1) (literal b f) (lit_false f ∙ sym (ap (λ (x : Bool). literal x f) n)) h v

fact_literal : (b : Bool) (f : ℕ) → fact (literal b f) ≡ f
fact_literal true f = refl
fact_literal false f = refl

joined_below : (n : ℕ) (s s' : LiteralSet) (f : ℕ) (b : Bool) → Joined s f b s' → f < n → LiteralsBelow n s → LiteralsBelow n s'
joined_below n s s' f b j h old l i =
    ⊎_elim (old l) (λ e. subst (λ (k : ℕ). k < n) (sym (ap fact e ∙ fact_literal b f)) h) (j.more.members l i)

-- neither sign of the fact stood there
unsaid : (s : LiteralSet) (f : ℕ) (b : Bool) → mentions s f ≡ false → (lit_in s (literal b f) ≡ false) × (lit_in s (opposite (literal b f)) ≡ false)
unsaid s f true e = let p = or_none (lit_in s (pos f)) (lit_in s (neg f)) e in (p.1, p.0)
unsaid s f false e = or_none (lit_in s (pos f)) (lit_in s (neg f)) e

flipped : (l m : Literal) → opposite l ≡ m → l ≡ opposite m
flipped (pos f) m e = ap opposite e
flipped (neg f) m e = ap opposite e

apart : (l : Literal) → l ≡ opposite l → ⊥
apart (pos f) e = cc
apart (neg f) e = cc

joined_agrees : (s s' : LiteralSet) (f : ℕ) (b : Bool) → Joined s f b s' → NoOpposites s → NoOpposites s'
joined_agrees s s' f b j old l i o =
    let u = unsaid s f b j.free in
    ⊎_elim
    (λ p. ⊎_elim (old l p) (λ e. both_ways (lit_in s (opposite (literal b f))) u.1 (subst (λ (m : Literal). lit_in s m ≡ true) (flipped l (literal b f) e) p)) (j.more.members (opposite l) o))
    (λ e. ⊎_elim
    (λ p. both_ways (lit_in s (opposite (literal b f))) u.1 (subst (λ (m : Literal). lit_in s (opposite m) ≡ true) e p))
    (λ k. apart l (e ∙ sym k))
    (j.more.members (opposite l) o))
    (j.more.members l i)

pub joins_below : (n : ℕ) (s s' : LiteralSet) (f : ℕ) (b : Bool) (w : Place) (r : Result (Unit {0}) SheetFault) → Joins s f b w r s' → f < n → LiteralsBelow n s → LiteralsBelow n s'
joins_below n s s' f b w (Ok u) j h old = joined_below n s s' f b j h old
joins_below n s s' f b w (Err e) j h old = subst (LiteralsBelow n) (sym j.2) old

pub joins_agrees : (s s' : LiteralSet) (f : ℕ) (b : Bool) (w : Place) (r : Result (Unit {0}) SheetFault) → Joins s f b w r s' → NoOpposites s → NoOpposites s'
joins_agrees s s' f b w (Ok u) j old = joined_agrees s s' f b j old
joins_agrees s s' f b w (Err e) j old = subst NoOpposites (sym j.2) old
