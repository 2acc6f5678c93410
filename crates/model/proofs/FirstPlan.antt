-- The plan at the end of a path, with none left of it, is the first; first plans are unique.
use Rattle.std.proofs.Common.{◌≡◌, ℕ, zero, suc, ◌*◌, ◌<◌, Bool, true, false, ◌⊎◌, List, [], ◌∷◌, ◌++◌, sym, refl, ap, ◌∙◌, subst, inl, inr, ⊎_elim, lt_trans, arith}
use Rattle.std.proofs.Math.Bool.{Bool-discrete}
use Rattle.std.proofs.lemmas.Bool.{both_ways, cases_lt, cases_eq, true_from_ne_false, false_from_ne_true}
use Rattle.model.specs.declared.cell.Cell.{Cell}
use Rattle.model.specs.declared.path.Side.{Side}
use Rattle.model.specs.declared.path.Side.TheVariants.{LeftOut, Taken}
use Rattle.model.specs.declared.path.Entry.{Entry}
use Rattle.model.specs.Problems.{steps}
use Rattle.model.specs.Plans.{Cells, Pins}
use Rattle.model.specs.Paths.{at, Follows, Agrees, takes, left}
use Rattle.model.specs.Choices.{Fair}
use Rattle.model.specs.Rankings.{cell_of}
use Rattle.model.specs.Firsts.{Places, Ordered, Such, Before, First, Same, NoneLeft, Lowest, Decided}
use Rattle.model.specs.PathTheorems.{EndsFirst, FirstUnique, OneBefore, RankedOrdered}

-- the first entry that the plan does not follow
pub record Parts (q : Cells) (path : List Entry) : Type 0 where
  pub before : List Entry
  pub entry : Entry
  pub behind : List Entry
  pub whole : path ≡ before ++ (entry ∷ behind)
  pub front : Agrees q before
  pub off : at q entry.cell ≡ takes entry.side → ⊥

-- a plan follows the whole path, or there is a first entry that it does not follow
pub parts : (q : Cells) (path : List Entry) → Agrees q path ⊎ Parts q path
parts q [] = inl tt
parts q (e ∷ path) = go (Bool-discrete (at q e.cell) (takes e.side)) (parts q path)
  where
    go : Dec (Follows q e) → Agrees q path ⊎ Parts q path → Agrees q (e ∷ path) ⊎ Parts q (e ∷ path)
    go (yes k) (inl a) = inl (k, a)
    go (yes k) (inr r) =
        inr (record {
          before = e ∷ r.before;
          entry = r.entry;
          behind = r.behind;
          whole = ap (λ x. e ∷ x) r.whole;
          front = (k, r.front);
          off = r.off;
        })
    go (no n) r = inr (record { before = []; entry = e; behind = path; whole = refl; front = tt; off = n })

-- the cell of an entry of a fair path is in range
pub fair_at : (T m : ℕ) (pins : Pins) (before : List Entry) (e : Entry) (behind : List Entry) → Fair T m pins (before ++ (e ∷ behind))
    → (e.cell.time < T) × (e.cell.step < m)
fair_at T m pins [] e behind f = (f.0, f.1)
fair_at T m pins (x ∷ before) e behind f = fair_at T m pins before e behind f.4

agrees_at : (p : Cells) (before : List Entry) (e : Entry) (behind : List Entry) → Agrees p (before ++ (e ∷ behind))
    → Agrees p before × Follows p e
agrees_at p [] e behind a = (tt, a.0)
agrees_at p (x ∷ before) e behind a = let r = agrees_at p before e behind a.1 in ((a.0, r.0), r.1)

-- what all such plans do one way is decided
pub decided : (S : Cells → Type 0) (path : List Entry) (c : Cell) (b : Bool) → ((p : Cells) → S p → Agrees p path → at p c ≡ b)
    → Decided S path c
decided S path c b d p q sp sq ap aq = d p sp ap ∙ sym (d q sq aq)

module _ (S : Cells → Type 0) (T m : ℕ) (pins : Pins) (o : Places) (ord : Ordered T m o)
    (path : List Entry) (p : Cells) (fair : Fair T m pins path) (none : NoneLeft S path) (sp : S p) (ap : Agrees p path)
    (low : Lowest S T m o path) (q : Cells) (sq : S q) where
  -- where the plans part at an entry that is left out, p comes first
  at_left : (before : List Entry) (c : Cell) (behind : List Entry) → path ≡ before ++ (left c ∷ behind) → Agrees q before
      → at q c ≡ true → Before (T * m) o.cell p q
  at_left before c behind whole front t =
      let in_range : (c.time < T) × (c.step < m) = fair_at T m pins before (left c) behind (subst (λ x. Fair T m pins x) whole fair) in
      let pa : Agrees p before × Follows p (left c) = agrees_at p before (left c) behind (subst (λ x. Agrees p x) whole ap) in
      let here : o.cell (o.place c) ≡ c = ord.cell_of_place c in_range.0 in_range.1 in
      let below : o.place c < T * m = ord.place_below c in_range.0 in_range.1 in (
        o.place c,
        below,
        subst (λ (d : Cell). at p d ≡ false) (sym here) pa.1,
        subst (λ (d : Cell). at q d ≡ true) (sym here) t,
        λ j lt.
            let jC : j < T * m = lt_trans lt below in
            let d : Decided S before (o.cell j)
            = low before (left c) behind whole (o.cell j) (ord.cell_below j jC).0 (ord.cell_below j jC).1
            (subst (λ (x : ℕ). x < o.place c) (sym (ord.place_of_cell j jC)) lt) in
            d p q sp sq pa.0 front,
      )

  by_side : (before : List Entry) (c : Cell) (s : Side) (behind : List Entry) → path ≡ before ++ (record { cell = c; side = s } ∷ behind)
      → Agrees q before → (at q c ≡ takes s → ⊥) → Before (T * m) o.cell p q
  by_side before c LeftOut behind whole front off = at_left before c behind whole front (true_from_ne_false (at q c) off)
  by_side before c Taken behind whole front off = absurd (none q sq (before, c, behind, whole, front, false_from_ne_true (at q c) off))

  compared : (Agrees q path → Same T m p q) → Agrees q path ⊎ Parts q path → Same T m p q ⊎ Before (T * m) o.cell p q
  compared one (inl a) = inl (one a)
  compared one (inr r) = inr (by_side r.before r.entry.cell r.entry.side r.behind r.whole r.front r.off)

pub first_at_end : (S : Cells → Type 0) (T m : ℕ) (pins : Pins) (o : Places) → Ordered T m o
    → (path : List Entry) (plan : Cells) → Fair T m pins path → NoneLeft S path → S plan → Agrees plan path
    → ((q : Cells) → S q → Agrees q path → Same T m plan q) → Lowest S T m o path → First S T m o.cell plan
first_at_end S T m pins o ord path p fair none sp a one low =
    (sp, λ q sq. compared S T m pins o ord path p fair none sp a low q sq (one q sq) (parts q path))

pub ends_first : EndsFirst
ends_first p T pins = first_at_end (Such p T pins) T (steps p) pins

-- neither of two plans comes before the other and after it
pub never_both_before : (C : ℕ) (cell : ℕ → Cell) (a b : Cells) → Before C cell a b → Before C cell b a → ⊥
never_both_before C cell a b x y = ⊎_elim
    (λ h. both_ways (at a (cell x.0)) x.2 (sym (y.4 x.0 h) ∙ x.3))
    (λ h. ⊎_elim
    (λ e. both_ways (at a (cell x.0)) x.2 (subst (λ (k : ℕ). at a (cell k) ≡ true) (sym e) y.3))
    (λ d. both_ways (at b (cell y.0)) y.2 (sym (x.4 y.0 (omega arith)) ∙ y.3))
    (cases_eq x.0 y.0))
    (cases_lt x.0 y.0)

-- a plan does not come before one that is the same
never_before_same : (T m : ℕ) (o : Places) → Ordered T m o → (a b : Cells) → Same T m a b → Before (T * m) o.cell a b → ⊥
never_before_same T m o ord a b s x =
    let r = ord.cell_below x.0 x.1 in
    both_ways (at a (o.cell x.0)) x.2 (sym (s (o.cell x.0).time (o.cell x.0).step r.0 r.1) ∙ x.3)

same_back : (T m : ℕ) (a b : Cells) → Same T m a b → Same T m b a
same_back T m a b s t o h k = sym (s t o h k)

pub one_first : (S : Cells → Type 0) (T m : ℕ) (cell : ℕ → Cell) (a b : Cells) → First S T m cell a → First S T m cell b → Same T m a b
one_first S T m cell a b x y = ⊎_elim (λ s. s)
    (λ p. ⊎_elim (λ s. same_back T m b a s) (λ q. absurd (never_both_before (T * m) cell a b p q)) (y.1 a x.0))
    (x.1 b y.0)

pub first_unique : FirstUnique
first_unique p T pins o = one_first (Such p T pins) T (steps p) o.cell

-- up to a place, two plans do the same, or part at a lowest place
up_to : (cell : ℕ → Cell) (a b : Cells) (n : ℕ)
    → ((j : ℕ) → j < n → at a (cell j) ≡ at b (cell j)) ⊎ (Before n cell a b ⊎ Before n cell b a)
up_to cell a b zero = inl (λ j h. absurd (omega arith))
up_to cell a b (suc n) = go (up_to cell a b n)
  where
    here : ((j : ℕ) → j < n → at a (cell j) ≡ at b (cell j)) → (x y : Bool) → at a (cell n) ≡ x → at b (cell n) ≡ y
        → ((j : ℕ) → j < suc n → at a (cell j) ≡ at b (cell j)) ⊎ (Before (suc n) cell a b ⊎ Before (suc n) cell b a)
    here s true true e f = inl (λ j h. ⊎_elim (λ q. subst (λ (k : ℕ). at a (cell k) ≡ at b (cell k)) (sym q) (e ∙ sym f)) (λ d. s j (omega arith)) (cases_eq j n))
    here s false false e f = inl (λ j h. ⊎_elim (λ q. subst (λ (k : ℕ). at a (cell k) ≡ at b (cell k)) (sym q) (e ∙ sym f)) (λ d. s j (omega arith)) (cases_eq j n))
    here s false true e f = inr (inl (n, omega arith, e, f, s))
    here s true false e f = inr (inr (n, omega arith, f, e, λ j h. sym (s j h)))

    go : ((j : ℕ) → j < n → at a (cell j) ≡ at b (cell j)) ⊎ (Before n cell a b ⊎ Before n cell b a)
        → ((j : ℕ) → j < suc n → at a (cell j) ≡ at b (cell j)) ⊎ (Before (suc n) cell a b ⊎ Before (suc n) cell b a)
    go (inl s) = here s (at a (cell n)) (at b (cell n)) refl refl
    go (inr (inl x)) = inr (inl (x.0, omega (arith, x.1), x.2, x.3, x.4))
    go (inr (inr x)) = inr (inr (x.0, omega (arith, x.1), x.2, x.3, x.4))

pub one_before : OneBefore
one_before T m o ord a b = (
  ⊎_elim (λ s. inl (all s)) inr (up_to o.cell a b (T * m)),
  never_before_same T m o ord a b,
  λ s. never_before_same T m o ord b a (same_back T m a b s),
  never_both_before (T * m) o.cell a b,
)
  where
    all : ((j : ℕ) → j < T * m → at a (o.cell j) ≡ at b (o.cell j)) → Same T m a b
    all s t u h k =
        let c : Cell = cell_of t u in
        subst (λ (d : Cell). at b d ≡ at a d) (ord.cell_of_place c h k) (sym (s (o.place c) (ord.place_below c h k)))

pub ranked_ordered : RankedOrdered
ranked_ordered o undo T m r = record {
  place_below = λ c h k. undo.place_within T m c r h k;
  cell_below = λ k h. (undo.time_within T m k r h, undo.step_within T m k r h);
  cell_of_place = λ c h k. undo.forth T m c r h k;
  place_of_cell = λ k h. undo.back T m k r h;
}
