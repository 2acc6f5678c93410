-- What lies left of a path, entry by entry, and the laws of backtracking.
use Rattle.std.proofs.Common.{◌≡◌, Bool, true, false, ◌⊎◌, List, [], ◌∷◌, ◌++◌, sym, refl, ap, subst, inl, inr}
use mathlib.Core.Bool.{false≢true}
use Rattle.model.specs.declared.path.Side.{Side}
use Rattle.model.specs.declared.path.Side.TheVariants.{LeftOut, Taken}
use Rattle.model.specs.declared.path.Entry.{Entry}
use Rattle.model.specs.declared.cell.Cell.{Cell}
use Rattle.model.specs.Plans.{Cells}
use Rattle.model.specs.Paths.{at, Follows, Agrees, LeftOf, takes, left, taken}
use Rattle.model.specs.Firsts.{Such}
use Rattle.model.specs.PathTheorems.{AddingKeeps, PoppingKeeps, TurningKeeps, ExhaustedNone, Backtracking}

-- the plan leaves out the cell of a taken entry
abbrev pub Skips : Cells → Entry → Type 0
Skips p e = (e.side ≡ Taken) × (at p e.cell ≡ false)

abbrev pub LeftBy : Cells → List Entry → Type 0
LeftBy p [] = ⊥
LeftBy p (e ∷ path) = Skips p e ⊎ (Follows p e × LeftBy p path)

left_at : (p : Cells) (before : List Entry) (c : Cell) (behind : List Entry) → Agrees p before → at p c ≡ false
    → LeftBy p (before ++ (taken c ∷ behind))
left_at p [] c behind a s = inl (refl, s)
left_at p (e ∷ before) c behind a s = inr (a.0, left_at p before c behind a.1 s)

pub by_of : (p : Cells) (path : List Entry) → LeftOf p path → LeftBy p path
by_of p path l = subst (λ x. LeftBy p x) (sym l.3) (left_at p l.0 l.1 l.2 l.4 l.5)

pub of_by : (p : Cells) (path : List Entry) → LeftBy p path → LeftOf p path
of_by p [] l = absurd l
of_by p (e ∷ path) (inl s) =
    let back : Side → List Entry = λ x. record { cell = e.cell; side = x } ∷ path in
    ([], e.cell, path, ap back s.0, tt, s.1)
of_by p (e ∷ path) (inr (k)) =
    let l : LeftOf p path = of_by p path k.1 in
    (e ∷ l.0, l.1, l.2, ap (λ x. e ∷ x) l.3, (k.0, l.4), l.5)

pub agrees_end : (p : Cells) (path : List Entry) (e : Entry) → Agrees p path → Follows p e → Agrees p (path ++ (e ∷ []))
agrees_end p [] e a k = (k, tt)
agrees_end p (x ∷ path) e a k = (a.0, agrees_end p path e a.1 k)

pub agrees_front : (p : Cells) (path more : List Entry) → Agrees p (path ++ more) → Agrees p path
agrees_front p [] more a = tt
agrees_front p (x ∷ path) more a = (a.0, agrees_front p path more a.1)

left_front : (p : Cells) (path more : List Entry) → LeftBy p path → LeftBy p (path ++ more)
left_front p [] more l = absurd l
left_front p (x ∷ path) more (inl s) = inl s
left_front p (x ∷ path) more (inr k) = inr (k.0, left_front p path more k.1)

left_end : (p : Cells) (path : List Entry) (e : Entry) → LeftBy p (path ++ (e ∷ [])) → LeftBy p path ⊎ (Agrees p path × Skips p e)
left_end p [] e (inl s) = inr (tt, s)
left_end p [] e (inr k) = absurd k.1
left_end p (x ∷ path) e (inl s) = inl (inl s)
left_end p (x ∷ path) e (inr k) = go (left_end p path e k.1)
  where
    go : LeftBy p path ⊎ (Agrees p path × Skips p e) → LeftBy p (x ∷ path) ⊎ (Agrees p (x ∷ path) × Skips p e)
    go (inl l) = inl (inr (k.0, l))
    go (inr a) = inr ((k.0, a.0), a.1)

pub not_both : LeftOut ≡ Taken → ⊥
not_both e = false≢true (ap takes e)

module _ (S : Cells → Type 0) where
  pub adding_keeps : AddingKeeps S
  adding_keeps path c none p s l = go (left_end p path (left c) (by_of p (path ++ (left c ∷ [])) l))
    where
      go : LeftBy p path ⊎ (Agrees p path × Skips p (left c)) → ⊥
      go (inl b) = none p s (of_by p path b)
      go (inr a) = not_both a.1.0

  pub turning_keeps : TurningKeeps S
  turning_keeps path c none empty p s l = go (left_end p path (taken c) (by_of p (path ++ (taken c ∷ [])) l))
    where
      go : LeftBy p path ⊎ (Agrees p path × Skips p (taken c)) → ⊥
      go (inl b) = none p s (of_by p (path ++ (left c ∷ [])) (left_front p path (left c ∷ []) b))
      go (inr a) = empty p s (agrees_end p path (left c) a.0 a.1.1)

  pub popping_keeps : PoppingKeeps S
  popping_keeps path c none empty = (
    λ p s l. none p s (of_by p (path ++ (taken c ∷ [])) (left_front p path (taken c ∷ []) (by_of p path l))),
    λ p s a. go p s a (at p c) refl,
  )
    where
      go : (p : Cells) → S p → Agrees p path → (b : Bool) → at p c ≡ b → ⊥
      go p s a true e = empty p s (agrees_end p path (taken c) a e)
      go p s a false e = none p s (path, c, [], refl, a, e)

  pub exhausted_none : ExhaustedNone S
  exhausted_none n p s = n p s tt

pub backtracking : Backtracking
backtracking p T pins =
    (adding_keeps (Such p T pins), popping_keeps (Such p T pins), turning_keeps (Such p T pins), exhausted_none (Such p T pins))
