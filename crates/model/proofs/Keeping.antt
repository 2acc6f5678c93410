-- What a search keeps of its path, through each choice.
use Rattle.std.proofs.Common.{◌≡◌, ℕ, suc, ◌+◌, ◌<◌, ◌⊎◌, List, [], ◌∷◌, ◌++◌, length, sym, refl, ap, ◌∙◌, subst, subst₂, inl, inr, add-one, arith, length-append}
use Rattle.std.proofs.lemmas.List.{append_assoc}
use Rattle.model.specs.declared.cell.Cell.{Cell}
use Rattle.model.specs.declared.path.Side.{Side}
use Rattle.model.specs.declared.path.Side.TheVariants.{LeftOut, Taken}
use Rattle.model.specs.declared.path.Entry.{Entry}
use Rattle.model.specs.Plans.{Cells, Pins, unpinned}
use Rattle.model.specs.Paths.{left, taken}
use Rattle.model.specs.Choices.{Absent, Fair, Choice, Walk}
use Rattle.model.specs.Choices.Choice.{adds, turns}
use Rattle.model.specs.Choices.Walk.{stay, goes}
use Rattle.model.specs.Firsts.{Places, Ordered, First, NoneAgrees, Lowest, Decided}
use Rattle.model.specs.Kept.{Kept, Next, Only}
use Rattle.model.proofs.Backtrack.{adding_keeps, turning_keeps, popping_keeps, by_of}
use Rattle.model.proofs.FirstPlan.{first_at_end}

absent_front : (x : Cell) (path more : List Entry) → Absent x (path ++ more) → Absent x path
absent_front x [] more a = tt
absent_front x (e ∷ path) more a = (a.0, absent_front x path more a.1)

absent_end : (x : Cell) (path : List Entry) (e : Entry) → Absent x path → (e.cell ≡ x → ⊥) → Absent x (path ++ (e ∷ []))
absent_end x [] e a n = (n, tt)
absent_end x (y ∷ path) e a n = (a.0, absent_end x path e a.1 n)

absent_turn : (x : Cell) (path : List Entry) (c : Cell) → Absent x (path ++ (left c ∷ [])) → Absent x (path ++ (taken c ∷ []))
absent_turn x [] c a = a
absent_turn x (y ∷ path) c a = (a.0, absent_turn x path c a.1)

-- a cell that no entry has is absent
pub absent_from : (x : Cell) (path : List Entry)
    → ((before : List Entry) (e : Entry) (behind : List Entry) → path ≡ before ++ (e ∷ behind) → e.cell ≡ x → ⊥) → Absent x path
absent_from x [] h = tt
absent_from x (e ∷ path) h =
    (h [] e path refl, absent_from x path (λ before y behind q. h (e ∷ before) y behind (ap (λ z. e ∷ z) q)))

module _ (T m : ℕ) (pins : Pins) where
  pub fair_front : (path more : List Entry) → Fair T m pins (path ++ more) → Fair T m pins path
  fair_front [] more f = tt
  fair_front (e ∷ path) more f = (f.0, f.1, f.2, absent_front e.cell path more f.3, fair_front path more f.4)

  pub fair_end : (path : List Entry) (e : Entry) → Fair T m pins path → e.cell.time < T → e.cell.step < m
      → pins e.cell.time e.cell.step ≡ unpinned → Absent e.cell path → Fair T m pins (path ++ (e ∷ []))
  fair_end [] e f h k u a = (h, k, u, tt, tt)
  fair_end (x ∷ path) e f h k u a =
      (f.0, f.1, f.2, absent_end x.cell path e f.3 (λ q. a.0 (sym q)), fair_end path e f.4 h k u a.1)

  fair_turn : (path : List Entry) (c : Cell) → Fair T m pins (path ++ (left c ∷ [])) → Fair T m pins (path ++ (taken c ∷ []))
  fair_turn [] c f = f
  fair_turn (x ∷ path) c f = (f.0, f.1, f.2, absent_turn x.cell path c f.3, fair_turn path c f.4)

-- where a path with one more entry is cut: at that entry, or before it
abbrev Cut : List Entry → Entry → List Entry → Entry → Type 0
Cut path x before e = ((path ≡ before) × (x ≡ e)) ⊎ ((behind : List Entry) × (path ≡ before ++ (e ∷ behind)))

cut : (path : List Entry) (x : Entry) (before : List Entry) (e : Entry) (behind : List Entry)
    → path ++ (x ∷ []) ≡ before ++ (e ∷ behind) → Cut path x before e
cut [] x [] e behind q = let same : x ≡ e = cc in inl (refl, same)
cut [] x (b ∷ before) e behind q =
    let n : length (x ∷ []) ≡ length (b ∷ (before ++ (e ∷ behind))) = ap length q in
    absurd (omega (arith, n, length-append before (e ∷ behind)))
cut (y ∷ path) x [] e behind q = let same : y ≡ e = cc in inr (path, ap (λ z. z ∷ path) same)
cut (y ∷ path) x (b ∷ before) e behind q =
    let head : y ≡ b = cc in let tail : path ++ (x ∷ []) ≡ before ++ (e ∷ behind) = cc in
    go head (cut path x before e behind tail)
  where
    go : y ≡ b → Cut path x before e → Cut (y ∷ path) x (b ∷ before) e
    go head (inl s) = let all : y ∷ path ≡ b ∷ before = cc s.0 in inl (all, s.1)
    go head (inr s) = let all : y ∷ path ≡ b ∷ (before ++ (e ∷ s.0)) = cc s.1 in inr (s.0, all)

module _ (S : Cells → Type 0) (T m : ℕ) (o : Places) where
  lowest_front : (path more : List Entry) → Lowest S T m o (path ++ more) → Lowest S T m o path
  lowest_front path more low before e behind q =
      low before e (behind ++ more) (ap (λ z. z ++ more) q ∙ append_assoc before (e ∷ behind) more)

  lowest_end : (path : List Entry) (x : Entry) → Lowest S T m o path
      → ((d : Cell) → d.time < T → d.step < m → o.place d < o.place x.cell → Decided S path d) → Lowest S T m o (path ++ (x ∷ []))
  lowest_end path x low here before e behind q = go (cut path x before e behind q)
    where
      go : Cut path x before e → (d : Cell) → d.time < T → d.step < m → o.place d < o.place e.cell → Decided S before d
      go (inl s) d h k lt =
          subst (λ z. Decided S z d) s.0 (here d h k (subst (λ (z : Entry). o.place d < o.place z.cell) (sym s.1) lt))
      go (inr s) d h k lt = low before e s.0 s.1 d h k lt

  lowest_turn : (path : List Entry) (c : Cell) → Lowest S T m o (path ++ (left c ∷ [])) → Lowest S T m o (path ++ (taken c ∷ []))
  lowest_turn path c low = lowest_end path (taken c) (lowest_front path (left c ∷ []) low) (low path (left c) [] refl)

module _ (S : Cells → Type 0) (T m : ℕ) (pins : Pins) (o : Places) where
  -- the empty path is kept
  pub kept_none : Kept S T m pins o []
  kept_none =
      record {
        none_left = λ p s l. by_of p [] l;
        fair = tt;
        lowest = λ before e behind q. absurd (let n = ap length q in omega (arith, n, length-append before (e ∷ behind)));
      }

  -- a last entry that is taken is dropped
  pub kept_pop : (path : List Entry) (c : Cell) → Kept S T m pins o (path ++ (taken c ∷ [])) → NoneAgrees S (path ++ (taken c ∷ []))
      → Kept S T m pins o path × NoneAgrees S path
  kept_pop path c k n =
      let r = popping_keeps S path c k.none_left n in (
        record {
          none_left = r.0;
          fair = fair_front T m pins path (taken c ∷ []) k.fair;
          lowest = lowest_front S T m o path (taken c ∷ []) k.lowest;
        },
        r.1,
      )

  -- a last entry that is left out is turned
  pub kept_turn : (path : List Entry) (c : Cell) → Kept S T m pins o (path ++ (left c ∷ [])) → NoneAgrees S (path ++ (left c ∷ []))
      → Kept S T m pins o (path ++ (taken c ∷ []))
  kept_turn path c k n =
      record {
        none_left = turning_keeps S path c k.none_left n;
        fair = fair_turn T m pins path c k.fair;
        lowest = lowest_turn S T m o path c k.lowest;
      }

  -- the lowest-placed undecided cell is added, left out
  pub kept_add : (path : List Entry) (c : Cell) → Kept S T m pins o path → Next S T m pins o path c
      → Kept S T m pins o (path ++ (left c ∷ []))
  kept_add path c k s =
      record {
        none_left = adding_keeps S path c k.none_left;
        fair = fair_end T m pins path (left c) k.fair s.in_time s.in_count s.free s.absent;
        lowest = lowest_end S T m o path (left c) k.lowest s.lower;
      }

  -- the only plan that agrees with a kept path is the first
  pub kept_first : (path : List Entry) (plan : Cells) → Ordered T m o → Kept S T m pins o path → Only S T m path plan
      → First S T m o.cell plan
  kept_first path plan ord k s =
      first_at_end S T m pins o ord path plan k.fair k.none_left s.such s.agrees s.alone k.lowest

  -- as the code has them: the entry that was last, by its side
  pub pop_step : (old new : List Entry) (e : Entry) → old ≡ new ++ (e ∷ []) → e.side ≡ Taken → Kept S T m pins o old → NoneAgrees S old
      → Kept S T m pins o new × NoneAgrees S new
  pop_step old new e q s k n =
      let is : old ≡ new ++ (taken e.cell ∷ []) = q ∙ ap (λ (x : Side). new ++ (record { cell = e.cell; side = x } ∷ [])) s in
      kept_pop new e.cell (subst (λ z. Kept S T m pins o z) is k) (subst (λ z. NoneAgrees S z) is n)

  pub turn_step : (whole old new behind turned : List Entry) (e : Entry) → old ≡ new ++ (e ∷ []) → e.side ≡ LeftOut
      → whole ≡ old ++ behind → turned ≡ new ++ (taken e.cell ∷ []) → Kept S T m pins o old → NoneAgrees S old
      → Kept S T m pins o turned × Choice whole turned
  turn_step whole old new behind turned e q s w t k n =
      let is : old ≡ new ++ (left e.cell ∷ []) = q ∙ ap (λ (x : Side). new ++ (record { cell = e.cell; side = x } ∷ [])) s in
      let all : whole ≡ new ++ (left e.cell ∷ behind)
      = w ∙ ap (λ z. z ++ behind) is ∙ append_assoc new (left e.cell ∷ []) behind in (
        subst (λ z. Kept S T m pins o z) (sym t)
            (kept_turn new e.cell (subst (λ z. Kept S T m pins o z) is k) (subst (λ z. NoneAgrees S z) is n)),
        subst₂ Choice (sym all) (sym t) (turns new e.cell behind),
      )

module _ (T m : ℕ) (pins : Pins) where
  pub turn_fair : (old new : List Entry) (e : Entry) → old ≡ new ++ (e ∷ []) → e.side ≡ LeftOut → Fair T m pins old
      → Fair T m pins (new ++ (taken e.cell ∷ []))
  turn_fair old new e q s f =
      let is : old ≡ new ++ (left e.cell ∷ []) = q ∙ ap (λ (x : Side). new ++ (record { cell = e.cell; side = x } ∷ [])) s in
      fair_turn T m pins new e.cell (subst (λ z. Fair T m pins z) is f)

  walk_more : {g : ℕ} {p q : List Entry} (r : List Entry) → Walk T m pins g p q → Fair T m pins q → Choice q r → Walk T m pins (suc g) p r
  walk_more r (stay path) f ch = goes 0 path r r f ch (stay r)
  walk_more r (goes g p x q fp first w) f ch = goes (suc g) p x r fp first (walk_more r w f ch)

  -- one more choice, at a loop's count
  pub walk_step : (g : ℕ) (p q r : List Entry) → Walk T m pins g p q → Fair T m pins q → Choice q r → Walk T m pins (g + 1) p r
  walk_step g p q r w f ch = subst (λ (k : ℕ). Walk T m pins k p r) (sym (add-one g)) (walk_more r w f ch)

-- one more entry, at a loop's count
pub add_step : (S : Cells → Type 0) (T m : ℕ) (pins : Pins) (o : Places) (g : ℕ) (old path new : List Entry) (c : Cell)
    → Kept S T m pins o path → Next S T m pins o path c → new ≡ path ++ (left c ∷ []) → Walk T m pins g old path
    → Kept S T m pins o new × Walk T m pins (g + 1) old new
add_step S T m pins o g old path new c k s q w =
    subst (λ z. Kept S T m pins o z × Walk T m pins (g + 1) old z) (sym q)
    (kept_add S T m pins o path c k s, walk_step T m pins g old path (path ++ (left c ∷ [])) w k.fair (adds path c))
