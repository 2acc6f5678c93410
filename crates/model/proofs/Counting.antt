-- The places that a path has passed grow with each choice, and are bounded.
use Rattle.std.proofs.Common.{◌≡◌, ℕ, zero, suc, ◌+◌, ◌-◌, ◌*◌, ◌^◌, ◌<◌, ◌≤◌, List, [], ◌∷◌, ◌++◌, length, sym, refl, ap, subst, le_of_eq, suc-add, zero-add, add-one, arith, pow_pos}
use Rattle.model.specs.declared.path.Side.{Side}
use Rattle.model.specs.declared.path.Side.TheVariants.{LeftOut, Taken}
use Rattle.model.specs.declared.path.Entry.{Entry}
use Rattle.model.specs.declared.cell.Cell.{Cell}
use Rattle.model.specs.Plans.{Pins}
use Rattle.model.specs.Paths.{passed, passed_from, worth, left, taken}
use Rattle.model.specs.Choices.{Choice, Walk}
use Rattle.model.specs.Choices.Choice.{adds, turns}
use Rattle.model.specs.Choices.Walk.{stay, goes}
use Rattle.model.specs.PathTheorems.{AddingPassesOne, TurningPasses, WalksPass, WalksJoin, PassedBounded, WalksEnd}
use Rattle.model.proofs.Crowding.{few}

worth_taken : (C i d : ℕ) → i + suc d ≡ C + 1 → worth C i Taken ≡ 2 ^ suc d
worth_taken C i d e = let k : (C - i) + 1 ≡ suc d = omega arith in ap (λ (n : ℕ). 2 ^ n) k

worth_le : (C i d : ℕ) (s : Side) → i + suc d ≡ C + 1 → worth C i s ≤ 2 ^ suc d
worth_le C i d LeftOut e = pow_pos (suc d)
worth_le C i d Taken e = le_of_eq (worth_taken C i d e)

-- d entries from the i-th on pass at most 2 ^ (d + 1) - 2 places
below : (C i d : ℕ) (path : List Entry) → i + d ≡ C + 1 → length path ≤ d → passed_from C i path + 2 ≤ 2 ^ suc d
below C i d [] e h = omega (arith, pow_pos d)
below C i zero (x ∷ path) e h = absurd (omega arith)
below C i (suc d) (x ∷ path) e h =
    let ih : passed_from C (suc i) path + 2 ≤ 2 ^ suc d = below C (suc i) d path (omega arith) (omega arith) in
    let w : worth C i x.side ≤ 2 ^ suc d = worth_le C i d x.side e in
    omega arith

adding_from : (C i : ℕ) (path : List Entry) (c : Cell) → passed_from C i (path ++ (left c ∷ [])) ≡ passed_from C i path + 1
adding_from C i [] c = refl
adding_from C i (x ∷ path) c = omega (arith, adding_from C (suc i) path c)

pub adding_passes_one : AddingPassesOne
adding_passes_one C path c = adding_from C 1 path c

turning_from : (C i d : ℕ) (before : List Entry) (c : Cell) (behind : List Entry) → i + d ≡ C + 1
    → length (before ++ (left c ∷ behind)) ≤ d
    → passed_from C i (before ++ (left c ∷ behind)) < passed_from C i (before ++ (taken c ∷ []))
turning_from C i zero [] c behind e h = absurd (omega arith)
turning_from C i (suc d) [] c behind e h =
    let b : passed_from C (suc i) behind + 2 ≤ 2 ^ suc d = below C (suc i) d behind (omega arith) (omega arith) in
    let w : worth C i Taken ≡ 2 ^ suc d = worth_taken C i d e in
    omega arith
turning_from C i zero (x ∷ before) c behind e h = absurd (omega arith)
turning_from C i (suc d) (x ∷ before) c behind e h =
    let ih : passed_from C (suc i) (before ++ (left c ∷ behind)) < passed_from C (suc i) (before ++ (taken c ∷ []))
    = turning_from C (suc i) d before c behind (omega arith) (omega arith) in
    omega arith

pub turning_passes : TurningPasses
turning_passes C before c behind h = turning_from C 1 C before c behind (omega arith) h

choice_passes : (C : ℕ) {p q : List Entry} → length p ≤ C → Choice p q → passed C p + 1 ≤ passed C q
choice_passes C h (adds path c) = omega (arith, adding_passes_one C path c)
choice_passes C h (turns before c behind) = omega (arith, turning_passes C before c behind h)

walk_passes : (T m : ℕ) (pins : Pins) {g : ℕ} {p q : List Entry} → Walk T m pins g p q → passed (T * m) p + g ≤ passed (T * m) q
walk_passes T m pins (stay path) = omega arith
walk_passes T m pins (goes g p q r f ch w) =
    omega (arith, choice_passes (T * m) (few T m pins p f) ch, walk_passes T m pins w)

pub walks_pass : WalksPass
walks_pass T m pins g p q w = walk_passes T m pins w

walk_join : (T m : ℕ) (pins : Pins) {g : ℕ} {p q : List Entry} (h : ℕ) (r : List Entry)
    → Walk T m pins g p q → Walk T m pins h q r → Walk T m pins (g + h) p r
walk_join T m pins h r (stay path) v = subst (λ (k : ℕ). Walk T m pins k path r) (sym (zero-add h)) v
walk_join T m pins h r (goes g p x q f ch w) v =
    subst (λ (k : ℕ). Walk T m pins k p r) (sym (suc-add g h)) (goes (g + h) p x r f ch (walk_join T m pins h r w v))

pub walks_join : WalksJoin
walks_join T m pins g h p q r w v = walk_join T m pins h r w v

pub passed_bounded : PassedBounded
passed_bounded T m pins path f =
    subst (λ (k : ℕ). passed (T * m) path + 2 ≤ 2 ^ k) (sym (add-one (T * m)))
    (below (T * m) 1 (T * m) path (omega arith) (few T m pins path f))

pub walks_end : WalksEnd
walks_end T m pins g p q f w = omega (arith, walk_passes T m pins w, passed_bounded T m pins q f)
