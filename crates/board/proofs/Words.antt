-- A line that spells a command begins with the command's word, which stands in the table of words.
use Rattle.std.proofs.Common.{◌≡◌, ℕ, ◌<◌, ◌≤◌, Bool, true, false, cond, eqb, List, [], ◌∷◌, ◌++◌, Option, None, Some, MatchOption, IsSomeAnd, get_or, refl, sym, ap, ◌∙◌, subst, arith}
use Rattle.std.proofs.lemmas.List.{append_cancel_left}
use Rattle.board.specs.declared.command.Command.{Command}
use Rattle.board.specs.declared.command.Command.TheVariants as command_is
use Rattle.board.specs.declared.command.Word.{Word}
use Rattle.board.specs.declared.command.Word.TheVariants as word_is
use Rattle.board.specs.declared.field.SourceName.{SourceName}
use Rattle.board.specs.declared.field.SourceName.TheVariants.{Sheet, Water}
use Rattle.board.specs.Fields.{Number, SourceIs}
use Rattle.board.specs.Commands.{Spells, Begins, InFields, FieldsOf, headed, word_of}

-- a line that spells a command begins with its word, and the other way round
pub spells_begins : (c : Command) (w : Word) (s : List ℕ) → ((v : Word) (f : List ℕ) → s ≡ headed v f → w ≡ v) → Spells c s → Begins c w s
spells_begins c w s only p =
    let e : w ≡ word_of c = only (word_of c) p.rest p.whole in
    record {
      rest = p.rest;
      whole = subst (λ v. s ≡ headed v p.rest) (sym e) p.whole;
      inside = record { word = sym e; fields = p.fields };
    }

pub begins_spells : (c : Command) (w : Word) (s : List ℕ) → Begins c w s → Spells c s
begins_spells c w s b =
    record {
      rest = b.rest;
      whole = subst (λ v. s ≡ headed v b.rest) (sym b.inside.word) b.whole;
      fields = b.inside.fields;
    }

-- all words, in the order of the program's table
abbrev pub every_word : List Word
every_word = word_is.Open ∷ word_is.Ask ∷ word_is.Pin ∷ word_is.Unpin ∷ word_is.Run ∷ word_is.Forced ∷ word_is.Path ∷ word_is.Report ∷ word_is.Kept ∷ []

abbrev Listed : Word → Type 0
Listed w = (k : ℕ) × (k < 9) × (get_or every_word k word_is.Open ≡ w)

listed : (w : Word) → Listed w
listed word_is.Open = (0, omega arith, refl)
listed word_is.Ask = (1, omega arith, refl)
listed word_is.Pin = (2, omega arith, refl)
listed word_is.Unpin = (3, omega arith, refl)
listed word_is.Run = (4, omega arith, refl)
listed word_is.Forced = (5, omega arith, refl)
listed word_is.Path = (6, omega arith, refl)
listed word_is.Report = (7, omega arith, refl)
listed word_is.Kept = (8, omega arith, refl)

-- the only word that a line can begin with, by its first two bytes
read_word : List ℕ → Word
read_word s =
    let a = get_or s 0 0 in
    let b = get_or s 1 0 in
    cond (eqb a 111) word_is.Open (cond (eqb a 97) word_is.Ask (cond (eqb a 117) word_is.Unpin (cond (eqb a 102) word_is.Forced (cond (eqb a 107) word_is.Kept
    (cond (eqb a 112) (cond (eqb b 105) word_is.Pin word_is.Path) (cond (eqb b 117) word_is.Run word_is.Report))))))

word_read : (w : Word) (f : List ℕ) → read_word (headed w f) ≡ w
unfolding read_word
word_read word_is.Open f = refl
word_read word_is.Ask f = refl
word_read word_is.Pin f = refl
word_read word_is.Unpin f = refl
word_read word_is.Run f = refl
word_read word_is.Forced f = refl
word_read word_is.Path f = refl
word_read word_is.Report f = refl
word_read word_is.Kept f = refl

-- a line begins with one word at most
pub only_one : (v w : Word) (f g : List ℕ) → headed v f ≡ headed w g → v ≡ w
only_one v w f g e = sym (word_read v f) ∙ ap read_word e ∙ word_read w g

-- a line that begins as no command of any word spells none
pub none_spelled : (s : List ℕ) (n : ℕ) → 9 ≤ n → ((k : ℕ) → k < n → (c : Command) → Begins c (get_or every_word k word_is.Open) s → ⊥) → (c : Command) → Spells c s → ⊥
none_spelled s n h none c p =
    let t = listed (word_of c) in
    let b : Begins c (word_of c) s = record { rest = p.rest; whole = p.whole; inside = record { word = refl; fields = p.fields } } in
    none t.0 (omega (arith, t.1)) c (subst (λ w. Begins c w s) (sym t.2) b)

-- the words whose one field is a number
abbrev pub counts : Word → Bool
counts word_is.Open = false
counts word_is.Ask = false
counts word_is.Pin = false
counts word_is.Unpin = false
counts word_is.Run = true
counts word_is.Forced = false
counts word_is.Path = true
counts word_is.Report = false
counts word_is.Kept = false

clash : false ≡ true → ⊥
clash e = let z : ◌≡◌ {A = ℕ} 0 1 = cc in omega arith

pub counted : (c : Command) (f : List ℕ) → counts (word_of c) ≡ true → FieldsOf c f → (n : ℕ) × Number f n
counted (command_is.Open filtered source) f e p = absurd (clash e)
counted (command_is.Ask times ranking) f e p = absurd (clash e)
counted (command_is.Pin time step taken) f e p = absurd (clash e)
counted (command_is.Unpin time step) f e p = absurd (clash e)
counted (command_is.Run choices) f e p = (choices, p)
counted (command_is.Forced time step) f e p = absurd (clash e)
counted (command_is.Path place) f e p = (place, p)
counted command_is.Report f e p = absurd (clash e)
counted (command_is.Kept one other) f e p = absurd (clash e)

-- a command of one number is made of that number, where there is one
pub counted_command : (w : Word) (f : List ℕ) (r : Option ℕ) (m : Option Command) (Post : ℕ → Command → Type 0) → counts w ≡ true → MatchOption r ((n : ℕ) → Number f n → ⊥) (λ n. Number f n) → MatchOption r (m ≡ None) (λ n. IsSomeAnd m (Post n)) → ((n : ℕ) (c : Command) → Post n c → Number f n → InFields c w f) → MatchOption m ((c : Command) → InFields c w f → ⊥) (λ c. InFields c w f)
counted_command w f None None Post e a b make = λ c p. let n = counted c f (ap counts p.word ∙ e) p.fields in a n.0 n.1
counted_command w f None (Some c) Post e a b make = absurd cc
counted_command w f (Some n) None Post e a b make = absurd b
counted_command w f (Some n) (Some c) Post e a b make = make n c b a

-- sheet
abbrev pub sheet_bytes : List ℕ
sheet_bytes = 115 ∷ 104 ∷ 101 ∷ 101 ∷ 116 ∷ 32 ∷ []

-- water
abbrev pub water_bytes : List ℕ
water_bytes = 119 ∷ 97 ∷ 116 ∷ 101 ∷ 114 ∷ 32 ∷ []

pub no_source : (s m : List ℕ) → ((f : List ℕ) → s ≡ sheet_bytes ++ f → ⊥) → s ≡ water_bytes ++ m → ((n : ℕ) → Number m n → ⊥) → (x : SourceName) → SourceIs x s → ⊥
no_source s m bare e none (Sheet file) p = bare file.now p
no_source s m bare e none (Water k) p =
    let q : p.0 ≡ m = append_cancel_left water_bytes p.0 m (sym p.1 ∙ e) in
    none k (subst (λ d. Number d k) q p.2)
