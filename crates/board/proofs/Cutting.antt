-- A text is cut at its first blank in one way only, and what a number's next digit brings.
use Rattle.std.proofs.Common.{◌≡◌, ℕ, suc, ◌+◌, ◌*◌, ◌<◌, ◌≤◌, List, [], ◌∷◌, ◌++◌, sym, refl, ap, ◌∙◌, subst, ⊎_elim, arith}
use Rattle.std.proofs.lemmas.Bool.{cases_lt}
use Rattle.board.specs.Fields.{Number, NoBlank}

number_no_blank : (s : List ℕ) (n : ℕ) → Number s n → NoBlank s
number_no_blank s n p i h e = omega (arith, p.digits i h, e)

has_blank : (a b : List ℕ) → NoBlank (a ++ 32 ∷ b) → ⊥
has_blank [] b h = h 0 (omega arith) refl
has_blank (x ∷ a) b h = has_blank a b (λ i l e. h (suc i) (omega arith) e)

pub uncut : (s a b : List ℕ) → NoBlank s → s ≡ a ++ 32 ∷ b → ⊥
uncut s a b h e = has_blank a b (subst NoBlank e h)

rest_no_blank : (x : ℕ) (a : List ℕ) → NoBlank (x ∷ a) → NoBlank a
rest_no_blank x a h i l e = h (suc i) (omega arith) e

head_is : (x y : ℕ) (a b : List ℕ) → x ∷ a ≡ y ∷ b → x ≡ y
head_is x y a b e = cc

tail_is : (x y : ℕ) (a b : List ℕ) → x ∷ a ≡ y ∷ b → a ≡ b
tail_is x y a b e = cc

one_cut : (a b c d : List ℕ) → NoBlank a → NoBlank c → a ++ 32 ∷ b ≡ c ++ 32 ∷ d → (a ≡ c) × (b ≡ d)
one_cut [] b [] d h k e = (refl, tail_is 32 32 b d e)
one_cut [] b (y ∷ c) d h k e = absurd (k 0 (omega arith) (sym (head_is 32 y b (c ++ 32 ∷ d) e)))
one_cut (x ∷ a) b [] d h k e = absurd (h 0 (omega arith) (head_is x 32 (a ++ 32 ∷ b) d e))
one_cut (x ∷ a) b (y ∷ c) d h k e =
    let r = one_cut a b c d (rest_no_blank x a h) (rest_no_blank y c k) (tail_is x y (a ++ 32 ∷ b) (c ++ 32 ∷ d) e) in
    let f = head_is x y (a ++ 32 ∷ b) (c ++ 32 ∷ d) e in
    let g = r.0 in (cc, r.1)

-- a number and what follows its blank are the parts that the text was cut into
pub parts : (s f g first second : List ℕ) (n : ℕ) → NoBlank f → s ≡ f ++ 32 ∷ g → s ≡ first ++ 32 ∷ second → Number first n → Number f n × (second ≡ g)
parts s f g first second n h e whole is_number =
    let u = one_cut first second f g (number_no_blank first n is_number) h (sym whole ∙ e) in
    (subst (λ x. Number x n) u.0 is_number, u.1)

-- the number n stands for the value v, as far as it goes
abbrev pub Stands : ℕ → ℕ → Type 0
Stands v n = (v ≤ 4294967295 → n ≡ v) × (4294967295 < v → n ≡ 4294967295)

pub next_digit : (v n d r : ℕ) → Stands v n → (n * 10 + d ≤ 4294967295 → r ≡ n * 10 + d) → (4294967295 < n * 10 + d → r ≡ 4294967295) → Stands (v * 10 + d) r
next_digit v n d r s small large =
    ⊎_elim
    (λ h. let e : n ≡ 4294967295 = s.1 h in (λ l. absurd (omega arith), λ l. large (omega arith)))
    (λ h. let e : n ≡ v = s.0 h in (λ l. small (omega arith) ∙ ap (λ k. k * 10 + d) e, λ l. large (omega arith)))
    (cases_lt 4294967295 v)
