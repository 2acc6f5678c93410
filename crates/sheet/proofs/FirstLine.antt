-- Bytes have at most one first line, it states at most one thing, and it has a fault only where it states nothing.
use Rattle.std.proofs.Common.{◌≡◌, ℕ, ◌+◌, List, ◌∷◌, ◌++◌, length, get_or, take, sym, ap, ◌∙◌, subst, ⊎_elim}
use Rattle.std.proofs.lemmas.List.{append_cancel_left}
use Rattle.std.proofs.lemmas.Bool.{cases_order}
use Rattle.sheet.specs.Class.{class_told}
use Rattle.sheet.specs.Cut.{Begins, ByteWrong, LineWrong}
use Rattle.sheet.specs.Statement.{Statement, Proper, print}
use Rattle.sheet.specs.declared.class.ByteClass.{ByteClass}
use Rattle.sheet.specs.declared.class.ByteClass.TheVariants.{LineFeed, Other}
use Rattle.sheet.specs.declared.fault.Place.{Place}
use Rattle.sheet.specs.declared.fault.ByteFault.{ByteFault}
use Rattle.sheet.specs.declared.fault.ByteFault.TheVariants as byte_is
use Rattle.sheet.specs.declared.fault.LineFault.{LineFault}
use Rattle.sheet.specs.declared.fault.LineFault.TheVariants as line_is
use Rattle.sheet.proofs.Meant.{one_print}
use Rattle.sheet.proofs.Plain.{begins_print}

-- the first line ends at the first line feed
same_first : (s x y : List ℕ) → Begins s x → Begins s y → x ≡ y
same_first s x y b c =
    ⊎_elim (λ e. b.same ∙ ap (λ (n : ℕ). take n s) e ∙ sym c.same)
    (⊎_elim (λ l. absurd (c.clean.feed (length x) l b.ends)) (λ l. absurd (b.clean.feed (length y) l c.ends)))
    (cases_order (length x) (length y))

two_classes : (c : ByteClass) → c ≡ LineFeed → c ≡ Other → ⊥
two_classes c f o = cc

-- a line that ends has no byte fault
whole : (s x : List ℕ) (n : ℕ) (e : ByteFault) → Begins s x → ByteWrong s n e → ⊥
whole s x n byte_is.TooLong b w = w
whole s x n (byte_is.OtherByte p) b w =
    ⊎_elim (λ e. two_classes _ b.ends (subst (λ (i : ℕ). class_told (get_or s i 0) ≡ Other) (sym e) w.3))
    (⊎_elim (λ l. w.2.feed (length x) l b.ends) (λ l. b.clean.other w.0 l w.3))
    (cases_order (length x) w.0)
whole s x n (byte_is.NoLineFeed p) b w = w.0.feed (length x) b.inside b.ends

same_place : (p q : Place) → p.line ≡ q.line → p.byte ≡ q.byte → p ≡ q
same_place p q l b = ap (λ (n : ℕ). record { line = n; byte = p.byte }) l ∙ ap (λ (n : ℕ). record { line = q.line; byte = n }) b

-- bytes have at most one byte fault
one_byte_fault : (s : List ℕ) (n : ℕ) (e f : ByteFault) → ByteWrong s n e → ByteWrong s n f → e ≡ f
one_byte_fault s n byte_is.TooLong f v w = absurd v
one_byte_fault s n (byte_is.OtherByte p) byte_is.TooLong v w = absurd w
one_byte_fault s n (byte_is.OtherByte p) (byte_is.OtherByte q) v w =
    ⊎_elim (λ e. ap byte_is.OtherByte (same_place p q (v.4 ∙ sym w.4) (v.5 ∙ ap (λ (i : ℕ). i + 1) e ∙ sym w.5)))
    (⊎_elim (λ l. absurd (w.2.other v.0 l v.3)) (λ l. absurd (v.2.other w.0 l w.3)))
    (cases_order v.0 w.0)
one_byte_fault s n (byte_is.OtherByte p) (byte_is.NoLineFeed q) v w = absurd (w.0.other v.0 v.1 v.3)
one_byte_fault s n (byte_is.NoLineFeed p) byte_is.TooLong v w = absurd w
one_byte_fault s n (byte_is.NoLineFeed p) (byte_is.OtherByte q) v w = absurd (v.0.other w.0 w.1 w.3)
one_byte_fault s n (byte_is.NoLineFeed p) (byte_is.NoLineFeed q) v w = ap byte_is.NoLineFeed (same_place p q (v.1 ∙ sym w.1) (v.2 ∙ sym w.2))

pub one_line_fault : (s : List ℕ) (n : ℕ) (e f : LineFault) → LineWrong s n e → LineWrong s n f → e ≡ f
one_line_fault s n (line_is.Byte b) (line_is.Byte c) v w = ap line_is.Byte (one_byte_fault s n b c v w)
one_line_fault s n (line_is.Byte b) (line_is.Form q) v w = absurd (whole s w.0 n b w.1 v)
one_line_fault s n (line_is.Form p) (line_is.Byte c) v w = absurd (whole s v.0 n c v.1 w)
one_line_fault s n (line_is.Form p) (line_is.Form q) v w = ap line_is.Form (same_place p q (v.3 ∙ sym w.3) (v.4 ∙ sym w.4))

pub no_line_fault : (s after : List ℕ) (t : Statement) (n : ℕ) (e : LineFault) → Proper t → s ≡ print t ++ 10 ∷ after → LineWrong s n e → ⊥
no_line_fault s after t n (line_is.Byte b) p e w = whole s (print t) n b (begins_print s after t p e) w
no_line_fault s after t n (line_is.Form q) p e w =
    w.2 t (record { proper = p; whole = same_first s w.0 (print t) w.1 (begins_print s after t p e) })

-- bytes begin with at most one line that states something
pub one_line : (s a b : List ℕ) (t u : Statement) → Proper t → Proper u → s ≡ print t ++ 10 ∷ a → s ≡ print u ++ 10 ∷ b → (t ≡ u) × (a ≡ b)
one_line s a b t u p q d e =
    let x = same_first s (print t) (print u) (begins_print s a t p d) (begins_print s b u q e) in
    let f : 10 ∷ a ≡ 10 ∷ b = append_cancel_left (print u) (10 ∷ a) (10 ∷ b) (ap (λ (l : List ℕ). l ++ 10 ∷ a) (sym x) ∙ sym d ∙ e) in
    (one_print t u p q x, cc)
