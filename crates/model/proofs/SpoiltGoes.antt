-- Fewer clauses bar fewer steps and leave less known.
use Rattle.std.proofs.Common.{ℕ, inl, inr, ⊎_elim}
use Rattle.sets.specs.Literals.{Literal}
use Rattle.model.specs.Problems.{Problem}
use Rattle.model.specs.Clauses.{Clauses, Barred, Known, SpoilsBy, Within}
use Rattle.model.specs.Theorems.{SpoiltGoes}

module _ (p : Problem) (V W : Clauses) (sub : Within V W) (o : ℕ) where
  barred_more : Barred p V o → Barred p W o
  barred_more r = (r.0, r.1, r.2, r.3, sub _ _ r.4)

  known_more : (b : Literal) → Known p V o b → Known p W o b
  known_more b (inl v) = inl (sub b b v)
  known_more b (inr (inl n)) = inr (inl n)
  known_more b (inr (inr r)) = inr (inr (r.0, r.1, sub _ _ r.2))

  spoils_less : (a b : Literal) → SpoilsBy p W o a b → SpoilsBy p V o a b
  spoils_less a b s = (s.0, s.1, ⊎_elim (λ n. inl (λ k. n (known_more b k))) inr s.2)

pub spoilt_goes : SpoiltGoes
spoilt_goes p V W kept sub o a b r n s v = kept.unspoiled a b v o r (λ x. n (barred_more p V W sub o x))
    (⊎_elim (λ x. inl (spoils_less p V W sub o a b x)) (λ x. inr (spoils_less p V W sub o b a x)) s)
