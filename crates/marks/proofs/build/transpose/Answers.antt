use Rattle.std.proofs.Common.{◌≡◌, Bool, true, get_or, sym, refl, ap, ◌∙◌, ⊎_elim, arith}
use Rattle.std.proofs.lemmas.Bool.{both_ways, cases_lt, cases_Bool}
use Rattle.std.proofs.lemmas.List.{get_or_past}
use Rattle.sets.specs.Literals.{lit}
use Rattle.sets.specs.Sets.{step_in, no_literals, no_steps}
use Rattle.sets.specs.declared.facts.LiteralSet.{LiteralSet}
use Rattle.model.proofs.Fitting.{no_literal}
use Rattle.marks.specs.Tables.{number_in}
use Rattle.marks.proofs.Empties.{no_member}
use Rattle.marks.proofs.build.transpose.Goals as goal

pub loop-o-init : goal.loop-o-init
loop-o-init c = (
  record {
    there = λ i l h k. absurd (omega arith);
    why = λ i l h. absurd (both_ways _ (no_member c.empty-columns.result c.empty-columns.ensures 128 l i) h);
  },
  refl,
)

bool_iff : (a b : Bool) → (a ≡ true → b ≡ true) → (b ≡ true → a ≡ true) → a ≡ b
bool_iff a b f g = ⊎_elim (λ e. e ∙ sym (f e)) (λ e. ⊎_elim (λ h. absurd (both_ways a e (g h))) (λ h. e ∙ sym h) (cases_Bool b)) (cases_Bool a)

pub returns : goal.returns
returns c i j =
    let rows = c.args.rows.now in let inv = c.loop-o.invariant.0 in
    bool_iff (number_in (get_or rows i no_literals) j) (step_in (get_or c.loop-o.columns j no_steps) i)
    (λ h. ⊎_elim (λ r. inv.there i j (omega arith) h)
    (λ r. absurd (both_ways (number_in (get_or rows i no_literals) j) (ap (λ (s : LiteralSet). number_in s j) (get_or_past rows i no_literals (omega arith)) ∙ no_literal (lit j)) h)) (cases_lt i 256))
    (λ h. (inv.why i j h).1)
