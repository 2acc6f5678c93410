-- Where the forced marks contradict there is no plan.
use Rattle.std.proofs.Common.{⊎_elim}
use Rattle.std.proofs.lemmas.Bool.{both_ways, not-true}
use Rattle.model.specs.Plans.{state}
use Rattle.model.specs.Theorems.{ContradictionNone}
use Rattle.model.proofs.States.{never_both}
use Rattle.model.proofs.MarksSound.{marks_sound}
use Rattle.model.proofs.KeptHold.{kept_hold}

pub contradiction_none : ContradictionNone
contradiction_none p T pins V wf kept d c plan keeps =
    let sound = marks_sound p T pins V c wf plan keeps (kept_hold p T V c wf kept plan) in
    ⊎_elim (λ e. never_both (state p c e.1) e.0 (sound _ e.2) (sound _ e.3))
    (λ e. both_ways _ (not-true _ (sound _ e.3)) (sound _ e.2)) d
