use Rattle.std.proofs.Common.{refl}
use Rattle.examples.proofs.SheetLines.{sheet_states, forms}
use Rattle.examples.proofs.TwoStepClauses.{largest}
use Rattle.examples.proofs.TwoSteps.{two_steps_plan, two_steps_force}
use Rattle.examples.proofs.WaterSteps.{interference, one_meter, eight_meters}
use Rattle.examples.proofs.examples_stand.Goals as goal

pub returns : goal.returns
returns c = record {
  two_steps = record { stated = sheet_states; plan = two_steps_plan; clauses = largest; forces = two_steps_force };
  interference = interference;
  one_meter = one_meter;
  eight_meters = eight_meters;
  places = record { forward_cell = refl; forward_place = refl; by_step_cell = refl; by_step_place = refl };
  passed = λ first second. record { left_out = refl; left_out_then_taken = refl; taken_alone = refl; taken_twice = refl };
  forms = forms;
}
