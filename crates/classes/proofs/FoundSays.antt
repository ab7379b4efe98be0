-- What is found at a point is what the job's definitions say.
-- Assumes nothing.
use Rattle.job.specs.Found.{lowest}
use Rattle.classes.specs.Backwards.{is_lowest, lowest_states}
use Rattle.classes.specs.FoundSays.{HeldStatesAreBefore, LowestStatesAreOfClasses, NopMarkIsThePoints}
use Rattle.tables.proofs.SetLaws.{set_of_cong}
use Rattle.classes.proofs.FoundLaws.{held_states_before, is_lowest_held, sum_lowest_held, is_nop_held}

-- before sets
pub before_found : HeldStatesAreBefore
before_found = held_states_before

-- classes
pub classes_found : LowestStatesAreOfClasses
unfolding lowest_states
classes_found = record {
  states = λ j work nodes n h l. set_of_cong j.rule.states (is_lowest work n) (lowest j n) (λ q m. is_lowest_held j work nodes n q h l m);
  count = sum_lowest_held;
}

-- nop marks
pub nop_found : NopMarkIsThePoints
nop_found = is_nop_held
