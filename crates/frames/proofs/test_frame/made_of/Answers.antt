-- States, ages and touches, one after the other. Assumes nothing.
use Rattle.contact_definitions.specs.PointStates.{ids_of}
use Rattle.record_definitions.specs.Touch.{tested_as, states_of}
use Rattle.frames.proofs.test_frame.made_of.Goals as goal

pub returns : goal.returns
unfolding tested_as states_of ids_of
returns c = (
  simp (
    c.touch_of.ensures,
    c.with_ages.ensures,
    c.touches_after-touches.ensures,
    c.ages_of-ages.ensures,
    c.states_of_ids-states.ensures,
    c.counted_ids-new.ensures,
  ),
  simp (c.touches_after-touches.ensures, c.ages_of-ages.ensures, c.counted_ids-new.ensures),
)
