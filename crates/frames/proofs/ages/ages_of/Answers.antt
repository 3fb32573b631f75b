-- Each of the two. Assumes nothing.
use Rattle.record_definitions.specs.Ages.{ages_of}
use Rattle.frames.proofs.ages.ages_of.Goals as goal

pub returns : goal.returns
unfolding ages_of
returns c = simp (c.next_age-2.ensures, c.next_age.ensures)
