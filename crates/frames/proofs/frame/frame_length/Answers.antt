-- By the kind. Assumes nothing.
use mathlib.Core.Path.{sym, ◌∙◌}
use Rattle.frames.proofs.FrameLengths.{circle_length, outline_length_is, wall_length_is, place_length}
use Rattle.frames.proofs.FrameLengths.{test_length, turn_length, chain_length_is, no_length}
use Rattle.frames.proofs.frame.frame_length.Goals as goal

pub returns-in-1-clause-length : goal.returns-in-1-clause-length
returns-in-1-clause-length c = sym (circle_length _ _ c.in-1.is)

pub returns-in-2-clause-length : goal.returns-in-2-clause-length
returns-in-2-clause-length c =
    let match = c.in-2 in
    c.outline_length.ensures.length ∙ sym (outline_length_is _ _ match.is)

pub returns-in-3-clause-length : goal.returns-in-3-clause-length
returns-in-3-clause-length c =
    let match = c.in-3 in
    c.wall_length.ensures.length ∙ sym (wall_length_is _ _ match.is)

pub returns-in-4-clause-length : goal.returns-in-4-clause-length
returns-in-4-clause-length c = sym (place_length _ _ c.in-4.is)

pub returns-in-5-clause-length : goal.returns-in-5-clause-length
returns-in-5-clause-length c = sym (test_length _ _ c.in-5.is)

pub returns-in-6-clause-length : goal.returns-in-6-clause-length
returns-in-6-clause-length c = sym (turn_length _ _ c.in-6.is)

pub returns-in-7-clause-length : goal.returns-in-7-clause-length
returns-in-7-clause-length c =
    let match = c.in-7 in
    c.chain_length.ensures.length ∙ sym (chain_length_is _ _ match.is)

pub returns-in_default-clause-length : goal.returns-in_default-clause-length
returns-in_default-clause-length c =
    let rest = c.in_default.in_default-own.rest in
    sym (no_length _ _ rest.0.0.0.0.0.0.1 rest.0.0.0.0.0.1 rest.0.0.0.0.1 rest.0.0.0.1
    rest.0.0.1 rest.0.1 rest.1)
