-- An outline, at the origin. Assumes nothing.
use Rattle.record_definitions.specs.World.{outline_body}
use Rattle.frames.proofs.world.outline_body.Goals as goal

pub returns : goal.returns
unfolding outline_body
returns c =
    let blank_wall = c.blank_wall in
    let blank_circle = c.blank_circle in
    let at_origin = c.at_origin in
    simp (c.blank_chain.ensures, blank_wall.ensures, blank_circle.ensures, at_origin.ensures)
