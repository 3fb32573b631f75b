-- A circle, at the origin. Assumes nothing.
use Rattle.record_definitions.specs.World.{circle_body}
use Rattle.frames.proofs.world.circle_body.Goals as goal

pub returns : goal.returns
unfolding circle_body
returns c =
    let blank_wall = c.blank_wall in
    let blank_outline = c.blank_outline in
    let at_origin = c.at_origin in
    simp (c.blank_chain.ensures, blank_wall.ensures, blank_outline.ensures, at_origin.ensures)
