-- A wall, at the origin. Assumes nothing.
use Rattle.record_definitions.specs.World.{wall_body}
use Rattle.frames.proofs.world.wall_body.Goals as goal

pub returns : goal.returns
unfolding wall_body
returns c =
    let blank_outline = c.blank_outline in
    let blank_circle = c.blank_circle in
    let at_origin = c.at_origin in
    simp (c.blank_chain.ensures, blank_outline.ensures, blank_circle.ensures, at_origin.ensures)
