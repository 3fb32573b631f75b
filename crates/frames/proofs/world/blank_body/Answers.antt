-- No shape. Assumes nothing.
use Rattle.record_definitions.specs.World.{blank_body}
use Rattle.frames.proofs.world.blank_body.Goals as goal

pub returns : goal.returns
unfolding blank_body
returns c =
    let blank_wall = c.blank_wall in
    let blank_outline = c.blank_outline in
    let blank_circle = c.blank_circle in
    let at_origin = c.at_origin in
    simp (
      c.blank_chain.ensures,
      blank_wall.ensures,
      blank_outline.ensures,
      blank_circle.ensures,
      at_origin.ensures,
    )
