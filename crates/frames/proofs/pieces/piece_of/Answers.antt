-- The body itself, or a wall of the chain. Assumes nothing.
use mathlib.Core.Path.{refl}
use borrow.Author.Tests.{eq-eqb, ne_eqb}
use Rattle.record_definitions.specs.World.{piece_of}
use Rattle.frames.proofs.pieces.piece_of.Goals as goal

pub returns-then-body-ne-CHAIN : goal.returns-then-body-ne-CHAIN
unfolding piece_of
returns-then-body-ne-CHAIN c = rw (ne_eqb _ _ c.if-body-ne-CHAIN.true) refl

pub returns : goal.returns
unfolding piece_of
returns c =
    let wall_body = c.wall_body in
    let piece_wall = c.piece_wall-wall in
    let if1 = c.if-body-ne-CHAIN in
    simp (c.placed.ensures, wall_body.ensures, piece_wall.ensures, eq-eqb _ _ if1.false)
