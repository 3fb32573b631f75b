-- Document 02, request 01, beside demand 3: bodies placed by frame 06 with the turn numbers 0, 1,024, 2,048 and 3,072,
-- at positions of the grid, are placed as demand 3 says, so its second sentence is about them too. Definitions only.
use Rattle.std.specs.Prelude.{ℕ, ◌≡◌, List}
use Rattle.floats.specs.declared.b2_math.B2vec2.{B2vec2}
use Rattle.floats.specs.declared.b2_math.B2Transform.{B2Transform}
use Rattle.floats.specs.B2Common.{b2_polygon_radius}
use Rattle.headings.specs.Headings.{heading}
use Rattle.shape_definitions.specs.declared.b2_polygon_shape.B2polygonShape.{B2polygonShape}
use Rattle.shape_definitions.specs.Refusal.{accepted}
use Rattle.contact_definitions.specs.declared.b2_collision.B2manifold.{B2manifold}
use Rattle.contact_definitions.specs.declared.b2_collision.B2worldManifold.{B2worldManifold}
use Rattle.grid.specs.Grid.{GridPoint, GridList}
use Rattle.grid.specs.Demand3.{refusal_of, outline_from}
use Rattle.grid_contacts.specs.Placement.{QuarterTurn, unturned, to_left, about, to_right, GridPlacement}
use Rattle.grid_contacts.specs.SecondSentence.{SecondSentenceOf}

-- ---- the multiples of 1,024 among the turn numbers
abbrev pub turn_number : QuarterTurn → ℕ
turn_number unturned = 0
turn_number to_left = 1024
turn_number about = 2048
turn_number to_right = 3072

-- where frame 06 with such a number places a body
abbrev pub by_turn_number : B2vec2 → QuarterTurn → B2Transform
by_turn_number position turn = record { p = position; q = heading (turn_number turn) }

pub record QuarterTurnNumbers : Type 0 where
  -- at a position of the grid it is a placement of demand 3, by that quarter turn
  pub placement : (turn : QuarterTurn) {position : B2vec2} → GridPoint position
      → GridPlacement (by_turn_number position turn)
  pub its_turn : (turn : QuarterTurn) {position : B2vec2} (on_grid : GridPoint position)
      → (placement turn on_grid).turn ≡ turn
  -- so demand 3's second sentence holds of two outlines built from grid lists, default skin, that are placed so
  pub sentence : (oldA oldB : B2polygonShape) → oldA.m_radius ≡ b2_polygon_radius
      → oldB.m_radius ≡ b2_polygon_radius → (la lb : List B2vec2) → GridList la → GridList lb
      → refusal_of oldA la ≡ accepted → refusal_of oldB lb ≡ accepted
      → (turnA turnB : QuarterTurn) {pA pB : B2vec2} (on_gridA : GridPoint pA) (on_gridB : GridPoint pB)
      → (old : B2manifold) (old_world : B2worldManifold)
      → SecondSentenceOf (outline_from oldA la) (outline_from oldB lb) (placement turnA on_gridA)
      (placement turnB on_gridB) old old_world
