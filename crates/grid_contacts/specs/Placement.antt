-- Document 01, "Words of demand 3": quarter turns, and placements on the grid within 4 m. "A placement at (x, y)
-- carries p to (cosine × p.x - sine × p.y + x, sine × p.x + cosine × p.y + y)": worked out exactly on values, which are
-- whole numbers of 2^-149 m. Definitions only.
use Rattle.std.specs.Prelude.{List, map}
use Rattle.algebra.specs.Integer.{Z, whole, opp, ◌⊞◌, ◌⊟◌, ◌⊠◌, ◌⊛◌, ◌≐◌}
use Rattle.algebra.specs.Plane.{Point}
use Rattle.rounding.specs.Value.{metre, F32, val}
use Rattle.floats.specs.declared.b2_math.B2Rot.{B2Rot}
use Rattle.floats.specs.declared.b2_math.B2Transform.{B2Transform}
use Rattle.shape_definitions.specs.declared.b2_polygon_shape.B2polygonShape.{B2polygonShape}
use Rattle.grid.specs.Grid.{GridPoint}
use Rattle.grid.specs.Demand3.{built_corners}

-- ---- quarter turns: sine and cosine (0, 1), (1, 0), (0, -1) or (-1, 0)
pub data QuarterTurn : Type 0 where
  unturned : QuarterTurn
  to_left : QuarterTurn
  about : QuarterTurn
  to_right : QuarterTurn

abbrev pub sine : QuarterTurn → Z
sine unturned = whole 0
sine to_left = whole 1
sine about = whole 0
sine to_right = opp (whole 1)

abbrev pub cosine : QuarterTurn → Z
cosine unturned = whole 1
cosine to_left = whole 0
cosine about = opp (whole 1)
cosine to_right = whole 0

-- a point turned about the origin
abbrev pub turned : QuarterTurn → Point → Point
turned turn p = record {
  x = cosine turn ⊠ p.x ⊟ sine turn ⊠ p.y;
  y = sine turn ⊠ p.x ⊞ cosine turn ⊠ p.y;
}

-- a rotation whose sine and cosine are those of a quarter turn, its zeros of either sign
pub record Turning (q : B2Rot) (turn : QuarterTurn) : Type 0 where
  pub s_own : F32 q.s
  pub c_own : F32 q.c
  pub s_is : val q.s ≐ metre ⊛ sine turn
  pub c_is : val q.c ≐ metre ⊛ cosine turn

-- ---- placements
pub record GridPlacement (t : B2Transform) : Type 0 where
  pub position : GridPoint t.p
  pub turn : QuarterTurn
  pub turning : Turning t.q turn

-- a point, carried by a placement
abbrev pub carried : {t : B2Transform} → GridPlacement t → Point → Point
carried {t} g p = record {
  x = (turned g.turn p).x ⊞ val t.p.x;
  y = (turned g.turn p).y ⊞ val t.p.y;
}

-- the corners of an outline, so carried
abbrev pub placed_corners : {t : B2Transform} → GridPlacement t → B2polygonShape → List Point
placed_corners g shape = map (carried g) (built_corners shape)
