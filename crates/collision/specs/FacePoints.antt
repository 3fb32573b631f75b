-- A world point of a face, and what stands at the second place of a world manifold. Definitions only.
use Rattle.std.specs.Prelude.{false, cond, eqb, Float, get_or}
use Rattle.floats.specs.declared.b2_math.B2vec2.{B2vec2}
use Rattle.floats.specs.declared.b2_math.B2Transform.{B2Transform}
use Rattle.floats.specs.B2Math.{b2_mul_transform_by_vec2}
use Rattle.rounding.specs.Literals.{zero32}
use Rattle.shape_definitions.specs.Outline.{origin}
use Rattle.contact_definitions.specs.declared.b2_collision.B2manifold.{B2manifold}
use Rattle.contact_definitions.specs.declared.b2_collision.B2worldManifold.{B2worldManifold}
use Rattle.contact_definitions.specs.Manifold.{manifold_point}
use Rattle.contact_definitions.specs.WorldManifold.{plane_middle, plane_separation}
use Rattle.collision.specs.declared.world_points.WorldPoint.{WorldPoint}

-- the middle and the separation at p
abbrev pub at_plane : B2vec2 → B2vec2 → Float → Float → B2vec2 → WorldPoint
at_plane normal plane radius1 radius2 p = record {
  middle = plane_middle false normal plane radius1 radius2 p;
  separation = plane_separation normal plane radius1 radius2 p;
}

abbrev pub second_kept : B2worldManifold → WorldPoint
second_kept old = record { middle = get_or old.points 1 origin; separation = get_or old.separations 1 zero32 }

-- as the world manifold that was given has it, where one point is counted
abbrev pub second_of : B2worldManifold → B2manifold → B2vec2 → B2vec2 → Float → B2Transform → Float → WorldPoint
second_of old m normal plane radius1 xf2 radius2 =
    cond (eqb m.point_count 1) (second_kept old)
    (at_plane normal plane radius1 radius2 (b2_mul_transform_by_vec2 xf2 (manifold_point m 1).local_point))
