-- The manifold on a reference face whose data is gathered. Definitions only.
use Rattle.std.specs.Prelude.{Bool, cond, Float}
use Rattle.floats.specs.declared.b2_math.B2vec2.{B2vec2}
use Rattle.floats.specs.declared.b2_math.B2Transform.{B2Transform}
use Rattle.rounding.specs.Literals.{half32, one32}
use Rattle.floats.specs.B2Math.{b2_add, b2_sub, b2_scale, b2_cross_vec_by_scalar, b2_normalize, unit_or_same}
use Rattle.floats.specs.B2Math.{b2_mul_t_transform_by_vec2}
use Rattle.contact_definitions.specs.declared.b2_collision.B2contactId.{B2contactId}
use Rattle.contact_definitions.specs.declared.b2_collision.B2clipVertex.{B2clipVertex}
use Rattle.contact_definitions.specs.declared.b2_collision.B2manifold.{B2manifold}
use Rattle.contact_definitions.specs.declared.b2_collision.B2manifoldType.TheVariants.{EFaceA, EFaceB}
use Rattle.contact_definitions.specs.Manifold.{with_count, with_kind, swapped_id}
use Rattle.contact_definitions.specs.ReferenceFace.{clipped_to_sides, manifold_of_ends}
use Rattle.contact_definitions.specs.B2CollidePolygon.{within_skins, outline_point}
use Rattle.outline_contacts.specs.declared.faces.Face.{Face}
use Rattle.outline_contacts.specs.Faces.{incident_ends, placed_along}

-- an id as outlines A and B have it
abbrev pub named_by : Bool → B2contactId → B2contactId
named_by flip id = cond flip (swapped_id id) id

-- an end in the frame of the outline that it is of
abbrev pub placed_end : Bool → B2Transform → B2clipVertex → B2clipVertex
placed_end flip xf2 end = record { v = b2_mul_t_transform_by_vec2 xf2 end.v; id = named_by flip end.id }

abbrev pub tangent_of : Face → B2vec2
tangent_of f = unit_or_same (b2_normalize (b2_sub f.v12 f.v11))

unfoldable pub manifold_on_face : B2manifold → Face → Float → B2manifold
manifold_on_face m f total =
    manifold_of_ends (with_kind (with_count m 0) (cond f.flip EFaceB EFaceA))
    (b2_cross_vec_by_scalar (tangent_of f) one32) (b2_scale half32 (b2_add f.v11 f.v12))
    (within_skins total (placed_along f (tangent_of f) total)) (outline_point (named_by f.flip) f.xf2)
    (clipped_to_sides (placed_along f (tangent_of f) total)
    (incident_ends f))
