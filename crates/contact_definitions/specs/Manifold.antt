-- Manifolds: ids, kinds, defaults, and which fields a contact call writes. Fields that it does not write keep their
-- bits, impulses and ages (document 02, request 06) too. Definitions only.
use Rattle.std.specs.Prelude.{Bool, not, cond, ◌&&◌, ◌||◌, List, [], ◌∷◌, ℕ, ◌%◌, ltb, take, get_or}
use Rattle.algebra.specs.Buffer.{over}
use Rattle.floats.specs.declared.b2_math.B2vec2.{B2vec2}
use Rattle.floats.specs.declared.b2_math.B2Transform.{B2Transform}
use Rattle.rounding.specs.Literals.{zero32}
use Rattle.floats.specs.Ranges.{transform_in_range}
use Rattle.shape_definitions.specs.Refusal.{accepted, shape_out_of_range, placement_out_of_range, count_out_of_range}
use Rattle.shape_definitions.specs.Outline.{origin}
use Rattle.contact_definitions.specs.declared.b2_collision.B2contactFeatureType.{B2contactFeatureType}
use Rattle.contact_definitions.specs.declared.b2_collision.B2contactFeatureType.TheVariants.{EVertex, EFace}
use Rattle.contact_definitions.specs.declared.b2_collision.B2contactId.{B2contactId}
use Rattle.contact_definitions.specs.declared.b2_collision.B2manifoldPoint.{B2manifoldPoint}
use Rattle.contact_definitions.specs.declared.b2_collision.B2manifoldType.{B2manifoldType}
use Rattle.contact_definitions.specs.declared.b2_collision.B2manifoldType.TheVariants.{ECircles, EFaceA, EFaceB}
use Rattle.contact_definitions.specs.declared.b2_collision.B2manifold.{B2manifold}
use Rattle.contact_definitions.specs.Answers.{ManifoldAnswer}

-- ---- ids: the features of a contact point
-- the number of a feature's type
abbrev pub feature_number : B2contactFeatureType → ℕ
feature_number EVertex = 0
feature_number EFace = 1

abbrev pub vertex_feature : ℕ
vertex_feature = feature_number EVertex

abbrev pub face_feature : ℕ
face_feature = feature_number EFace

-- a number stored in a byte: its remainder by 256
abbrev pub as_byte : ℕ → ℕ
as_byte n = n % 256

abbrev pub contact_id : ℕ → ℕ → ℕ → ℕ → B2contactId
contact_id index_a index_b type_a type_b =
    record { cf = record { index_a = index_a; index_b = index_b; type_a = type_a; type_b = type_b } }

abbrev pub default_id : B2contactId
default_id = contact_id 0 0 0 0

-- both indices and both types change sides
unfoldable pub swapped_id : B2contactId → B2contactId
swapped_id id = contact_id id.cf.index_b id.cf.index_a id.cf.type_b id.cf.type_a

-- ---- points
abbrev pub default_point : B2manifoldPoint
default_point = record {
  local_point = origin;
  normal_impulse = zero32;
  tangent_impulse = zero32;
  id = default_id;
  age = 0;
}

-- the point at a place
abbrev pub manifold_point : B2manifold → ℕ → B2manifoldPoint
manifold_point m i = get_or m.points i default_point

-- those that the manifold counts
unfoldable pub counted_points : B2manifold → List B2manifoldPoint
counted_points m = take m.point_count m.points

-- a new local point and id; the impulses and the age are kept
unfoldable pub with_local_point : B2manifoldPoint → B2vec2 → B2contactId → B2manifoldPoint
with_local_point p v id = record {
  local_point = v;
  normal_impulse = p.normal_impulse;
  tangent_impulse = p.tangent_impulse;
  id = id;
  age = p.age;
}

-- ---- manifolds
-- document 01's number of a kind
abbrev pub kind_number : B2manifoldType → ℕ
kind_number ECircles = 0
kind_number EFaceA = 1
kind_number EFaceB = 2

abbrev pub default_manifold : B2manifold
default_manifold = record {
  points = default_point ∷ default_point ∷ [];
  local_normal = origin;
  local_point = origin;
  manifold_type = ECircles;
  point_count = 0;
}

unfoldable pub with_count : B2manifold → ℕ → B2manifold
with_count m n = record {
  points = m.points;
  local_normal = m.local_normal;
  local_point = m.local_point;
  manifold_type = m.manifold_type;
  point_count = n;
}

unfoldable pub with_kind : B2manifold → B2manifoldType → B2manifold
with_kind m kind = record {
  points = m.points;
  local_normal = m.local_normal;
  local_point = m.local_point;
  manifold_type = kind;
  point_count = m.point_count;
}

-- one point, at a circle's centre
unfoldable pub with_one_point : B2manifold → B2manifoldType → B2vec2 → B2vec2 → B2vec2 → B2contactId → B2manifold
with_one_point m kind normal point centre id = record {
  points = over (with_local_point (manifold_point m 0) centre id ∷ []) m.points;
  local_normal = normal;
  local_point = point;
  manifold_type = kind;
  point_count = 1;
}

-- ---- answers of the contact calls: 7 of either shape, then 2 of either, then 6 of either placement; a refused call
-- hands back the manifold
abbrev pub manifold_refused : ℕ → B2manifold → ManifoldAnswer
manifold_refused number old = record { manifold = old; refusal = number }

abbrev pub manifold_accepted : B2manifold → ManifoldAnswer
manifold_accepted m = record { manifold = m; refusal = accepted }

-- fewer than 3 or more than 8 corners
abbrev pub miscounted : ℕ → Bool
miscounted n = ltb n 3 || ltb 8 n

abbrev pub unless_miscounted : Bool → B2manifold → ManifoldAnswer → ManifoldAnswer
unless_miscounted wrong old answer = cond wrong (manifold_refused count_out_of_range old) answer

abbrev pub where_in_range : Bool → B2Transform → B2Transform → B2manifold → ManifoldAnswer → ManifoldAnswer
where_in_range shapes xfA xfB old answer =
    cond (not shapes) (manifold_refused shape_out_of_range old)
    (cond (not (transform_in_range xfA && transform_in_range xfB)) (manifold_refused placement_out_of_range old) answer)
