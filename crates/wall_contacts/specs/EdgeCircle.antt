-- How a circle touches a wall, in the parts that the code has, and what the call answers for each way. Definitions
-- only.
use Rattle.std.specs.Prelude.{cond, ℕ, Float}
use Rattle.std.specs.Float.{binary32}
use Rattle.std.specs.Float.Ieee.{div, lt, add}
use Rattle.rounding.specs.Literals.{zero32, one32}
use Rattle.floats.specs.declared.b2_math.B2vec2.{B2vec2}
use Rattle.floats.specs.B2Math.{vec2, b2_add, b2_neg, b2_scale, b2_dot, b2_normalize, unit_or_same}
use Rattle.floats.specs.B2Math.{b2_mul_transform_by_vec2, b2_mul_t_transform_by_vec2}
use Rattle.floats.specs.declared.b2_math.B2Transform.{B2Transform}
use Rattle.shape_definitions.specs.declared.b2_edge_shape.B2edgeShape.{B2edgeShape}
use Rattle.shape_definitions.specs.Outline.{origin}
use Rattle.shape_definitions.specs.Refusal.{wall_too_short}
use Rattle.shape_definitions.specs.declared.b2_circle_shape.B2circleShape.{B2circleShape}
use Rattle.contact_definitions.specs.declared.b2_collision.B2manifold.{B2manifold}
use Rattle.contact_definitions.specs.declared.b2_collision.B2manifoldType.TheVariants.{ECircles, EFaceA}
use Rattle.contact_definitions.specs.Answers.{ManifoldAnswer}
use Rattle.contact_definitions.specs.Manifold.{vertex_feature, face_feature, contact_id, with_count, with_one_point}
use Rattle.contact_definitions.specs.Manifold.{manifold_refused, manifold_accepted}
use Rattle.contact_definitions.specs.B2CollideCircle.{farther}
use Rattle.contact_definitions.specs.B2CollideEdge.{edge_circle_answer}
use Rattle.wall_contacts.specs.declared.edge_circle.Touch.{Touch}
use Rattle.wall_contacts.specs.declared.edge_circle.Touch.TheVariants.{Nothing, End, Face, Flat}

unfoldable pub end_touch : B2vec2 → B2vec2 → Float → ℕ → Touch
end_touch p q radius index = cond (farther radius q p) Nothing (End index p.x p.y)

abbrev pub face_of : B2vec2 → Touch
face_of normal = Face normal.x normal.y

unfoldable pub face_touch : B2vec2 → B2vec2 → B2vec2 → B2vec2 → Float → Float → B2vec2 → Float → Float → Touch
face_touch a b q e u v n offset radius =
    cond (lt zero32 (b2_dot e e))
    (cond (farther radius q (b2_scale (div binary32 one32 (b2_dot e e)) (b2_add (b2_scale u a) (b2_scale v b))))
    Nothing
    (face_of (unit_or_same (b2_normalize (cond (lt offset zero32) (b2_neg n) n))))) Flat

unfoldable pub touch_answer : Touch → B2manifold → B2edgeShape → B2vec2 → ManifoldAnswer
touch_answer Nothing old edge centre = manifold_accepted (with_count old 0)
touch_answer (End index x y) old edge centre =
    manifold_accepted (with_one_point (with_count old 0) ECircles origin (vec2 x y) centre
    (contact_id index 0 vertex_feature vertex_feature))
touch_answer (Face x y) old edge centre =
    manifold_accepted (with_one_point (with_count old 0) EFaceA (vec2 x y) edge.m_vertex1 centre
    (contact_id 0 0 face_feature vertex_feature))
touch_answer Flat old edge centre = manifold_refused wall_too_short old

abbrev pub wall_circle : B2manifold → B2edgeShape → B2Transform → B2circleShape → B2Transform → ManifoldAnswer
wall_circle m a xfA b xfB =
    edge_circle_answer m a (b2_mul_t_transform_by_vec2 xfA (b2_mul_transform_by_vec2 xfB b.m_p))
    (add binary32 a.m_radius b.m_radius) b.m_p
