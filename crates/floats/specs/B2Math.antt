-- Vectors, rotations and transforms of f32, one definition for each function of b2_math and under its name. Each
-- operation rounds once, to nearest, ties to even, in the order of Box2D 2.4.1; nothing is fused. Definitions only.
use Rattle.std.specs.Prelude.{cond, Float}
use Rattle.std.specs.Float.{binary32}
use Rattle.std.specs.Float.Ieee.{add, sub, mul, div, neg, lt, le}
use Rattle.floats.specs.declared.b2_math.B2vec2.{B2vec2}
use Rattle.floats.specs.declared.b2_math.Normalized.{Normalized}
use Rattle.floats.specs.declared.b2_math.B2Rot.{B2Rot}
use Rattle.floats.specs.declared.b2_math.B2Transform.{B2Transform}
use Rattle.rounding.specs.Literals.{zero32, one32}
use Rattle.floats.specs.B2Common.{b2_epsilon}
use Rattle.sqrt.specs.Sqrt.{sqrt}

-- ---- numbers
unfoldable pub b2_sqrt : Float → Float
b2_sqrt x = sqrt binary32 x

-- a where a < b, else b: so b where either is a NaN
unfoldable pub b2_min : Float → Float → Float
b2_min a b = cond (lt a b) a b

-- ---- vectors
abbrev pub vec2 : Float → Float → B2vec2
vec2 x y = record { x = x; y = y }

unfoldable pub b2_add : B2vec2 → B2vec2 → B2vec2
b2_add a b = vec2 (add binary32 a.x b.x) (add binary32 a.y b.y)

unfoldable pub b2_sub : B2vec2 → B2vec2 → B2vec2
b2_sub a b = vec2 (sub binary32 a.x b.x) (sub binary32 a.y b.y)

unfoldable pub b2_neg : B2vec2 → B2vec2
b2_neg a = vec2 (neg a.x) (neg a.y)

unfoldable pub b2_scale : Float → B2vec2 → B2vec2
b2_scale s a = vec2 (mul binary32 s a.x) (mul binary32 s a.y)

unfoldable pub b2_dot : B2vec2 → B2vec2 → Float
b2_dot a b = add binary32 (mul binary32 a.x b.x) (mul binary32 a.y b.y)

unfoldable pub b2_cross : B2vec2 → B2vec2 → Float
b2_cross a b = sub binary32 (mul binary32 a.x b.y) (mul binary32 a.y b.x)

unfoldable pub b2_cross_vec_by_scalar : B2vec2 → Float → B2vec2
b2_cross_vec_by_scalar a s = vec2 (mul binary32 s a.y) (mul binary32 (neg s) a.x)

unfoldable pub b2_cross_scalar_by_vec : Float → B2vec2 → B2vec2
b2_cross_scalar_by_vec s a = vec2 (mul binary32 (neg s) a.y) (mul binary32 s a.x)

unfoldable pub b2_length_squared : B2vec2 → Float
b2_length_squared a = add binary32 (mul binary32 a.x a.x) (mul binary32 a.y a.y)

unfoldable pub b2_length : B2vec2 → Float
b2_length a = b2_sqrt (b2_length_squared a)

unfoldable pub b2_distance_vec2_squared : B2vec2 → B2vec2 → Float
b2_distance_vec2_squared a b = b2_dot (b2_sub a b) (b2_sub a b)

-- Document 01, Outlines: a length below 2^-23 changes nothing, and is given as 0; else each coordinate is multiplied by
-- the rounded reciprocal. Request 07: it says whether there was a length of at least 2^-23; a NaN is none.
abbrev pub times_reciprocal : B2vec2 → Float → B2vec2
times_reciprocal a length = vec2 (mul binary32 a.x (div binary32 one32 length))
    (mul binary32 a.y (div binary32 one32 length))

unfoldable pub b2_normalize : B2vec2 → Normalized
b2_normalize a =
    let had = le b2_epsilon (b2_length a) in
    cond (lt (b2_length a) b2_epsilon) (record { had_length = had; length = zero32; v = a })
    (record { had_length = had; length = b2_length a; v = times_reciprocal a (b2_length a) })

-- what its users take: the vector made unit and, where it had no length, the same vector, or another one
abbrev pub unit_or_same : Normalized → B2vec2
unit_or_same n = n.v

abbrev pub unit_or : B2vec2 → Normalized → B2vec2
unit_or other n = cond n.had_length n.v other

-- ---- rotations: q r, q⁻¹ r, q v, q⁻¹ v
abbrev pub rot : Float → Float → B2Rot
rot s c = record { s = s; c = c }

unfoldable pub b2_mul_rot : B2Rot → B2Rot → B2Rot
b2_mul_rot q r =
    rot (add binary32 (mul binary32 q.s r.c) (mul binary32 q.c r.s))
    (sub binary32 (mul binary32 q.c r.c) (mul binary32 q.s r.s))

unfoldable pub b2_mul_t_rot : B2Rot → B2Rot → B2Rot
b2_mul_t_rot q r =
    rot (sub binary32 (mul binary32 q.c r.s) (mul binary32 q.s r.c))
    (add binary32 (mul binary32 q.c r.c) (mul binary32 q.s r.s))

unfoldable pub b2_mul_rot_by_vec2 : B2Rot → B2vec2 → B2vec2
b2_mul_rot_by_vec2 q v =
    vec2 (sub binary32 (mul binary32 q.c v.x) (mul binary32 q.s v.y))
    (add binary32 (mul binary32 q.s v.x) (mul binary32 q.c v.y))

unfoldable pub b2_mul_t_rot_by_vec2 : B2Rot → B2vec2 → B2vec2
b2_mul_t_rot_by_vec2 q v =
    vec2 (add binary32 (mul binary32 q.c v.x) (mul binary32 q.s v.y))
    (add binary32 (mul binary32 (neg q.s) v.x) (mul binary32 q.c v.y))

-- ---- transforms: t v, t⁻¹ v, a b, a⁻¹ b
unfoldable pub b2_mul_transform_by_vec2 : B2Transform → B2vec2 → B2vec2
b2_mul_transform_by_vec2 t v =
    vec2 (add binary32 (sub binary32 (mul binary32 t.q.c v.x) (mul binary32 t.q.s v.y)) t.p.x)
    (add binary32 (add binary32 (mul binary32 t.q.s v.x) (mul binary32 t.q.c v.y)) t.p.y)

unfoldable pub b2_mul_t_transform_by_vec2 : B2Transform → B2vec2 → B2vec2
b2_mul_t_transform_by_vec2 t v = b2_mul_t_rot_by_vec2 t.q (b2_sub v t.p)

unfoldable pub b2_mul_transform : B2Transform → B2Transform → B2Transform
b2_mul_transform a b = record { p = b2_add (b2_mul_rot_by_vec2 a.q b.p) a.p; q = b2_mul_rot a.q b.q }

unfoldable pub b2_mul_t_transform : B2Transform → B2Transform → B2Transform
b2_mul_t_transform a b = record {
  p = b2_mul_t_rot_by_vec2 a.q (b2_sub b.p a.p);
  q = b2_mul_t_rot a.q b.q;
}
