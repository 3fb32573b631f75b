-- Points, rotations and placements of binary32 numbers that a call takes: at most 2^20 m, sine and cosine at most 1.
-- Assumes nothing.
use Prim.Native.Nat.{ℕ, ◌*◌, ◌^◌, ◌≤◌}
use mathlib.Core.Path.{◌≡◌, refl, sym, subst}
use mathlib.Core.Bool.{true}
use native.Mathlib.Nat.{le_trans, le_of_eq}
use lib.Dec.{T}
use lib.Ieee.{Float, binary32, fits}
use Rattle.algebra.proofs.Booleans.{both}
use Rattle.rounding.specs.Literals.{one32}
use Rattle.rounding.specs.Value.{metre}
use Rattle.rounding.proofs.Value.{mag_abs}
use Rattle.floats.specs.declared.b2_math.B2Rot.{B2Rot}
use Rattle.floats.specs.declared.b2_math.B2Transform.{B2Transform}
use Rattle.floats.specs.declared.b2_math.B2vec2.{B2vec2}
use Rattle.floats.specs.Ranges.{within, coordinate_in_range, point_in_range, rotation_in_range, transform_in_range}
use Rattle.floats.proofs.RangeValue.{Bounded, limit_value, limit_vec2, one_limit_is, shape_limit_is}
use Rattle.contact_definitions.specs.CircleNormals.{Single, SinglePlace}
use Rattle.record_ranges.proofs.Caps.{Cap}
use Rattle.record_ranges.proofs.Vectors.{Caps, Turns}
use Rattle.record_ranges.proofs.Shapes.{AtPlace}

bounded_cap : (x : Float) (k h : ℕ) → h * metre ≤ 2 ^ k * metre → Bounded x (h * metre) → Cap x k
bounded_cap x k h fits b = record { own = b.own; size = le_trans (mag_abs x (h * metre) b.abs) fits }

pub coordinate_cap : (x : Float) → T (fits binary32 x) → coordinate_in_range x ≡ true → Cap x 20
unfolding coordinate_in_range
coordinate_cap x single taken =
    bounded_cap x 20 (2 ^ 20) (le_of_eq refl) (limit_value shape_limit_is single (subst T (sym taken) tt))

pub point_caps : (v : B2vec2) → Single v → point_in_range v ≡ true → Caps v 20
unfolding point_in_range
point_caps v single taken =
    let within_both = limit_vec2 {v = v} shape_limit_is single.0 single.1 (subst T (sym taken) tt) in
    record {
      x_cap = bounded_cap v.x 20 (2 ^ 20) (le_of_eq refl) within_both.0;
      y_cap = bounded_cap v.y 20 (2 ^ 20) (le_of_eq refl) within_both.1;
    }

turn_caps : (q : B2Rot) → T (fits binary32 q.s) → T (fits binary32 q.c) → rotation_in_range q ≡ true → Turns q 0
unfolding rotation_in_range
turn_caps q s_single c_single taken =
    let each = both (within one32 q.s) (within one32 q.c) taken in
    record {
      sine = bounded_cap q.s 0 1 (le_of_eq refl) (limit_value one_limit_is s_single (subst T (sym each.0) tt));
      cosine = bounded_cap q.c 0 1 (le_of_eq refl) (limit_value one_limit_is c_single (subst T (sym each.1) tt));
    }

pub place_caps : (xf : B2Transform) → SinglePlace xf → transform_in_range xf ≡ true → AtPlace xf
unfolding transform_in_range
place_caps xf single taken =
    let each = both (point_in_range xf.p) (rotation_in_range xf.q) taken in
    record {
      turn = turn_caps xf.q single.1 single.2 each.1;
      position = point_caps xf.p single.0 each.0;
    }
