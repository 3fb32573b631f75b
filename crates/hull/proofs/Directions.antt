-- Directions in an open half plane, the vectors u with d · u above 0. There, "u beats v" (v lies strictly left of u,
-- or on its ray and is shorter) is a strict order that tells any two vectors apart: it takes the place of every
-- argument by angles. Assumes nothing.
use mathlib.Core.Logic.{◌⊎◌, inl, inr}
use mathlib.Core.List.{[], ◌∷◌}
use native.Mathlib.Omega.{arith}
use Rattle.algebra.specs.Integer.{Z, whole, ◌⊞◌, ◌⊠◌, ◌≐◌, ◌≼◌, ◌≺◌}
use Rattle.algebra.specs.Polynomial.{◌:+◌}
use Rattle.algebra.specs.Plane.{Point, SameVector, from_to, cross, dot}
use Rattle.algebra.proofs.Integer.{lt_trans, sign_cases, compare_cases}
use Rattle.algebra.proofs.Signs.{
  positive_weaken,
  zero_weaken,
  positive_of_opposite,
  zero_of_opposite,
  same_of_zero_difference,
}
use Rattle.algebra.proofs.Products.{
  product_not_negative,
  product_positive,
  product_zero,
  factor_positive,
  factor_zero,
  square_not_negative,
  mean_above,
  mean_equal,
}
use Rattle.algebra.proofs.Ring.{ring}
use Rattle.algebra.proofs.Plane.{
  point₀,
  point₁,
  from_to_expr,
  dot_expr,
  coordinates,
  lagrange,
  three_crosses,
  dot_along,
  cross_antisymmetric,
  length_not_negative,
  zero_of_length,
}

-- v lies strictly left of u, or on its line and u is longer
abbrev pub Beats : Point → Point → Type 0
Beats u v = (whole 0 ≺ cross u v) ⊎ ((cross u v ≐ whole 0) × (dot v v ≺ dot u u))

-- v ends strictly left of u, or on it between its ends
abbrev pub Beside : Point → Point → Type 0
Beside u v = (whole 0 ≺ cross u v) ⊎ ((cross u v ≐ whole 0) × (dot v v ≺ dot u v))

-- ---- signs, over numbers that stay shut: b y = c x + a z
weighed_left : (a b c x y z : Z) → b ⊠ y ≐ c ⊠ x ⊞ a ⊠ z → whole 0 ≺ a → whole 0 ≺ b → whole 0 ≺ c → whole 0 ≺ x
    → whole 0 ≼ z → whole 0 ≺ y
weighed_left a b c x y z e a_pos b_pos c_pos x_pos z_nn =
    factor_positive b y (omega arith)
    (omega (arith, product_positive c x c_pos x_pos, product_not_negative a z (omega arith) z_nn))

weighed_right : (a b c x y z : Z) → b ⊠ y ≐ c ⊠ x ⊞ a ⊠ z → whole 0 ≺ a → whole 0 ≺ b → whole 0 ≺ c → whole 0 ≼ x
    → whole 0 ≺ z → whole 0 ≺ y
weighed_right a b c x y z e a_pos b_pos c_pos x_nn z_pos =
    factor_positive b y (omega arith)
    (omega (arith, product_not_negative c x (omega arith) x_nn, product_positive a z a_pos z_pos))

pub weighed_zero : (a b c x y z : Z) → b ⊠ y ≐ c ⊠ x ⊞ a ⊠ z → whole 0 ≺ b → x ≐ whole 0 → z ≐ whole 0 → y ≐ whole 0
weighed_zero a b c x y z e b_pos x_zero z_zero =
    factor_zero b y b_pos (omega (arith, product_zero x c x_zero, product_zero z a z_zero))

-- f f + c c = n s with f above 0: s is above 0
other_factor_positive : (f s n c : Z) → f ⊠ f ⊞ c ⊠ c ≐ n ⊠ s → whole 0 ≺ f → whole 0 ≼ n → whole 0 ≺ s
other_factor_positive f s n c e f_pos n_nn =
    factor_positive n s n_nn (omega (arith, product_positive f f f_pos f_pos, square_not_negative c))

aligned : (a b s t c e : Z) → a ⊠ t ≐ b ⊠ s ⊞ c ⊠ e → whole 0 ≺ a → whole 0 ≺ b → whole 0 ≺ s → c ≐ whole 0
    → whole 0 ≺ t
aligned a b s t c e h a_pos b_pos s_pos c_zero =
    factor_positive a t (omega arith) (omega (arith, product_positive b s b_pos s_pos, product_zero c e c_zero))

flat : (s c a b : Z) → s ⊠ s ⊞ c ⊠ c ≐ a ⊠ b → c ≐ whole 0 → s ⊠ s ≐ a ⊠ b
flat s c a b e c_zero = omega (arith, product_zero c c c_zero)

-- ---- lengths
pub length_positive : (d u : Point) → whole 0 ≺ dot d u → whole 0 ≺ dot u u
length_positive d u h =
    other_factor_positive (dot d u) (dot u u) (dot d d) (cross d u) (lagrange d u) h (length_not_negative d)

pub flat_lagrange : (u v : Point) → cross u v ≐ whole 0 → dot u v ⊠ dot u v ≐ dot u u ⊠ dot v v
flat_lagrange u v h = flat (dot u v) (cross u v) (dot u u) (dot v v) (lagrange u v) h

-- |v - u|² + 2 u · v = |u|² + |v|²
gap_squared : (u v : Point) → dot (from_to u v) (from_to u v) ⊞ (dot u v ⊞ dot u v) ≐ dot u u ⊞ dot v v
gap_squared u v =
    ring (dot_expr (from_to_expr point₀ point₁)
    (from_to_expr point₀ point₁) :+ (dot_expr point₀ point₁ :+ dot_expr point₀ point₁))
    (dot_expr point₀ point₀ :+ dot_expr point₁ point₁) (coordinates (u ∷ v ∷ [])) tt

no_gap : (g s a b : Z) → g ⊞ (s ⊞ s) ≐ a ⊞ b → a ≐ b → s ≐ a → g ≐ whole 0
no_gap g s a b e h k = omega arith

-- ---- in the half plane of d
module _ (d : Point) where
  pub beats_trans : (u v w : Point) → whole 0 ≺ dot d u → whole 0 ≺ dot d v → whole 0 ≺ dot d w → Beats u v
      → Beats v w → Beats u w
  beats_trans u v w du dv dw (inl h) (inl k) =
      inl (weighed_left (dot d u) (dot d v) (dot d w) (cross u v) (cross u w) (cross v w)
      (three_crosses d u v w) du dv dw h
      (positive_weaken (cross v w) k))
  beats_trans u v w du dv dw (inl h) (inr k) =
      inl (weighed_left (dot d u) (dot d v) (dot d w) (cross u v) (cross u w) (cross v w)
      (three_crosses d u v w) du dv dw h
      (zero_weaken (cross v w) k.0))
  beats_trans u v w du dv dw (inr h) (inl k) =
      inl (weighed_right (dot d u) (dot d v) (dot d w) (cross u v) (cross u w) (cross v w)
      (three_crosses d u v w) du dv dw
      (zero_weaken (cross u v) h.0) k)
  beats_trans u v w du dv dw (inr h) (inr k) = inr (
    weighed_zero (dot d u) (dot d v) (dot d w) (cross u v) (cross u w) (cross v w) (three_crosses d u v w) dv h.0
        k.0,
    lt_trans (dot w w) (dot v v) (dot u u) k.1 h.1,
  )

module _ (d u v : Point) (du : whole 0 ≺ dot d u) (dv : whole 0 ≺ dot d v) where
  -- on one line there: the same way
  pub same_way : cross u v ≐ whole 0 → whole 0 ≺ dot u v
  same_way h =
      aligned (dot d u) (dot d v) (dot u u) (dot u v) (cross u v) (cross d u) (dot_along d u v) du dv
      (length_positive d u du) h

  -- the longer one ends beyond the other
  pub beats_beside : Beats u v → Beside u v
  beats_beside (inl h) = inl h
  beats_beside (inr h) = inr (
    h.0,
    mean_above (dot u v) (dot u u) (dot v v) (flat_lagrange u v h.0) (same_way h.0) (length_not_negative v)
        h.1,
  )

  equal_length : cross u v ≐ whole 0 → dot u u ≐ dot v v → SameVector u v
  equal_length h e =
      let mean : dot u v ≐ dot u u = mean_equal (dot u v) (dot u u) (dot v v) (flat_lagrange u v h) (same_way h)
      (length_not_negative v) e in
      let none = zero_of_length (from_to u v)
      (no_gap (dot (from_to u v) (from_to u v)) (dot u v) (dot u u) (dot v v) (gap_squared u v) e mean) in
      (same_of_zero_difference u.x v.x none.0, same_of_zero_difference u.y v.y none.1)

  pub beats_total : Beats u v ⊎ (Beats v u ⊎ SameVector u v)
  beats_total = by_cases (sign_cases (cross u v)) (compare_cases (dot u u) (dot v v))
    where
      by_cases : (whole 0 ≺ cross u v) ⊎ ((cross u v ≐ whole 0) ⊎ (cross u v ≺ whole 0))
          → (dot u u ≺ dot v v) ⊎ ((dot u u ≐ dot v v) ⊎ (dot v v ≺ dot u u))
          → Beats u v ⊎ (Beats v u ⊎ SameVector u v)
      by_cases (inl left) l = inl (inl left)
      by_cases (inr (inr right)) l =
          inr (inl (inl (positive_of_opposite (cross u v) (cross v u) (cross_antisymmetric u v) right)))
      by_cases (inr (inl on)) (inl shorter) =
          inr (inl (inr (zero_of_opposite (cross u v) (cross v u) (cross_antisymmetric u v) on, shorter)))
      by_cases (inr (inl on)) (inr (inl as_long)) = inr (inr (equal_length on as_long))
      by_cases (inr (inl on)) (inr (inr longer)) = inl (inr (on, longer))
