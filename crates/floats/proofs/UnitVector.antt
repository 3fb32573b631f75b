-- A vector made unit in f32, as whole numbers: from a length l whose square is that of (u, v) within 2^-21, the law of
-- its reciprocal and those of the two products, the bounds N0, N1 and N2 (specs/NearUnit) of what is made, (a, b).
-- Assumes nothing.
use mathlib.Core.Path.{◌≡◌, sym, ap, subst}
use mathlib.Core.Bool.{Bool, true, false}
use Prim.Native.Nat.{ℕ, ◌+◌, ◌-◌, ◌*◌, ◌^◌, ◌≤◌, ◌<◌}
use native.Mathlib.Nat.{mul-pos, mul-le-mul_right}
use native.Mathlib.Omega.{arith}
use lib.Dec.{lit≤}
use lib.Ieee.{Float, binary32, mul}
use Rattle.algebra.specs.Integer.{Z, whole, signed, ◌⊞◌, ◌⊟◌, ◌⊠◌, ◌⊛◌, ◌≐◌, ◌≼◌, Abs}
use Rattle.algebra.proofs.Integer.{product_of_multiples}
use Rattle.algebra.proofs.Magnitude.{abs_sum_is, abs_scale, abs_unscale, abs_product, abs_product_near}
use Rattle.algebra.proofs.Products.{square_not_negative, abs_of_square}
use Rattle.rounding.specs.Value.{metre, tick, F32, sign, mag, val}
use Rattle.rounding.proofs.Value.{metre_pos, metre_ticks, metre_square, val_signed, abs_mag}
use Rattle.rounding.proofs.Near.{NearProduct, mul_near}
use Rattle.rounding.proofs.Reciprocal.{Reciprocal}
use Rattle.sqrt.specs.Root.{RelativeSquare}
use Rattle.floats.specs.NearUnit.{normal_bound, direction_error, length_error}

-- t is the square of l within a relative 2^-21, for q = l l
abbrev pub NearSquare : ℕ → ℕ → Type 0
NearSquare t q = Abs (2 ^ 21 ⊛ (whole t ⊟ whole q)) q

-- from the exact squares e and f: p and q rounded, r the rounded sum, g the square of its root; u is a unit
by_squares : (t s r u : ℕ) → Abs (2 ^ 24 ⊛ (whole s ⊟ whole t)) (t + 2 ^ 24 * u) → 2 ^ 30 * u ≤ r
    → Abs (2 ^ 24 ⊛ (whole r ⊟ whole s)) s → Abs (2 ^ 23 ⊛ (whole t ⊟ whole s)) s
by_squares t s r u h tiny k =
    let less : r ≤ 2 * s = omega arith in
    omega arith

by_sum : (t s r : ℕ) → Abs (2 ^ 23 ⊛ (whole t ⊟ whole s)) s → Abs (2 ^ 24 ⊛ (whole r ⊟ whole s)) s
    → Abs (2 ^ 22 ⊛ (whole t ⊟ whole r)) r
by_sum t s r h k = omega arith

by_law : (r g : ℕ) → (2 ^ 24 - 1) * (2 ^ 24 - 1) * g ≤ 2 ^ 48 * r → 2 ^ 48 * r ≤ (2 ^ 24 + 1) * (2 ^ 24 + 1) * g
    → Abs (2 ^ 24 ⊛ (whole r ⊟ whole g)) (3 * g)
by_law r g low high = omega arith

by_root : (t r g : ℕ) → Abs (2 ^ 22 ⊛ (whole t ⊟ whole r)) r → Abs (2 ^ 24 ⊛ (whole r ⊟ whole g)) (3 * g)
    → NearSquare t g
by_root t r g h k = omega arith

-- the root of a number, rounded: within 2^-21 the more
pub relative_near : (r g : ℕ) → RelativeSquare r g → NearSquare r g
relative_near r g law = widen (by_law r g law.0 law.1)
  where
    widen : Abs (2 ^ 24 ⊛ (whole r ⊟ whole g)) (3 * g) → NearSquare r g
    widen h = omega arith

pub near_square : (e f p q r g u : ℕ) → Abs (2 ^ 24 ⊛ (whole p ⊟ whole e)) (e + 2 ^ 23 * u)
    → Abs (2 ^ 24 ⊛ (whole q ⊟ whole f)) (f + 2 ^ 23 * u)
    → Abs (2 ^ 24 ⊛ (whole r ⊟ whole (p + q))) (p + q) → 2 ^ 30 * u ≤ r → RelativeSquare r g
    → NearSquare (e + f) g
near_square e f p q r g u p_near q_near r_near tiny law =
    by_root (e + f) r g (by_sum (e + f) (p + q) r (by_squares (e + f) (p + q) r u summed tiny r_near) r_near)
    (by_law r g law.0 law.1)
  where
    summed : Abs (2 ^ 24 ⊛ (whole (p + q) ⊟ whole (e + f))) (e + f + 2 ^ 24 * u)
    summed = omega arith

module _ (l t : ℕ) (l_pos : 0 < l) (root : NearSquare t (l * l)) where
  -- ---- a coordinate u of the direction, v the other one
  pub coordinate_most : (u v : Z) → u ⊠ u ⊞ v ⊠ v ≐ whole t → Abs (2 ^ 22 ⊛ u) ((2 ^ 22 + 1) * l)
  coordinate_most u v square =
      abs_of_square (2 ^ 22 ⊛ u) ((2 ^ 22 + 1) * l)
      (subst (λ (w : Z). w ≼ whole ((2 ^ 22 + 1) * l * ((2 ^ 22 + 1) * l)))
      (sym (product_of_multiples (2 ^ 22) (2 ^ 22) u u))
      (go (u ⊠ u) (v ⊠ v) (square_not_negative v) square root))
    where
      go : (uu vv : Z) → whole 0 ≼ vv → uu ⊞ vv ≐ whole t → NearSquare t (l * l)
          → (2 ^ 22 * 2 ^ 22) ⊛ uu ≼ whole ((2 ^ 22 + 1) * l * ((2 ^ 22 + 1) * l))
      go uu vv h e k = omega arith

  -- times a metre: at most (1 + 2^-22) l
  scaled_most : (u : Z) → Abs (2 ^ 22 ⊛ u) ((2 ^ 22 + 1) * l) → Abs (metre ⊛ u) ((metre + 8 * tick) * l)
  scaled_most u h =
      abs_unscale (2 ^ 22) ((metre + 8 * tick) * l) (metre ⊛ u) (lit≤ tt)
      (go (abs_scale metre ((2 ^ 22 + 1) * l) (2 ^ 22 ⊛ u) h))
    where
      go : Abs (metre ⊛ (2 ^ 22 ⊛ u)) (metre * ((2 ^ 22 + 1) * l))
          → Abs (2 ^ 22 ⊛ (metre ⊛ u)) (2 ^ 22 * ((metre + 8 * tick) * l))
      go k = let e : metre * l ≡ 2 ^ 25 * tick * l = ap (λ (n : ℕ). n * l) metre_ticks in omega arith

  -- ---- N1, from the product a = u i and the reciprocal i of l
  pub quotient_near : (u a i : Z) → Abs (2 ^ 22 ⊛ u) ((2 ^ 22 + 1) * l) → Abs (metre ⊛ a ⊟ u ⊠ i) (2 * tick * metre)
      → Abs (l ⊛ i ⊟ whole (metre * metre)) (2 * tick * metre) → Abs (l ⊛ a ⊟ metre ⊛ u) (direction_error l)
  quotient_near u a i u_most product reciprocal =
      abs_unscale metre (direction_error l) (l ⊛ a ⊟ metre ⊛ u) metre_pos
      (abs_sum_is (metre ⊛ (l ⊛ a ⊟ metre ⊛ u)) (l ⊛ (metre ⊛ a ⊟ u ⊠ i)) (u ⊠ (l ⊛ i ⊟ whole (metre * metre)))
      (l * (2 * tick * metre)) (2 * l * (2 * tick * metre)) (metre * (direction_error l)) identity
      (abs_scale l (2 * tick * metre) (metre ⊛ a ⊟ u ⊠ i) product)
      (abs_product u (l ⊛ i ⊟ whole (metre * metre)) (2 * l) (2 * tick * metre) (twice u_most) reciprocal)
      (omega arith))
    where
      identity : metre ⊛ (l ⊛ a ⊟ metre ⊛ u) ≐ l ⊛ (metre ⊛ a ⊟ u ⊠ i) ⊞ u ⊠ (l ⊛ i ⊟ whole (metre * metre))
      identity = omega arith

      twice : Abs (2 ^ 22 ⊛ u) ((2 ^ 22 + 1) * l) → Abs u (2 * l)
      twice h = omega arith

  -- ---- N0
  pub normal_within : (u a : Z) → Abs (2 ^ 22 ⊛ u) ((2 ^ 22 + 1) * l) → Abs (l ⊛ a ⊟ metre ⊛ u) (direction_error l)
      → Abs a normal_bound
  normal_within u a u_most near =
      abs_unscale l normal_bound a l_pos (go (metre ⊛ u) (l ⊛ a) near (scaled_most u u_most))
    where
      go : (w s : Z) → Abs (s ⊟ w) (direction_error l) → Abs w ((metre + 8 * tick) * l) → Abs s (l * normal_bound)
      go w s h k = omega arith

  -- ---- N2: l² a² is metre² u² within m m + 2 k m, and l² is t within a relative 2^-21
  abbrev m : ℕ
  m = 8 * (tick * l)

  abbrev k : ℕ
  k = (metre + 8 * tick) * l

  square_near : (u a : Z) → Abs (2 ^ 22 ⊛ u) ((2 ^ 22 + 1) * l) → Abs (l ⊛ a ⊟ metre ⊛ u) (direction_error l)
      → Abs ((l * l) ⊛ (a ⊠ a) ⊟ (metre * metre) ⊛ (u ⊠ u)) (m * m + k * m + m * k)
  square_near u a u_most near =
      subst (λ (w : Z). Abs (w ⊟ (metre * metre) ⊛ (u ⊠ u)) (m * m + k * m + m * k)) (product_of_multiples l l a a)
      (subst (λ (w : Z). Abs ((l ⊛ a) ⊠ (l ⊛ a) ⊟ w) (m * m + k * m + m * k)) (product_of_multiples metre metre u u)
      (abs_product_near (l ⊛ a) (l ⊛ a) (metre ⊛ u) (metre ⊛ u) m m k k near near (scaled_most u u_most)
      (scaled_most u u_most)))

  root_near : (q : ℕ) → NearSquare t q → Abs ((metre * metre) ⊛ (whole t ⊟ whole q)) (16 * tick * metre * q)
  root_near q h =
      abs_unscale (2 ^ 21) (16 * tick * metre * q) ((metre * metre) ⊛ (whole t ⊟ whole q)) (lit≤ tt)
      (wide (abs_scale (metre * metre) q (2 ^ 21 ⊛ (whole t ⊟ whole q)) h))
    where
      wide : Abs ((metre * metre) ⊛ (2 ^ 21 ⊛ (whole t ⊟ whole q))) (metre * metre * q)
          → Abs (2 ^ 21 ⊛ ((metre * metre) ⊛ (whole t ⊟ whole q))) (2 ^ 21 * (16 * tick * metre * q))
      wide h =
          let e : metre * (metre * q) ≡ 2 ^ 25 * tick * (metre * q) = ap (λ (n : ℕ). n * (metre * q)) metre_ticks
          in omega arith

  pub length_one : (u v a b : Z) → u ⊠ u ⊞ v ⊠ v ≐ whole t → Abs (2 ^ 22 ⊛ u) ((2 ^ 22 + 1) * l)
      → Abs (2 ^ 22 ⊛ v) ((2 ^ 22 + 1) * l)
      → Abs (l ⊛ a ⊟ metre ⊛ u) (direction_error l) → Abs (l ⊛ b ⊟ metre ⊛ v) (direction_error l)
      → Abs (a ⊠ a ⊞ b ⊠ b ⊟ whole (metre * metre)) (length_error * metre)
  length_one u v a b square u_most v_most a_near b_near =
      abs_unscale (l * l) (length_error * metre) (a ⊠ a ⊞ b ⊠ b ⊟ whole (metre * metre)) (mul-pos l_pos l_pos)
      (joined (a ⊠ a) (b ⊠ b) (u ⊠ u) (v ⊠ v) (l * l) (metre * metre) (m * m + k * m + m * k)
      (16 * tick * metre * (l * l))
      (l * l * (length_error * metre))
      square (square_near u a u_most a_near) (square_near v b v_most b_near) (root_near (l * l) root) fits)
    where
      joined : (aa bb uu vv : Z) (q d e f g : ℕ) → uu ⊞ vv ≐ whole t → Abs (q ⊛ aa ⊟ d ⊛ uu) e → Abs (q ⊛ bb ⊟ d ⊛ vv) e
          → Abs (d ⊛ (whole t ⊟ whole q)) f → e + e + f ≤ g → Abs (q ⊛ (aa ⊞ bb ⊟ whole d)) g
      joined aa bb uu vv q d e f g s x y z h =
          let w : d * (uu.0 + vv.0 + 0) ≡ d * (t + (uu.1 + vv.1)) = ap (λ (n : ℕ). d * n) s in omega arith

      fits : m * m + k * m + m * k + (m * m + k * m + m * k) + 16 * tick * metre * (l * l)
          ≤ l * l * (length_error * metre)
      fits =
          let e : metre * (tick * (l * l))
          ≡ 2 ^ 25 * tick * (tick * (l * l)) = ap (λ (n : ℕ). n * (tick * (l * l))) metre_ticks in
          omega arith

-- ---- one coordinate times the reciprocal: at most 2 m, so within two ticks
pub times_near : {x i l : Float} → F32 x → Reciprocal i l → Abs (2 ^ 22 ⊛ val x) ((2 ^ 22 + 1) * mag l)
    → NearProduct (mul binary32 x i) (val x ⊠ val i) (2 * tick)
times_near {x} {i} {l} x_f32 law x_most =
    mul_near 1 (mag x) (mag i) tt x_f32 law.own (abs_mag x) (abs_mag i)
    (room (mag x) (mag l) (mag i) (size (sign x) (mag x) (rw val_signed at x_most)) law.size)
  where
    size : (s : Bool) (m : ℕ) → Abs (2 ^ 22 ⊛ signed s m) ((2 ^ 22 + 1) * mag l) → 2 ^ 22 * m ≤ (2 ^ 22 + 1) * mag l
    size true m h = omega arith
    size false m h = omega arith

    room : (m l i : ℕ) → 2 ^ 22 * m ≤ (2 ^ 22 + 1) * l → i * l ≤ metre * metre + 2 * tick * metre
        → m * i ≤ 2 * (metre * metre)
    room m l i h k =
        let scaled : 2 ^ 22 * m * i ≤ (2 ^ 22 + 1) * l * i = mul-le-mul_right i h in
        let e = metre_square in
        omega arith
