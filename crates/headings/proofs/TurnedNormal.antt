-- A vector that is near unit, turned by a heading: four products, two sums, and the heading's own distance from the
-- unit circle leave its squared length 1 within 2^-18. Assumes nothing.
use mathlib.Core.Path.{◌≡◌, ap, subst}
use Prim.Native.Nat.{ℕ, ◌+◌, ◌-◌, ◌*◌, ◌^◌, ◌≤◌}
use native.Mathlib.Nat.{mul-pos}
use native.Mathlib.Omega.{arith}
use lib.Ieee.{Float, binary32, add, sub, mul}
use Rattle.algebra.specs.Integer.{Z, whole, opp, ◌⊞◌, ◌⊟◌, ◌⊠◌, ◌⊛◌, ◌≐◌, ◌≼◌, Abs}
use Rattle.algebra.specs.Plane.{Point, dot, cross}
use Rattle.algebra.proofs.Integer.{product_of_multiples}
use Rattle.algebra.proofs.Magnitude.{abs_scale, abs_unscale, abs_product, abs_product_near, abs_widen}
use Rattle.algebra.proofs.Plane.{lagrange}
use Rattle.algebra.proofs.Products.{product_same, square_not_negative, abs_of_square}
use Rattle.rounding.specs.Value.{metre, tick, F32, mag, val}
use Rattle.rounding.proofs.Value.{metre_pos, metre_ticks, metre_square, abs_mag}
use Rattle.rounding.proofs.Near.{Near, NearProduct, mul_near, add_near, sub_near, near_product_size}
use Rattle.floats.specs.declared.b2_math.B2Rot.{B2Rot}
use Rattle.floats.specs.declared.b2_math.B2vec2.{B2vec2}
use Rattle.floats.specs.B2Math.{b2_mul_rot_by_vec2}
use Rattle.floats.specs.NearUnit.{normal_bound, length_error, turned_error, NearUnit, TurnedUnit}
use Rattle.floats.proofs.Square.{square_is}
use Rattle.headings.specs.Headings.{Component, Heading}

-- ---- one coordinate: two products, and their sum or difference, within eight ticks
abbrev e : ℕ
e = 8 * tick * metre

product_near : {f g : Float} → Component f → F32 g → Abs (val g) normal_bound
    → NearProduct (mul binary32 f g) (val f ⊠ val g) (2 * tick)
product_near {f} {g} f_is g_own g_most =
    mul_near 1 metre normal_bound tt f_is.own g_own
    (abs_widen (val f) (mag f) metre (abs_mag f) f_is.small) g_most room
  where
    room : metre * normal_bound ≤ 2 * (metre * metre)
    room = let q = metre_square in omega arith

product_most : {f g : Float} → Component f → F32 g → Abs (val g) normal_bound
    → Abs (val (mul binary32 f g)) (normal_bound + 2 * tick)
product_most {f} {g} f_is g_own g_most =
    near_product_size normal_bound (product_near f_is g_own g_most)
    (turned_round (abs_product (val f) (val g) metre normal_bound
    (abs_widen (val f) (mag f) metre (abs_mag f) f_is.small) g_most))
  where
    turned_round : Abs (val f ⊠ val g) (metre * normal_bound) → Abs (val f ⊠ val g) (normal_bound * metre)
    turned_round h = omega arith

-- ---- by whole numbers: (x, y) turned by sine s and cosine c is (X, Y), and (a, b) is that within eight ticks
module _ (s c x y a b : Z) (circle : Abs (s ⊠ s ⊞ c ⊠ c ⊟ whole (metre * metre)) (8 * tick * metre))
    (unit : Abs (x ⊠ x ⊞ y ⊠ y ⊟ whole (metre * metre)) (length_error * metre))
    (a_near : Abs (metre ⊛ a ⊟ (c ⊠ x ⊟ s ⊠ y)) e) (b_near : Abs (metre ⊛ b ⊟ (s ⊠ x ⊞ c ⊠ y)) e) where
  abbrev X : Z
  X = c ⊠ x ⊟ s ⊠ y

  abbrev Y : Z
  Y = s ⊠ x ⊞ c ⊠ y

  abbrev S : Z
  S = s ⊠ s ⊞ c ⊠ c

  abbrev N : Z
  N = x ⊠ x ⊞ y ⊠ y

  -- X² + Y² = (s² + c²)(x² + y²)
  lengths : X ⊠ X ⊞ Y ⊠ Y ≐ S ⊠ N
  lengths =
      let u : Point = record { x = c; y = opp s } in
      let v : Point = record { x = x; y = y } in
      moved X (dot u v) Y (cross u v) S (dot u u) N (dot v v) (omega arith) (omega arith) (omega arith) (omega arith)
      (lagrange u v)
    where
      moved : (p p' q q' r r' n n' : Z) → p ≐ p' → q ≐ q' → r ≐ r' → n ≐ n' → p' ⊠ p' ⊞ q' ⊠ q' ≐ r' ⊠ n'
          → p ⊠ p ⊞ q ⊠ q ≐ r ⊠ n
      moved p p' q q' r r' n n' hp hq hr hn h =
          joined (p ⊠ p) (p' ⊠ p') (q ⊠ q) (q' ⊠ q') (r ⊠ n) (r' ⊠ n') (product_same p p' p p' hp hp)
          (product_same q q' q q' hq hq) (product_same r r' n n' hr hn) h
        where
          joined : (a a' b b' d d' : Z) → a ≐ a' → b ≐ b' → d ≐ d' → a' ⊞ b' ≐ d' → a ⊞ b ≐ d
          joined a a' b b' d d' ha hb hd k = omega arith

  -- so it is metre⁴ within 73 ticks, and neither is above 9/8 metre², times metre² each
  abbrev f : ℕ
  f = 73 * (tick * (metre * (metre * metre)))

  -- ticks times 2^25 are metres
  small : 2 ^ 25 * (tick * tick * (metre * metre)) ≡ tick * (metre * (metre * metre))
  small =
      let q : metre * (tick * (metre * metre)) ≡ 2 ^ 25 * tick * (tick * (metre * metre)) =
      ap (λ (n : ℕ). n * (tick * (metre * metre))) metre_ticks in
      omega arith

  turned_near : Abs (X ⊠ X ⊞ Y ⊠ Y ⊟ whole (metre * metre * (metre * metre))) f
  turned_near =
      go (X ⊠ X ⊞ Y ⊠ Y) (S ⊠ N) (whole (metre * metre) ⊠ whole (metre * metre)) lengths (omega arith)
      (abs_product_near S N (whole (metre * metre)) (whole (metre * metre)) (8 * tick * metre) (length_error * metre)
      (metre * metre) (metre * metre) circle unit (omega arith) (omega arith))
    where
      go : (p q w : Z) → p ≐ q → w ≐ whole (metre * metre * (metre * metre))
          → Abs (q ⊟ w) (8 * tick * metre * (length_error * metre) + metre * metre * (length_error * metre)
          + 8 * tick * metre * (metre * metre))
          → Abs (p ⊟ whole (metre * metre * (metre * metre))) f
      go p q w h g k = let z = small in omega arith

  abbrev k : ℕ
  k = (metre + 2 ^ 22 * tick) * metre

  most : (p q : Z) → whole 0 ≼ q → Abs (p ⊞ q ⊟ whole (metre * metre * (metre * metre))) f → p ≼ whole (k * k)
  most p q h g = let z = small in omega arith

  X_most : Abs X k
  X_most = abs_of_square X k (most (X ⊠ X) (Y ⊠ Y) (square_not_negative Y) turned_near)

  Y_most : Abs Y k
  Y_most = abs_of_square Y k (most (Y ⊠ Y) (X ⊠ X) (square_not_negative X) (swap (X ⊠ X) (Y ⊠ Y) turned_near))
    where
      swap : (p q : Z) → Abs (p ⊞ q ⊟ whole (metre * metre * (metre * metre))) f
          → Abs (q ⊞ p ⊟ whole (metre * metre * (metre * metre))) f
      swap p q h = omega arith

  -- ---- and metre² (a² + b²) is that within 36 ticks more
  square_near : (d D : Z) → Abs (metre ⊛ d ⊟ D) e → Abs D k
      → Abs ((metre * metre) ⊛ (d ⊠ d) ⊟ D ⊠ D) (e * e + k * e + e * k)
  square_near d D near D_most =
      subst (λ (w : Z). Abs (w ⊟ D ⊠ D) (e * e + k * e + e * k)) (product_of_multiples metre metre d d)
      (abs_product_near (metre ⊛ d) (metre ⊛ d) D D e e k k near near D_most D_most)

  turned_unit : Abs (a ⊠ a ⊞ b ⊠ b ⊟ whole (metre * metre)) (turned_error * metre)
  turned_unit =
      abs_unscale (metre * metre) (turned_error * metre) (a ⊠ a ⊞ b ⊠ b ⊟ whole (metre * metre))
      (mul-pos metre_pos metre_pos)
      (joined (a ⊠ a) (b ⊠ b) (X ⊠ X) (Y ⊠ Y) (metre * metre) (e * e + k * e + e * k) f
      (metre * metre * (turned_error * metre)) (square_near a X a_near X_most) (square_near b Y b_near Y_most)
      turned_near fits)
    where
      joined : (aa bb p q : Z) (d m n g : ℕ) → Abs (d ⊛ aa ⊟ p) m → Abs (d ⊛ bb ⊟ q) m → Abs (p ⊞ q ⊟ whole (d * d)) n
          → m + m + n ≤ g → Abs (d ⊛ (aa ⊞ bb ⊟ whole d)) g
      joined aa bb p q d m n g h i j fits = omega arith

      fits : e * e + k * e + e * k + (e * e + k * e + e * k) + f ≤ metre * metre * (turned_error * metre)
      fits = let z = small in omega arith

-- ---- the turned vector
module _ (q : B2Rot) (n : B2vec2) (heading : Heading q) (unit : NearUnit n) where
  on_circle : Abs (val q.s ⊠ val q.s ⊞ val q.c ⊠ val q.c ⊟ whole (metre * metre)) (8 * tick * metre)
  on_circle =
      go (val q.s ⊠ val q.s) (val q.c ⊠ val q.c) (mag q.s * mag q.s) (mag q.c * mag q.c)
      (square_is q.s) (square_is q.c) heading.circle.low heading.circle.high
    where
      go : (a b : Z) (m n : ℕ) → a ≐ whole m → b ≐ whole n → (2 ^ 22 - 1) * (metre * metre) ≤ 2 ^ 22 * (m + n)
          → 2 ^ 22 * (m + n) ≤ (2 ^ 22 + 1) * (metre * metre) → Abs (a ⊞ b ⊟ whole (metre * metre)) (8 * tick * metre)
      go a b m n a_is b_is low high = let z = metre_square in omega arith

  cx : NearProduct (mul binary32 q.c n.x) (val q.c ⊠ val n.x) (2 * tick)
  cx = product_near heading.cosine unit.x_own unit.x_most

  sy : NearProduct (mul binary32 q.s n.y) (val q.s ⊠ val n.y) (2 * tick)
  sy = product_near heading.sine unit.y_own unit.y_most

  sx : NearProduct (mul binary32 q.s n.x) (val q.s ⊠ val n.x) (2 * tick)
  sx = product_near heading.sine unit.x_own unit.x_most

  cy : NearProduct (mul binary32 q.c n.y) (val q.c ⊠ val n.y) (2 * tick)
  cy = product_near heading.cosine unit.y_own unit.y_most

  first : Near (sub binary32 (mul binary32 q.c n.x) (mul binary32 q.s n.y))
      (val (mul binary32 q.c n.x) ⊟ val (mul binary32 q.s n.y)) (2 ^ 2 * tick)
  first = sub_near 2 (4 * metre) tt cx.own sy.own
      (four_metres _ _ (product_most heading.cosine unit.x_own unit.x_most)
      (product_most heading.sine unit.y_own unit.y_most)) (omega arith)
    where
      four_metres : (v w : Z) → Abs v (normal_bound + 2 * tick) → Abs w (normal_bound + 2 * tick)
          → Abs (v ⊟ w) (4 * metre)
      four_metres v w h g = let z = metre_ticks in omega arith

  second : Near (add binary32 (mul binary32 q.s n.x) (mul binary32 q.c n.y))
      (val (mul binary32 q.s n.x) ⊞ val (mul binary32 q.c n.y)) (2 ^ 2 * tick)
  second = add_near 2 (4 * metre) tt sx.own cy.own
      (four_metres _ _ (product_most heading.sine unit.x_own unit.x_most)
      (product_most heading.cosine unit.y_own unit.y_most)) (omega arith)
    where
      four_metres : (v w : Z) → Abs v (normal_bound + 2 * tick) → Abs w (normal_bound + 2 * tick)
          → Abs (v ⊞ w) (4 * metre)
      four_metres v w h g = let z = metre_ticks in omega arith

  pub turned_near_unit : TurnedUnit (b2_mul_rot_by_vec2 q n)
  unfolding b2_mul_rot_by_vec2
  turned_near_unit = record {
    x_own = first.own;
    y_own = second.own;
    unit =
        turned_unit (val q.s) (val q.c) (val n.x) (val n.y) _ _ on_circle unit.unit
        (minus _ _ _ _ _ (abs_scale metre (2 ^ 2 * tick) _ first.err) cx.err sy.err)
        (plus _ _ _ _ _ (abs_scale metre (2 ^ 2 * tick) _ second.err) sx.err cy.err);
  }
    where
      minus : (a p r u w : Z) → Abs (metre ⊛ (a ⊟ (p ⊟ r))) (metre * (2 ^ 2 * tick))
          → Abs (metre ⊛ p ⊟ u) (2 * tick * metre) → Abs (metre ⊛ r ⊟ w) (2 * tick * metre)
          → Abs (metre ⊛ a ⊟ (u ⊟ w)) e
      minus a p r u w h g f = omega arith

      plus : (a p r u w : Z) → Abs (metre ⊛ (a ⊟ (p ⊞ r))) (metre * (2 ^ 2 * tick))
          → Abs (metre ⊛ p ⊟ u) (2 * tick * metre) → Abs (metre ⊛ r ⊟ w) (2 * tick * metre)
          → Abs (metre ⊛ a ⊟ (u ⊞ w)) e
      plus a p r u w h g f = omega arith
