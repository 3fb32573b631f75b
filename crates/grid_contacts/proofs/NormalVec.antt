-- Vectors no longer than a normal: each coordinate is finite and at most 1 + 2^-21 in size (N0). They stay so when
-- turned or negated; a number of at most h m times such a coordinate is at most h + 1 m; and a dot product with a
-- vector of at most h m is at most 2 (h + 1) m. Assumes nothing.
use Prim.Native.Nat.{ℕ, ◌+◌, ◌*◌, ◌^◌, ◌≤◌}
use native.Mathlib.Nat.{mul-le-mul_right}
use native.Mathlib.Omega.{arith}
use lib.Dec.{T, leb, leb→le}
use lib.Ieee.{Float, binary32, neg, mul}
use Rattle.algebra.specs.Integer.{Z, ◌⊠◌, Abs}
use Rattle.algebra.specs.Plane.{dot}
use Rattle.algebra.proofs.Magnitude.{abs_widen, abs_opposite, abs_product}
use Rattle.algebra.proofs.Plane.{vector_sym, point_abs_same}
use Rattle.rounding.specs.Value.{metre, tick, F32, val}
use Rattle.rounding.proofs.Value.{metre_square, neg_f32, val_neg}
use Rattle.rounding.proofs.Caps.{Capped}
use Rattle.rounding.proofs.Sized.{SizedProduct, mul_sized}
use Rattle.rounding.proofs.Dot.{DotNear, dot_near}
use Rattle.floats.specs.declared.b2_math.B2vec2.{B2vec2}
use Rattle.floats.specs.declared.b2_math.B2Rot.{B2Rot}
use Rattle.floats.specs.B2Math.{b2_neg, b2_dot, b2_mul_rot_by_vec2}
use Rattle.grid.specs.Grid.{value_point}
use Rattle.floats.specs.NearUnit.{normal_bound}
use Rattle.grid_contacts.specs.Placement.{QuarterTurn, turned, Turning}
use Rattle.grid_contacts.proofs.Turns.{turned_abs}
use Rattle.grid_contacts.proofs.ExactTurns.{turn_exact}

pub record Coordinate (x : Float) : Type 0 where
  pub own : F32 x
  pub most : Abs (val x) normal_bound

pub record NormalVec (n : B2vec2) : Type 0 where
  pub at_x : Coordinate n.x
  pub at_y : Coordinate n.y

-- ---- negated, and turned by a quarter turn
opposite_coordinate : {x : Float} → Coordinate x → Coordinate (neg x)
opposite_coordinate {x} c = record {
  own = neg_f32 c.own;
  most = rw (val_neg x) (abs_opposite (val x) normal_bound c.most);
}

pub opposite_vec : {n : B2vec2} → NormalVec n → NormalVec (b2_neg n)
unfolding b2_neg
opposite_vec vec = record { at_x = opposite_coordinate vec.at_x; at_y = opposite_coordinate vec.at_y }

pub turned_vec : {q : B2Rot} {turn : QuarterTurn} → Turning q turn → (n : B2vec2) → NormalVec n
    → NormalVec (b2_mul_rot_by_vec2 q n)
turned_vec {q} {turn} t n vec =
    let w = b2_mul_rot_by_vec2 q n in
    let e = turn_exact t vec.at_x.own vec.at_y.own in
    let turned_n = turned turn (value_point n) in
    let most = point_abs_same turned_n (value_point w) normal_bound (vector_sym (value_point w) turned_n e.is)
    (turned_abs turn (value_point n) normal_bound (vec.at_x.most, vec.at_y.most)) in
    record {
      at_x = record { own = e.x_own; most = most.0 };
      at_y = record { own = e.y_own; most = most.1 };
    }

-- ---- products and dot products with numbers of at most h m
room : (h : ℕ) → T (leb h (2 ^ 21)) → h * metre * normal_bound ≤ (h + 1) * (metre * metre)
room h low =
    let few : h * (tick * metre) ≤ 2 ^ 21 * (tick * metre) = mul-le-mul_right (tick * metre) (leb→le h (2 ^ 21) low) in
    omega (arith, metre_square)

pub times_normal : (k h : ℕ) {f n : Float} → T (leb k 24) → T (leb (h + 1) (2 ^ k)) → T (leb h (2 ^ 21)) → Capped f h
    → Coordinate n → SizedProduct (mul binary32 f n) (val f ⊠ val n) k (h + 1)
times_normal k h {f} {n} k_low low few f_cap n_is =
    mul_sized k (h + 1) k_low low f_cap.own n_is.own
    (abs_widen (val f ⊠ val n) (h * metre * normal_bound) ((h + 1) * (metre * metre))
    (abs_product (val f) (val n) (h * metre) normal_bound f_cap.cap n_is.most) (room h few))

module _ (k h : ℕ) {n v : B2vec2} (k_low : T (leb (1 + k) 127)) (low : T (leb (h + 1) (2 ^ k)))
    (few : T (leb (2 * (h + 1)) (2 ^ 24))) (small : T (leb h (2 ^ 21))) (vec : NormalVec n) (x_cap : Capped v.x h)
    (y_cap : Capped v.y h) where
  pub normal_dot : DotNear (b2_dot n v) (dot (value_point n) (value_point v)) k (h + 1)
  unfolding b2_dot
  normal_dot =
      dot_near k (h + 1) k_low low few vec.at_x.own vec.at_y.own x_cap.own y_cap.own normal_bound
      (h * metre)
      vec.at_x.most vec.at_y.most x_cap.cap y_cap.cap (turned_round (room h small))
    where
      turned_round : h * metre * normal_bound ≤ (h + 1) * (metre * metre)
          → normal_bound * (h * metre) ≤ (h + 1) * (metre * metre)
      turned_round r = omega arith

  pub dot_normal : DotNear (b2_dot v n) (dot (value_point v) (value_point n)) k (h + 1)
  unfolding b2_dot
  dot_normal =
      dot_near k (h + 1) k_low low few x_cap.own y_cap.own vec.at_x.own vec.at_y.own (h * metre)
      normal_bound
      x_cap.cap y_cap.cap vec.at_x.most vec.at_y.most (room h small)

pub dot_capped : {z : Float} {v : Z} {k h : ℕ} → DotNear z v k h → Capped z (2 * h)
dot_capped d = record { own = d.own; cap = d.cap }
