-- The middle of two grid points is exact in f32, so is it carried by a placement, and then it is the middle of the
-- carried points; and a point's signed distance from a face's line may be taken from the middle of the face. Assumes
-- nothing.
use mathlib.Core.List.{[], ◌∷◌}
use Prim.Native.Nat.{ℕ, ◌+◌, ◌*◌, ◌^◌}
use native.Mathlib.Omega.{arith}
use lib.Dec.{lit≤}
use lib.Ieee.{Float, binary32, add, mul}
use Rattle.algebra.specs.Integer.{Z, whole, ◌⊞◌, ◌⊠◌, ◌⊛◌, ◌≐◌, Abs}
use Rattle.algebra.specs.Plane.{Point, SameVector, PointAbs, sum_of, from_to, dot}
use Rattle.algebra.specs.Polynomial.{Expr, neg, ◌:+◌, ◌:-◌, ◌:*◌}
use Rattle.algebra.proofs.Integer.{same_trans}
use Rattle.algebra.proofs.Magnitude.{abs_widen, abs_scale, abs_unscale, abs_sum}
use Rattle.algebra.proofs.Plane.{PointExpr, point₀, point₁, point₂, from_to_expr, dot_expr, coordinates, vector_refl}
use Rattle.algebra.proofs.Plane.{dot_same}
use Rattle.algebra.proofs.Ring.{ring}
use Rattle.rounding.specs.Value.{metre, F32, val}
use Rattle.rounding.specs.Literals.{half32}
use Rattle.rounding.proofs.Caps.{Capped}
use Rattle.rounding.proofs.Dyadic.{Dyadic, exact_add, exact_mul, dyadic_finer}
use Rattle.rounding.proofs.Literals.{half_dyadic}
use Rattle.floats.specs.declared.b2_math.B2vec2.{B2vec2}
use Rattle.floats.specs.declared.b2_math.B2Transform.{B2Transform}
use Rattle.floats.specs.B2Math.{b2_add, b2_scale, b2_mul_rot_by_vec2, b2_mul_transform_by_vec2}
use Rattle.floats.proofs.Vectors.{carry_is}
use Rattle.contact_definitions.specs.WorldManifold.{middle}
use Rattle.grid.specs.Grid.{grid_limit, GridNumber, GridPoint, value_point}
use Rattle.grid.proofs.Exact.{steps_dyadic, counts}
use Rattle.grid.proofs.Limits.{vector_limit}
use Rattle.grid_contacts.specs.Placement.{QuarterTurn, unturned, to_left, about, to_right, turned, GridPlacement}
use Rattle.grid_contacts.specs.Faces.{Face, off_line}
use Rattle.grid_contacts.proofs.Turns.{turned_abs, turned_multiple}
use Rattle.grid_contacts.proofs.ExactTurns.{turn_exact}
use Rattle.grid_contacts.proofs.FaceNormal.{outward, carried_face}
use Rattle.grid_contacts.proofs.Crossing.{corner_metres}

-- m is halfway from p to q
abbrev pub Halfway : Point → Point → Point → Type 0
Halfway m p q = SameVector (sum_of m m) (sum_of p q)

-- ---- distances from the middle m of a face: dot (outward f) (c - m), doubled, is dot (outward f) (2 c - begin - end),
-- and that is twice the distance from the begin, since the face itself is orthogonal to its outward direction
abbrev outward_expr : PointExpr
outward_expr = (point₁.1 :- point₀.1, neg (point₁.0 :- point₀.0))

abbrev off_line_expr : Expr
off_line_expr =
    (point₁.1 :- point₀.1) :* (point₂.0 :- point₀.0) :- (point₁.0 :- point₀.0) :* (point₂.1 :- point₀.1)

abbrev doubled_expr : PointExpr
doubled_expr =
    from_to_expr (point₀.0 :+ point₁.0, point₀.1 :+ point₁.1) (point₂.0 :+ point₂.0, point₂.1 :+ point₂.1)

twice_off_line : (f : Face) (c : Point)
    → dot (outward f) (from_to (sum_of f.begin f.end) (sum_of c c)) ≐ off_line f c ⊞ off_line f c
twice_off_line f c =
    ring (dot_expr outward_expr doubled_expr) (off_line_expr :+ off_line_expr)
    (coordinates (f.begin ∷ f.end ∷ c ∷ [])) tt

pub from_middle : (f : Face) (m c : Point) → Halfway m f.begin f.end
    → dot (outward f) (from_to m c) ≐ off_line f c
from_middle f m c half =
    let u = from_to m c in
    let w = from_to (sum_of f.begin f.end) (sum_of c c) in
    halved (dot (outward f) u) (off_line f c)
    (same_trans (dot (outward f) u ⊞ dot (outward f) u) (dot (outward f) (sum_of u u)) (off_line f c ⊞ off_line f c)
    (both (outward f).x (outward f).y u.x u.y)
    (same_trans (dot (outward f) (sum_of u u)) (dot (outward f) w) (off_line f c ⊞ off_line f c)
    (dot_same (outward f) (outward f) (sum_of u u) w (vector_refl (outward f)) (parted f.begin f.end half))
    (twice_off_line f c)))
  where
    both : (a b x y : Z) → a ⊠ x ⊞ b ⊠ y ⊞ (a ⊠ x ⊞ b ⊠ y) ≐ a ⊠ (x ⊞ x) ⊞ b ⊠ (y ⊞ y)
    both a b x y = omega arith

    parted : (p q : Point) → Halfway m p q
        → SameVector (sum_of (from_to m c) (from_to m c)) (from_to (sum_of p q) (sum_of c c))
    parted p q h = (omega arith, omega arith)

    halved : (a b : Z) → a ⊞ a ≐ b ⊞ b → a ≐ b
    halved a b h = omega arith

-- ---- half the sum of two grid numbers, in steps of 1/512 m
record HalfSteps (z : Float) (v : Z) (c : Z) : Type 0 where
  dyadic : Dyadic z c 9
  twice : val z ⊞ val z ≐ v

half_sum : {x y : Float} (x_grid : GridNumber x) (y_grid : GridNumber y)
    → HalfSteps (mul binary32 half32 (add binary32 x y)) (val x ⊞ val y) (x_grid.count ⊞ y_grid.count)
half_sum {x} {y} x_grid y_grid =
    let c = x_grid.count ⊞ y_grid.count in
    let z = mul binary32 half32 (add binary32 x y) in
    let most = abs_sum x_grid.count y_grid.count grid_limit grid_limit x_grid.most y_grid.most in
    let s = exact_add 8 tt (steps_dyadic x_grid) (steps_dyadic y_grid)
    (abs_widen c (grid_limit + grid_limit) (2 ^ 24) most (lit≤ tt)) in
    let m = exact_mul 1 8 tt half_dyadic s (small c most) in
    let is = tidy (val z) c m.is in
    record {
      dyadic = record { own = m.own; is = is };
      twice = doubled (val z) (val x) (val y) x_grid.count y_grid.count is x_grid.is y_grid.is;
    }
  where
    small : (c : Z) → Abs c (grid_limit + grid_limit) → Abs (whole 1 ⊠ c) (2 ^ 24)
    small c h = omega (arith, h)

    tidy : (v c : Z) → 2 ^ 9 ⊛ v ≐ metre ⊛ (whole 1 ⊠ c) → 2 ^ 9 ⊛ v ≐ metre ⊛ c
    tidy v c e = omega (arith, e)

    doubled : (z x y c d : Z) → 2 ^ 9 ⊛ z ≐ metre ⊛ (c ⊞ d) → 2 ^ 8 ⊛ x ≐ metre ⊛ c → 2 ^ 8 ⊛ y ≐ metre ⊛ d
        → z ⊞ z ≐ x ⊞ y
    doubled z x y c d e h k = omega arith

-- ---- such a number, at most 4 m, and a grid number: at most 8 m
record PlacedHalf (z : Float) (v : Z) : Type 0 where
  own : F32 z
  is : val z ≐ v
  most : Abs (val z) (corner_metres * metre)

placed_half : {r o : Float} (c : Z) → Dyadic r c 9 → Abs c vector_limit → GridNumber o
    → PlacedHalf (add binary32 r o) (val r ⊞ val o)
placed_half {r} {o} c r_is c_most o_grid =
    let e = 2 ^ 1 ⊛ o_grid.count in
    let most = total c o_grid.count c_most o_grid.most in
    let o_is = dyadic_finer 1 (steps_dyadic o_grid) in
    let z = exact_add 9 tt r_is o_is (abs_widen (c ⊞ e) (vector_limit + vector_limit) (2 ^ 24) most (lit≤ tt)) in
    let v = val (add binary32 r o) in
    record {
      own = z.own;
      is = sum v (val r) (val o) c e z.is r_is.is o_is.is;
      most = abs_unscale (2 ^ 9) (corner_metres * metre) v (lit≤ tt)
          (size v (c ⊞ e) z.is (abs_scale metre (vector_limit + vector_limit) (c ⊞ e) most));
    }
  where
    total : (a b : Z) → Abs a vector_limit → Abs b grid_limit → Abs (a ⊞ 2 ^ 1 ⊛ b) (vector_limit + vector_limit)
    total a b h k = omega arith

    sum : (z r o c e : Z) → 2 ^ 9 ⊛ z ≐ metre ⊛ (c ⊞ e) → 2 ^ 9 ⊛ r ≐ metre ⊛ c → 2 ^ 9 ⊛ o ≐ metre ⊛ e → z ≐ r ⊞ o
    sum z r o c e h k l = omega arith

    size : (v c : Z) → 2 ^ 9 ⊛ v ≐ metre ⊛ c → Abs (metre ⊛ c) (metre * (vector_limit + vector_limit))
        → Abs (2 ^ 9 ⊛ v) (2 ^ 9 * (corner_metres * metre))
    size v c e h = omega arith

-- ---- the middle of two grid points, and that middle carried
abbrev pub middle_metres : ℕ
middle_metres = 4

pub record PlacedMiddle (f : Face) (v : B2vec2) : Type 0 where
  pub x_cap : Capped v.x corner_metres
  pub y_cap : Capped v.y corner_metres
  pub halfway : Halfway (value_point v) f.begin f.end

halfway_carried : (turn : QuarterTurn) (r m p q o v : Point) → Halfway m p q → SameVector r (turned turn m)
    → SameVector v (sum_of r o) → Halfway v (sum_of (turned turn p) o) (sum_of (turned turn q) o)
halfway_carried unturned r m p q o v h i j = (omega arith, omega arith)
halfway_carried to_left r m p q o v h i j = (omega arith, omega arith)
halfway_carried about r m p q o v h i j = (omega arith, omega arith)
halfway_carried to_right r m p q o v h i j = (omega arith, omega arith)

module _ {p q : B2vec2} (p_grid : GridPoint p) (q_grid : GridPoint q) where
  abbrev m : B2vec2
  m = middle p q

  half_x : HalfSteps m.x (val p.x ⊞ val q.x) (p_grid.0.count ⊞ q_grid.0.count)
  unfolding b2_scale b2_add
  half_x = half_sum p_grid.0 q_grid.0

  half_y : HalfSteps m.y (val p.y ⊞ val q.y) (p_grid.1.count ⊞ q_grid.1.count)
  unfolding b2_scale b2_add
  half_y = half_sum p_grid.1 q_grid.1

  -- the count of half steps
  abbrev k : Point
  k = sum_of (counts p_grid) (counts q_grid)

  k_most : PointAbs k vector_limit
  k_most = (
    abs_sum p_grid.0.count q_grid.0.count grid_limit grid_limit p_grid.0.most q_grid.0.most,
    abs_sum p_grid.1.count q_grid.1.count grid_limit grid_limit p_grid.1.most q_grid.1.most,
  )

  pub local_middle : Capped m.x middle_metres × Capped m.y middle_metres
  local_middle = (
    record {
      own = half_x.dyadic.own;
      cap = four (val m.x) k.x half_x.dyadic.is (abs_scale metre vector_limit k.x k_most.0);
    },
    record {
      own = half_y.dyadic.own;
      cap = four (val m.y) k.y half_y.dyadic.is (abs_scale metre vector_limit k.y k_most.1);
    },
  )
    where
      four : (v c : Z) → 2 ^ 9 ⊛ v ≐ metre ⊛ c → Abs (metre ⊛ c) (metre * vector_limit) → Abs v (middle_metres * metre)
      four v c e h = omega arith

  module _ {t : B2Transform} (g : GridPlacement t) where
    placed : PlacedMiddle (carried_face g p q) (b2_add (b2_mul_rot_by_vec2 t.q m) t.p)
    unfolding b2_add
    placed =
        let r = b2_mul_rot_by_vec2 t.q m in
        let r_exact = turn_exact g.turning half_x.dyadic.own half_y.dyadic.own in
        let turned_m =
        turned_multiple g.turn (2 ^ 9) metre (value_point m) k (half_x.dyadic.is, half_y.dyadic.is) in
        let turned_most = turned_abs g.turn k vector_limit k_most in
        let turned_k = turned g.turn k in
        let x = placed_half turned_k.x (record {
          own = r_exact.x_own;
          is = moved (val r.x) (turned g.turn (value_point m)).x turned_k.x r_exact.is.0 turned_m.0;
        }) turned_most.0 g.position.0 in
        let y = placed_half turned_k.y (record {
          own = r_exact.y_own;
          is = moved (val r.y) (turned g.turn (value_point m)).y turned_k.y r_exact.is.1 turned_m.1;
        }) turned_most.1 g.position.1 in
        record {
          x_cap = record { own = x.own; cap = x.most };
          y_cap = record { own = y.own; cap = y.most };
          halfway = halfway_carried g.turn (value_point r) (value_point m) (value_point p) (value_point q)
              (value_point t.p) (value_point (b2_add r t.p)) (half_x.twice, half_y.twice) r_exact.is
              (x.is, y.is);
        }
      where
        moved : (z v c : Z) → z ≐ v → 2 ^ 9 ⊛ v ≐ metre ⊛ c → 2 ^ 9 ⊛ z ≐ metre ⊛ c
        moved z v c h e = omega arith

    pub placed_middle : PlacedMiddle (carried_face g p q) (b2_mul_transform_by_vec2 t m)
    placed_middle = rw (carry_is t m) placed
