-- The normal of a face, as f32 has it, turned with its outline: `UnitNormal` (N0, N1 and N2) holds of the same numbers,
-- of a direction turned by quarters, and so of the stored normal of a placed outline's face. Assumes nothing.
use mathlib.Core.Path.{◌≡◌, subst}
use Prim.Native.Nat.{ℕ, ◌+◌, ◌*◌, ◌^◌}
use native.Mathlib.Omega.{arith}
use Rattle.algebra.specs.Integer.{Z, whole, ◌⊞◌, ◌⊟◌, ◌⊠◌, ◌⊛◌, opp, ◌≐◌, Abs}
use Rattle.algebra.specs.Plane.{Point, SameVector, from_to}
use Rattle.algebra.specs.Squares.{above}
use Rattle.algebra.proofs.Integer.{difference_same, multiple_same}
use Rattle.algebra.proofs.Magnitude.{abs_same}
use Rattle.algebra.proofs.Plane.{vector_refl}
use Rattle.algebra.proofs.Products.{product_same}
use Rattle.rounding.specs.Value.{metre}
use Rattle.floats.specs.declared.b2_math.B2vec2.{B2vec2}
use Rattle.floats.specs.declared.b2_math.B2Transform.{B2Transform}
use Rattle.grid.specs.Grid.{value_point}
use Rattle.floats.specs.NearUnit.{normal_bound, direction_error, length_error}
use Rattle.grid.specs.GridOutline.{UnitNormal, EdgeNormal}
use Rattle.grid_contacts.specs.Placement.{QuarterTurn, unturned, to_left, about, to_right, turned, GridPlacement}
use Rattle.grid_contacts.specs.Placement.{carried}
use Rattle.grid_contacts.specs.Faces.{Face, squared_length}
use Rattle.grid_contacts.proofs.NormalVec.{NormalVec}

-- the direction u has the normal n, of f32 length l and squared length t
abbrev pub UnitOf : Point → Point → ℕ → ℕ → Type 0
UnitOf u n l t = UnitNormal u.x u.y n.x n.y l t

-- ---- the same numbers
pub unit_same : {u u' n n' : Point} {l t : ℕ} → SameVector u u' → SameVector n n' → UnitOf u n l t → UnitOf u' n' l t
unit_same {u} {u'} {n} {n'} {l} {t} e f h = record {
  positive = h.positive;
  square = squares (u.x ⊠ u.x) (u.y ⊠ u.y) (u'.x ⊠ u'.x) (u'.y ⊠ u'.y) (whole t)
      (product_same u.x u'.x u.x u'.x e.0 e.0)
      (product_same u.y u'.y u.y u'.y e.1 e.1) h.square;
  root = h.root;
  u_most = most u.x u'.x e.0 h.u_most;
  v_most = most u.y u'.y e.1 h.v_most;
  a_near = near u.x u'.x n.x n'.x e.0 f.0 h.a_near;
  b_near = near u.y u'.y n.y n'.y e.1 f.1 h.b_near;
  a_most = abs_same n.x n'.x normal_bound f.0 h.a_most;
  b_most = abs_same n.y n'.y normal_bound f.1 h.b_most;
  unit = length (n.x ⊠ n.x) (n.y ⊠ n.y) (n'.x ⊠ n'.x) (n'.y ⊠ n'.y)
      (product_same n.x n'.x n.x n'.x f.0 f.0)
      (product_same n.y n'.y n.y n'.y f.1 f.1) h.unit;
}
  where
    squares : (a b c d r : Z) → a ≐ c → b ≐ d → a ⊞ b ≐ r → c ⊞ d ≐ r
    squares a b c d r e f g = omega arith

    most : (u u' : Z) → u ≐ u' → Abs (2 ^ 24 ⊛ u) ((2 ^ 24 + 1) * l) → Abs (2 ^ 24 ⊛ u') ((2 ^ 24 + 1) * l)
    most u u' e h = omega arith

    near : (u u' a a' : Z) → u ≐ u' → a ≐ a' → Abs (l ⊛ a ⊟ metre ⊛ u) (direction_error l)
        → Abs (l ⊛ a' ⊟ metre ⊛ u') (direction_error l)
    near u u' a a' e f h =
        let same = difference_same (l ⊛ a) (l ⊛ a') (metre ⊛ u) (metre ⊛ u') (multiple_same l a a' f)
        (multiple_same metre u u' e) in
        abs_same (l ⊛ a ⊟ metre ⊛ u) (l ⊛ a' ⊟ metre ⊛ u') (direction_error l) same h

    length : (a b c d : Z) → a ≐ c → b ≐ d → Abs (a ⊞ b ⊟ whole (metre * metre)) (length_error * metre)
        → Abs (c ⊞ d ⊟ whole (metre * metre)) (length_error * metre)
    length a b c d e f h = omega arith

-- ---- turned by a quarter to the right, and by any quarter turn
abbrev pub right_of : Point → Point
right_of u = record { x = u.y; y = opp u.x }

pub unit_right : {u n : Point} {l t : ℕ} → UnitOf u n l t → UnitOf (right_of u) (right_of n) l t
unit_right {u} {n} {l} {t} h = record {
  positive = h.positive;
  square = let s = h.square in omega arith;
  root = h.root;
  u_most = h.v_most;
  v_most = let k = h.u_most in omega arith;
  a_near = h.b_near;
  b_near = let k = h.a_near in omega arith;
  a_most = h.b_most;
  b_most = let k = h.a_most in omega arith;
  unit = let k = h.unit in omega arith;
}

pub unit_turned : {u n : Point} {l t : ℕ} (turn : QuarterTurn) → UnitOf u n l t
    → UnitOf (turned turn u) (turned turn n) l t
unit_turned {u} {n} unturned h = unit_same (omega arith, omega arith) (omega arith, omega arith) h
unit_turned {u} {n} to_right h = unit_same (omega arith, omega arith) (omega arith, omega arith) (unit_right h)
unit_turned {u} {n} about h =
    unit_same (omega arith, omega arith) (omega arith, omega arith) (unit_right (unit_right h))
unit_turned {u} {n} to_left h =
    unit_same (omega arith, omega arith) (omega arith, omega arith) (unit_right (unit_right (unit_right h)))

-- ---- a face and its normal
-- the outward direction: the edge turned to the right
abbrev pub outward : Face → Point
outward f = right_of (from_to f.begin f.end)

-- n is the normal of f, worked out in f32
pub record FaceNormal (f : Face) (n : Point) : Type 0 where
  pub length : ℕ
  pub unit : UnitOf (outward f) n length (squared_length f)

pub face_normal : (f : Face) (n : Point) {l t : ℕ} → UnitOf (outward f) n l t → FaceNormal f n
face_normal f n {l} {t} h =
    let e = from_to f.begin f.end in
    let same = squared_is (e.y ⊠ e.y) (opp e.x ⊠ opp e.x) (e.x ⊠ e.x) (opposite_square e.x) h.square in
    record { length = l; unit = subst (λ (k : ℕ). UnitOf (outward f) n l k) same h }
  where
    opposite_square : (a : Z) → opp a ⊠ opp a ≐ a ⊠ a
    opposite_square a = omega arith

    squared_is : (a b c : Z) → b ≐ c → a ⊞ b ≐ whole t → t ≡ above (c ⊞ a)
    squared_is a b c k e = omega arith

-- ---- a face of a placed outline
abbrev pub carried_face : {t : B2Transform} → GridPlacement t → B2vec2 → B2vec2 → Face
carried_face g p q = record { begin = carried g (value_point p); end = carried g (value_point q) }

-- the outward direction of an edge from p to q, turned, is that of the carried edge
pub outward_turned : {t : B2Transform} (g : GridPlacement t) (p q : B2vec2)
    → SameVector (turned g.turn (right_of (from_to (value_point p) (value_point q)))) (outward (carried_face g p q))
outward_turned {t} g p q = go g.turn (value_point p) (value_point q) (value_point t.p)
  where
    go : (turn : QuarterTurn) (p q o : Point)
        → SameVector (turned turn (right_of (from_to p q)))
        (right_of (record {
          x = (turned turn q).x ⊞ o.x ⊟ ((turned turn p).x ⊞ o.x);
          y = (turned turn q).y ⊞ o.y ⊟ ((turned turn p).y ⊞ o.y);
        }))
    go turn p q o = (omega arith, omega arith)

-- the stored normal n of the edge from p to q, turned with the placement
pub placed_normal : {t : B2Transform} (g : GridPlacement t) (p q n : B2vec2) → EdgeNormal p q n
    → FaceNormal (carried_face g p q) (turned g.turn (value_point n))
unfolding EdgeNormal
placed_normal g p q n h =
    face_normal (carried_face g p q) (turned g.turn (value_point n))
    (unit_same (outward_turned g p q) (vector_refl (turned g.turn (value_point n)))
    (unit_turned g.turn h.unit))

pub stored_vec : (p q n : B2vec2) → EdgeNormal p q n → NormalVec n
unfolding EdgeNormal
stored_vec p q n h = record {
  at_x = record { own = h.x_own; most = h.unit.a_most };
  at_y = record { own = h.y_own; most = h.unit.b_most };
}
