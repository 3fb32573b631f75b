-- Identities of cross and dot products, each by `ring`: Lagrange's, the one that orders directions in a half plane
-- (three-crosses), and those that move an orientation from one corner of a triangle to another. Cross and dot
-- products respect equality by value, and a squared length is not negative, and 0 of no vector but 0. Assumes
-- nothing.
use mathlib.Core.List.{List, [], ◌∷◌}
use Prim.Native.Nat.{ℕ}
use native.Mathlib.Omega.{arith}
use Rattle.algebra.specs.Integer.{Z, whole, ◌⊞◌, ◌⊠◌, opp, ◌≐◌, ◌≼◌}
use Rattle.algebra.specs.Polynomial.{Expr, var, num, neg, ◌:+◌, ◌:-◌, ◌:*◌}
use Rattle.algebra.specs.Plane.{Point, SameVector, PointAbs, cross, dot, orient}
use Rattle.algebra.proofs.Integer.{same_refl, same_sym, same_trans, sum_same, difference_same}
use Rattle.algebra.proofs.Magnitude.{abs_same}
use Rattle.algebra.proofs.Signs.{sum_not_negative}
use Rattle.algebra.proofs.Products.{product_same, product_zero, square_not_negative, square_zero}
use Rattle.algebra.proofs.Ring.{ring}

-- ---- points as pairs of expressions: the i-th point of an environment
abbrev pub PointExpr : Type 0
PointExpr = Expr × Expr

abbrev pub point₀ : PointExpr
point₀ = (var 0, var 1)

abbrev pub point₁ : PointExpr
point₁ = (var 2, var 3)

abbrev pub point₂ : PointExpr
point₂ = (var 4, var 5)

abbrev pub point₃ : PointExpr
point₃ = (var 6, var 7)

abbrev pub from_to_expr : PointExpr → PointExpr → PointExpr
from_to_expr p q = (q.0 :- p.0, q.1 :- p.1)

abbrev pub cross_expr : PointExpr → PointExpr → Expr
cross_expr u v = u.0 :* v.1 :- u.1 :* v.0

abbrev pub dot_expr : PointExpr → PointExpr → Expr
dot_expr u v = u.0 :* v.0 :+ u.1 :* v.1

abbrev pub orient_expr : PointExpr → PointExpr → PointExpr → Expr
orient_expr p q r = cross_expr (from_to_expr p q) (from_to_expr p r)

abbrev pub coordinates : List Point → List Z
coordinates [] = []
coordinates (p ∷ ps) = p.x ∷ p.y ∷ coordinates ps

-- ---- vectors
pub cross_antisymmetric : (u v : Point) → cross u v ≐ opp (cross v u)
cross_antisymmetric u v = ring (cross_expr point₀ point₁) (neg (cross_expr point₁ point₀)) (coordinates (u ∷ v ∷ [])) tt

pub dot_symmetric : (u v : Point) → dot u v ≐ dot v u
dot_symmetric u v = ring (dot_expr point₀ point₁) (dot_expr point₁ point₀) (coordinates (u ∷ v ∷ [])) tt

-- (u · v)² + (u × v)² = (u · u)(v · v)
pub lagrange : (u v : Point) → dot u v ⊠ dot u v ⊞ cross u v ⊠ cross u v ≐ dot u u ⊠ dot v v
lagrange u v =
    ring (dot_expr point₀ point₁ :* dot_expr point₀ point₁ :+ cross_expr point₀ point₁ :* cross_expr point₀ point₁)
    (dot_expr point₀ point₀ :* dot_expr point₁ point₁) (coordinates (u ∷ v ∷ [])) tt

-- (d · v)(u × w) = (d · w)(u × v) + (d · u)(v × w): identity I1 of the hull's proof
pub three_crosses : (d u v w : Point) → dot d v ⊠ cross u w ≐ dot d w ⊠ cross u v ⊞ dot d u ⊠ cross v w
three_crosses d u v w =
    ring (dot_expr point₀ point₂ :* cross_expr point₁ point₃)
    (dot_expr point₀ point₃ :* cross_expr point₁ point₂ :+ dot_expr point₀ point₁ :* cross_expr point₂ point₃)
    (coordinates (d ∷ u ∷ v ∷ w ∷ [])) tt

-- (d · u)(u · v) = (d · v)(u · u) + (u × v)(d × u)
pub dot_along : (d u v : Point) → dot d u ⊠ dot u v ≐ dot d v ⊠ dot u u ⊞ cross u v ⊠ cross d u
dot_along d u v =
    ring (dot_expr point₀ point₁ :* dot_expr point₁ point₂)
    (dot_expr point₀ point₂ :* dot_expr point₁ point₁ :+ cross_expr point₁ point₂ :* cross_expr point₀ point₁)
    (coordinates (d ∷ u ∷ v ∷ [])) tt

-- ---- three points
module _ (p q r : Point) where
  abbrev three : List Z
  three = coordinates (p ∷ q ∷ r ∷ [])

  pub orientation_cyclic : orient p q r ≐ orient q r p
  orientation_cyclic = ring (orient_expr point₀ point₁ point₂) (orient_expr point₁ point₂ point₀) three tt

  pub orientation_reversed : orient p q r ≐ opp (orient p r q)
  orientation_reversed = ring (orient_expr point₀ point₁ point₂) (neg (orient_expr point₀ point₂ point₁)) three tt

  pub orientation_back : orient q p r ≐ opp (orient p q r)
  orientation_back = ring (orient_expr point₁ point₀ point₂) (neg (orient_expr point₀ point₁ point₂)) three tt

  pub orientation_swapped : orient r q p ≐ opp (orient p q r)
  orientation_swapped = ring (orient_expr point₂ point₁ point₀) (neg (orient_expr point₀ point₁ point₂)) three tt

-- two of the three equal: 0
pub orient_first_twice : (p r : Point) → orient p p r ≐ whole 0
orient_first_twice p r = ring (orient_expr point₀ point₀ point₁) (num 0) (coordinates (p ∷ r ∷ [])) tt

pub orient_begin : (p q : Point) → orient p q p ≐ whole 0
orient_begin p q = ring (orient_expr point₀ point₁ point₀) (num 0) (coordinates (p ∷ q ∷ [])) tt

pub orient_end : (p q : Point) → orient p q q ≐ whole 0
orient_end p q = ring (orient_expr point₀ point₁ point₁) (num 0) (coordinates (p ∷ q ∷ [])) tt

-- ---- equal by value
pub vector_refl : (u : Point) → SameVector u u
vector_refl u = (same_refl u.x, same_refl u.y)

pub vector_sym : (u v : Point) → SameVector u v → SameVector v u
vector_sym u v h = (same_sym u.x v.x h.0, same_sym u.y v.y h.1)

pub vector_trans : (u v w : Point) → SameVector u v → SameVector v w → SameVector u w
vector_trans u v w h k = (same_trans u.x v.x w.x h.0 k.0, same_trans u.y v.y w.y h.1 k.1)

pub point_abs_same : (u v : Point) (n : ℕ) → SameVector u v → PointAbs u n → PointAbs v n
point_abs_same u v n h k = (abs_same u.x v.x n h.0 k.0, abs_same u.y v.y n h.1 k.1)

module _ (u u' v v' : Point) (u_same : SameVector u u') (v_same : SameVector v v') where
  pub cross_same : cross u v ≐ cross u' v'
  cross_same =
      difference_same (u.x ⊠ v.y) (u'.x ⊠ v'.y) (u.y ⊠ v.x) (u'.y ⊠ v'.x)
      (product_same u.x u'.x v.y v'.y u_same.0 v_same.1)
      (product_same u.y u'.y v.x v'.x u_same.1 v_same.0)

  pub dot_same : dot u v ≐ dot u' v'
  dot_same =
      sum_same (u.x ⊠ v.x) (u'.x ⊠ v'.x) (u.y ⊠ v.y) (u'.y ⊠ v'.y)
      (product_same u.x u'.x v.x v'.x u_same.0 v_same.0)
      (product_same u.y u'.y v.y v'.y u_same.1 v_same.1)

-- ---- squared lengths
pub length_not_negative : (u : Point) → whole 0 ≼ dot u u
length_not_negative u =
    sum_not_negative (u.x ⊠ u.x) (u.y ⊠ u.y) (square_not_negative u.x) (square_not_negative u.y)

pub zero_of_length : (u : Point) → dot u u ≐ whole 0 → (u.x ≐ whole 0) × (u.y ≐ whole 0)
zero_of_length u h = (
  square_zero u.x (below (u.x ⊠ u.x) (u.y ⊠ u.y) (square_not_negative u.y) h),
  square_zero u.y (below (u.y ⊠ u.y) (u.x ⊠ u.x) (square_not_negative u.x)
      (swap (u.x ⊠ u.x) (u.y ⊠ u.y) h)),
)
  where
    below : (a b : Z) → whole 0 ≼ b → a ⊞ b ≐ whole 0 → a ≼ whole 0
    below a b b_nn e = omega arith

    swap : (a b : Z) → a ⊞ b ≐ whole 0 → b ⊞ a ≐ whole 0
    swap a b e = omega arith

pub length_of_zero : (u : Point) → u.x ≐ whole 0 → u.y ≐ whole 0 → dot u u ≐ whole 0
length_of_zero u x_zero y_zero =
    sum_same (u.x ⊠ u.x) (whole 0) (u.y ⊠ u.y) (whole 0) (product_zero u.x u.x x_zero)
    (product_zero u.y u.y y_zero)
