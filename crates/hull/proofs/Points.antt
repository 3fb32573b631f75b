-- Points whose coordinates are reduced are equal exactly when the builder's test by value says so; equality of points
-- is decided. Assumes nothing.
use mathlib.Core.Path.{◌≡◌, refl, sym, ap, subst}
use mathlib.Core.List.Memᴰ
use mathlib.Core.List.{List, [], ◌∷◌, Memᴰ}
use mathlib.Core.Logic.{◌⊎◌, inl, inr}
use mathlib.Core.Bool.{not}
use mathlib.Core.HLevel.{Discrete, ×_discrete}
use native.Mathlib.Decide.{ℕ_discrete}
use lib.Dec.{T, T_not}
use mir.Facts.{and_yes, yes_and}
use Rattle.algebra.specs.Integer.{Z, ◌≐◌, ◌≐?◌}
use Rattle.algebra.specs.Plane.{Point}
use Rattle.algebra.proofs.Integer.{reduced_eq, same_of_test, test_of_same}
use Rattle.hull.specs.Hull.{ReducedPoint, AllReduced}
use Rattle.hull.specs.Outline.{same_point}

point_eq : {p q : Point} → p.x ≡ q.x → p.y ≡ q.y → p ≡ q
point_eq ex ey = λ i. record { x = ex i; y = ey i }

-- ---- by value
pub value_eq : (p q : Point) → ReducedPoint p → ReducedPoint q → p.x ≐ q.x → p.y ≐ q.y → p ≡ q
value_eq p q hp hq ex ey = point_eq (reduced_eq p.x q.x hp.0 hq.0 ex)
    (reduced_eq p.y q.y hp.1 hq.1 ey)

pub same_point_eq : (p q : Point) → ReducedPoint p → ReducedPoint q → T (same_point p q) → p ≡ q
same_point_eq p q hp hq t =
    let parts = and_yes (p.x ≐? q.x) (p.y ≐? q.y) t in
    value_eq p q hp hq (same_of_test p.x q.x parts.0) (same_of_test p.y q.y parts.1)

pub same_point_own : (p : Point) → T (same_point p p)
same_point_own p = yes_and (p.x ≐? p.x) (p.y ≐? p.y) (test_of_same p.x p.x refl)
    (test_of_same p.y p.y refl)

pub not_same_point : (p q : Point) → T (not (same_point p q)) → ¬ (p ≡ q)
not_same_point p q t e = T_not (same_point p q) t (subst (λ (r : Point). T (same_point p r)) e (same_point_own p))

-- ---- lists of them
pub reduced_nil : AllReduced []
reduced_nil q m = absurd (Memᴰ.not-nil m)

pub reduced_cons : (p : Point) (s : List Point) → ReducedPoint p → AllReduced s → AllReduced (p ∷ s)
reduced_cons p s hp hs q m = go (Memᴰ.cases_cons m)
  where
    go : (q ≡ p) ⊎ Memᴰ q s → ReducedPoint q
    go (inl e) = subst ReducedPoint (sym e) hp
    go (inr k) = hs q k

-- ---- decided
Z_discrete : Discrete Z
Z_discrete = ×_discrete ℕ_discrete ℕ_discrete

pub point_discrete : Discrete Point
point_discrete p q = go (Z_discrete p.x q.x) (Z_discrete p.y q.y)
  where
    go : Dec (p.x ≡ q.x) → Dec (p.y ≡ q.y) → Dec (p ≡ q)
    go (yes ex) (yes ey) = yes (point_eq ex ey)
    go (yes ex) (no n) = no (λ e. n (ap (λ (r : Point). r.y) e))
    go (no n) d = no (λ e. n (ap (λ (r : Point). r.x) e))
