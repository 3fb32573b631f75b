-- Every triangle from the first corner of a hull to two neighbours is turned counter-clockwise, so the doubled area is
-- above 0. Assumes nothing.
use mathlib.Core.Path.{◌≡◌, refl, sym}
use mathlib.Core.List.{List, [], ◌∷◌, Memᴰ}
use mathlib.Core.Logic.{◌⊎◌, inl, inr}
use Prim.Native.Nat.{◌≤◌}
use native.Mathlib.Omega.{arith}
use lib.ListN.{length}
use Rattle.algebra.specs.Integer.{whole, ◌≐◌, ◌≼◌, ◌≺◌}
use Rattle.algebra.specs.Plane.{Point, from_to, dot, orient}
use Rattle.algebra.proofs.Integer.{same_sym}
use Rattle.algebra.proofs.Signs.{positive_weaken, not_negative_positive, positive_same, zero_same, sum_positive}
use Rattle.algebra.proofs.Plane.{orientation_cyclic}
use Rattle.hull.specs.Hull.{Left, Between, Linked, IsHull, fan_area, FanPositive}
use Rattle.hull.proofs.Directions.{same_way}
use Rattle.hull.proofs.Corners.{Corner, Side, corner_of_first}
use Rattle.hull.proofs.Unique.{hull_sides}

-- a side q r that does not touch the corner p
triangle_positive : (s : List Point) (p q r : Point) → Corner s p → Memᴰ q s → Side s q r → ¬ (q ≡ p) → ¬ (r ≡ p)
    → whole 0 ≺ orient p q r
triangle_positive s p q r c q_in side q_not_p r_not_p = go (side.edge p c.mem) (c.ahead q q_in)
    (c.ahead r side.mem)
  where
    cyclic : orient q r p ≐ orient p q r
    cyclic = same_sym (orient p q r) (orient q r p) (orientation_cyclic p q r)

    go : (p ≡ q) ⊎ ((p ≡ r) ⊎ (Left q r p ⊎ Between q r p)) → (q ≡ p) ⊎ (whole 0 ≺ dot c.direction (from_to p q))
        → (r ≡ p) ⊎ (whole 0 ≺ dot c.direction (from_to p r)) → whole 0 ≺ orient p q r
    go (inl h) k l = absurd (q_not_p (sym h))
    go (inr (inl h)) k l = absurd (r_not_p (sym h))
    go (inr (inr (inl h))) k l = positive_same (orient q r p) (orient p q r) cyclic h
    go (inr (inr (inr h))) (inl k) l = absurd (q_not_p k)
    go (inr (inr (inr h))) (inr k) (inl l) = absurd (r_not_p l)
    go (inr (inr (inr h))) (inr k) (inr l) =
        absurd (not_negative_positive (dot (from_to p q) (from_to p r)) h.1
        (same_way c.direction (from_to p q) (from_to p r) k l
        (zero_same (orient q r p) (orient p q r) cyclic h.0)))

pub hull_fan_positive : (s : List Point) (p : Point) (rest : List Point) → IsHull s p rest → FanPositive p rest
hull_fan_positive s p rest hull = go rest (λ q m. hull.within q (Memᴰ.tail m)) hull.once.0
    (hull_sides s p rest hull)
  where
    c : Corner s p
    c = corner_of_first s p (hull.within p (Memᴰ.head refl)) hull.first

    on : (row : List Point) (q : Point) → ((a : Point) → Memᴰ a (q ∷ row) → Memᴰ a s)
        → ¬ Memᴰ p (q ∷ row) → Linked (Side s) p q row
        → FanPositive p (q ∷ row)
    on [] q within new side = tt
    on (r ∷ row) q within new sides = (
      triangle_positive s p q r c (within q (Memᴰ.head refl)) sides.0 (λ e. new (Memᴰ.head (sym e)))
          (λ e. new (Memᴰ.tail (Memᴰ.head (sym e)))),
      on row r (λ a m. within a (Memᴰ.tail m)) (λ m. new (Memᴰ.tail m)) sides.1,
    )

    go : (rest : List Point) → ((a : Point) → Memᴰ a rest → Memᴰ a s) → ¬ Memᴰ p rest
        → Linked (Side s) p p rest → FanPositive p rest
    go [] within new sides = tt
    go (q ∷ row) within new sides = on row q within new sides.1

-- ---- the sum
fan_not_negative : (p : Point) (row : List Point) → FanPositive p row → whole 0 ≼ fan_area p row
fan_not_negative p [] fan = omega arith
fan_not_negative p (q ∷ []) fan = omega arith
fan_not_negative p (q ∷ r ∷ row) fan =
    positive_weaken (fan_area p (q ∷ r ∷ row)) (sum_positive (orient p q r) (fan_area p (r ∷ row)) fan.0
    (fan_not_negative p (r ∷ row) fan.1))

pub hull_area_positive : (s : List Point) (p : Point) (rest : List Point) → IsHull s p rest → whole 0 ≺ fan_area p rest
hull_area_positive s p rest hull = go rest hull.three (hull_fan_positive s p rest hull)
  where
    go : (rest : List Point) → 3 ≤ length (p ∷ rest) → FanPositive p rest → whole 0 ≺ fan_area p rest
    go [] three fan = absurd (omega arith)
    go (q ∷ []) three fan = absurd (omega arith)
    go (q ∷ r ∷ row) three fan = sum_positive (orient p q r) (fan_area p (r ∷ row)) fan.0
        (fan_not_negative p (r ∷ row) fan.1)
