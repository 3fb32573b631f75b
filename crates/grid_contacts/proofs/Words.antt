-- The words of demand 3 on small whole numbers, worked out by hand: quarter turns; the face from (0, 0) to (4, 3), 5
-- long, and points 3 outside and 4 inside of it; the separations of a square's faces from a triangle; what is near a
-- face; sums and differences of lengths. Closed cases that pin the definitions. Assumes nothing.
use mathlib.Core.Path.{◌≡◌, refl}
use mathlib.Core.Bool.{true}
use mathlib.Core.List.{List, [], ◌∷◌}
use Prim.Native.Nat.{ℕ, zero, suc, ◌+◌, ◌<◌}
use native.Mathlib.Nat.{mul-pos}
use native.Mathlib.Omega.{arith}
use lib.Dec.{lit≤, lit<}
use Rattle.algebra.specs.Integer.{Z, whole, signed, ◌⊛◌, ◌≐◌}
use Rattle.algebra.specs.Plane.{Point, SameVector}
use Rattle.algebra.proofs.Products.{product_same, square_not_negative}
use Rattle.rounding.specs.Value.{metre}
use Rattle.grid_contacts.specs.Placement.{turned, unturned, to_left, about, to_right}
use Rattle.grid_contacts.specs.Lengths.{Length, exactly, ◌plus◌, ◌less◌, both_skins, point_tolerance}
use Rattle.grid_contacts.specs.Faces.{Face, face_at, off_line, squared_length, DistanceAtMost, DistanceAtLeast}
use Rattle.grid_contacts.specs.Faces.{DistanceAbove, SeparationAtMost, SeparationAtLeast, SeparationAbove}
use Rattle.grid_contacts.specs.Faces.{way_from, NearFace}

abbrev minus : ℕ → Z
minus n = signed true n

abbrev at : Z → Z → Point
at x y = record { x = x; y = y }

abbrev thousandths : Z → Length
thousandths n = record { over = n; under = 1000 }

-- ---- (2, 1), turned by each quarter
abbrev two_one : Point
two_one = at (whole 2) (whole 1)

not_turned : SameVector (turned unturned two_one) two_one
not_turned = (refl, refl)

turned_left : SameVector (turned to_left two_one) (at (minus 1) (whole 2))
turned_left = (refl, refl)

turned_about : SameVector (turned about two_one) (at (minus 2) (minus 1))
turned_about = (refl, refl)

turned_right : SameVector (turned to_right two_one) (at (whole 1) (minus 2))
turned_right = (refl, refl)

-- ---- the face from (0, 0) to (4, 3): (5, 0) is right of it, so outside, by 15/5; (0, 5) is inside by 20/5
abbrev slope : Face
slope = record { begin = at (whole 0) (whole 0); end = at (whole 4) (whole 3) }

abbrev outer : Point
outer = at (whole 5) (whole 0)

abbrev inner : Point
inner = at (whole 0) (whole 5)

five_long : squared_length slope ≡ 25
five_long = refl

outer_off : off_line slope outer ≐ whole 15
outer_off = refl

inner_off : off_line slope inner ≐ minus 20
inner_off = refl

outer_at_most : DistanceAtMost slope outer (exactly (whole 3))
outer_at_most = lit≤ tt

outer_at_least : DistanceAtLeast slope outer (exactly (whole 3))
outer_at_least = lit≤ tt

outer_not_less : DistanceAbove slope outer (thousandths (whole 2999))
outer_not_less h = omega arith

outer_not_more : ¬ DistanceAtLeast slope outer (thousandths (whole 3001))
outer_not_more h = omega arith

inner_at_most : DistanceAtMost slope inner (exactly (minus 4))
inner_at_most = lit≤ tt

inner_at_least : DistanceAtLeast slope inner (exactly (minus 4))
inner_at_least = lit≤ tt

inner_not_less : DistanceAbove slope inner (thousandths (minus 4001))
inner_not_less h = omega arith

inner_not_more : ¬ DistanceAtLeast slope inner (thousandths (minus 3999))
inner_not_more h = omega arith

-- ---- a square from (0, 0) to (2, 2), and a triangle right of it whose nearest corner is (5, 1)
abbrev square : List Point
square =
    at (whole 0) (whole 0) ∷ at (whole 2) (whole 0) ∷ at (whole 2) (whole 2) ∷ at (whole 0) (whole 2) ∷ []

abbrev triangle : List Point
triangle = at (whole 6) (whole 0) ∷ at (whole 6) (whole 2) ∷ at (whole 5) (whole 1) ∷ []

-- the last face runs back to the first corner
last_face : face_at square 3 ≡ record { begin = at (whole 0) (whole 2); end = at (whole 0) (whole 0) }
last_face = refl

-- the right face keeps the triangle 3 off, by the corner (5, 1); the left one -6, by a corner at x = 6
right_at_most : SeparationAtMost (face_at square 1) triangle (exactly (whole 3))
right_at_most = (2, lit< tt, lit≤ tt)

no_fourth : (j : ℕ) → suc (suc (suc j)) < 3 → ⊥
no_fourth j h = omega arith

right_at_least : SeparationAtLeast (face_at square 1) triangle (exactly (whole 3))
right_at_least zero h = lit≤ tt
right_at_least (suc zero) h = lit≤ tt
right_at_least (suc (suc zero)) h = lit≤ tt
right_at_least (suc (suc (suc j))) h = absurd (no_fourth j h)

right_above : SeparationAbove (face_at square 1) triangle (thousandths (whole 2999))
right_above zero h = λ below. omega arith
right_above (suc zero) h = λ below. omega arith
right_above (suc (suc zero)) h = λ below. omega arith
right_above (suc (suc (suc j))) h = absurd (no_fourth j h)

left_at_most : SeparationAtMost (face_at square 3) triangle (exactly (minus 6))
left_at_most = (0, lit< tt, lit≤ tt)

-- ---- the face from (0, 0) to (4, 0): (2, 1) is 1 from its middle, (5, 0) is 1 from its end
abbrev ground : Face
ground = record { begin = at (whole 0) (whole 0); end = at (whole 4) (whole 0) }

over_the_middle : NearFace (exactly (whole 1)) (at (whole 2) (whole 1)) ground
over_the_middle = record { s = 1; t = 1; some = lit< tt; near = lit≤ tt }

past_the_end : NearFace (exactly (whole 1)) (at (whole 5) (whole 0)) ground
past_the_end = record { s = 0; t = 1; some = lit< tt; near = lit≤ tt }

-- no point of it is within 1/2 of (2, 1): each is 1 or more below
not_so_near : ¬ NearFace (record { over = whole 1; under = 2 }) (at (whole 2) (whole 1)) ground
not_so_near near_half =
    let n = near_half.s + near_half.t in
    let w = way_from ground near_half.s near_half.t (at (whole 2) (whole 1)) in
    let across = square_not_negative w.x in
    let down = product_same w.y (whole n) w.y (whole n) (omega arith) (omega arith) in
    let some = mul-pos near_half.some near_half.some in
    let close = near_half.near in
    omega (arith, across, down, some, close)

-- ---- 0.02 + 1/4096 m and 0.02 - 1/4096 m are 4146/204800 m and 4046/204800 m
sum_over : (both_skins plus point_tolerance).over ≐ 4146 ⊛ whole metre
sum_over = omega arith

sum_under : (both_skins plus point_tolerance).under ≡ 204800
sum_under = refl

difference_over : (both_skins less point_tolerance).over ≐ 4046 ⊛ whole metre
difference_over = omega arith
