-- Closed cases that pin the definitions of this crate: what they give is worked out by hand on the right. Assumes
-- nothing.
use mathlib.Core.Path.{refl}
use mathlib.Core.Bool.{true}
use Prim.Native.Nat.{ℕ}
use lib.Dec.{lit≤, lit<}
use native.Mathlib.Omega.{arith}
use Rattle.algebra.specs.Integer.{whole, signed, ◌⊞◌, ◌⊟◌, ◌⊠◌, opp, ◌⊛◌, ◌≐◌, ◌≺◌, Abs}
use Rattle.algebra.specs.Squares.{OverRootLe}
use Rattle.algebra.specs.Polynomial.{var, num, ◌:+◌, ◌:*◌, SamePolynomial}
use Rattle.algebra.specs.Plane.{Point, orient}
use Rattle.algebra.proofs.Squares.{over_root_same}

three_less_five : whole 3 ⊟ whole 5 ≐ signed true 2
three_less_five = refl

three_and_minus_five : whole 3 ⊞ signed true 5 ≐ signed true 2
three_and_minus_five = refl

minus_times_minus : signed true 3 ⊠ signed true 5 ≐ whole 15
minus_times_minus = refl

minus_times_plus : signed true 3 ⊠ whole 5 ≐ signed true 15
minus_times_plus = refl

twice_minus_three : 2 ⊛ signed true 3 ≐ opp (whole 6)
twice_minus_three = refl

minus_two_below_one : signed true 2 ≺ whole 1
minus_two_below_one = lit< tt

not_two_below_two : ¬ (whole 2 ≺ whole 2)
not_two_below_two h = omega arith

size_of_minus_three : Abs (signed true 3) 3
size_of_minus_three = (lit≤ tt, lit≤ tt)

size_above_two : ¬ Abs (signed true 3) 2
size_above_two h = omega arith

-- 3 / √4 ≤ 3 / 2, with equality
root_of_four : OverRootLe (whole 3) 4 (whole 3) 2
root_of_four = lit≤ tt

-- the same with 3 as 5 - 2
root_of_four_again : OverRootLe (5, 2) 4 (whole 3) 2
root_of_four_again = over_root_same (whole 3) (5, 2) (whole 3) (whole 3) 4 2 refl refl root_of_four

-- 2 / √1 is above 3 / 2
two_over_one : ¬ OverRootLe (whole 2) 1 (whole 3) 2
two_over_one h = omega arith

-- 3 / √2 = 2.12.. : above 2, and its opposite below -2
above_two : ¬ OverRootLe (whole 3) 2 (whole 2) 1
above_two h = omega arith

below_minus_two : OverRootLe (signed true 3) 2 (signed true 2) 1
below_minus_two = lit≤ tt

-- (0, 0), (1, 0), (0, 1) are turned counter-clockwise, (0, 0), (0, 1), (1, 0) clockwise
abbrev at : ℕ → ℕ → Point
at x y = record { x = whole x; y = whole y }

counter_clockwise : orient (at 0 0) (at 1 0) (at 0 1) ≐ whole 1
counter_clockwise = refl

clockwise : orient (at 0 0) (at 0 1) (at 1 0) ≐ signed true 1
clockwise = refl

-- (a + b)(a + b) = a a + 2 a b + b b, and not a a + b b
square_of_sum : SamePolynomial ((var 0 :+ var 1) :* (var 0 :+ var 1))
    (var 0 :* var 0 :+ num 2 :* var 0 :* var 1 :+ var 1 :* var 1)
square_of_sum = tt

not_without_middle : ¬ SamePolynomial ((var 0 :+ var 1) :* (var 0 :+ var 1)) (var 0 :* var 0 :+ var 1 :* var 1)
not_without_middle t = t
