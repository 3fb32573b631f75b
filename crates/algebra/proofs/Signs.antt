-- Signs and comparisons carried along `≐`, opposites, sums and differences. Each is one step of linear arithmetic: it
-- is named so that proofs over long expressions hand those over whole, and `omega` meets only the names here. Assumes
-- nothing.
use native.Mathlib.Omega.{arith}
use Rattle.algebra.specs.Integer.{Z, whole, ◌⊞◌, ◌⊟◌, opp, ◌≐◌, ◌≼◌, ◌≺◌}

-- ---- weaker
pub positive_weaken : (a : Z) → whole 0 ≺ a → whole 0 ≼ a
positive_weaken a h = omega arith

pub zero_weaken : (a : Z) → a ≐ whole 0 → whole 0 ≼ a
zero_weaken a h = omega arith

pub positive_above : (a b : Z) → whole 0 ≼ b → b ≺ a → whole 0 ≺ a
positive_above a b h k = omega arith

-- ---- not both
pub not_zero_positive : (a : Z) → a ≐ whole 0 → whole 0 ≺ a → ⊥
not_zero_positive a h k = omega arith

pub not_negative_positive : (a : Z) → a ≺ whole 0 → whole 0 ≺ a → ⊥
not_negative_positive a h k = omega arith

-- ---- the same number
pub positive_same : (a b : Z) → a ≐ b → whole 0 ≺ a → whole 0 ≺ b
positive_same a b e h = omega arith

pub zero_same : (a b : Z) → a ≐ b → a ≐ whole 0 → b ≐ whole 0
zero_same a b e h = omega arith

pub lt_same_right : (a b c : Z) → b ≐ c → a ≺ b → a ≺ c
lt_same_right a b c e h = omega arith

-- ---- the opposite
pub positive_of_opposite : (a b : Z) → a ≐ opp b → a ≺ whole 0 → whole 0 ≺ b
positive_of_opposite a b e h = omega arith

pub opposite_negative : (a b : Z) → a ≐ opp b → whole 0 ≺ b → a ≺ whole 0
opposite_negative a b e h = omega arith

pub zero_of_opposite : (a b : Z) → a ≐ opp b → a ≐ whole 0 → b ≐ whole 0
zero_of_opposite a b e h = omega arith

pub opposite_zero : (a b : Z) → a ≐ opp b → b ≐ whole 0 → a ≐ whole 0
opposite_zero a b e h = omega arith

-- ---- sums and differences
pub sum_not_negative : (a b : Z) → whole 0 ≼ a → whole 0 ≼ b → whole 0 ≼ a ⊞ b
sum_not_negative a b h k = omega arith

pub sum_positive : (a b : Z) → whole 0 ≺ a → whole 0 ≼ b → whole 0 ≺ a ⊞ b
sum_positive a b h k = omega arith

pub negative_of_sum : (a b : Z) → a ⊞ b ≐ whole 0 → whole 0 ≺ b → a ≺ whole 0
negative_of_sum a b e h = omega arith

pub difference_zero : (a b c : Z) → a ≐ b ⊟ c → b ≐ whole 0 → c ≐ whole 0 → a ≐ whole 0
difference_zero a b c e h k = omega arith

pub difference_negative : (a b c : Z) → a ≐ b ⊟ c → b ≺ c → a ≺ whole 0
difference_negative a b c e h = omega arith

pub lt_of_difference_negative : (a b c : Z) → a ≐ b ⊟ c → a ≺ whole 0 → b ≺ c
lt_of_difference_negative a b c e h = omega arith

pub same_of_zero_difference : (a b : Z) → b ⊟ a ≐ whole 0 → a ≐ b
same_of_zero_difference a b h = omega arith

pub same_of_same_difference : (a b c : Z) → a ⊟ c ≐ b ⊟ c → a ≐ b
same_of_same_difference a b c h = omega arith

-- a named difference
pub same_of_difference : (d a b : Z) → d ≐ a ⊟ b → d ≐ whole 0 → a ≐ b
same_of_difference d a b e h = omega arith

pub difference_of_same : (d a b : Z) → d ≐ a ⊟ b → a ≐ b → d ≐ whole 0
difference_of_same d a b e h = omega arith
