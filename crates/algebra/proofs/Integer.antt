-- Equality and order of signed whole numbers: `≐` is an equivalence that every operation respects but the product
-- (Products has that one), `≼` and `≺` are orders that respect it, and natural multiples keep them and can be
-- cancelled. Assumes nothing.
use mathlib.Core.Path.{◌≡◌, refl, ap, subst}
use mathlib.Core.Logic.{◌⊎◌, inl, inr}
use mathlib.Core.Bool.{Bool, true, false}
use Prim.Native.Nat.{ℕ, ◌+◌, ◌*◌, ◌≤◌, ◌<◌}
use native.Mathlib.Nat.{mul-le-mul_left, le_of_mul-le-mul_right, mul-lt-mul_of_pos_left, lt_of_mul-lt-mul_left}
use native.Mathlib.Nat.{eq_of_mul-eq-mul_left}
use native.Mathlib.Decide.{dec_lt}
use native.Mathlib.Omega.{arith}
use lib.Dec.{T, eqb, eqb→eq, eqb_refl, ltb→lt, lt→ltb}
use Rattle.algebra.specs.Integer.{Z, whole, signed, ◌⊞◌, ◌⊟◌, ◌⊠◌, opp, ◌⊛◌, ◌≐◌, ◌≼◌, ◌≺◌, ◌≐?◌, ◌≺?◌, Reduced}

-- ---- the same number
pub same_refl : (a : Z) → a ≐ a
same_refl a = refl

pub same_sym : (a b : Z) → a ≐ b → b ≐ a
same_sym a b h = omega arith

pub same_trans : (a b c : Z) → a ≐ b → b ≐ c → a ≐ c
same_trans a b c h k = omega arith

pub same_of_eq : (a b : Z) → a ≡ b → a ≐ b
same_of_eq a b e = rw e

pub opposite_same : (a b : Z) → a ≐ b → opp a ≐ opp b
opposite_same a b h = omega arith

pub sum_same : (a b c d : Z) → a ≐ b → c ≐ d → a ⊞ c ≐ b ⊞ d
sum_same a b c d h k = omega arith

pub difference_same : (a b c d : Z) → a ≐ b → c ≐ d → a ⊟ c ≐ b ⊟ d
difference_same a b c d h k = omega arith

pub multiple_same : (k : ℕ) (a b : Z) → a ≐ b → k ⊛ a ≐ k ⊛ b
multiple_same k a b h = let m : k * (a.0 + b.1) ≡ k * (b.0 + a.1) = ap (λ (n : ℕ). k * n) h in omega arith

-- ---- order
pub le_trans : (a b c : Z) → a ≼ b → b ≼ c → a ≼ c
le_trans a b c h k = omega arith

pub le_antisym : (a b : Z) → a ≼ b → b ≼ a → a ≐ b
le_antisym a b h k = omega arith

pub le_of_same : (a b : Z) → a ≐ b → a ≼ b
le_of_same a b h = omega arith

-- the same number on either side
pub le_resp : (a a' b b' : Z) → a ≐ a' → b ≐ b' → a ≼ b → a' ≼ b'
le_resp a a' b b' h k l = omega arith

pub lt_resp : (a a' b b' : Z) → a ≐ a' → b ≐ b' → a ≺ b → a' ≺ b'
lt_resp a a' b b' h k l = omega arith

-- a number is above 0, 0, or below 0
pub sign_cases : (a : Z) → (whole 0 ≺ a) ⊎ ((a ≐ whole 0) ⊎ (a ≺ whole 0))
sign_cases a = elim (dec_lt a.1 a.0) [
  | yes above ↦ inl (omega arith)
  | no not_above ↦ elim (dec_lt a.0 a.1) [
    | yes below ↦ inr (inr (omega arith))
    | no not_below ↦ inr (inl (omega arith))
  ]
]

pub lt_trans : (a b c : Z) → a ≺ b → b ≺ c → a ≺ c
lt_trans a b c h k = omega arith

-- two numbers: the one is below, the same, or above
pub compare_cases : (a b : Z) → (a ≺ b) ⊎ ((a ≐ b) ⊎ (b ≺ a))
compare_cases a b = elim (dec_lt (a.0 + b.1) (b.0 + a.1)) [
  | yes below ↦ inl below
  | no not_below ↦ elim (dec_lt (b.0 + a.1) (a.0 + b.1)) [
    | yes above ↦ inr (inr above)
    | no not_above ↦ inr (inl (omega arith))
  ]
]

-- two numbers: the one is at most the other, or above it
pub order_cases : (a b : Z) → (a ≼ b) ⊎ (b ≺ a)
order_cases a b = elim (dec_lt (b.0 + a.1) (a.0 + b.1)) [ yes above ↦ inr above | no not_above ↦ inl (omega arith) ]

-- ---- natural multiples
pub multiple_mono : (k : ℕ) (a b : Z) → a ≼ b → k ⊛ a ≼ k ⊛ b
multiple_mono k a b h = let m : k * (a.0 + b.1) ≤ k * (b.0 + a.1) = mul-le-mul_left k h in omega arith

pub multiple_mono_lt : (k : ℕ) (a b : Z) → 0 < k → a ≺ b → k ⊛ a ≺ k ⊛ b
multiple_mono_lt k a b k_pos h = let m : k * (a.0 + b.1) < k * (b.0 + a.1) = mul-lt-mul_of_pos_left h k_pos in
    omega arith

pub multiple_cancel : (k : ℕ) (a b : Z) → 0 < k → k ⊛ a ≼ k ⊛ b → a ≼ b
multiple_cancel k a b k_pos h = le_of_mul-le-mul_right (omega arith) k_pos

pub multiple_cancel_lt : (k : ℕ) (a b : Z) → k ⊛ a ≺ k ⊛ b → a ≺ b
multiple_cancel_lt k a b h = lt_of_mul-lt-mul_left k (omega arith)

pub multiple_cancel_same : (k : ℕ) (a b : Z) → 0 < k → k ⊛ a ≐ k ⊛ b → a ≐ b
multiple_cancel_same k a b k_pos h = eq_of_mul-eq-mul_left k k_pos (a.0 + b.1) (b.0 + a.1) (omega arith)

-- ---- the tests say what they test
pub same_of_test : (a b : Z) → T (a ≐? b) → a ≐ b
same_of_test a b t = eqb→eq (a.0 + b.1) (b.0 + a.1) t

pub test_of_same : (a b : Z) → a ≐ b → T (a ≐? b)
test_of_same a b h = subst (λ (n : ℕ). T (eqb (a.0 + b.1) n)) h (eqb_refl (a.0 + b.1))

pub lt_of_test : (a b : Z) → T (a ≺? b) → a ≺ b
lt_of_test a b t = ltb→lt (a.0 + b.1) (b.0 + a.1) t

pub test_of_lt : (a b : Z) → a ≺ b → T (a ≺? b)
test_of_lt a b h = lt→ltb (a.0 + b.1) (b.0 + a.1) h

-- ---- reduced pairs
pub signed_reduced : (s : Bool) (n : ℕ) → Reduced (signed s n)
signed_reduced true n = inl refl
signed_reduced false n = inr refl

pub reduced_eq : (a b : Z) → Reduced a → Reduced b → a ≐ b → a ≡ b
reduced_eq a b a_reduced b_reduced h = λ i. ((parts a_reduced b_reduced).0 i, (parts a_reduced b_reduced).1 i)
  where
    parts : Reduced a → Reduced b → (a.0 ≡ b.0) × (a.1 ≡ b.1)
    parts (inl a_neg) (inl b_neg) = (omega arith, omega arith)
    parts (inl a_neg) (inr b_pos) = (omega arith, omega arith)
    parts (inr a_pos) (inl b_neg) = (omega arith, omega arith)
    parts (inr a_pos) (inr b_pos) = (omega arith, omega arith)

-- ---- out of a bracket, as pairs: `rw` can use these
multiple_out_part : (k l a b c d : ℕ) → k * a * (l * b) + k * c * (l * d) ≡ k * l * (a * b + c * d)
multiple_out_part k l a b c d = omega arith

pub product_of_multiples : (k l : ℕ) (a b : Z) → (k ⊛ a) ⊠ (l ⊛ b) ≡ (k * l) ⊛ (a ⊠ b)
product_of_multiples k l a b = λ i. (
  multiple_out_part k l a.0 b.0 a.1 b.1 i,
  multiple_out_part k l a.0 b.1 a.1 b.0 i,
)

multiple_of_multiple_part : (k l a : ℕ) → k * (l * a) ≡ k * l * a
multiple_of_multiple_part k l a = omega arith

pub multiple_of_multiple : (k l : ℕ) (a : Z) → k ⊛ (l ⊛ a) ≡ (k * l) ⊛ a
multiple_of_multiple k l a = λ i. (multiple_of_multiple_part k l a.0 i, multiple_of_multiple_part k l a.1 i)
