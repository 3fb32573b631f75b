-- When the exact step is taken: where the whole number nearest to √n has the square n, and so where the root has the
-- square of the operand. Assumes nothing.
use Rattle.std.proofs.Common.{◌≡◌, ℕ, zero, suc, ◌+◌, ◌*◌, ◌/◌, ◌^◌, ◌<◌, ◌≤◌, Bool, true, false, cond, eqb, ap, ◌∙◌, mul-div_cancel, arith, eqb→eq}
use native.Mathlib.Nat.{eq_of_mul-eq-mul_right}
use lib.Ieee.{Float, binary32}
use lib.Ieee.Fits.{eq→eqb}
use Rattle.algebra.proofs.Booleans.{bool_iff}
use Rattle.sqrt.specs.declared.root.Rooted.{Rooted}
use Rattle.sqrt.specs.declared.root.Rooted.TheVariants.{Exact, Rounded}
use Rattle.sqrt.specs.Sqrt.{whole_root, dropped, exact, exact_root, rounded_root, exact_or_rounded, root_of}
use Rattle.sqrt.specs.Root.{NearestRoot}
use Rattle.sqrt.proofs.WholeRoot.{IsWholeRoot, whole_root_is, root_lt_of_square_lt, four_pow_pos}
use Rattle.sqrt.proofs.RoundedRoot.{root_above_zero}
use Rattle.sqrt.proofs.RootPattern.{nearest_root_unique, scale_is_k}

-- ---- the test of exactness: the whole root of n has the square n where the nearest number has it
pub eqb_scaled : (a b h : ℕ) → 0 < h → eqb (a * h) (b * h) ≡ eqb a b
eqb_scaled a b h h_pos =
    bool_iff (eqb (a * h) (b * h)) (eqb a b)
    (λ t. eq→eqb (eq_of_mul-eq-mul_right h h_pos a b (eqb→eq (a * h) (b * h) t)))
    (λ t. eq→eqb (ap (λ (n : ℕ). n * h) (eqb→eq a b t)))

square_below : (r n : ℕ) → 0 < n → r * r ≡ n → r * r < n + r
square_below zero n n_pos is = absurd (omega arith)
square_below (suc r) n n_pos is = omega arith

square_is_nearest : (n r : ℕ) → 0 < n → r * r ≡ n → NearestRoot n r
square_is_nearest n r n_pos is = record { not_over = square_below r n n_pos is; not_under = omega arith }

whole_root_of_square : (n q r : ℕ) → IsWholeRoot n q → r * r ≡ n → q ≡ r
whole_root_of_square n q r whole is =
    let low : q < r + 1 = root_lt_of_square_lt q (r + 1) (let h = whole.0 in omega arith) in
    let high : r < q + 1 = root_lt_of_square_lt r (q + 1) (let h = whole.1 in omega arith) in
    omega arith

exact_by_nearest : (n r : ℕ) → 0 < n → NearestRoot n r → eqb (whole_root n * whole_root n) n ≡ eqb (r * r) n
exact_by_nearest n r n_pos of_r =
    let q = whole_root n in
    bool_iff (eqb (q * q) n) (eqb (r * r) n)
    (λ t.
    let is : q * q ≡ n = eqb→eq (q * q) n t in
    eq→eqb (ap (λ (m : ℕ). m * m) (nearest_root_unique n r q of_r (square_is_nearest n q n_pos is)) ∙ is))
    (λ t.
    let is : r * r ≡ n = eqb→eq (r * r) n t in
    eq→eqb (ap (λ (m : ℕ). m * m) (whole_root_of_square n q r (whole_root_is n) is) ∙ is))

-- ---- a step by its test and its root
abbrev kept : ℕ → ℕ
kept y = whole_root (y / 4 ^ dropped binary32 y)

abbrev pub is_exact : ℕ → Bool
is_exact y = exact y (dropped binary32 y) (kept y)

abbrev pub step : Bool → Float → Float → Rooted
step t a b = cond t (Exact a) (Rounded b)

by_test : (t : Bool) (p a b : Float) → p ≡ root_of (step t a b) → step t p p ≡ step t a b
by_test true p a b is = ap Exact is
by_test false p a b is = ap Rounded is

pub step_is : (y : ℕ) (p : Float) → p ≡ root_above_zero y → step (is_exact y) p p ≡ exact_or_rounded binary32 y
unfolding root_above_zero
step_is y p is =
    let k = dropped binary32 y in
    by_test (is_exact y) p (exact_root binary32 k (kept y)) (rounded_root binary32 y k (kept y)) is

pub exact_is : (n r k : ℕ) → 2 ^ 46 ≤ n → n < 2 ^ 48 → NearestRoot n r → is_exact (n * 4 ^ k) ≡ eqb (r * r) n
exact_is n r k n_low n_high of_r =
    ap (λ (j : ℕ). exact (n * 4 ^ k) j (whole_root (n * 4 ^ k / 4 ^ j))) (scale_is_k n k n_low n_high)
    ∙ ap (λ (m : ℕ). exact (n * 4 ^ k) k (whole_root m)) (mul-div_cancel n (four_pow_pos k))
    ∙ eqb_scaled (whole_root n * whole_root n) n (4 ^ k) (four_pow_pos k)
    ∙ exact_by_nearest n r (omega arith) of_r
