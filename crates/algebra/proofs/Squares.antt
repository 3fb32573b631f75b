-- Comparing with a square root: z |z| rises strictly with z and scales by k k, so d / √t ≤ a / b may be weakened to a
-- greater quotient, depends on the numbers only, not on their pairs, and puts what is at most d / √t below a / b.
-- Assumes nothing.
use mathlib.Core.Path.{◌≡◌, sym, ap, ◌∙◌, subst}
use mathlib.Core.Logic.{◌⊎◌, inl, inr}
use Prim.Native.Nat.{ℕ, ◌+◌, ◌-◌, ◌*◌, ◌≤◌, ◌<◌}
use native.Mathlib.Nat.{add-le-add, mul-le-mul, mul-pos, mul-sub, mul-mul-mul_comm}
use native.Mathlib.Omega.{arith}
use Rattle.algebra.specs.Integer.{Z, ◌⊛◌, opp, ◌≐◌, ◌≼◌, ◌≺◌}
use Rattle.algebra.specs.Squares.{above, below, signed_square, OverRootLe}
use Rattle.algebra.proofs.Booleans.{less_or_not}
use Rattle.algebra.proofs.Integer.{le_antisym, order_cases, multiple_mono, multiple_cancel, multiple_same}
use Rattle.algebra.proofs.Integer.{le_resp}

signed_square_mono : (a b : Z) → a ≼ b → signed_square a ≼ signed_square b
signed_square_mono a b h =
    let up : above a ≤ above b = omega arith in
    let down : below b ≤ below a = omega arith in
    add-le-add (mul-le-mul up up) (mul-le-mul down down)

signed_square_rises : (a b : Z) → a ≺ b → signed_square a ≺ signed_square b
signed_square_rises a b h = by_part (less_or_not (above a) (above b))
  where
    larger : (m n : ℕ) → m < n → m * m < n * n
    larger m n h = let squared : (m + 1) * (m + 1) ≤ n * n = mul-le-mul (omega arith) (omega arith) in omega arith

    by_part : (above a < above b) ⊎ (above b ≤ above a) → signed_square a ≺ signed_square b
    by_part (inl up) =
        let down : below b ≤ below a = omega arith in
        let squared : below b * below b ≤ below a * below a = mul-le-mul down down in
        let strict = larger (above a) (above b) up in
        omega arith
    by_part (inr same) =
        let down : below b < below a = omega arith in
        let up : above a ≤ above b = omega arith in
        let squared : above a * above a ≤ above b * above b = mul-le-mul up up in
        let strict = larger (below b) (below a) down in
        omega arith

signed_square_reflects : (a b : Z) → signed_square a ≼ signed_square b → a ≼ b
signed_square_reflects a b h = by_order (order_cases a b)
  where
    not_both : (x y : Z) → x ≼ y → y ≺ x → ⊥
    not_both x y h k = omega arith

    by_order : (a ≼ b) ⊎ (b ≺ a) → a ≼ b
    by_order (inl k) = k
    by_order (inr k) = absurd (not_both (signed_square a) (signed_square b) h (signed_square_rises b a k))

signed_square_same : (a b : Z) → a ≐ b → signed_square a ≐ signed_square b
signed_square_same a b h =
    le_antisym (signed_square a) (signed_square b) (signed_square_mono a b (omega arith))
    (signed_square_mono b a (omega arith))

signed_square_scale : (k : ℕ) (a : Z) → signed_square (k ⊛ a) ≡ (k * k) ⊛ signed_square a
signed_square_scale k a = λ i. (part a.0 a.1 i, part a.1 a.0 i)
  where
    part : (x y : ℕ) → (k * x - k * y) * (k * x - k * y) ≡ k * k * ((x - y) * (x - y))
    part x y = ap (λ (n : ℕ). n * n) (sym (mul-sub k x y)) ∙ mul-mul-mul_comm k (x - y) k (x - y)

-- t (l a) ≤ t (k a') and l (k d) ≤ l (t a): k (l d) ≤ k (t a')
chain : (t k l : ℕ) (d a a' : Z) → t ⊛ (l ⊛ a) ≼ t ⊛ (k ⊛ a') → l ⊛ (k ⊛ d) ≼ l ⊛ (t ⊛ a) → k ⊛ (l ⊛ d) ≼ k ⊛ (t ⊛ a')
chain t k l d a a' h h' = omega arith

-- d / √t ≤ a / b and a / b ≤ a' / b'
pub over_root_weaken : (d a a' : Z) (t b b' : ℕ) → 0 < b → b' ⊛ a ≼ b ⊛ a' → OverRootLe d t a b → OverRootLe d t a' b'
over_root_weaken d a a' t b b' b_pos quotients h =
    multiple_cancel (b * b) ((b' * b') ⊛ signed_square d) (t ⊛ signed_square a') (mul-pos b_pos b_pos)
    (chain t (b * b) (b' * b') (signed_square d) (signed_square a) (signed_square a')
    (multiple_mono t ((b' * b') ⊛ signed_square a) ((b * b) ⊛ signed_square a') squares)
    (multiple_mono (b' * b') ((b * b) ⊛ signed_square d) (t ⊛ signed_square a) h))
  where
    squares : (b' * b') ⊛ signed_square a ≼ (b * b) ⊛ signed_square a'
    squares =
        subst (λ (x : Z). x ≼ (b * b) ⊛ signed_square a') (signed_square_scale b' a)
        (subst (λ (x : Z). signed_square (b' ⊛ a) ≼ x) (signed_square_scale b a')
        (signed_square_mono (b' ⊛ a) (b ⊛ a') quotients))

-- the numbers count, not their pairs
pub over_root_same : (d d' a a' : Z) (t b : ℕ) → d ≐ d' → a ≐ a' → OverRootLe d t a b → OverRootLe d' t a' b
over_root_same d d' a a' t b d_same a_same h =
    le_resp ((b * b) ⊛ signed_square d) ((b * b) ⊛ signed_square d') (t ⊛ signed_square a) (t ⊛ signed_square a')
    (multiple_same (b * b) (signed_square d) (signed_square d') (signed_square_same d d' d_same))
    (multiple_same t (signed_square a) (signed_square a') (signed_square_same a a' a_same)) h

-- v ≤ d / √t ≤ a / b
pub over_root_order : (d v a : Z) (t b : ℕ) → 0 < t → OverRootLe (opp d) t (opp v) 1 → OverRootLe d t a b → b ⊛ v ≼ a
over_root_order d v a t b t_pos low high =
    signed_square_reflects (b ⊛ v) a
    (subst (λ (x : Z). x ≼ signed_square a) (sym (signed_square_scale b v))
    (multiple_cancel t ((b * b) ⊛ signed_square v) (signed_square a) t_pos
    (joined t (b * b) (signed_square v) (signed_square d) (signed_square a)
    (multiple_mono (b * b) (t ⊛ signed_square v) (signed_square d)
    (turned_round (signed_square d) (signed_square v) low)) high)))
  where
    turned_round : (d v : Z) → (1 * 1) ⊛ opp d ≼ t ⊛ opp v → t ⊛ v ≼ d
    turned_round d v h = omega arith

    joined : (t k : ℕ) (v d a : Z) → k ⊛ (t ⊛ v) ≼ k ⊛ d → k ⊛ d ≼ t ⊛ a → t ⊛ (k ⊛ v) ≼ t ⊛ a
    joined t k v d a h l = omega arith
