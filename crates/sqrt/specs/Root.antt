-- A square root rounded to a whole number, for the contracts of digits.rt; and a root within a relative 2^-24, as
-- squares. Definitions only.
use Rattle.std.specs.Prelude.{◌≡◌, ℕ, ◌+◌, ◌-◌, ◌*◌, ◌^◌, ◌<◌, ◌≤◌, from_bits}
use Rattle.std.specs.Float.{binary32}
use Rattle.sqrt.specs.Sqrt.{exact_or_rounded, root_by_steps}

-- r is √n to the nearest whole number: r - 1/2 < √n < r + 1/2, both sides squared. No whole n makes a tie.
pub record NearestRoot (n r : ℕ) : Type 0 where
  pub not_over : r * r < n + r
  pub not_under : n ≤ r * r + r

-- The digits of √(n * 4^k), for an n of 47 or 48 digits: r is √n to the nearest whole number.
pub record RoundedDigits (n r k : ℕ) : Type 0 where
  pub n_low : 2 ^ 46 ≤ n
  pub n_high : n < 2 ^ 48
  pub k_low : 1 ≤ k
  pub k_high : k < 190
  pub nearest : NearestRoot n r

-- Those of the root of the number above 0 whose pattern is b: its root is √(n * 4^k) smallest units.
pub record DigitsOf (b n r k : ℕ) : Type 0 where
  pub steps : root_by_steps binary32 (from_bits binary32 b) ≡ exact_or_rounded binary32 (n * 4 ^ k)
  pub found : RoundedDigits n r k

-- g is √y within a relative 2^-24, for gg = g g: (1 - 2^-24)² g² ≤ y ≤ (1 + 2^-24)² g²
abbrev pub RelativeSquare : ℕ → ℕ → Type 0
RelativeSquare y gg = ((2 ^ 24 - 1) * (2 ^ 24 - 1) * gg ≤ 2 ^ 48 * y) × (2 ^ 48 * y ≤ (2 ^ 24 + 1) * (2 ^ 24 + 1) * gg)
