-- Comparing with a square root by whole numbers: z ↦ z |z| rises strictly, so d / √t ≤ a / b, for t and b above 0,
-- is d |d| b² ≤ a |a| t. Definitions only.
use Rattle.std.specs.Prelude.{ℕ, ◌-◌, ◌*◌}
use Rattle.algebra.specs.Integer.{Z, ◌⊛◌, ◌≼◌}

-- the size of a number above 0, or 0; and that of one below 0, or 0
abbrev pub above : Z → ℕ
above z = z.0 - z.1

abbrev pub below : Z → ℕ
below z = z.1 - z.0

-- z |z|
abbrev pub signed_square : Z → Z
signed_square z = (above z * above z, below z * below z)

-- d / √t ≤ a / b
abbrev pub OverRootLe : Z → ℕ → Z → ℕ → Type 0
OverRootLe d t a b = (b * b) ⊛ signed_square d ≼ t ⊛ signed_square a
