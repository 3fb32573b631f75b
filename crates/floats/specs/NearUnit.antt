-- How near to unit a vector is that normalising made, by the bounds N0, N1 and N2 of demand 3's proof. Lengths are
-- whole numbers of 2^-149 m, the value 1 is `metre`, and a tick is 2^-25 of it. Definitions only.
use Rattle.std.specs.Prelude.{ℕ, ◌+◌, ◌*◌}
use Rattle.algebra.specs.Integer.{whole, ◌⊞◌, ◌⊟◌, ◌⊠◌, Abs}
use Rattle.rounding.specs.Value.{metre, tick, F32, val}
use Rattle.floats.specs.declared.b2_math.B2vec2.{B2vec2}

-- N0: 1 + 2^-21
abbrev pub normal_bound : ℕ
normal_bound = metre + 16 * tick

-- N1: 2^-22, times a length l
abbrev pub direction_error : ℕ → ℕ
direction_error l = 8 * (tick * l)

-- N2: 2^-19
abbrev pub length_error : ℕ
length_error = 64 * tick

-- no coordinate is above 1 + 2^-21 in size, and the squared length is 1 within 2^-19
pub record NearUnit (w : B2vec2) : Type 0 where
  pub x_own : F32 w.x
  pub y_own : F32 w.y
  pub x_most : Abs (val w.x) normal_bound
  pub y_most : Abs (val w.y) normal_bound
  pub unit : Abs (val w.x ⊠ val w.x ⊞ val w.y ⊠ val w.y ⊟ whole (metre * metre)) (length_error * metre)

-- ---- such a vector turned by a heading, which is on the unit circle within 2^-22: 2^-18
abbrev pub turned_error : ℕ
turned_error = 128 * tick

pub record TurnedUnit (w : B2vec2) : Type 0 where
  pub x_own : F32 w.x
  pub y_own : F32 w.y
  pub unit : Abs (val w.x ⊠ val w.x ⊞ val w.y ⊠ val w.y ⊟ whole (metre * metre)) (turned_error * metre)
