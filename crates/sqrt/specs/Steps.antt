-- Request 04: each operand takes exactly one of the three steps, and what that step gives. Said by the papers' words
-- and by exact values, in whole numbers of 2^-149: √x has the square `mag x * metre`. Definitions only.
use Rattle.std.specs.Prelude.{◌≡◌, ◌+◌, ◌*◌, ◌<◌, Bool, true, false, ◌⊎◌, Float}
use Rattle.std.specs.Float.{nan, inf, binary32}
use Rattle.algebra.specs.Integer.{whole, ◌≐◌, ◌≺◌}
use Rattle.rounding.specs.Value.{metre, F32, mag, val}
use Rattle.sqrt.specs.declared.root.Rooted.{Rooted}
use Rattle.sqrt.specs.declared.root.Rooted.TheVariants as rooted
use Rattle.sqrt.specs.Sqrt.{root_by_steps, sqrt}

-- r r = x, by value
abbrev pub SquareIs : Float → Float → Type 0
SquareIs x r = mag r * mag r ≡ mag x * metre

-- ---- which operands: zeros, infinities, NaNs and all below 0
pub data Special (x : Float) : Type 0 where
  is_nan : x ≡ nan → Special x
  is_infinite : (s : Bool) → x ≡ inf s → Special x
  is_zero : F32 x → val x ≐ whole 0 → Special x
  is_below_zero : F32 x → val x ≺ whole 0 → Special x

-- the others whose root is an f32
pub record Exact (x : Float) : Type 0 where
  pub not_special : Special x → ⊥
  pub root : Float
  pub root_own : F32 root
  pub root_is : SquareIs x root

-- the rest
pub record Rounded (x : Float) : Type 0 where
  pub not_special : Special x → ⊥
  pub not_exact : Exact x → ⊥

-- ---- what they give: the same zero, +∞, NaN
pub record SpecialGives (x r : Float) : Type 0 where
  pub of_nan : x ≡ nan → r ≡ nan
  pub of_plus_infinity : x ≡ inf false → r ≡ inf false
  pub of_minus_infinity : x ≡ inf true → r ≡ nan
  pub of_zero : F32 x → val x ≐ whole 0 → r ≡ x
  pub of_below_zero : F32 x → val x ≺ whole 0 → r ≡ nan

-- the one f32 above 0 whose square is x
pub record ExactGives (x r : Float) : Type 0 where
  pub own : F32 r
  pub positive : whole 0 ≺ val r
  pub is : SquareIs x r
  pub only : (y : Float) → F32 y → whole 0 ≺ val y → SquareIs x y → y ≡ r

-- the f32 r lies nearer to √x than any other y from 0 on: √x is above the middle between r and a lower y and below the
-- middle between r and a higher one, by squares. It is in no middle, so no tie happens. Below 0 all are further off.
pub record Nearest (x r : Float) : Type 0 where
  pub own : F32 r
  pub positive : whole 0 ≺ val r
  pub above : (y : Float) → F32 y → mag y < mag r → (mag y + mag r) * (mag y + mag r) < 4 * (mag x * metre)
  pub below : (y : Float) → F32 y → mag r < mag y → 4 * (mag x * metre) < (mag r + mag y) * (mag r + mag y)

-- the one nearest f32
pub record RoundedGives (x r : Float) : Type 0 where
  pub nearest : Nearest x r
  pub only : (y : Float) → Nearest x y → y ≡ r

-- ---- exactly one step, which is the one that is told, and what it gives
abbrev pub Told : Float → Rooted → Type 0
Told x (rooted.Special r) = Special x
Told x (rooted.Exact r) = Exact x
Told x (rooted.Rounded r) = Rounded x

pub record ThreeSteps (x : Float) : Type 0 where
  pub one : Special x ⊎ (Exact x ⊎ Rounded x)
  pub special_not_exact : Special x → Exact x → ⊥
  pub special_not_rounded : Special x → Rounded x → ⊥
  pub exact_not_rounded : Exact x → Rounded x → ⊥
  pub told : Told x (root_by_steps binary32 x)
  pub special_gives : Special x
      → (root_by_steps binary32 x ≡ rooted.Special (sqrt binary32 x)) × SpecialGives x (sqrt binary32 x)
  pub exact_gives : Exact x
      → (root_by_steps binary32 x ≡ rooted.Exact (sqrt binary32 x)) × ExactGives x (sqrt binary32 x)
  pub rounded_gives : Rounded x
      → (root_by_steps binary32 x ≡ rooted.Rounded (sqrt binary32 x)) × RoundedGives x (sqrt binary32 x)
