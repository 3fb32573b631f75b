-- Request 01 of document 02: headings by turn number. Sine and cosine of 4,096ths of a turn come from a quarter wave by
-- sign and mirror; and what is shown of that table and of every heading. Definitions only.
use Rattle.std.specs.Prelude.{ℕ, suc, ◌+◌, ◌-◌, ◌*◌, ◌/◌, ◌%◌, ◌^◌, ◌≤◌, ◌<◌, ◌≡◌, cond, List, map, eqb, get_or, Float}
use Rattle.std.specs.Float.{binary32}
use Rattle.std.specs.Float.Ieee.{neg, eq, of_bits}
use Rattle.algebra.specs.Integer.{◌≼◌}
use Rattle.rounding.specs.Value.{metre, F32, mag, val}
use Rattle.rounding.specs.Literals.{zero32, one32}
use Rattle.floats.specs.declared.b2_math.B2Rot.{B2Rot}
use Rattle.floats.specs.B2Math.{rot}
use Rattle.headings.specs.Sines.{sines}

-- T(k)
unfoldable pub quarter_wave : ℕ → Float
quarter_wave k = of_bits binary32 (get_or sines k 0)

-- T as the row of its 1,025 entries: the program's table
unfoldable pub quarter_waves : List Float
quarter_waves = map (of_bits binary32) sines

-- -x; a zero is always +0
unfoldable pub opposite : Float → Float
opposite x = cond (eq x zero32) zero32 (neg x)

-- With k the turn number's remainder by 1,024, the sine in quarters 0 to 3 is T(k), T(1024 - k), -T(k), -T(1024 - k),
-- the cosine T(1024 - k), -T(k), -T(1024 - k), T(k)
abbrev pub in_quarter : ℕ → Float → Float → B2Rot
in_quarter quarter t mirror =
    cond (eqb quarter 0) (rot t mirror)
    (cond (eqb quarter 1) (rot mirror (opposite t))
    (cond (eqb quarter 2) (rot (opposite t) (opposite mirror))
    (rot (opposite mirror) t)))

-- of turn numbers to 4,095; the frame refuses those above
unfoldable pub heading : ℕ → B2Rot
heading number = in_quarter (number / 1024) (quarter_wave (number % 1024)) (quarter_wave (1024 - number % 1024))

-- ---- what is shown of the whole table
-- a² + b² is within 2^-22 of 1, by exact values
pub record UnitCircle (a b : Float) : Type 0 where
  pub low : (2 ^ 22 - 1) * (metre * metre) ≤ 2 ^ 22 * (mag a * mag a + mag b * mag b)
  pub high : 2 ^ 22 * (mag a * mag a + mag b * mag b) ≤ (2 ^ 22 + 1) * (metre * metre)

-- the table starts at 0, ends at 1, never falls, and each entry squared plus its mirror squared is within 2^-22 of 1
pub record QuarterWave (t : ℕ → Float) : Type 0 where
  pub own : (k : ℕ) → k ≤ 1024 → F32 (t k)
  pub starts : t 0 ≡ zero32
  pub ends : t 1024 ≡ one32
  pub rises : (k : ℕ) → k < 1024 → val (t k) ≼ val (t (suc k))
  pub mirrored : (k : ℕ) → k ≤ 1024 → UnitCircle (t k) (t (1024 - k))

-- ---- what is shown of every heading
-- an f32 of at most 1 in size; if it is a zero, +0
pub record Component (x : Float) : Type 0 where
  pub own : F32 x
  pub small : mag x ≤ metre
  pub plus_zero : mag x ≡ 0 → x ≡ zero32

pub record Heading (q : B2Rot) : Type 0 where
  pub sine : Component q.s
  pub cosine : Component q.c
  pub circle : UnitCircle q.s q.c

-- the four quarter turns, bit for bit
pub record QuarterTurns : Type 0 where
  pub unturned : heading 0 ≡ rot zero32 one32
  pub to_left : heading 1024 ≡ rot one32 zero32
  pub about : heading 2048 ≡ rot zero32 (neg one32)
  pub to_right : heading 3072 ≡ rot (neg one32) zero32
