-- A number measured as something from a lowest to a highest one: the limits of a span, and the numbers inside. They
-- are fractions v / m, whole numbers where m is 1; in units of 1/(256 m) m the number is v and the ends of the span are
-- m times as large. Definitions only.
use Rattle.std.specs.Prelude.{ℕ}
use Rattle.algebra.specs.Integer.{Z, whole, opp, ◌⊛◌, ◌≼◌}
use Rattle.algebra.specs.Signed.{number}
use Rattle.measured_definitions.specs.declared.Span.{Span}

abbrev pub low : Span → Z
low s = number s.lowest

abbrev pub high : Span → Z
high s = number s.highest

-- ---- the limits: coordinates from -1,024 to 1,024, radii and half-widths from 0
abbrev pub measure_limit : ℕ
measure_limit = 1024

pub record Limited (least : Z) (s : Span) : Type 0 where
  pub from : least ≼ low s
  pub ordered : low s ≼ high s
  pub to : high s ≼ whole measure_limit

abbrev pub Coordinate : Span → Type 0
Coordinate s = Limited (opp (whole measure_limit)) s

abbrev pub Size : Span → Type 0
Size s = Limited (whole 0) s

-- ---- v / m lies in the span
abbrev pub Inside : ℕ → Span → Z → Type 0
Inside m s v = (m ⊛ low s ≼ v) × (v ≼ m ⊛ high s)
