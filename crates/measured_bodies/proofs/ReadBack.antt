-- A signed number is read back from its bits as it is, where it fits; the numbers of spans within the limits are small
-- enough for the code's sums, differences and products too. Assumes nothing.
use native.Mathlib.Omega.{arith}
use lib.Dec.{lit≤}
use lib.IntN.{ℤ}
use Rattle.algebra.specs.Integer.{Z, whole, opp, ◌≼◌, Abs}
use Rattle.algebra.proofs.Signed.{read, Held, held}
use Rattle.measured_definitions.specs.declared.Span.{Span}
use Rattle.measured_definitions.specs.declared.WholeCircle.{WholeCircle}
use Rattle.measured_definitions.specs.declared.WholeBox.{WholeBox}
use Rattle.measured_definitions.specs.declared.MeasuredCircle.{MeasuredCircle}
use Rattle.measured_definitions.specs.declared.MeasuredBox.{MeasuredBox}
use Rattle.measured_definitions.specs.Spans.{Limited, Coordinate, Inside}
use Rattle.measured_definitions.specs.Circles.{CircleLimits, CircleChoice}
use Rattle.measured_definitions.specs.Boxes.{BoxLimits, BoxChoice}
use Rattle.measured_bodies.specs.Widths.{Short, ShortCircle, ShortBox}

pub record HeldEnds (s : Span) : Type 0 where
  pub low : Held (read s.lowest) s.lowest 1024
  pub high : Held (read s.highest) s.highest 1024

pub hold : (x : ℤ) → Short x → Held (read x) x 1024
hold x h = held x 1024 (lit≤ tt) h

-- ---- what is inside a span within the limits
short_inside : (l : Z) (s : Span) (v : Z) → opp (whole 1024) ≼ l → Limited l s → Inside 1 s v → Abs v 1024
short_inside l s v low limits h =
    let from = limits.from in
    let to = limits.to in
    let a = h.0 in
    let b = h.1 in
    (omega arith, omega arith)

pub held_ends : (s : Span) → Coordinate s → HeldEnds s
held_ends s l =
    let ordered = l.ordered in
    let low : Short s.lowest = short_inside _ s _ (omega arith) l (omega arith, omega arith) in
    let high : Short s.highest = short_inside _ s _ (omega arith) l (omega arith, omega arith) in
    record { low = hold s.lowest low; high = hold s.highest high }

pub short_circle : (a : MeasuredCircle) (w : WholeCircle) → CircleLimits a → CircleChoice a w → ShortCircle w
short_circle a w l h = record {
  x = short_inside _ _ _ (omega arith) l.x h.x;
  y = short_inside _ _ _ (omega arith) l.y h.y;
  radius = short_inside _ _ _ (omega arith) l.radius h.radius;
}

pub short_box : (a : MeasuredBox) (w : WholeBox) → BoxLimits a → BoxChoice a w → ShortBox w
short_box a w l h = record {
  x = short_inside _ _ _ (omega arith) l.x h.x;
  y = short_inside _ _ _ (omega arith) l.y h.y;
  hx = short_inside _ _ _ (omega arith) l.hx h.hx;
  hy = short_inside _ _ _ (omega arith) l.hy h.hy;
}
