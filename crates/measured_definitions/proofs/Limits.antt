-- The tests of the limits decide the limits. Assumes nothing.
use lib.IntN.{ℤ, pos, negsuc}
use Rattle.algebra.specs.Signed.{number}
use Rattle.algebra.proofs.Booleans.{Decides, decides_both}
use Rattle.algebra.proofs.Signed.{at_most}
use Rattle.measured_definitions.specs.declared.Span.{Span}
use Rattle.measured_definitions.specs.declared.MeasuredCircle.{MeasuredCircle}
use Rattle.measured_definitions.specs.declared.MeasuredBox.{MeasuredBox}
use Rattle.measured_definitions.specs.Spans.{Limited}
use Rattle.measured_definitions.specs.Circles.{CircleLimits}
use Rattle.measured_definitions.specs.Boxes.{BoxLimits}
use Rattle.measured_definitions.specs.Axes.{in_limits}
use Rattle.measured_definitions.specs.MeasuredCircles.{circle_in_limits}
use Rattle.measured_definitions.specs.MeasuredBoxes.{box_in_limits}

pub limits_of : (least : ℤ) (s : Span) → Decides (in_limits least s) (Limited (number least) s)
unfolding in_limits
limits_of least s =
    let all = decides_both _ _ (decides_both _ _ (at_most least s.lowest) (at_most s.lowest s.highest))
    (at_most s.highest (pos 1024)) in
    record {
      holds = λ e. let h = all.holds e in record { from = h.0.0; ordered = h.0.1; to = h.1 };
      fails = λ e l. all.fails e ((l.from, l.ordered), l.to);
    }

pub circle_limits : (a : MeasuredCircle) → Decides (circle_in_limits a) (CircleLimits a)
unfolding circle_in_limits
circle_limits a =
    let all = decides_both _ _ (decides_both _ _ (limits_of (negsuc 1023) a.x) (limits_of (negsuc 1023) a.y))
    (limits_of (pos 0) a.radius) in
    record {
      holds = λ e. let h = all.holds e in record { x = h.0.0; y = h.0.1; radius = h.1 };
      fails = λ e l. all.fails e ((l.x, l.y), l.radius);
    }

pub box_limits : (a : MeasuredBox) → Decides (box_in_limits a) (BoxLimits a)
unfolding box_in_limits
box_limits a =
    let all = decides_both _ _
    (decides_both _ _ (decides_both _ _ (limits_of (negsuc 1023) a.x) (limits_of (negsuc 1023) a.y))
    (limits_of (pos 0) a.hx)) (limits_of (pos 0) a.hy) in
    record {
      holds = λ e. let h = all.holds e in record { x = h.0.0.0; y = h.0.0.1; hx = h.0.1; hy = h.1 };
      fails = λ e l. all.fails e (((l.x, l.y), l.hx), l.hy);
    }
