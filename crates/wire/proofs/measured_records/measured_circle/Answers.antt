-- Three spans. Assumes nothing.
use Rattle.wire.specs.MeasuredRecords.{measured_circle_at}
use Rattle.wire.proofs.measured_records.measured_circle.Goals as goal

pub returns : goal.returns
unfolding measured_circle_at
returns c =
    λ i. record { x = c.span-x.ensures i; y = c.span-y.ensures i; radius = c.span-radius.ensures i }
