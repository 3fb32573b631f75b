-- Four spans. Assumes nothing.
use Rattle.wire.specs.MeasuredRecords.{measured_box_at}
use Rattle.wire.proofs.measured_records.measured_box.Goals as goal

pub returns : goal.returns
unfolding measured_box_at
returns c =
    λ i. record {
      x = c.span-x.ensures i;
      y = c.span-y.ensures i;
      hx = c.span-hx.ensures i;
      hy = c.span-hy.ensures
          i;
    }
