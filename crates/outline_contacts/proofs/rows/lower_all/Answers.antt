-- The corners below j are passed so far, at every face. Assumes nothing.
use native.Mathlib.Omega.{arith}
use Rattle.outline_contacts.proofs.Lowest.{lowest_starts, lowest_next}
use Rattle.outline_contacts.proofs.rows.lower_all.Goals as goal

pub loop-j-init : goal.loop-j-init
loop-j-init c = (omega arith, lowest_starts _ _ _ _ _ _ _ _)

pub loop-j-preserved : goal.loop-j-preserved
loop-j-preserved c =
    let args = c.args in
    let loop = c.loop-j in (
      omega arith,
      lowest_next args.rows.now.nxs args.rows.now.nys args.rows.now.xs args.rows.now.ys args.v2s args.count2
          args.s.now args.n loop.j loop.s loop.invariant.1 _ _ (omega arith) (omega arith) c.lower.ensures,
    )
