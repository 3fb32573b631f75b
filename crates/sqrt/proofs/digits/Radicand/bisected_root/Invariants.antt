-- The loop's invariant: low² ≤ n < high², with high at most 2^24. Its measure is
-- the interval. Assumes nothing.
use Rattle.std.proofs.Common.{◌-◌, ◌*◌, ◌^◌, ◌<◌, ◌≤◌}
use Rattle.sqrt.proofs.digits.Radicand.bisected_root.Given as goal

abbrev pub invariant-loop-high : goal.invariant-loop-high
invariant-loop-high l = (l.low < l.high) × (l.high ≤ 2 ^ 24) × (l.low * l.low ≤ l.n) × (l.n < l.high * l.high)

abbrev pub decreases-loop-high : goal.decreases-loop-high
decreases-loop-high l = l.high - l.low
