-- `subnormal_digits` meets its contract. The loop's invariant: f * 2^g stays b * 2^128, and g is from 105 to 128. Its
-- measure is what f lacks. Assumes nothing.
use Rattle.std.proofs.Common.{◌≡◌, ◌+◌, ◌-◌, ◌*◌, ◌^◌, ◌<◌, ◌≤◌}
use Rattle.sqrt.proofs.digits.subnormal_digits.Given as goal

abbrev pub invariant-loop-f : goal.invariant-loop-f
invariant-loop-f l = (0 < l.f) × (l.f < 2 ^ 24) × (l.g ≤ 128) × (l.b * 2 ^ 149 ≡ l.f * 2 ^ (l.g + 21)) × (105 ≤ l.g)

abbrev pub decreases-loop-f : goal.decreases-loop-f
decreases-loop-f l = 2 ^ 24 - l.f
