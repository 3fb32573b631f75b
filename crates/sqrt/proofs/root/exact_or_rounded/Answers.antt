-- `exact_or_rounded` takes the step of its definition: exact where the square of the digits is the number whose root is
-- taken. Assumes nothing.
use Rattle.std.proofs.Common.{arith}
use Rattle.rounding.proofs.Nan.{not_nan_pattern}
use Rattle.sqrt.proofs.RootPattern.{nearest_root_le_2^24}
use Rattle.sqrt.proofs.RootDigits.{exact_step, rounded_step}
use Rattle.sqrt.proofs.root.exact_or_rounded.Goals as goal

pub float_from_bits-root : goal.float_from_bits-root
float_from_bits-root c =
    let found = c.args.d.rounded in
    let r_small = nearest_root_le_2^24 _ _ found.n_high found.nearest in
    let k_small = found.k_high in
    not_nan_pattern _ (omega arith)

pub returns-then-r-d : goal.returns-then-r-d
returns-then-r-d c = exact_step _ _ _ c.args.d.rounded c.if-r-d.true

pub returns : goal.returns
returns c = rounded_step _ _ _ c.args.d.rounded c.if-r-d.false
