-- `subnormal_digits` meets its contract. The loop's invariant: f * 2^g stays b * 2^128, and g is from 105 to 128. Its
-- measure is what f lacks. Assumes nothing.
use Rattle.std.proofs.Common.{◌<◌, ◌∙◌, arith}
use Rattle.sqrt.proofs.RootPattern.{doubled_scale, scale_above_105}
use Rattle.sqrt.proofs.RootDigits.{subnormal_digits_of}
use Rattle.sqrt.proofs.digits.subnormal_digits.Goals as goal

pub loop-f-preserved : goal.loop-f-preserved
loop-f-preserved c =
    let f = c.loop-f.f in
    let g = c.loop-f.g in
    let same = c.loop-f.invariant.3 in
    let g_high : 105 < g = scale_above_105 c.args.b f g (omega arith) (omega arith) same in
    (omega arith, omega arith, omega arith, same ∙ doubled_scale f g (omega arith), omega arith)

pub returns : goal.returns
returns c =
    let loop = c.loop-f in
    subnormal_digits_of c.args.b loop.f loop.g c.bisected_root.result
    (omega arith) (omega arith) loop.invariant.3 (omega arith) (omega arith) (omega arith) (omega arith) c.bisected_root.ensures
