-- The point, its separation and its age, each behind the last. Assumes nothing.
use mathlib.Core.Path.{refl}
use mathlib.Core.List.{◌++◌}
use Rattle.algebra.proofs.Buffer.{over_next}
use Rattle.lines.specs.Fields.{number_bytes, vector_bytes, float_bytes}
use Rattle.record_definitions.specs.Answer.{point_bytes}
use Rattle.record.proofs.answer.put_point.Goals as goal

pub returns : goal.returns
unfolding point_bytes
returns c =
    let put_number' = c.put_number in
    let put_float' = c.put_float in
    let put_vector' = c.put_vector in
    let args' = c.args in
    let p = args'.p in
    let old = args'.out.now in
    let separation = over_next (vector_bytes p.p) (float_bytes p.separation) old _ _ 8 refl
    put_vector'.ensures put_float'.ensures in
    over_next (vector_bytes p.p ++ float_bytes p.separation) (number_bytes p.age) old _ _ 12 refl separation
    put_number'.ensures
