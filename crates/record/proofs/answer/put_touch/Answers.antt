-- The head; with points the normal and each point, each behind the last. Assumes nothing.
use native.Mathlib.Omega.{arith}
use Rattle.algebra.proofs.Buffer.{over_next}
use Rattle.lines.specs.Fields.{vector_bytes}
use Rattle.record_definitions.specs.Answer.{point_bytes, head_bytes}
use Rattle.record.proofs.Parts.{with_normal, with_first, head_length, with_normal_length, with_first_length}
use Rattle.record.proofs.Parts.{no_point_put, one_point_put, two_points_put}
use Rattle.record.proofs.answer.put_touch.Goals as goal

pub returns-then-t-eq0 : goal.returns-then-t-eq0
returns-then-t-eq0 c =
    let put_head' = c.put_head in
    let args' = c.args in
    record { put = no_point_put args'.t args'.out.now _ c.if-t-eq0.true put_head'.ensures; upper_bound = omega arith }

pub returns-then-t-eq1 : goal.returns-then-t-eq1
returns-then-t-eq1 c =
    let put_point' = c.put_point in
    let put_vector' = c.put_vector in
    let if1' = c.if-t-eq0 in
    let put_head' = c.put_head in
    let args' = c.args in
    let t = args'.t in
    let old = args'.out.now in
    let normal = over_next (head_bytes t) (vector_bytes t.normal) old _ _ 13 (head_length t) put_head'.ensures
    put_vector'.ensures in
    let first = over_next (with_normal t) (point_bytes t.first) old _ _ 21 (with_normal_length t) normal
    put_point'.ensures in
    record { put = one_point_put t old _ if1'.false c.if-t-eq1.true first; upper_bound = omega arith }

pub returns : goal.returns
returns c =
    let put_point2' = c.put_point-2 in
    let if2' = c.if-t-eq1 in
    let put_point' = c.put_point in
    let put_vector' = c.put_vector in
    let if1' = c.if-t-eq0 in
    let put_head' = c.put_head in
    let args' = c.args in
    let t = args'.t in
    let old = args'.out.now in
    let normal = over_next (head_bytes t) (vector_bytes t.normal) old _ _ 13 (head_length t) put_head'.ensures
    put_vector'.ensures in
    let first = over_next (with_normal t) (point_bytes t.first) old _ _ 21 (with_normal_length t) normal
    put_point'.ensures in
    let second = over_next (with_first t) (point_bytes t.second) old _ _ 37 (with_first_length t) first
    put_point2'.ensures in
    record { put = two_points_put t old _ if1'.false if2'.false second; upper_bound = omega arith }
