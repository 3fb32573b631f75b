-- In their order or not. Assumes nothing.
use Prim.Native.Nat.{◌+◌}
use mathlib.Core.Path.{refl, sym, ◌∙◌}
use native.Mathlib.Nat.{zero-add}
use native.Mathlib.Omega.{arith}
use lib.Seq.{length-take-le}
use Rattle.record_definitions.proofs.Exported.{not_in_order, not_that_long, out_of_order, four_frames, run_said}
use Rattle.record.proofs.export.export_said.Goals as goal

pub returns-then-frames-second : goal.returns-then-frames-second
returns-then-frames-second c =
    let if1' = c.if-frames-second in
    let outline_end2' = c.outline_end-second in
    let outline_end' = c.outline_end-first in
    let args' = c.args in
    c.malformed.ensures
    ∙ out_of_order _
    (not_that_long args'.frames.now outline_end'.result (outline_end'.result + 18) outline_end2'.result
    (outline_end'.ensures.0 ∙ zero-add _) refl outline_end2'.ensures.0 if1'.true)

pub returns-then-not-begin_all : goal.returns-then-not-begin_all
returns-then-not-begin_all c =
    let if2' = c.if-not-begin_all in
    let begin_all' = c.begin_all in
    let outline_end2' = c.outline_end-second in
    let outline_end' = c.outline_end-first in
    let args' = c.args in
    c.malformed-then-not-begin_all.ensures
    ∙ out_of_order _
    (not_in_order args'.frames.now outline_end'.result (outline_end'.result + 18) outline_end2'.result
    (outline_end'.ensures.0 ∙ zero-add _) refl outline_end2'.ensures.0
    (sym begin_all'.ensures ∙ if2'.true))

pub slice_bounds-run-end : goal.slice_bounds-run-end
slice_bounds-run-end c = sym (length-take-le _ _ (omega arith))

pub run-requires : goal.run-requires
run-requires c =
    let if2' = c.if-not-begin_all in
    let begin_all' = c.begin_all in
    let if1' = c.if-frames-second in
    let outline_end2' = c.outline_end-second in
    let outline_end' = c.outline_end-first in
    let args' = c.args in
    four_frames args'.frames.now outline_end'.result (outline_end'.result + 18) outline_end2'.result
    (outline_end'.ensures.0 ∙ zero-add _) refl outline_end2'.ensures.0
    if1'.false (sym begin_all'.ensures ∙ if2'.false)

pub returns : goal.returns
returns c =
    let if2' = c.if-not-begin_all in
    let begin_all' = c.begin_all in
    let if1' = c.if-frames-second in
    let outline_end2' = c.outline_end-second in
    let outline_end' = c.outline_end-first in
    let args' = c.args in
    run_said args'.frames.now outline_end'.result (outline_end'.result + 18) outline_end2'.result
    (outline_end'.ensures.0 ∙ zero-add _) refl outline_end2'.ensures.0
    if1'.false (sym begin_all'.ensures ∙ if2'.false) c.run.result c.run.ensures
