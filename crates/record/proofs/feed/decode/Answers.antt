-- The bytes, their kind, then the place of each body. Assumes nothing.
use mathlib.Core.Path.{sym}
use native.Mathlib.Omega.{arith}
use lib.Seq.{length-take-le}
use Rattle.record.proofs.feed.decode.Goals as goal

pub slice_bounds-byte-end-2 : goal.slice_bounds-byte-end-2
slice_bounds-byte-end-2 c = sym (length-take-le _ _ (omega arith))

pub slice_bounds-place-end-2 : goal.slice_bounds-place-end-2
slice_bounds-place-end-2 c = sym (length-take-le _ _ (omega arith))

pub slice_bounds-place-end-4 : goal.slice_bounds-place-end-4
slice_bounds-place-end-4 c = sym (length-take-le _ _ (omega arith))
