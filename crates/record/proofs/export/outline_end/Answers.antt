-- The length by the count, at most that of eight points. Assumes nothing.
use Prim.Native.Nat.{ℕ, ◌+◌}
use mathlib.Core.Path.{◌≡◌, ◌∙◌, ap}
use native.Mathlib.Omega.{arith}
use Rattle.record_definitions.specs.Frame.{frame_length}
use Rattle.record_definitions.proofs.Exported.{length_at_most}
use Rattle.record.proofs.export.outline_end.Goals as goal

pub overflow_add-result : goal.overflow_add-result
overflow_add-result c =
    let length : c.unwrap_or.result ≡ frame_length 2 c.byte.result = c.unwrap_or.ensures ∙ c.frame_length.ensures.length in
    omega (arith, length, length_at_most c.byte.result)

pub returns : goal.returns
returns c =
    let length : c.unwrap_or.result ≡ frame_length 2 c.byte.result = c.unwrap_or.ensures ∙ c.frame_length.ensures.length in (
      ap (λ (n : ℕ). c.args.at + n) (length ∙ ap (frame_length 2) c.byte.ensures),
      omega (arith, length, length_at_most c.byte.result),
    )
