-- Two words. Assumes nothing.
use mathlib.Core.Path.{ap, ◌∙◌}
use mir.Facts.{to_z-of_z}
use mir.Syntax.{w32}
use Rattle.wire.specs.Words.{signed}
use Rattle.wire.specs.MeasuredRecords.{span_at}
use Rattle.wire.proofs.TwosComplement.{signed_is}
use Rattle.wire.proofs.measured_records.span.Goals as goal

pub returns : goal.returns
unfolding span_at
returns c =
    let low = to_z-of_z {w = w32} (record { sfits = c.cast_signed-lowest.type_inv }) ∙ c.cast_signed-lowest.ensures
    ∙ signed_is c.word.result c.word.type_inv ∙ ap signed c.word.ensures in
    let high = to_z-of_z {w = w32} (record { sfits = c.cast_signed-highest.type_inv }) ∙ c.cast_signed-highest.ensures
    ∙ signed_is c.word-2.result c.word-2.type_inv ∙ ap signed c.word-2.ensures in
    λ i. record { lowest = low i; highest = high i }
