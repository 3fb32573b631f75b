-- Entry 1 answers the outline of the request's points, or nothing where their number is not the request's length.
-- Assumes nothing.
use native.Mathlib.Omega.{arith}
use Rattle.wire.specs.Answers.{polygon_words}
use Rattle.wire.proofs.Bytes.{written_as, answered_words}
use Rattle.test_entries.proofs.SetEntry.{set_short, set_malformed, set_answered}
use Rattle.test_entries.proofs.outlines.set.Goals as goal

pub returns-then-input-lt152 : goal.returns-then-input-lt152
returns-then-input-lt152 c = set_short _ _ c.if-input-lt152.true

pub returns-then-input-n : goal.returns-then-input-n
returns-then-input-n c = set_malformed _ _ _ c.word-n.ensures c.if-input-n.true

pub returns : goal.returns
returns c =
    set_answered _ _ _ c.word-n.ensures _ _ _ _ _ _ c.if-input-n.false c.polygon-old.ensures
    c.points-points.ensures.0 (λ few. omega arith) c.b2_polygon_shape_set_core-answer.ensures
    (written_as _ _ _ _ _ (answered_words polygon_words _ _ _ c.of.ensures) c.put_polygon.ensures)
