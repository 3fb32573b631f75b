-- What is left, or 9. Assumes nothing.
use mathlib.Core.Path.{sym, ◌∙◌}
use Rattle.contact_definitions.specs.Clip.{b2_clip_segment_to_line}
use Rattle.collision.proofs.b2_collision.b2_clip_segment_to_line.Goals as goal

pub returns-then-clip_in_range : goal.returns-then-clip_in_range
unfolding b2_clip_segment_to_line
returns-then-clip_in_range c =
    simp (sym c.clip_in_range.ensures ∙ c.if-clip_in_range.true, c.clip_ends.ensures)

pub returns : goal.returns
unfolding b2_clip_segment_to_line
returns c = simp (sym c.clip_in_range.ensures ∙ c.if-clip_in_range.false)
