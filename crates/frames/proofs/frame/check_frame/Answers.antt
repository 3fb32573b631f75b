-- In their order. Assumes nothing.
use mathlib.Core.Path.{sym, ◌∙◌}
use Rattle.record_definitions.specs.Frame.{frame_refusal}
use Rattle.frames.proofs.frame.check_frame.Goals as goal

pub returns-then-not-well_formed : goal.returns-then-not-well_formed
unfolding frame_refusal
returns-then-not-well_formed c = simp (sym c.well_formed-2.ensures ∙ c.if-not-well_formed.true)

pub returns-then-names_unknown : goal.returns-then-names_unknown
unfolding frame_refusal
returns-then-names_unknown c =
    simp
    (sym c.well_formed-2.ensures ∙ c.if-not-well_formed.false, sym c.names_unknown.ensures ∙ c.if-names_unknown.true)

pub returns : goal.returns
unfolding frame_refusal
returns c =
    simp
    (sym c.well_formed-2.ensures ∙ c.if-not-well_formed.false, sym c.names_unknown.ensures ∙ c.if-names_unknown.false)
