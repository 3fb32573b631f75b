-- The two ways of the test. Assumes nothing.
use mathlib.Core.Path.{sym, ◌∙◌}
use Rattle.wall_contacts.specs.EdgeCircle.{end_touch}
use Rattle.wall_contacts.proofs.edge_circle.end_touch.Goals as goal

pub returns-then-farther_than : goal.returns-then-farther_than
unfolding end_touch
returns-then-farther_than c =
    let farther' = c.farther_than in
    simp (sym farther'.ensures ∙ c.if-farther_than.true)

pub returns : goal.returns
unfolding end_touch
returns c =
    let farther' = c.farther_than in
    simp (sym farther'.ensures ∙ c.if-farther_than.false)
