-- A body that is defined by one frame and placed by the next, each alone in a fresh program. Definitions only.
use Rattle.std.specs.Prelude.{cond, List, ℕ, eqb}
use Rattle.shape_definitions.specs.Refusal.{accepted}
use Rattle.record_definitions.specs.declared.frame.Change.{Change}
use Rattle.record_definitions.specs.World.{blank_body, fresh_pair}
use Rattle.record_definitions.specs.Frame.{change}
use Rattle.record_definitions.specs.Export.{refusal_in}

-- what the first frame makes of a body without a shape
abbrev pub first_change : List ℕ → Change
first_change shape = change blank_body blank_body fresh_pair shape

-- what both make of it; where the first is refused, what that one does
unfoldable pub both_changes : List ℕ → List ℕ → Change
both_changes shape placement =
    cond (eqb (refusal_in (first_change shape).said) accepted)
    (change (first_change shape).body blank_body fresh_pair placement) (first_change shape)
