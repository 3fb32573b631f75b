-- The axis search's answer: its separation, its normal, and the scan for the axis that keeps the shapes farthest
-- apart. Definitions only.
use Rattle.std.specs.Prelude.{Bool, List, ℕ, Float}
use Rattle.std.specs.Float.Ieee.{lt}
use Rattle.algebra.specs.Loops.{scan}
use Rattle.floats.specs.declared.b2_math.B2vec2.{B2vec2}
use Rattle.contact_definitions.specs.declared.axis.Axis.{Axis}
use Rattle.contact_definitions.specs.declared.axis.Axis.TheVariants.{Apart, FaceA, FaceB}

abbrev pub face_a : Float → B2vec2 → ℕ → Axis
face_a separation normal i = FaceA separation normal.x normal.y i

abbrev pub face_b : Float → B2vec2 → ℕ → Axis
face_b separation normal i = FaceB separation normal.x normal.y i

abbrev pub separation_of : Axis → Float
separation_of (Apart s) = s
separation_of (FaceA s x y i) = s
separation_of (FaceB s x y i) = s

abbrev pub keeps_farther : Axis → Axis → Bool
keeps_farther best new = lt (separation_of best) (separation_of new)

-- the first axis of the greatest separation, begun at one
abbrev pub farthest : Axis → List Axis → Axis
farthest begin axes = scan keeps_farther begin axes
