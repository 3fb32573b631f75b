-- An axis taken apart: whether it says apart, its normal, zero where it does, and whether the face of the outline that
-- it names is one of its faces. Definitions only.
use Rattle.std.specs.Prelude.{Bool, true, false, ℕ, ◌<◌}
use Rattle.floats.specs.declared.b2_math.B2vec2.{B2vec2}
use Rattle.floats.specs.B2Math.{vec2}
use Rattle.shape_definitions.specs.Outline.{origin}
use Rattle.contact_definitions.specs.declared.axis.Axis.{Axis}
use Rattle.contact_definitions.specs.declared.axis.Axis.TheVariants.{Apart, FaceA, FaceB}

abbrev pub is_apart : Axis → Bool
is_apart (Apart s) = true
is_apart (FaceA s x y i) = false
is_apart (FaceB s x y i) = false

abbrev pub axis_normal : Axis → B2vec2
axis_normal (Apart s) = origin
axis_normal (FaceA s x y i) = vec2 x y
axis_normal (FaceB s x y i) = vec2 x y

-- where it names a face of the outline, that is one of the first count
abbrev pub place_below : ℕ → Axis → Type 0
place_below count (Apart s) = Unit {0}
place_below count (FaceA s x y i) = Unit {0}
place_below count (FaceB s x y i) = i < count
