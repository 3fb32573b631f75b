-- What a clip leaves: its ends over the two output places, and their number. Definitions only.
use Rattle.std.specs.Prelude.{List, [], ◌∷◌, length}
use Rattle.algebra.specs.Buffer.{over}
use Rattle.contact_definitions.specs.declared.b2_collision.B2clipVertex.{B2clipVertex}
use Rattle.contact_definitions.specs.declared.b2_collision.Clip.{Clip}

abbrev pub left_over : List B2clipVertex → List B2clipVertex → Clip
left_over left old = record { out = over left old; count = length left }

abbrev pub two_ends : B2clipVertex → B2clipVertex → Clip
two_ends a b = record { out = a ∷ b ∷ []; count = 2 }
