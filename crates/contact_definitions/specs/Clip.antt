-- Clipping a segment to a line, b2_clip_segment_to_line: ends at distance ≤ 0 are kept, in order, and a point is
-- added only if distance0 × distance1 < 0; output places not reached are untouched. Refusal 9 for a number out of
-- range. Definitions only.
use Rattle.std.specs.Prelude.{Bool, not, cond, ◌&&◌, List, [], ◌∷◌, ℕ, length, Float}
use Rattle.std.specs.Float.{binary32}
use Rattle.std.specs.Float.Ieee.{sub, mul, div, le, lt}
use Rattle.algebra.specs.Buffer.{over}
use Rattle.floats.specs.declared.b2_math.B2vec2.{B2vec2}
use Rattle.rounding.specs.Literals.{zero32}
use Rattle.floats.specs.B2Math.{b2_add, b2_sub, b2_scale, b2_dot}
use Rattle.floats.specs.Ranges.{contact_number_in_range, contact_point_in_range}
use Rattle.shape_definitions.specs.Refusal.{accepted}
use Rattle.contact_definitions.specs.declared.b2_collision.B2clipVertex.{B2clipVertex}
use Rattle.contact_definitions.specs.Answers.{ClipAnswer}
use Rattle.shape_definitions.specs.Refusal.{contact_out_of_range}
use Rattle.contact_definitions.specs.Manifold.{vertex_feature, face_feature, as_byte, contact_id}

-- the distance of an end from the line, above 0 in front of it
unfoldable pub clip_distance : B2vec2 → Float → B2clipVertex → Float
clip_distance normal offset end = sub binary32 (b2_dot normal end.v) offset

-- the point where the segment crosses the line; a vertex of A hits the face of B that the first end names
unfoldable pub crossing : B2clipVertex → B2clipVertex → Float → Float → ℕ → B2clipVertex
crossing end0 end1 distance0 distance1 index_a = record {
  v = b2_add end0.v
      (b2_scale (div binary32 distance0 (sub binary32 distance0 distance1)) (b2_sub end1.v end0.v));
  id = contact_id (as_byte index_a) end0.id.cf.index_b vertex_feature face_feature;
}

abbrev pub kept_if : Bool → B2clipVertex → List B2clipVertex → List B2clipVertex
kept_if test end rest = cond test (end ∷ rest) rest

-- what is left of the segment, from the distances of its ends
unfoldable pub clipped_by : B2clipVertex → B2clipVertex → Float → Float → ℕ → List B2clipVertex
clipped_by end0 end1 distance0 distance1 index_a =
    kept_if (le distance0 zero32) end0 (kept_if (le distance1 zero32) end1
    (kept_if (lt (mul binary32 distance0 distance1) zero32) (crossing end0 end1 distance0 distance1 index_a) []))

-- what is left of a segment of two ends; of fewer, nothing is: the contact calls give up there
unfoldable pub clipped : List B2clipVertex → B2vec2 → Float → ℕ → List B2clipVertex
clipped [] normal offset index_a = []
clipped (end ∷ []) normal offset index_a = []
clipped (end0 ∷ end1 ∷ ends) normal offset index_a =
    clipped_by end0 end1 (clip_distance normal offset end0) (clip_distance normal offset end1) index_a

unfoldable pub clip_in_range : List B2clipVertex → B2vec2 → Float → Bool
clip_in_range [] normal offset = contact_point_in_range normal && contact_number_in_range offset
clip_in_range (end ∷ ends) normal offset = contact_point_in_range end.v && clip_in_range ends normal offset

unfoldable pub b2_clip_segment_to_line : List B2clipVertex → List B2clipVertex → B2vec2 → Float → ℕ → ClipAnswer
b2_clip_segment_to_line old ends normal offset index_a =
    let left = clipped ends normal offset index_a in
    cond (not (clip_in_range ends normal offset)) (record { points = old; count = 0; refusal = contact_out_of_range })
    (record { points = over left old; count = length left; refusal = accepted })
