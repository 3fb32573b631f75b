-- Clips, a case for each outcome and refusal, computed by antt from the definitions: the complete answers are those of
-- Box2D 2.4.1 (Debian's library) and of the Rust. Assumes nothing.
use mathlib.Core.Path.{◌≡◌, refl}
use mathlib.Core.List.{[], ◌∷◌, List}
use Prim.Native.Nat.{ℕ}
use lib.Ieee.{neg, add, sub, mul, div, le, lt, eq, of_bits, nan}
use Rattle.rounding.specs.Literals.{zero32}
use Rattle.floats.specs.declared.b2_math.B2vec2.{B2vec2}
use Rattle.floats.specs.B2Math.{b2_add, b2_sub, b2_scale, b2_dot, vec2}
use Rattle.floats.specs.Ranges.{contact_number_in_range, contact_point_in_range}
use Rattle.shape_definitions.specs.Refusal.{accepted, contact_out_of_range}
use Rattle.contact_definitions.specs.declared.b2_collision.B2clipVertex.{B2clipVertex}
use Rattle.contact_definitions.specs.declared.b2_collision.B2contactId.{B2contactId}
use Rattle.contact_definitions.specs.Answers.{ClipAnswer}
use Rattle.contact_definitions.specs.Clip.{clip_distance, crossing, clipped_by, clipped, clip_in_range}
use Rattle.contact_definitions.specs.Clip.{b2_clip_segment_to_line}
use Rattle.contact_definitions.specs.Manifold.{contact_id}
use Rattle.contact_definitions.proofs.Numbers.{+1, +10, +11, +12, +2, +3, +9, -1, -1¼, -2, -¼, -½, -¾, ¼, ½}
use Rattle.floats.proofs.BitPatterns.{float}
use Rattle.contact_definitions.proofs.Given.{eight_tenths, six_tenths}

-- the output places given
abbrev pub end_at : B2vec2 → B2contactId → B2clipVertex
end_at v id = record { v = v; id = id }

abbrev pub kept_place_0 : B2clipVertex
kept_place_0 = end_at (vec2 +9 +10) (contact_id 9 10 11 12)

abbrev pub kept_place_1 : B2clipVertex
kept_place_1 = end_at (vec2 +11 +12) (contact_id 13 14 15 16)

abbrev pub given_places : List B2clipVertex
given_places = kept_place_0 ∷ kept_place_1 ∷ []

abbrev pub clip_accepted : ℕ → B2clipVertex → B2clipVertex → ClipAnswer
clip_accepted count p q = record { points = p ∷ q ∷ []; count = count; refusal = accepted }

abbrev pub clip_refused : ClipAnswer
clip_refused = record { points = given_places; count = 0; refusal = contact_out_of_range }

pub record ClipCases : Type 0 where
  -- both ends behind the line
  pub both_behind : b2_clip_segment_to_line given_places ((end_at (vec2 -1 +2) (contact_id 1 2 3 4)) ∷
      (end_at (vec2 -2 +3) (contact_id 5 6 7 8)) ∷ []) (vec2 +1 zero32) zero32 7
      ≡ clip_accepted 2 (end_at (vec2 -1 +2) (contact_id 1 2 3 4)) (end_at (vec2 -2 +3) (contact_id 5 6 7 8))
  -- both in front: the output places are untouched
  pub both_in_front : b2_clip_segment_to_line given_places ((end_at (vec2 +1 +2) (contact_id 1 2 3 4)) ∷
      (end_at (vec2 +2 +3) (contact_id 5 6 7 8)) ∷ []) (vec2 +1 zero32) zero32 7
      ≡ clip_accepted 0 kept_place_0 kept_place_1
  -- the first behind: it comes first, and then the crossing; its index is that of the first end, and 300 is stored
  -- as 44
  pub first_behind : b2_clip_segment_to_line given_places ((end_at (vec2 -1 ½) (contact_id 1 2 3 4)) ∷
      (end_at (vec2 +2 -¼) (contact_id 5 6 7 8)) ∷ []) (vec2 six_tenths eight_tenths) ¼ 300
      ≡ clip_accepted 2 (end_at (vec2 -1 ½) (contact_id 1 2 3 4)) (end_at
      (vec2 (float 0x3e00_0000) (float 0x3e60_0000)) (contact_id 44 2 0 1))
  -- the second behind
  pub second_behind : b2_clip_segment_to_line given_places ((end_at (vec2 +2 -½) (contact_id 1 2 3 4)) ∷
      (end_at (vec2 -¾ -1¼) (contact_id 5 6 7 8)) ∷ []) (vec2 six_tenths eight_tenths) -¼ 255
      ≡ clip_accepted 2 (end_at (vec2 -¾ -1¼) (contact_id 5 6 7 8)) (end_at
      (vec2 (float 0x3f37_7776) (float 0xbf59_999a)) (contact_id 255 2 0 1))
  -- an end on the line is kept, at -0 too, and nothing is added
  pub on_the_line : b2_clip_segment_to_line given_places
      ((end_at (vec2 (float 0x8000_0000) +1) (contact_id 1 2 3 4)) ∷ (end_at (vec2 zero32 +2) (contact_id 5 6 7 8))
      ∷ []) (vec2 +1 zero32) zero32 7
      ≡ clip_accepted 2 (end_at (vec2 (float 0x8000_0000) +1) (contact_id 1 2 3 4))
      (end_at (vec2 zero32 +2) (contact_id 5 6 7 8))
  -- 2^30 is in range and the next number is not; NaN is not
  pub in_range : b2_clip_segment_to_line given_places ((end_at (vec2 (float 0x4e80_0000) +1) (contact_id 1 2 3 4)) ∷
      (end_at (vec2 -1 +2) (contact_id 5 6 7 8)) ∷ []) (vec2 +1 zero32) zero32 7
      ≡ clip_accepted 2 (end_at (vec2 -1 +2) (contact_id 5 6 7 8)) (end_at (vec2 zero32 +2) (contact_id 7 2 0 1))
  pub end_refused : b2_clip_segment_to_line given_places
      ((end_at (vec2 (float 0x4e80_0001) +1) (contact_id 1 2 3 4)) ∷ (end_at (vec2 -1 +2) (contact_id 5 6 7 8)) ∷
      []) (vec2 +1 zero32) zero32 7
      ≡ clip_refused
  pub normal_refused : b2_clip_segment_to_line given_places ((end_at (vec2 +1 +1) (contact_id 1 2 3 4)) ∷
      (end_at (vec2 -1 +2) (contact_id 5 6 7 8)) ∷ []) (vec2 +1 nan) zero32 7
      ≡ clip_refused
  pub offset_refused : b2_clip_segment_to_line given_places ((end_at (vec2 +1 +1) (contact_id 1 2 3 4)) ∷
      (end_at (vec2 -1 +2) (contact_id 5 6 7 8)) ∷ []) (vec2 +1 zero32) (float 0xce80_0001) 7
      ≡ clip_refused

pub clip_cases : ClipCases
unfolding b2_add b2_sub b2_scale b2_dot contact_number_in_range contact_point_in_range clip_distance crossing
    clipped_by clipped clip_in_range b2_clip_segment_to_line neg add sub mul div le lt eq of_bits
clip_cases = record {
  both_behind = refl;
  both_in_front = refl;
  first_behind = refl;
  second_behind = refl;
  on_the_line = refl;
  in_range = refl;
  end_refused = refl;
  normal_refused = refl;
  offset_refused = refl;
}
