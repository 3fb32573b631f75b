-- Document 01, "The touch record", and document 02, requests 01 and 03 (frames 06 and 07): frames. What a frame makes
-- of the first body that it names and of the pair, and what it answers. Refusals 10 and 11 are of the bytes alone; then
-- each kind of frame has its order in one definition: 12, then 14 or 13, then those of the shape, the placement or the
-- contact. A refusal changes nothing. Definitions only.
use Rattle.std.specs.Prelude.{ℕ, ◌+◌, ◌*◌, ◌-◌, Bool, true, false, not, cond, ◌&&◌, ◌||◌, List, ◌∷◌, map, eqb, ltb, leb, length, replicate}
use Rattle.std.specs.Float.{binary32}
use Rattle.std.specs.Float.Ieee.{mul, lt}
use Rattle.algebra.specs.Buffer.{over}
use Rattle.floats.specs.declared.b2_math.B2Transform.{B2Transform}
use Rattle.floats.specs.declared.b2_math.B2vec2.{B2vec2}
use Rattle.floats.specs.B2Common.{b2_linear_slop}
use Rattle.floats.specs.B2Math.{b2_distance_vec2_squared}
use Rattle.floats.specs.Ranges.{point_in_range, transform_in_range}
use Rattle.headings.specs.Headings.{heading}
use Rattle.lines.specs.Fields.{byte_at, float_at, vector_at, points_at, placement_at}
use Rattle.shape_definitions.specs.declared.b2_circle_shape.B2circleShape.{B2circleShape}
use Rattle.shape_definitions.specs.Answers.{EdgeAnswer}
use Rattle.shape_definitions.specs.declared.b2_polygon_shape.PolygonAnswer.{PolygonAnswer}
use Rattle.shape_definitions.specs.Circle.{circle_in_range}
use Rattle.shape_definitions.specs.Edge.{b2_set_one_sided, b2_set_two_sided}
use Rattle.shape_definitions.specs.Outline.{origin, point_at}
use Rattle.shape_definitions.specs.Polygon.{all_points, b2_polygon_shape_set}
use Rattle.shape_definitions.specs.Refusal.{accepted, shape_out_of_range, placement_out_of_range, malformed_frame}
use Rattle.shape_definitions.specs.Refusal.{unknown_id, no_shape, pair_not_listed, unknown_turn, chain_too_few}
use Rattle.shape_definitions.specs.Refusal.{chain_too_near}
use Rattle.contact_definitions.specs.Searches.{some_below}
use Rattle.record_definitions.specs.declared.world.Body.{Body}
use Rattle.record_definitions.specs.declared.world.Chain.{Chain}
use Rattle.record_definitions.specs.declared.world.Pair.{Pair}
use Rattle.record_definitions.specs.declared.touch.TestAnswer.{TestAnswer}
use Rattle.record_definitions.specs.declared.touch.Touch.{Touch}
use Rattle.record_definitions.specs.declared.frame.Answer.TheVariants.{Accepted, Refused}
use Rattle.record_definitions.specs.declared.frame.Change.{Change}
use Rattle.record_definitions.specs.World.{no_body, circle_kind, outline_kind, wall_kind, blank_outline}
use Rattle.record_definitions.specs.World.{blank_wall, circle_body, outline_body, wall_body, chain_kind}
use Rattle.record_definitions.specs.World.{chain_body, placed, pieces_of}
use Rattle.record_definitions.specs.Touch.{piece_tested, pieces_tested, first_refusal}
use Rattle.record_definitions.specs.Answer.{said_alone, said_of_touches}

-- ---- the length of a frame, by its kind and its third byte: the count of an outline or a chain, the flag of a wall.
-- 0 where a kind, a flag or a count is none
abbrev pub outline_length : ℕ → ℕ
outline_length count = cond (leb count 8) (3 + 8 * count) 0

abbrev pub wall_length : ℕ → ℕ
wall_length flag = cond (eqb flag 0) 19 (cond (eqb flag 1) 35 0)

-- the point before, the points and the point after
abbrev pub chain_length : ℕ → ℕ
chain_length count = cond (leb count 8) (19 + 8 * count) 0

unfoldable pub frame_length : ℕ → ℕ → ℕ
frame_length kind third =
    cond (eqb kind 1) 14
    (cond (eqb kind 2) (outline_length third)
    (cond (eqb kind 3) (wall_length third)
    (cond (eqb kind 4) 18
    (cond (eqb kind 5) 3
    (cond (eqb kind 6) 12
    (cond (eqb kind 7) (chain_length third)
    0))))))

-- of a known kind, and just as long as such a frame is
unfoldable pub well_formed : List ℕ → Bool
well_formed bytes =
    let size = frame_length (byte_at bytes 0) (byte_at bytes 2) in
    not (eqb size 0) && eqb (length bytes) size

-- ---- the refusals that look at no body: 10, then 11 of each id that the frame names, of which a test names two
abbrev pub largest_id : ℕ
largest_id = 7

abbrev pub names_unknown : List ℕ → Bool
names_unknown bytes =
    ltb largest_id (byte_at bytes 1) || (eqb (byte_at bytes 0) 5 && ltb largest_id (byte_at bytes 2))

unfoldable pub frame_refusal : List ℕ → ℕ
frame_refusal bytes =
    cond (not (well_formed bytes)) malformed_frame
    (cond (names_unknown bytes) unknown_id
    accepted)

-- ---- changes: a refusal changes nothing; a new shape forgets its pairs
abbrev pub refused : ℕ → Body → Pair → Change
refused number body pair = record {
  said = said_alone (Refused number);
  body = body;
  pair = pair;
  forget = false;
}

abbrev pub defined : Body → Pair → Change
defined body pair = record { said = said_alone Accepted; body = body; pair = pair; forget = true }

abbrev pub moved : Body → Pair → Change
moved body pair = record { said = said_alone Accepted; body = body; pair = pair; forget = false }

-- ---- 01 id x y radius
abbrev pub circle_at : List ℕ → B2circleShape
circle_at bytes = record { m_radius = float_at bytes 10; m_p = vector_at bytes 2 }

unfoldable pub circle_change : Body → Pair → List ℕ → Change
circle_change body pair bytes =
    cond (circle_in_range (circle_at bytes)) (defined (circle_body (circle_at bytes)) pair)
    (refused shape_out_of_range body pair)

-- ---- 02 id count points
abbrev pub outline_built : Body → Pair → PolygonAnswer → Change
outline_built body pair built =
    cond (eqb built.refusal accepted) (defined (outline_body built.shape) pair)
    (refused built.refusal body pair)

unfoldable pub outline_change : Body → Pair → List ℕ → Change
outline_change body pair bytes =
    outline_built body pair (b2_polygon_shape_set blank_outline (points_at bytes 3 (byte_at bytes 2)))

-- ---- 03 id 00 v1 v2, two-sided; 03 id 01 v0 v1 v2 v3, one-sided
abbrev pub wall_built : Body → Pair → EdgeAnswer → Change
wall_built body pair built =
    cond (eqb built.refusal accepted) (defined (wall_body built.shape) pair)
    (refused built.refusal body pair)

unfoldable pub wall_at : List ℕ → EdgeAnswer
wall_at bytes =
    cond (eqb (byte_at bytes 2) 0) (b2_set_two_sided blank_wall (vector_at bytes 3) (vector_at bytes 11))
    (b2_set_one_sided blank_wall (vector_at bytes 3) (vector_at bytes 11) (vector_at bytes 19) (vector_at bytes 27))

unfoldable pub wall_change : Body → Pair → List ℕ → Change
wall_change body pair bytes = wall_built body pair (wall_at bytes)

-- ---- 07 id count, the point before, the points, the point after
abbrev pub chain_points : List ℕ → List B2vec2
chain_points bytes = points_at bytes 3 (byte_at bytes 2 + 2)

unfoldable pub chain_at : List ℕ → Chain
chain_at bytes = record { points = over (chain_points bytes) (replicate 10 origin); count = byte_at bytes 2 }

-- the ends of a piece are at a squared distance above 0.005 × 0.005
unfoldable pub long_piece : Chain → ℕ → Bool
long_piece chain i =
    lt (mul binary32 b2_linear_slop b2_linear_slop)
    (b2_distance_vec2_squared (point_at chain.points (i + 2)) (point_at chain.points (i + 1)))

-- the points before and after are among those that are in range, and at no end of a piece
unfoldable pub chain_refusal : List ℕ → ℕ
chain_refusal bytes =
    cond (ltb (byte_at bytes 2) 2) chain_too_few
    (cond (not (all_points point_in_range (chain_points bytes))) shape_out_of_range
    (cond (some_below (λ (i : ℕ). not (long_piece (chain_at bytes) i)) (byte_at bytes 2 - 1)) chain_too_near
    accepted))

unfoldable pub chain_change : Body → Pair → List ℕ → Change
chain_change body pair bytes =
    cond (eqb (chain_refusal bytes) accepted) (defined (chain_body (chain_at bytes)) pair)
    (refused (chain_refusal bytes) body pair)

-- ---- placements: taken where they are in range
abbrev pub placed_at : Body → Pair → B2Transform → Change
placed_at body pair xf =
    cond (not (transform_in_range xf)) (refused placement_out_of_range body pair) (moved (placed body xf) pair)

-- 04 id x y sine cosine
unfoldable pub place_change : Body → Pair → List ℕ → Change
place_change body pair bytes =
    cond (eqb body.kind no_body) (refused no_shape body pair)
    (placed_at body pair (placement_at bytes 2))

-- 06 id x y turn number, in 4,096ths of a turn: two bytes, highest first
abbrev pub largest_turn : ℕ
largest_turn = 4095

abbrev pub turn_at : List ℕ → ℕ → ℕ
turn_at bytes at = byte_at bytes at * 256 + byte_at bytes (at + 1)

abbrev pub turned_placement : List ℕ → B2Transform
turned_placement bytes = record { p = vector_at bytes 2; q = heading (turn_at bytes 10) }

unfoldable pub turn_change : Body → Pair → List ℕ → Change
turn_change body pair bytes =
    cond (eqb body.kind no_body) (refused no_shape body pair)
    (cond (ltb largest_turn (turn_at bytes 10)) (refused unknown_turn body pair)
    (placed_at body pair (turned_placement bytes)))

-- ---- 05 a b
-- the pairs that are tested: circle-circle, outline-circle, outline-outline, wall-circle, wall-outline, and a chain
-- where a wall is
unfoldable pub listed : ℕ → ℕ → Bool
listed a b =
    (eqb a circle_kind && eqb b circle_kind)
    || (eqb a outline_kind && eqb b circle_kind) || (eqb a outline_kind && eqb b outline_kind)
    || (eqb a wall_kind && eqb b circle_kind) || (eqb a wall_kind && eqb b outline_kind)
    || (eqb a chain_kind && eqb b circle_kind) || (eqb a chain_kind && eqb b outline_kind)

unfoldable pub test_refusal : ℕ → ℕ → ℕ → ℕ → ℕ
test_refusal ida idb kinda kindb =
    cond (eqb kinda no_body || eqb kindb no_body) no_shape
    (cond (eqb ida idb || not (listed kinda kindb)) pair_not_listed
    accepted)

-- the tests of the first piece and of the further ones
abbrev pub further_tests : ℕ → ℕ → Body → Body → Pair → List TestAnswer
further_tests ida idb a b pair = pieces_tested ida idb a b pair 1 (pieces_of a - 1)

abbrev pub all_tests : ℕ → ℕ → Body → Body → Pair → List TestAnswer
all_tests ida idb a b pair = piece_tested ida idb a b pair 0 ∷ further_tests ida idb a b pair

-- refused where one is, else a result for each, and each piece keeps its own
abbrev pub results_of : List TestAnswer → List Touch
results_of = map (λ (t : TestAnswer). t.touch)

abbrev pub keep : List TestAnswer → Pair → Pair
keep tests pair = record { pieces = over (map (λ (t : TestAnswer). t.kept) tests) pair.pieces }

abbrev pub test_answered : Body → Pair → TestAnswer → List TestAnswer → Change
test_answered body pair t further =
    let number = first_refusal (t ∷ further) in
    let said = said_of_touches t.touch (results_of further) in
    cond (eqb number accepted)
    (record { said = said; body = body; pair = keep (t ∷ further) pair; forget = false }) (refused number body pair)

unfoldable pub test_change : ℕ → ℕ → Body → Body → Pair → Change
test_change ida idb a b pair =
    let number = test_refusal ida idb a.kind b.kind in
    cond (eqb number accepted)
    (test_answered a pair (piece_tested ida idb a b pair 0) (further_tests ida idb a b pair))
    (refused number a pair)

-- ---- any frame, for the body that its first id names, the one that its third byte names, and their pair
unfoldable pub change_of_kind : ℕ → Body → Body → Pair → List ℕ → Change
change_of_kind kind a b pair bytes =
    cond (eqb kind 1) (circle_change a pair bytes)
    (cond (eqb kind 2) (outline_change a pair bytes)
    (cond (eqb kind 3) (wall_change a pair bytes)
    (cond (eqb kind 4) (place_change a pair bytes)
    (cond (eqb kind 6) (turn_change a pair bytes)
    (cond (eqb kind 7) (chain_change a pair bytes)
    (test_change (byte_at bytes 1) (byte_at bytes 2) a b pair))))))

unfoldable pub change : Body → Body → Pair → List ℕ → Change
change a b pair bytes =
    let number = frame_refusal bytes in
    cond (eqb number accepted) (change_of_kind (byte_at bytes 0) a b pair bytes) (refused number a pair)
