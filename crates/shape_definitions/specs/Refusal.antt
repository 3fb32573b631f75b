-- Document 01, "Numbers a call can be turned down with". 0 is no refusal. The code has an enum (src/refusal.rt);
-- number_of holds the two together. Definitions only.
use Rattle.std.specs.Prelude.{ℕ, Result, Ok, Err}
use Rattle.shape_definitions.specs.declared.refusal.Refusal.{Refusal}
use Rattle.shape_definitions.specs.declared.refusal.Refusal.TheVariants.{WrongNumberOfPoints, ShapeOutOfRange, TooFewAfterWelding}
use Rattle.shape_definitions.specs.declared.refusal.Refusal.TheVariants.{WalkNotClosed, EdgeOrAreaTooSmall, PlacementOutOfRange}
use Rattle.shape_definitions.specs.declared.refusal.Refusal.TheVariants.{CountOutOfRange, WallTooShort, ContactOutOfRange}
use Rattle.shape_definitions.specs.declared.refusal.Refusal.TheVariants.{MalformedFrame, UnknownId, NoShape}
use Rattle.shape_definitions.specs.declared.refusal.Refusal.TheVariants.{PairNotListed, UnknownTurn, ChainTooFew}
use Rattle.shape_definitions.specs.declared.refusal.Refusal.TheVariants.{ChainTooNear, MeasureOutOfLimits}

abbrev pub accepted : ℕ
accepted = 0

-- outline without 3 to 8 points
abbrev pub wrong_number_of_points : ℕ
wrong_number_of_points = 1

-- a shape number outside its range
abbrev pub shape_out_of_range : ℕ
shape_out_of_range = 2

-- fewer than three points after welding
abbrev pub too_few_after_welding : ℕ
too_few_after_welding = 3

-- the walk is not back after eight corners, or back with fewer than three
abbrev pub walk_not_closed : ℕ
walk_not_closed = 4

-- a squared edge not above 2^-46, or an area not above 2^-23
abbrev pub edge_or_area_too_small : ℕ
edge_or_area_too_small = 5

-- a placement out of range, or a box's sine or cosine
abbrev pub placement_out_of_range : ℕ
placement_out_of_range = 6

-- a record's count out of range
abbrev pub count_out_of_range : ℕ
count_out_of_range = 7

-- wall against circle, the circle over the middle, squared length not above 0 (underflow)
abbrev pub wall_too_short : ℕ
wall_too_short = 8

-- a clip or world-point number out of range, or an export output under 53 bytes
abbrev pub contact_out_of_range : ℕ
contact_out_of_range = 9

-- odd digits, another character, empty or overlong line, unknown kind or flag, wrong length
abbrev pub malformed_frame : ℕ
malformed_frame = 10

-- id above 07
abbrev pub unknown_id : ℕ
unknown_id = 11

-- no shape under the id
abbrev pub no_shape : ℕ
no_shape = 12

-- a pair not listed
abbrev pub pair_not_listed : ℕ
pair_not_listed = 13

-- a turn number above 4,095
abbrev pub unknown_turn : ℕ
unknown_turn = 14

-- a chain of fewer than two points
abbrev pub chain_too_few : ℕ
chain_too_few = 15

-- two neighbouring points of a chain at a squared distance not above 0.005 × 0.005
abbrev pub chain_too_near : ℕ
chain_too_near = 16

-- a measured number outside its limits, or a lowest above its highest
abbrev pub measure_out_of_limits : ℕ
measure_out_of_limits = 17

-- the number of each
abbrev pub number_of : Refusal → ℕ
number_of WrongNumberOfPoints = wrong_number_of_points
number_of ShapeOutOfRange = shape_out_of_range
number_of TooFewAfterWelding = too_few_after_welding
number_of WalkNotClosed = walk_not_closed
number_of EdgeOrAreaTooSmall = edge_or_area_too_small
number_of PlacementOutOfRange = placement_out_of_range
number_of CountOutOfRange = count_out_of_range
number_of WallTooShort = wall_too_short
number_of ContactOutOfRange = contact_out_of_range
number_of MalformedFrame = malformed_frame
number_of UnknownId = unknown_id
number_of NoShape = no_shape
number_of PairNotListed = pair_not_listed
number_of UnknownTurn = unknown_turn
number_of ChainTooFew = chain_too_few
number_of ChainTooNear = chain_too_near
number_of MeasureOutOfLimits = measure_out_of_limits

-- that of a result, 0 where it is none
abbrev pub refusal_number : {A : Type 0} → Result A Refusal → ℕ
refusal_number (Ok made) = accepted
refusal_number (Err why) = number_of why

-- and what it made, or where it is refused what was given
abbrev pub made_or : {A : Type 0} → A → Result A Refusal → A
made_or given (Ok made) = made
made_or given (Err why) = given
