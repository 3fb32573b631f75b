-- A witness of the theorem: the heat of record_cases in which a circle rolls over the joint of a chain of three points.
-- Its line makes both pieces, their walls are those of the heats beside it, and no line makes a new shape under its id;
-- so the theorem speaks of each of its tests. Assumes nothing.
use Prim.Native.Nat.{ℕ}
use mathlib.Core.Path.{◌≡◌, refl}
use mathlib.Core.List.{List, [], ◌∷◌}
use native.Mathlib.Omega.{arith}
use lib.Ieee.{neg, add, sub, mul, le, lt, eq, of_bits}
use Rattle.floats.specs.B2Math.{b2_sub, b2_dot, b2_distance_vec2_squared}
use Rattle.floats.specs.Ranges.{point_in_range}
use Rattle.lines.specs.Fields.{vector_at, points_at}
use Rattle.lines.specs.Hex.{unhex, frame_of, hex}
use Rattle.lines.proofs.Text.{text}
use Rattle.contact_definitions.specs.Searches.{some_below}
use Rattle.record_definitions.specs.Frame.{frame_length, well_formed, chain_at, long_piece, chain_refusal, chain_change}
use Rattle.record_definitions.specs.Frame.{frame_refusal, change_of_kind, change}
use Rattle.record_definitions.specs.OneFrame.{change_in, said_of_frame}
use Rattle.record_definitions.specs.Server.{fresh_server, after_line}
use Rattle.chains.specs.ChainAsWalls.{wall_line, MakesPiece, renews, NeverRenewed, EachLineAsItsWall}
use Rattle.chains.proofs.Theorem.{each_line_as_its_wall}

pub chain_line : List ℕ
chain_line = text "070003408000000000000040000000000000000000000000000000c0000000bf800000c0800000c0000000"

-- the circle, each place with its test, and a step that ends
pub rolling : List (List ℕ)
rolling =
    text "010100000000000000003f800000"
    ∷ text "04013f8000003f666666000000003f800000" ∷ text "050001" ∷ []
    ∷ text "04013e8000003f666666000000003f800000" ∷ text "050001"
    ∷ text "0401be0000003f733333000000003f800000" ∷ text "050001"
    ∷ text "0401bf8000003f000000000000003f800000" ∷ text "050001"
    ∷ text "0401bf80000040400000000000003f800000" ∷ text "050001" ∷ []

-- ---- the walls of its pieces
first_wall : wall_line chain_line 0 ≡ text "030001408000000000000040000000000000000000000000000000c0000000bf800000"
unfolding chain_line unhex frame_of hex
first_wall = refl

second_wall : wall_line chain_line 1 ≡ text "03000140000000000000000000000000000000c0000000bf800000c0800000c0000000"
unfolding chain_line unhex frame_of hex
second_wall = refl

-- ---- it makes both
makes_first : MakesPiece fresh_server chain_line 0
unfolding chain_line unhex frame_of neg add sub mul le lt eq of_bits b2_sub b2_dot b2_distance_vec2_squared
    point_in_range vector_at points_at some_below frame_length well_formed frame_refusal chain_at long_piece chain_refusal
    chain_change change_of_kind change change_in said_of_frame
makes_first = record { kind = refl; taken = refl; piece = omega arith }

makes_second : MakesPiece fresh_server chain_line 1
unfolding chain_line unhex frame_of neg add sub mul le lt eq of_bits b2_sub b2_dot b2_distance_vec2_squared
    point_in_range vector_at points_at some_below frame_length well_formed frame_refusal chain_at long_piece chain_refusal
    chain_change change_of_kind change change_in said_of_frame
makes_second = record { kind = refl; taken = refl; piece = omega arith }

-- ---- no line makes a new shape under its id
pub never_renewed : NeverRenewed 0 (after_line fresh_server chain_line) rolling
unfolding rolling NeverRenewed renews frame_of unhex
never_renewed = (refl, (refl, (refl, (refl, (refl, (refl, (refl, (refl, (refl, (refl, (refl, (refl, tt))))))))))))

-- ---- so the theorem holds of both
pub rolled : (EachLineAsItsWall [] chain_line 0) × (EachLineAsItsWall [] chain_line 1)
rolled = (each_line_as_its_wall [] chain_line 0 makes_first, each_line_as_its_wall [] chain_line 1 makes_second)
