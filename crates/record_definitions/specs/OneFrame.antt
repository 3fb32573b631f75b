-- Document 01, "The touch record": one frame. The world after it, and what is said of it. Definitions only.
use Rattle.std.specs.Prelude.{ℕ, ◌%◌, Bool, true, false, List, set}
use Rattle.lines.specs.Fields.{byte_at}
use Rattle.record_definitions.specs.declared.world.Pair.{Pair}
use Rattle.record_definitions.specs.declared.world.World.{World}
use Rattle.record_definitions.specs.declared.frame.Change.{Change}
use Rattle.record_definitions.specs.declared.frame.Said.{Said}
use Rattle.record_definitions.specs.World.{body_at, pair_at, pair_place, forget}
use Rattle.record_definitions.specs.Frame.{change}

-- the places of the two bodies that a frame names: below 8 whatever the bytes, since ids above 7 are refused
abbrev pub first_place : List ℕ → ℕ
first_place bytes = byte_at bytes 1 % 8

abbrev pub second_place : List ℕ → ℕ
second_place bytes = byte_at bytes 2 % 8

-- what a frame changes in a world
unfoldable pub change_in : World → List ℕ → Change
change_in w bytes =
    let a = first_place bytes in
    let b = second_place bytes in
    change (body_at w a) (body_at w b) (pair_at w a b) bytes

-- the world with a change
abbrev pub pairs_after : Bool → List Pair → ℕ → ℕ → Pair → List Pair
pairs_after true pairs a b pair = forget a pairs
pairs_after false pairs a b pair = set pairs (pair_place a b) pair

unfoldable pub changed : World → ℕ → ℕ → Change → World
changed w a b c = record {
  bodies = set w.bodies a c.body;
  pairs = pairs_after c.forget w.pairs a b c.pair;
}

-- ---- a frame
unfoldable pub after_frame : World → List ℕ → World
after_frame w bytes = changed w (first_place bytes) (second_place bytes) (change_in w bytes)

unfoldable pub said_of_frame : World → List ℕ → Said
said_of_frame w bytes = (change_in w bytes).said
