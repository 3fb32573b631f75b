-- What reading a line leaves: its bytes in a buffer, how many, their kind, and the places of the two bodies that they
-- name. Definitions only.
use Rattle.std.specs.Prelude.{ℕ, ◌<◌, ◌≡◌, List, take}
use Rattle.lines.specs.Fields.{byte_at}
use Rattle.lines.specs.Hex.{Decoded}
use Rattle.record_definitions.specs.OneFrame.{first_place, second_place}
use Rattle.record.specs.declared.feed.Names.{Names}

pub record Named (line : List ℕ) (r : Names) (buffer : List ℕ) : Type 0 where
  pub decoded : Decoded line r.count buffer
  pub kind_is : r.kind ≡ byte_at (take r.count buffer) 0
  pub first_is : r.first ≡ first_place (take r.count buffer)
  pub first_below : r.first < 8
  pub second_is : r.second ≡ second_place (take r.count buffer)
  pub second_below : r.second < 8
