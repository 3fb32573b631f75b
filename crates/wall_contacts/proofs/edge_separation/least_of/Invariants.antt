-- What both scans keep from here is what they keep of all places. Assumes nothing.
use mathlib.Core.Path.{◌≡◌}
use Prim.Native.Nat.{ℕ}
use lib.Ieee.{Float}
use Rattle.contact_definitions.specs.Searches.{below_value, least}
use Rattle.wall_contacts.specs.PlacedRows.{Row}
use Rattle.wall_contacts.proofs.Scans.{scanned_from}
use Rattle.wall_contacts.proofs.edge_separation.least_of.Given as goal

abbrev pub invariant-loop-i : goal.invariant-loop-i
invariant-loop-i l =
    (ahead behind : ℕ → Float) → Row ahead l.count l.f → Row behind l.count l.b
    → (scanned_from below_value ahead l.front l.i l.count ≡ least ahead l.count)
    × (scanned_from below_value behind l.back l.i l.count ≡ least behind l.count)
