-- What the scan keeps from here is what it keeps of all places. Assumes nothing.
use mathlib.Core.Path.{◌≡◌}
use mathlib.Core.List.{map}
use Prim.Native.Nat.{◌<◌, ◌-◌}
use Rattle.algebra.specs.Loops.{places, scan}
use Rattle.contact_definitions.specs.Searches.{valued, is_greater, first_greatest}
use Rattle.outline_contacts.specs.FaceRows.{at}
use Rattle.outline_contacts.proofs.rows.greatest.Given as goal

abbrev pub invariant-loop-i : goal.invariant-loop-i
invariant-loop-i l =
    (l.place < l.count)
    × (scan is_greater (record { place = l.place; value = l.value }) (map (valued (at l.s)) (places l.i (l.count - l.i)))
    ≡ first_greatest (at l.s) l.count)
