-- What the scan keeps from here is what it keeps of all places. Assumes nothing.
use mathlib.Core.Path.{◌≡◌}
use mathlib.Core.List.{map}
use Prim.Native.Nat.{◌<◌, ◌-◌}
use Rattle.algebra.specs.Loops.{places, scan}
use Rattle.floats.specs.B2Math.{b2_dot}
use Rattle.shape_definitions.specs.Outline.{point_at}
use Rattle.contact_definitions.specs.Searches.{valued, is_less, first_least}
use Rattle.outline_contacts.proofs.faces.b2_find_incident_edge.Given as goal

abbrev pub invariant-loop-i : goal.invariant-loop-i
invariant-loop-i l =
    (l.index < l.count)
    × (scan is_less (record { place = l.index; value = l.min_dot })
    (map (valued (λ k. b2_dot l.n (point_at l.ns k))) (places l.i (l.count - l.i)))
    ≡ first_least (λ k. b2_dot l.n (point_at l.ns k)) l.count)
