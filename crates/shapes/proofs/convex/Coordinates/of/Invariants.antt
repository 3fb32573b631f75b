-- The coordinates below j are copied so far. Assumes nothing.
use mathlib.Core.Path.{◌≡◌}
use mathlib.Core.List.{map}
use Prim.Native.Nat.{◌≤◌}
use lib.ListN.{length, take}
use Rattle.shapes.proofs.convex.Coordinates.of.Given as goal

abbrev pub invariant-loop-j : goal.invariant-loop-j
invariant-loop-j l =
    (l.j ≤ 8) × (length l.vs ≡ 8) × (length l.xs ≡ 8) × (length l.ys ≡ 8) × (take l.j l.xs ≡ map (λ v. v.x) (take l.j l.vs))
    × (take l.j l.ys ≡ map (λ v. v.y) (take l.j l.vs))
