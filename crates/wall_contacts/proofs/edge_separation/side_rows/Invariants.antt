-- The places below i are filled, whatever points the rows hold. Assumes nothing.
use Prim.Native.Nat.{ℕ}
use Rattle.floats.specs.declared.b2_math.B2vec2.{B2vec2}
use Rattle.floats.specs.B2Math.{b2_sub, b2_neg, b2_dot}
use Rattle.wall_contacts.specs.PlacedRows.{Row, PointRows}
use Rattle.wall_contacts.proofs.edge_separation.side_rows.Given as goal

abbrev pub invariant-loop-i : goal.invariant-loop-i
invariant-loop-i l =
    (corner : ℕ → B2vec2) → PointRows corner l.n l.corners.xs l.corners.ys
    → Row (λ k. b2_dot l.n1 (b2_sub (corner k) l.v1)) l.i l.front
    × Row (λ k. b2_dot (b2_neg l.n1) (b2_sub (corner k) l.v1)) l.i l.back
