-- Comparisons of signed distances with lengths, weakened: at most a length is at most a longer one, and at least a
-- length is at least a shorter one. Assumes nothing.
use Prim.Native.Nat.{◌<◌}
use native.Mathlib.Omega.{arith}
use Rattle.algebra.specs.Integer.{Z, ◌⊛◌, opp, ◌≼◌}
use Rattle.algebra.specs.Plane.{Point}
use Rattle.algebra.proofs.Squares.{over_root_weaken}
use Rattle.grid_contacts.specs.Lengths.{Length}
use Rattle.grid_contacts.specs.Faces.{Face, off_line, squared_length, DistanceAtMost, DistanceAtLeast}

-- a is at most b
abbrev pub LengthLe : Length → Length → Type 0
LengthLe a b = b.under ⊛ a.over ≼ a.under ⊛ b.over

module _ (f : Face) (c : Point) (a b : Length) where
  pub at_most_longer : 0 < a.under → LengthLe a b → DistanceAtMost f c a → DistanceAtMost f c b
  at_most_longer pos le h =
      over_root_weaken (off_line f c) a.over b.over (squared_length f) a.under b.under pos le h

  pub at_least_shorter : 0 < a.under → LengthLe b a → DistanceAtLeast f c a → DistanceAtLeast f c b
  at_least_shorter pos le h =
      over_root_weaken (opp (off_line f c)) (opp a.over) (opp b.over) (squared_length f) a.under b.under pos
      (opposite b.over a.over le) h
    where
      opposite : (x y : Z) → a.under ⊛ x ≼ b.under ⊛ y → b.under ⊛ opp y ≼ a.under ⊛ opp x
      opposite x y h = omega arith
