-- Points of the plane with whole coordinates, also read as the vectors to them: multiples, sums, differences, cross and
-- dot products, and the doubled area of a triangle, above 0 where it is turned counter-clockwise. Definitions only.
use Rattle.std.specs.Prelude.{ℕ}
use Rattle.algebra.specs.Integer.{Z, ◌⊞◌, ◌⊟◌, ◌⊠◌, ◌⊛◌, ◌≐◌, Abs}

pub record Point : Type 0 where
  pub x : Z
  pub y : Z

-- equal by value
abbrev pub SameVector : Point → Point → Type 0
SameVector u v = (u.x ≐ v.x) × (u.y ≐ v.y)

-- both coordinates are at most n in size
abbrev pub PointAbs : Point → ℕ → Type 0
PointAbs p n = Abs p.x n × Abs p.y n

abbrev pub times : ℕ → Point → Point
times n p = record { x = n ⊛ p.x; y = n ⊛ p.y }

abbrev pub sum_of : Point → Point → Point
sum_of u v = record { x = u.x ⊞ v.x; y = u.y ⊞ v.y }

-- the vector from p to q
abbrev pub from_to : Point → Point → Point
from_to p q = record { x = q.x ⊟ p.x; y = q.y ⊟ p.y }

abbrev pub cross : Point → Point → Z
cross u v = u.x ⊠ v.y ⊟ u.y ⊠ v.x

abbrev pub dot : Point → Point → Z
dot u v = u.x ⊠ v.x ⊞ u.y ⊠ v.y

-- twice the area of the triangle p q r: above 0 where r lies left of the line from p to q
abbrev pub orient : Point → Point → Point → Z
orient p q r = cross (from_to p q) (from_to p r)
