-- Exact discs and unturned boxes as sets of points, and touching: "the exact bodies share a point, without skin". A
-- point of the plane is a fraction p / n, so a body says of a scale n and a point p whether it holds p / n.
-- Definitions only.
use Rattle.std.specs.Prelude.{ℕ, ◌*◌, ◌<◌}
use Rattle.algebra.specs.Integer.{whole, ◌≼◌, Abs}
use Rattle.algebra.specs.Plane.{Point, times, from_to, dot}

abbrev pub Body : Type 1
Body = ℕ → Point → Type 0

pub record SharePoint (a b : Body) : Type 0 where
  pub scale : ℕ
  pub point : Point
  pub positive : 0 < scale
  pub in_a : a scale point
  pub in_b : b scale point

-- ---- all points no farther than the radius from the centre: the squares are compared
pub record Disc : Type 0 where
  pub centre : Point
  pub radius : ℕ

abbrev pub disc : Disc → Body
disc c n p = let d = from_to (times n c.centre) p in
    dot d d ≼ whole ((n * c.radius) * (n * c.radius))

-- ---- all points no farther than the half-widths from the centre, on each axis
pub record Box : Type 0 where
  pub centre : Point
  pub hx : ℕ
  pub hy : ℕ

abbrev pub box : Box → Body
box b n p = let d = from_to (times n b.centre) p in Abs d.x (n * b.hx) × Abs d.y (n * b.hy)
