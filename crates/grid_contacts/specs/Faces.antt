-- Document 01, "Words of demand 3": the faces of an outline, given by the row of its carried corners; a point's signed
-- distance from a face's line; a face's separation; the boundary. Everything is exact. Definitions only.
use Rattle.std.specs.Prelude.{List, ℕ, ◌+◌, ◌*◌, ◌<◌, length, get_or}
use Rattle.algebra.specs.Integer.{Z, opp, ◌⊞◌, ◌⊟◌, ◌⊠◌, ◌⊛◌, ◌≼◌}
use Rattle.algebra.specs.Plane.{Point, from_to, dot}
use Rattle.algebra.specs.Squares.{above, OverRootLe}
use Rattle.shape_definitions.specs.Outline.{origin, place_after}
use Rattle.grid.specs.Grid.{value_point}
use Rattle.grid_contacts.specs.Lengths.{Length}

-- ---- "a face runs from a corner P to the next, Q (the first after the last)"
pub record Face : Type 0 where
  pub begin : Point
  pub end : Point

abbrev pub corner_at : List Point → ℕ → Point
corner_at corners i = get_or corners i (value_point origin)

abbrev pub face_at : List Point → ℕ → Face
face_at corners i = record { begin = corner_at corners i; end = corner_at corners (place_after (length corners) i) }

-- every and some corner, every and some face
abbrev pub EveryCorner : List Point → (Point → Type 0) → Type 0
EveryCorner corners P = (i : ℕ) → i < length corners → P (corner_at corners i)

abbrev pub SomeCorner : List Point → (Point → Type 0) → Type 0
SomeCorner corners P = (i : ℕ) × (i < length corners) × P (corner_at corners i)

abbrev pub EveryFace : List Point → (Face → Type 0) → Type 0
EveryFace corners P = (i : ℕ) → i < length corners → P (face_at corners i)

abbrev pub SomeFace : List Point → (Face → Type 0) → Type 0
SomeFace corners P = (i : ℕ) × (i < length corners) × P (face_at corners i)

-- ---- "C's signed distance from its line is ((Q.y - P.y)(C.x - P.x) - (Q.x - P.x)(C.y - P.y)) / |Q - P|": that is
-- off-line f c / √(squared-length f)
abbrev pub off_line : Face → Point → Z
off_line f c =
    (f.end.y ⊟ f.begin.y) ⊠ (c.x ⊟ f.begin.x) ⊟ (f.end.x ⊟ f.begin.x) ⊠ (c.y ⊟ f.begin.y)

abbrev pub squared_length : Face → ℕ
squared_length f = above (dot (from_to f.begin f.end) (from_to f.begin f.end))

abbrev pub DistanceAtMost : Face → Point → Length → Type 0
DistanceAtMost f c a = OverRootLe (off_line f c) (squared_length f) a.over a.under

abbrev pub DistanceAtLeast : Face → Point → Length → Type 0
DistanceAtLeast f c a = OverRootLe (opp (off_line f c)) (squared_length f) (opp a.over) a.under

abbrev pub DistanceAbove : Face → Point → Length → Type 0
DistanceAbove f c a = ¬ DistanceAtMost f c a

-- ---- "a face's separation .. is the smallest signed distance of that outline's corners"
abbrev pub SeparationAtMost : Face → List Point → Length → Type 0
SeparationAtMost f other a = SomeCorner other (λ c. DistanceAtMost f c a)

abbrev pub SeparationAtLeast : Face → List Point → Length → Type 0
SeparationAtLeast f other a = EveryCorner other (λ c. DistanceAtLeast f c a)

abbrev pub SeparationAbove : Face → List Point → Length → Type 0
SeparationAbove f other a = EveryCorner other (λ c. DistanceAbove f c a)

-- ---- "the boundary is all points on the faces"
-- (s + t) times the way to c from the point (s begin + t end) / (s + t) of a face
abbrev pub way_from : Face → ℕ → ℕ → Point → Point
way_from f s t c = record {
  x = (s + t) ⊛ c.x ⊟ (s ⊛ f.begin.x ⊞ t ⊛ f.end.x);
  y = (s + t) ⊛ c.y ⊟ (s ⊛ f.begin.y ⊞ t ⊛ f.end.y);
}

-- c lies within the length a of a point of f: the squares of that way and of (s + t) a are compared
pub record NearFace (a : Length) (c : Point) (f : Face) : Type 0 where
  pub s : ℕ
  pub t : ℕ
  pub some : 0 < s + t
  pub near : (a.under * a.under) ⊛ dot (way_from f s t c) (way_from f s t c)
      ≼ ((s + t) * (s + t)) ⊛ (a.over ⊠ a.over)

abbrev pub NearBoundary : Length → List Point → Point → Type 0
NearBoundary a corners c = SomeFace corners (NearFace a c)
