-- The corners and faces of a grid outline, carried by a placement: how many there are, each by its place, and that no
-- face has length 0. Assumes nothing.
use mathlib.Core.Path.{◌≡◌, sym, ap, ap₂, ◌∙◌, subst}
use mathlib.Core.List.{List}
use Prim.Native.Nat.{ℕ, ◌-◌, ◌*◌, ◌^◌, ◌≤◌, ◌<◌}
use native.Mathlib.Nat.{mul-pos}
use native.Mathlib.Omega.{arith}
use lib.ListN.{length, take, length-map, get_or-map}
use lib.Seq.{length-take-le, get_or-take}
use Rattle.algebra.specs.Plane.{Point}
use Rattle.algebra.proofs.Lists.{getD_within}
use Rattle.floats.specs.declared.b2_math.B2vec2.{B2vec2}
use Rattle.floats.specs.declared.b2_math.B2Transform.{B2Transform}
use Rattle.shape_definitions.specs.declared.b2_polygon_shape.B2polygonShape.{B2polygonShape}
use Rattle.shape_definitions.specs.Outline.{origin, point_at, place_after}
use Rattle.shape_definitions.proofs.Edges.{after_in}
use Rattle.grid.specs.Grid.{value_point, values}
use Rattle.grid.specs.GridOutline.{GridOutline}
use Rattle.grid_contacts.specs.Placement.{GridPlacement, carried, placed_corners}
use Rattle.grid_contacts.specs.Faces.{Face, corner_at, face_at, squared_length}
use Rattle.grid_contacts.proofs.FaceNormal.{carried_face, placed_normal}

module _ {t : B2Transform} (g : GridPlacement t) (shape : B2polygonShape) (outline : GridOutline shape) where
  abbrev n : ℕ
  n = shape.m_count

  abbrev vs : List B2vec2
  vs = shape.m_vertices

  abbrev corners : List Point
  corners = placed_corners g shape

  placed_length : length corners ≡ n
  placed_length =
      length-map (values (take n vs)) (carried g) ∙ length-map (take n vs) value_point
      ∙ length-take-le n vs outline.full

  -- a place of the row is one of the outline, and back
  pub row_place : (i : ℕ) → i < length corners → i < n
  row_place i h = subst (λ (k : ℕ). i < k) placed_length h

  pub outline_place : (i : ℕ) → i < n → i < length corners
  outline_place i h = subst (λ (k : ℕ). i < k) (sym placed_length) h

  pub placed_at : (i : ℕ) → i < n → corner_at corners i ≡ carried g (value_point (point_at vs i))
  placed_at i inside =
      getD_within corners i (value_point origin) (carried g (value_point origin)) (outline_place i inside)
      ∙ get_or-map (carried g) (values (take n vs)) i (value_point origin)
      ∙ ap (carried g)
      (get_or-map value_point (take n vs) i origin ∙ ap value_point (get_or-take n vs i origin inside))

  pub placed_face : (i : ℕ) → i < n
      → face_at corners i ≡ carried_face g (point_at vs i) (point_at vs (place_after n i))
  placed_face i inside =
      ap₂ make (placed_at i inside)
      (ap (λ (k : ℕ). corner_at corners (place_after k i)) placed_length
      ∙ placed_at (place_after n i) (after_in n i inside))
    where
      make : Point → Point → Face
      make p q = record { begin = p; end = q }

  -- no face has length 0: its normal has a length
  pub placed_faces_long : (i : ℕ) → i < length corners → 0 < squared_length (face_at corners i)
  placed_faces_long i h =
      let inside = row_place i h in
      let p = point_at vs i in
      let q = point_at vs (place_after n i) in
      let N = placed_normal g p q (point_at shape.m_normals i) (outline.normal i inside) in
      subst (λ (f : Face). 0 < squared_length f) (sym (placed_face i inside))
      (long (squared_length (carried_face g p q)) (N.length * N.length) N.unit.root.0
      (mul-pos N.unit.positive N.unit.positive))
    where
      long : (t q : ℕ) → (2 ^ 24 - 1) * (2 ^ 24 - 1) * q ≤ 2 ^ 48 * t → 0 < q → 0 < t
      long t q h k = omega arith
