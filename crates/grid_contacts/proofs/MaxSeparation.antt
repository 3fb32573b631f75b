-- b2_find_max_separation of two placed grid outlines: a face whose separation is, within 2^-16 m, the number found, and
-- no face of that outline has a separation more than 2^-16 m above it. Assumes nothing.
use mathlib.Core.Path.{◌≡◌, sym, subst}
use mathlib.Core.List.{List}
use Prim.Native.Nat.{ℕ, ◌+◌, ◌*◌, ◌<◌}
use native.Mathlib.Omega.{arith}
use lib.Dec.{lit≤}
use lib.ListN.{length}
use lib.Ieee.{Float, neg}
use Rattle.algebra.specs.Integer.{Z, whole, ◌⊞◌, ◌⊟◌, ◌⊛◌, opp, ◌≼◌, ◌≺◌, Abs}
use Rattle.algebra.specs.Plane.{Point}
use Rattle.rounding.specs.Value.{metre, F32, val}
use Rattle.rounding.proofs.Value.{metre_is, metre_pos, val_neg}
use Rattle.rounding.proofs.Literals.{bits_val}
use Rattle.rounding.proofs.Caps.{Capped}
use Rattle.floats.specs.declared.b2_math.B2Transform.{B2Transform}
use Rattle.floats.specs.B2Common.{b2_max_float}
use Rattle.floats.specs.B2Math.{b2_mul_t_transform}
use Rattle.shape_definitions.specs.declared.b2_polygon_shape.B2polygonShape.{B2polygonShape}
use Rattle.contact_definitions.specs.declared.axis.Best.{Best}
use Rattle.contact_definitions.specs.B2CollidePolygon.{face_separation, b2_find_max_separation}
use Rattle.contact_definitions.proofs.Extremes.{Least, least_found, Greatest, greatest_found}
use Rattle.grid.specs.GridOutline.{GridOutline}
use Rattle.grid_contacts.specs.Placement.{GridPlacement, placed_corners}
use Rattle.grid_contacts.specs.Lengths.{Length, exactly}
use Rattle.grid_contacts.specs.Faces.{face_at, corner_at, EveryFace, DistanceAtLeast, SeparationAtMost}
use Rattle.grid_contacts.specs.Faces.{SeparationAtLeast}
use Rattle.grid_contacts.proofs.Distances.{at_most_longer, at_least_shorter}
use Rattle.grid_contacts.proofs.FaceDistance.{separation_metres, distance_error}
use Rattle.grid_contacts.proofs.PlacedOutline.{row_place, outline_place}
use Rattle.grid_contacts.proofs.CornerSeparation.{Measured, corner_separation, placed_separation}

-- ---- the largest float is above every separation
max_float_high : whole ((separation_metres + 1) * metre) ≼ val b2_max_float
max_float_high = rw (bits_val 0x7f7f_ffff tt, metre_is) (lit≤ tt)

module _ {s : Float} (capped : Capped s separation_metres) where
  below_max : val s ≺ val b2_max_float
  below_max = go (val s) (val b2_max_float) capped.cap max_float_high
    where
      go : (v w : Z) → Abs v (separation_metres * metre) → whole ((separation_metres + 1) * metre) ≼ w → v ≺ w
      go v w h k = let p = metre_pos in omega arith

  above_min : val (neg b2_max_float) ≺ val s
  above_min = rw val_neg (go (val s) (val b2_max_float) capped.cap max_float_high)
    where
      go : (v w : Z) → Abs v (separation_metres * metre) → whole ((separation_metres + 1) * metre) ≼ w → opp w ≺ v
      go v w h k = let p = metre_pos in omega arith

-- a measured separation, less and plus the error of a distance
abbrev lowered : Float → Length
lowered s = exactly (val s ⊟ whole distance_error)

abbrev raised : Float → Length
raised s = exactly (val s ⊞ whole distance_error)

-- ---- the face found, of the outline `reference`
pub record MaxFace (reference other : List Point) (r : Best) : Type 0 where
  pub capped : Capped r.value separation_metres
  pub inside : r.place < length reference
  pub reached : SeparationAtLeast (face_at reference r.place) other (lowered r.value)
  pub every : EveryFace reference (λ f. SeparationAtMost f other (raised r.value))

module _ {xf1 xf2 : B2Transform} (g1 : GridPlacement xf1) (g2 : GridPlacement xf2) (poly1 poly2 : B2polygonShape)
    (o1 : GridOutline poly1) (o2 : GridOutline poly2) where
  abbrev n1 : ℕ
  n1 = poly1.m_count

  abbrev n2 : ℕ
  n2 = poly2.m_count

  abbrev corners1 : List Point
  corners1 = placed_corners g1 poly1

  abbrev corners2 : List Point
  corners2 = placed_corners g2 poly2

  abbrev xf : B2Transform
  xf = b2_mul_t_transform xf2 xf1

  abbrev at_corner : ℕ → ℕ → Float
  at_corner = corner_separation xf poly1 poly2

  measured : (i j : ℕ) → i < n1 → j < n2 → Measured (face_at corners1 i) (corner_at corners2 j) (at_corner i j)
  measured i j i_in j_in = placed_separation g1 g2 poly1 poly2 o1 o2 i j i_in j_in

  some1 : 0 < n1
  some1 = let h = o1.three in omega arith

  some2 : 0 < n2
  some2 = let h = o2.three in omega arith

  -- ---- the deepest corner under face i
  at_face : ℕ → Float
  at_face = face_separation xf poly1 poly2

  finite_at : (i : ℕ) → i < n1 → (j : ℕ) → j < n2 → F32 (at_corner i j)
  finite_at i i_in j j_in = (measured i j i_in j_in).capped.own

  deepest : (i : ℕ) (i_in : i < n1) → Least (at_corner i) n2 (finite_at i i_in) some2 (at_face i)
  unfolding at_face face_separation
  deepest i i_in =
      least_found (at_corner i) n2 (finite_at i i_in) some2
      (λ j j_in. below_max (measured i j i_in j_in).capped)

  deepest_capped : (i : ℕ) → i < n1 → Capped (at_face i) separation_metres
  deepest_capped i i_in =
      let d = deepest i i_in in
      subst (λ (s : Float). Capped s separation_metres) (sym d.is) (measured i d.place i_in d.inside).capped

  -- ---- the face found
  found : Greatest at_face n1 (λ i i_in. (deepest i i_in).own) some1 (b2_find_max_separation poly1 xf1 poly2 xf2)
  unfolding at_face b2_find_max_separation
  found =
      greatest_found at_face n1 (λ i i_in. (deepest i i_in).own) some1
      (λ i i_in. above_min (deepest_capped i i_in))

  pub max_face : MaxFace corners1 corners2 (b2_find_max_separation poly1 xf1 poly2 xf2)
  max_face =
      let r = b2_find_max_separation poly1 xf1 poly2 xf2 in
      record {
        capped = subst (λ (s : Float). Capped s separation_metres) (sym found.is)
            (deepest_capped r.place found.inside);
        inside = outline_place g1 poly1 o1 r.place found.inside;
        reached = λ j h. own_face r.place found.inside j (row_place g2 poly2 o2 j h) r.value found.is;
        every = λ i h. any_face i (row_place g1 poly1 o1 i h) r.value
            (found.highest i (row_place g1 poly1 o1 i h));
      }
    where
      lower : (a b : Z) → a ≼ b → 1 ⊛ (a ⊟ whole distance_error) ≼ 1 ⊛ (b ⊟ whole distance_error)
      lower a b h = omega arith

      raise : (a b : Z) → a ≼ b → 1 ⊛ (a ⊞ whole distance_error) ≼ 1 ⊛ (b ⊞ whole distance_error)
      raise a b h = omega arith

      own_face : (i : ℕ) → i < n1 → (j : ℕ) → j < n2 → (s : Float) → s ≡ at_face i
          → DistanceAtLeast (face_at corners1 i) (corner_at corners2 j) (lowered s)
      own_face i i_in j j_in s is =
          at_least_shorter (face_at corners1 i) (corner_at corners2 j) (lowered (at_corner i j)) (lowered s) (lit≤ tt)
          (lower (val s) (val (at_corner i j))
          (subst (λ (z : Float). val z ≼ val (at_corner i j)) (sym is) ((deepest i i_in).lowest j j_in)))
          (measured i j i_in j_in).near.at_least

      any_face : (i : ℕ) → i < n1 → (s : Float) → val (at_face i) ≼ val s
          → SeparationAtMost (face_at corners1 i) corners2 (raised s)
      any_face i i_in s le =
          let d = deepest i i_in in
          let j = d.place in (
            j,
            outline_place g2 poly2 o2 j d.inside,
            at_most_longer (face_at corners1 i) (corner_at corners2 j) (raised (at_corner i j)) (raised s) (lit≤ tt)
                (raise (val (at_corner i j)) (val s) (subst (λ (z : Float). val z ≼ val s) d.is le))
                (measured i j i_in d.inside).near.at_most,
          )
