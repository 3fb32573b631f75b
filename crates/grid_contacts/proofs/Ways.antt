-- The ways out of the outline-outline call, for two grid outlines with the default skin on grid placements: it counts
-- no point, or points over a face of A, or points over a face of B; with what holds of them. Assumes nothing.
use mathlib.Core.Path.{◌≡◌, ap, ◌∙◌}
use mathlib.Core.Logic.{◌⊎◌, inl, inr}
use mathlib.Core.List.{List}
use mathlib.Core.Bool.{Bool, true, false, not, cond}
use Prim.Native.Nat.{ℕ, ◌<◌}
use lib.Dec.{T}
use lib.Ieee.{binary32, add, lt}
use Rattle.algebra.specs.Integer.{whole, ◌⊞◌, ◌≼◌}
use Rattle.algebra.specs.Plane.{Point}
use Rattle.rounding.specs.Value.{val}
use Rattle.floats.specs.declared.b2_math.B2Transform.{B2Transform}
use Rattle.floats.specs.B2Common.{b2_polygon_radius}
use Rattle.shape_definitions.specs.declared.b2_polygon_shape.B2polygonShape.{B2polygonShape}
use Rattle.shape_definitions.specs.Outline.{point_at}
use Rattle.contact_definitions.specs.declared.axis.Best.{Best}
use Rattle.contact_definitions.specs.declared.axis.Axis.{Axis}
use Rattle.contact_definitions.specs.declared.axis.Axis.TheVariants.{Apart}
use Rattle.contact_definitions.specs.declared.b2_collision.B2contactId.{B2contactId}
use Rattle.contact_definitions.specs.declared.b2_collision.B2manifold.{B2manifold}
use Rattle.contact_definitions.specs.declared.b2_collision.B2manifoldType.{B2manifoldType}
use Rattle.contact_definitions.specs.declared.b2_collision.B2manifoldType.TheVariants.{EFaceA, EFaceB}
use Rattle.contact_definitions.specs.declared.b2_collision.B2worldManifold.{B2worldManifold}
use Rattle.contact_definitions.specs.Axis.{face_a, face_b}
use Rattle.contact_definitions.specs.Manifold.{swapped_id, with_kind}
use Rattle.contact_definitions.specs.B2CollidePolygon.{b2_find_max_separation, tolerance, axis_of, polygons_axis}
use Rattle.contact_definitions.specs.B2CollidePolygon.{outline_manifold, manifold_on, polygons_manifold}
use Rattle.contact_definitions.specs.WorldManifold.{world_of_face, manifold_in_range}
use Rattle.grid.specs.GridOutline.{GridOutline}
use Rattle.grid_contacts.specs.Placement.{GridPlacement, placed_corners}
use Rattle.grid_contacts.specs.Faces.{face_at}
use Rattle.grid_contacts.specs.SecondSentence.{KeepsOff, NearLargest, Touching}
use Rattle.grid_contacts.proofs.PlacedOutline.{row_place}
use Rattle.grid_contacts.proofs.MaxSeparation.{MaxFace, max_face}
use Rattle.grid_contacts.proofs.Skins.{two_skins, WithinSkins, in_reach, choice_error, a_is_reference}
use Rattle.grid_contacts.proofs.Skins.{b_is_reference}
use Rattle.grid_contacts.proofs.Reach.{not_kept_off, near_largest}
use Rattle.grid_contacts.proofs.FaceManifold.{Outcome, unchanged, made, incident_face, face_outcome}
use Rattle.grid_contacts.proofs.MadePoints.{made_touching, made_in_range}

-- ---- the manifold of a reference face of outline 1, made of one that counts no point
module _ {xf1 xf2 : B2Transform} (g1 : GridPlacement xf1) (g2 : GridPlacement xf2) (poly1 poly2 : B2polygonShape)
    (o1 : GridOutline poly1) (o2 : GridOutline poly2) (skin1 : poly1.m_radius ≡ b2_polygon_radius)
    (skin2 : poly2.m_radius ≡ b2_polygon_radius) (kind : B2manifoldType) (is_b : Bool) where
  -- what holds of m where it counts points
  pub record Pointed (m : B2manifold) : Type 0 where
    pub kind_is : m.manifold_type ≡ kind
    pub in_range : T (manifold_in_range m)
    pub touching : (old_world : B2worldManifold)
        → Touching (placed_corners g1 poly1) (placed_corners g2 poly2) g2 m
        (world_of_face is_b old_world m xf1 poly1.m_radius xf2 poly2.m_radius)

  data Found (m : B2manifold) : Type 0 where
    nothing : m.point_count ≡ 0 → Found m
    points : Pointed m → Found m

  abbrev edge : ℕ
  edge = (b2_find_max_separation poly1 xf1 poly2 xf2).place

  found : (edge_in : edge < poly1.m_count) (old : B2manifold) (named : B2contactId → B2contactId)
      → old.point_count ≡ 0 → NearLargest (placed_corners g1 poly1) (placed_corners g2 poly2)
      (face_at (placed_corners g1 poly1) edge)
      → Found (outline_manifold (with_kind old kind) named two_skins poly1 xf1 edge poly2 xf2)
  unfolding with_kind
  found edge_in old named none largest =
      go (face_outcome g1 g2 poly1 poly2 o1 o2 edge edge_in (with_kind old kind) named)
    where
      m : B2manifold
      m = outline_manifold (with_kind old kind) named two_skins poly1 xf1 edge poly2 xf2

      go : Outcome (incident_face g1 g2 poly1 poly2 o1 o2 edge edge_in) poly1 edge xf2 (with_kind old kind) m → Found m
      go (unchanged same) = nothing (ap (λ (x : B2manifold). x.point_count) same ∙ none)
      go (made M) = points (record {
        kind_is = M.kind_kept;
        in_range = made_in_range g1 g2 poly1 poly2 o1 o2 edge edge_in M;
        touching = λ old_world. made_touching g1 g2 poly1 poly2 o1 o2 edge edge_in M skin1 skin2 is_b old_world largest;
      })

-- ---- the two outlines
module _ (A B : B2polygonShape) {xfA xfB : B2Transform} (gA : GridPlacement xfA) (gB : GridPlacement xfB)
    (oA : GridOutline A) (oB : GridOutline B) (skinA : A.m_radius ≡ b2_polygon_radius)
    (skinB : B.m_radius ≡ b2_polygon_radius) where
  abbrev cornersA : List Point
  cornersA = placed_corners gA A

  abbrev cornersB : List Point
  cornersB = placed_corners gB B

  abbrev a : Best
  a = b2_find_max_separation A xfA B xfB

  abbrev b : Best
  b = b2_find_max_separation B xfB A xfA

  found_a : MaxFace cornersA cornersB a
  found_a = max_face gA gB A B oA oB

  found_b : MaxFace cornersB cornersA b
  found_b = max_face gB gA B A oB oA

  -- neither search found more than the skins
  pub record InReach : Type 0 where
    pub of_a : WithinSkins (val a.value)
    pub of_b : WithinSkins (val b.value)

  pub never_off : InReach → KeepsOff cornersA cornersB ⊎ KeepsOff cornersB cornersA → ⊥
  never_off reach (inl off) = not_kept_off found_a reach.of_a off
  never_off reach (inr off) = not_kept_off found_b reach.of_b off

  -- ---- the ways out of the call
  pub data Way (m : B2manifold) : Type 0 where
    no_points : m.point_count ≡ 0 → Way m
    over_a : InReach → Pointed gA gB A B oA oB skinA skinB EFaceA false m → Way m
    over_b : InReach → Pointed gB gA B A oB oA skinB skinA EFaceB true m → Way m

  pub way_out : (old : B2manifold) → old.point_count ≡ 0 → Way (polygons_manifold old two_skins A xfA B xfB)
  unfolding polygons_manifold polygons_axis axis_of
  way_out old none =
      go (lt two_skins a.value) (lt two_skins b.value) (lt (add binary32 a.value tolerance) b.value)
      (in_reach a.value found_a.capped.own) (in_reach b.value found_b.capped.own)
      (a_is_reference found_a.capped found_b.capped) (b_is_reference found_a.capped found_b.capped)
    where
      axis_a : Axis
      axis_a = face_a a.value (point_at A.m_normals a.place) a.place

      axis_b : Axis
      axis_b = face_b b.value (point_at B.m_normals b.place) b.place

      chosen : Bool → Bool → Bool → Axis
      chosen s t u = cond s (Apart a.value) (cond t (Apart b.value) (cond u axis_b axis_a))

      way_a : InReach → Found gA gB A B oA oB skinA skinB EFaceA false (manifold_on axis_a old two_skins A xfA B xfB)
          → Way (manifold_on axis_a old two_skins A xfA B xfB)
      way_a reach (nothing is_zero) = no_points is_zero
      way_a reach (points h) = over_a reach h

      way_b : InReach → Found gB gA B A oB oA skinB skinA EFaceB true (manifold_on axis_b old two_skins A xfA B xfB)
          → Way (manifold_on axis_b old two_skins A xfA B xfB)
      way_b reach (nothing is_zero) = no_points is_zero
      way_b reach (points h) = over_b reach h

      go : (s t u : Bool) → (T (not s) → WithinSkins (val a.value)) → (T (not t) → WithinSkins (val b.value))
          → (T (not u) → val b.value ≼ val a.value ⊞ whole choice_error)
          → (T u → val a.value ≼ val b.value ⊞ whole choice_error)
          → Way (manifold_on (chosen s t u) old two_skins A xfA B xfB)
      go true t u of_a of_b a_first b_first = no_points none
      go false true u of_a of_b a_first b_first = no_points none
      go false false true of_a of_b a_first b_first =
          let inside = row_place gB B oB b.place found_b.inside in
          way_b (record { of_a = of_a tt; of_b = of_b tt })
          (found gB gA B A oB oA skinB skinA EFaceB true inside old swapped_id none
          (near_largest found_b found_a (b_first tt)))
      go false false false of_a of_b a_first b_first =
          let inside = row_place gA A oA a.place found_a.inside in
          way_a (record { of_a = of_a tt; of_b = of_b tt })
          (found gA gB A B oA oB skinA skinB EFaceA false inside old (λ id. id) none
          (near_largest found_a found_b (a_first tt)))
