-- Demand 3, second sentence, of two grid outlines with the default skin on grid placements: what the two calls answer
-- on each way out of the first. Assumes nothing.
use mathlib.Core.Path.{◌≡◌, refl, sym, ap, ◌∙◌, subst}
use mathlib.Core.List.{List}
use Prim.Native.Nat.{ℕ, zero, suc, ◌≤◌, ◌<◌}
use native.Mathlib.Omega.{arith}
use lib.Dec.{T}
use lib.Ieee.{Float}
use Rattle.algebra.specs.Plane.{Point}
use Rattle.floats.specs.declared.b2_math.B2Transform.{B2Transform}
use Rattle.floats.specs.B2Common.{b2_polygon_radius}
use Rattle.floats.specs.Ranges.{radius_in_range}
use Rattle.floats.proofs.Constants.{skin_in_range}
use Rattle.shape_definitions.specs.declared.b2_polygon_shape.B2polygonShape.{B2polygonShape}
use Rattle.contact_definitions.specs.declared.b2_collision.B2manifold.{B2manifold}
use Rattle.contact_definitions.specs.declared.b2_collision.B2manifoldType.{B2manifoldType}
use Rattle.contact_definitions.specs.declared.b2_collision.B2manifoldType.TheVariants.{EFaceA, EFaceB}
use Rattle.contact_definitions.specs.declared.b2_collision.B2worldManifold.{B2worldManifold}
use Rattle.contact_definitions.specs.Answers.{ManifoldAnswer}
use Rattle.contact_definitions.specs.Answers.{WorldAnswer}
use Rattle.contact_definitions.specs.Manifold.{with_count, manifold_accepted}
use Rattle.contact_definitions.specs.B2CollidePolygon.{polygons_manifold, b2_collide_polygons}
use Rattle.contact_definitions.specs.WorldManifold.{world_of_kind, manifold_in_range, world_accepted}
use Rattle.contact_definitions.specs.WorldManifold.{b2_world_manifold_initialize}
use Rattle.contact_definitions.proofs.WorldPoints.{no_points_answer, points_answer}
use Rattle.contact_definitions.proofs.Theorem.{polygons_count_and_kind}
use Rattle.grid.specs.GridOutline.{GridOutline}
use Rattle.grid.proofs.ContactRanges.{Taken, grid_taken, polygons_accepted}
use Rattle.grid_contacts.specs.Placement.{GridPlacement, placed_corners}
use Rattle.grid_contacts.specs.SecondSentence.{Reported, by_face_a, by_face_b, SecondSentence, SecondSentenceOf}
use Rattle.grid_contacts.proofs.Skins.{two_skins}
use Rattle.grid_contacts.proofs.PlacementRange.{placement_in_range}
use Rattle.grid_contacts.proofs.Ways.{InReach, never_off, Way, no_points, over_a, over_b, way_out}

-- ---- the two outlines
module _ (A B : B2polygonShape) {xfA xfB : B2Transform} (gA : GridPlacement xfA) (gB : GridPlacement xfB)
    (oA : GridOutline A) (oB : GridOutline B) (skinA : A.m_radius ≡ b2_polygon_radius)
    (skinB : B.m_radius ≡ b2_polygon_radius) where
  abbrev cornersA : List Point
  cornersA = placed_corners gA A

  abbrev cornersB : List Point
  cornersB = placed_corners gB B

  abbrev WayOf : B2manifold → Type 0
  WayOf = Way A B gA gB oA oB skinA skinB

  -- ---- what the calls answer
  abbrev world_of : B2worldManifold → B2manifold → WorldAnswer
  world_of old_world m = b2_world_manifold_initialize old_world m xfA A.m_radius xfB B.m_radius

  abbrev Answered : B2worldManifold → ManifoldAnswer → Type 0
  Answered old_world contact = SecondSentence cornersA cornersB gA gB contact (world_of old_world contact.manifold)

  radius_in : {r : Float} → r ≡ b2_polygon_radius → T (radius_in_range r)
  radius_in is = subst (λ (x : Float). T (radius_in_range x)) (sym is) skin_in_range

  module _ (old_world : B2worldManifold) (m : B2manifold) (few : m.point_count ≤ 2) where
    none_answered : m.point_count ≡ 0 → Answered old_world (manifold_accepted m)
    none_answered none = record {
      contact_accepted = refl;
      world_accepted = ap (λ (w : WorldAnswer). w.refusal)
          (no_points_answer old_world m xfA A.m_radius xfB B.m_radius none);
      at_most_two = few;
      none_where_kept_off = λ off. none;
      where_reported = λ some. absurd (omega arith);
    }

    -- the kind is k, and the points touch
    some_answered : (k : B2manifoldType) → 0 < m.point_count → InReach A B gA gB oA oB skinA skinB
        → m.manifold_type ≡ k → T (manifold_in_range m)
        → Reported cornersA cornersB gA gB m (world_of_kind k old_world m xfA A.m_radius xfB B.m_radius)
        → Answered old_world (manifold_accepted m)
    some_answered k some reach kind_is in_range reported =
        let world = points_answer old_world m xfA A.m_radius xfB B.m_radius few some in_range
        (radius_in skinA) (radius_in skinB) (placement_in_range gA) (placement_in_range gB) ∙ ap of_kind kind_is in
        record {
          contact_accepted = refl;
          world_accepted = ap (λ (w : WorldAnswer). w.refusal) world;
          at_most_two = few;
          none_where_kept_off = λ off. absurd (never_off A B gA gB oA oB skinA skinB reach off);
          where_reported = λ h. subst (λ (w : WorldAnswer). Reported cornersA cornersB gA gB m w.world) (sym world)
              reported;
        }
      where
        of_kind : B2manifoldType → WorldAnswer
        of_kind t = world_accepted (world_of_kind t old_world m xfA A.m_radius xfB B.m_radius)

    answered : WayOf m → Answered old_world (manifold_accepted m)
    answered way = by_count m.point_count refl way
      where
        of_way : 0 < m.point_count → WayOf m → Answered old_world (manifold_accepted m)
        of_way some (no_points none) = none_answered none
        of_way some (over_a reach h) =
            some_answered EFaceA some reach h.kind_is h.in_range (by_face_a h.kind_is (h.touching old_world))
        of_way some (over_b reach h) =
            some_answered EFaceB some reach h.kind_is h.in_range (by_face_b h.kind_is (h.touching old_world))

        by_count : (n : ℕ) → m.point_count ≡ n → WayOf m → Answered old_world (manifold_accepted m)
        by_count zero is way = none_answered is
        by_count (suc n) is way = of_way (omega arith) way

  -- ---- the sentence
  taken_a : Taken A
  taken_a = grid_taken A oA (oA.in_range (radius_in skinA))

  taken_b : Taken B
  taken_b = grid_taken B oB (oB.in_range (radius_in skinB))

  contact_is : (old : B2manifold)
      → b2_collide_polygons old A xfA B xfB
      ≡ manifold_accepted (polygons_manifold (with_count old 0) two_skins A xfA B xfB)
  contact_is old =
      polygons_accepted old xfA xfB (placement_in_range gA) (placement_in_range gB) A B taken_a taken_b
      ∙ ap (λ (total : Float). manifold_accepted (polygons_manifold (with_count old 0) total A xfA B xfB))
      (rw (skinA, skinB))

  pub outlines_sentence : (old : B2manifold) (old_world : B2worldManifold) → SecondSentenceOf A B gA gB old old_world
  unfolding with_count
  outlines_sentence old old_world =
      let m = polygons_manifold (with_count old 0) two_skins A xfA B xfB in
      let taken = ap (λ (c : ManifoldAnswer). c.refusal) (contact_is old) in
      let few : m.point_count ≤ 2 = subst (λ (c : ManifoldAnswer). c.manifold.point_count ≤ 2) (contact_is old)
      (polygons_count_and_kind old xfA xfB A B taken).at_most_two in
      subst (Answered old_world) (sym (contact_is old))
      (answered old_world m few (way_out A B gA gB oA oB skinA skinB (with_count old 0) refl))
