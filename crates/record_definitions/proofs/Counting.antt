-- What a test that answers prints and keeps: the states, ids and ages of its contact, the count of touches, and the
-- number of points, which is at most two. Assumes nothing.
use Prim.Native.Nat.{ℕ, ◌≤◌}
use mathlib.Core.Path.{◌≡◌, refl}
use mathlib.Core.Bool.{Bool, true, false}
use native.Mathlib.Omega.{arith}
use lib.Dec.{eqb}
use borrow.Author.Tests.{eqb-true}
use Rattle.shape_definitions.specs.Refusal.{accepted}
use Rattle.contact_definitions.specs.Answers.{ManifoldAnswer}
use Rattle.contact_definitions.specs.Answers.{WorldAnswer}
use Rattle.contact_definitions.specs.Manifold.{default_manifold}
use Rattle.contact_definitions.specs.PointStates.{ids_of}
use Rattle.contact_definitions.proofs.Counts.{Few, OnFace, Accepted, either}
use Rattle.contact_definitions.proofs.Theorem.{circles_count, polygon_and_circle_count, edge_and_circle_count}
use Rattle.contact_definitions.proofs.Theorem.{polygons_count_and_kind, edge_and_polygon_count_and_kind}
use Rattle.record_definitions.specs.declared.world.Body.{Body}
use Rattle.record_definitions.specs.declared.world.Kept.{Kept}
use Rattle.record_definitions.specs.World.{circle_kind, outline_kind}
use Rattle.record_definitions.specs.Touch.{meet_circle, meet_outline, meet, world_points, refusal_of}
use Rattle.record_definitions.specs.Touch.{touches_after, states_of, touch_of, tested_as, tested}
use Rattle.record_definitions.specs.Ages.{ages_of, with_ages}

-- ---- at most two points
on_face_few : (answer : ManifoldAnswer) → Accepted OnFace answer → Accepted Few answer
on_face_few answer h taken = record { at_most_two = (h taken).at_most_two }

module _ (a b : Body) where
  pub met_few : Accepted Few (meet a b)
  unfolding meet meet_circle meet_outline
  met_few =
      either (Accepted Few) (eqb b.kind circle_kind) _ _
      (either (Accepted Few) (eqb a.kind circle_kind) _ _
      (circles_count default_manifold a.xf b.xf a.circle b.circle)
      (either (Accepted Few) (eqb a.kind outline_kind) _ _
      (polygon_and_circle_count default_manifold a.xf b.xf a.outline b.circle)
      (edge_and_circle_count default_manifold a.xf b.xf a.wall b.circle)))
      (either (Accepted Few) (eqb a.kind outline_kind) _ _
      (on_face_few _ (polygons_count_and_kind default_manifold a.xf b.xf a.outline b.outline))
      (on_face_few _ (edge_and_polygon_count_and_kind default_manifold a.xf b.xf a.wall b.outline)))

  -- a test that is not refused has a contact that is not
  met_taken : (t : Bool) (world : WorldAnswer) → eqb (meet a b).refusal accepted ≡ t
      → refusal_of (meet a b) world ≡ accepted → (meet a b).refusal ≡ accepted
  met_taken true world is none = eqb-true (meet a b).refusal accepted is
  met_taken false world is none = simp is at none

  module _ (ida idb : ℕ) (kept : Kept) where
    pub contact_taken : (tested ida idb a b kept).refusal ≡ accepted → (meet a b).refusal ≡ accepted
    unfolding tested tested_as
    contact_taken none =
        met_taken (eqb (meet a b).refusal accepted) (world_points a b (meet a b).manifold) refl none

    -- ---- what the test prints
    pub states_printed : (tested ida idb a b kept).touch.states ≡ states_of kept (meet a b).manifold
    unfolding tested tested_as touch_of
    states_printed = refl

    pub touches_printed : (tested ida idb a b kept).touch.touches
        ≡ touches_after kept.touches kept.ids.count (meet a b).manifold.point_count
    unfolding tested tested_as touch_of
    touches_printed = refl

    pub first_printed : (tested ida idb a b kept).touch.a ≡ ida
    unfolding tested tested_as touch_of
    first_printed = refl

    pub second_printed : (tested ida idb a b kept).touch.b ≡ idb
    unfolding tested tested_as touch_of
    second_printed = refl

    pub count_printed : (tested ida idb a b kept).refusal ≡ accepted
        → ((tested ida idb a b kept).touch.count ≡ (meet a b).manifold.point_count)
        × ((meet a b).manifold.point_count ≤ 2)
    unfolding tested tested_as touch_of with_ages
    count_printed none =
        let few = (met_few (contact_taken none)).at_most_two in
        (omega (arith, few), few)

    pub ages_printed : ((tested ida idb a b kept).touch.first.age ≡ (ages_of kept (ids_of (meet a b).manifold)).first)
        × ((tested ida idb a b kept).touch.second.age ≡ (ages_of kept (ids_of (meet a b).manifold)).second)
    unfolding tested tested_as touch_of with_ages
    ages_printed = (refl, refl)

    -- ---- what is kept
    pub ids_kept : (tested ida idb a b kept).kept.ids ≡ ids_of (meet a b).manifold
    unfolding tested tested_as
    ids_kept = refl

    pub ages_kept : (tested ida idb a b kept).kept.ages ≡ ages_of kept (ids_of (meet a b).manifold)
    unfolding tested tested_as
    ages_kept = refl

    pub touches_kept : (tested ida idb a b kept).kept.touches ≡ (tested ida idb a b kept).touch.touches
    unfolding tested tested_as touch_of
    touches_kept = refl
