-- Document 02, request 07: after any lines, the printed normal of an outline against a circle is not zero, and its
-- squared length is 1 within 2^-18, where the outline is turned as a heading turns. Assumes nothing.
use Prim.Native.Nat.{ℕ, zero, suc, ◌%◌, ◌<◌}
use native.Mathlib.Nat.{zero-lt-suc}
use mathlib.Core.Path.{◌≡◌, refl, sym, ap, ◌∙◌, subst}
use mathlib.Core.Bool.{false, not, cond, ◌&&◌, false≢true}
use mathlib.Core.List.{List}
use native.Mathlib.Omega.{arith}
use lib.Dec.{eqb, ltb}
use borrow.Author.Tests.{eqb-true}
use Rattle.algebra.proofs.Booleans.{by_test}
use Rattle.floats.specs.B2Math.{b2_mul_rot_by_vec2}
use Rattle.floats.specs.NearUnit.{TurnedUnit}
use Rattle.floats.specs.Ranges.{radius_in_range, transform_in_range}
use Rattle.headings.specs.Headings.{Heading}
use Rattle.headings.proofs.TurnedNormal.{turned_near_unit}
use Rattle.lines.specs.Fields.{byte_at}
use Rattle.shape_definitions.specs.Refusal.{accepted}
use Rattle.contact_definitions.specs.declared.b2_collision.B2manifold.{B2manifold}
use Rattle.contact_definitions.specs.declared.b2_collision.B2manifoldType.{B2manifoldType}
use Rattle.contact_definitions.specs.Answers.{ManifoldAnswer}
use Rattle.contact_definitions.specs.Answers.{WorldAnswer}
use Rattle.contact_definitions.specs.Manifold.{default_manifold}
use Rattle.contact_definitions.specs.WorldManifold.{world_of_face, world_of_kind, manifold_in_range}
use Rattle.contact_definitions.specs.WorldManifold.{default_world_manifold, b2_world_manifold_initialize}
use Rattle.contact_definitions.specs.B2CollideCircle.{b2_collide_polygon_and_circle}
use Rattle.record_definitions.specs.declared.touch.Touch.{Touch}
use Rattle.record_definitions.specs.declared.world.Body.{Body}
use Rattle.record_definitions.specs.declared.touch.TestAnswer.{TestAnswer}
use Rattle.record_definitions.specs.declared.world.Kept.{Kept}
use Rattle.record_definitions.specs.declared.world.World.{World}
use Rattle.record_definitions.specs.declared.frame.Answer.TheVariants.{Tested}
use Rattle.record_definitions.specs.World.{circle_kind, outline_kind, chain_kind, body_at, pair_at, kept_of}
use Rattle.record_definitions.specs.Ages.{with_ages}
use Rattle.record_definitions.specs.Touch.{meet_circle, meet, skin, world_points, touch_of, tested_as, tested}
use Rattle.record_definitions.specs.OneFrame.{first_place, second_place, change_in, said_of_frame}
use Rattle.record_definitions.specs.Server.{reached}
use Rattle.record_definitions.specs.PushLaws.{PointsSomewhere, OutlinePushes}
use Rattle.record_definitions.proofs.Changes.{by_choice, was_tested}
use Rattle.record_definitions.proofs.PieceTests.{each_accepted, only_test, one_piece}
use Rattle.record_ranges.proofs.Bodies.{CappedBody}
use Rattle.record_ranges.proofs.CircleCalls.{centre_there}
use Rattle.record_ranges.proofs.NoZeroNormal.{Made, call_made, not_both_zero}
use Rattle.record_ranges.proofs.Theorem.{reached_worlds_capped}

-- ---- world points of face A with a point: the normal is the local one, turned
module _ (a b : Body) (m : B2manifold) (some : 0 < m.point_count) (made : Made m) where
  abbrev Turned : WorldAnswer → Type 0
  Turned answer = answer.refusal ≡ accepted → answer.world.normal ≡ b2_mul_rot_by_vec2 a.xf.q m.local_normal

  points_turned : Turned (world_points a b m)
  unfolding world_points b2_world_manifold_initialize world_of_face
  points_turned =
      by_choice Turned (ltb 2 m.point_count) _ _ (λ many e. absurd (omega arith))
      (λ few. by_choice Turned (eqb m.point_count 0) _ _
      (λ none e. absurd (let z = eqb-true m.point_count 0 none in omega arith))
      (λ counted. by_choice Turned
      (not (manifold_in_range m && radius_in_range (skin a) && radius_in_range (skin b))) _ _
      (λ out e. absurd (omega arith))
      (λ inside. by_choice Turned (not (transform_in_range a.xf && transform_in_range b.xf)) _ _
      (λ off e. absurd (omega arith)) (λ on e. of_kind))))
    where
      of_kind : (world_of_kind m.manifold_type default_world_manifold m a.xf (skin a) b.xf (skin b)).normal
          ≡ b2_mul_rot_by_vec2 a.xf.q m.local_normal
      of_kind = subst
          (λ (kind : B2manifoldType).
          (world_of_kind kind default_world_manifold m a.xf (skin a) b.xf (skin b)).normal
          ≡ b2_mul_rot_by_vec2 a.xf.q m.local_normal) (sym made.kind) refl

-- ---- the test of an outline and a circle
module _ (a b : Body) (a_caps : CappedBody a) (b_caps : CappedBody b) (is_outline : a.kind ≡ outline_kind)
    (is_circle : b.kind ≡ circle_kind) (turned : Heading a.xf.q) (ida idb : ℕ) (kept : Kept) where
  abbrev m : B2manifold
  m = (meet a b).manifold

  meets : meet a b ≡ b2_collide_polygon_and_circle default_manifold a.outline a.xf b.circle b.xf
  unfolding meet meet_circle
  meets = simp (is_circle, is_outline)

  met_made : (meet a b).refusal ≡ accepted → 0 < m.point_count → Made m
  met_made = subst Told (sym meets)
      (call_made a.outline (a_caps.built is_outline) default_manifold a.xf b.circle b.xf
      (λ centre first second.
      centre_there a.xf b.xf b.circle.m_p a_caps.place b_caps.place b_caps.circle.centre))
    where
      Told : ManifoldAnswer → Type 0
      Told answer = answer.refusal ≡ accepted → 0 < answer.manifold.point_count → Made answer.manifold

  -- neither the contact nor its world points are refused
  both_taken : (tested ida idb a b kept).refusal ≡ accepted
      → ((meet a b).refusal ≡ accepted) × ((world_points a b m).refusal ≡ accepted)
  unfolding tested tested_as
  both_taken = go (meet a b).refusal (world_points a b m).refusal
    where
      go : (first second : ℕ) → cond (eqb first accepted) second first ≡ accepted
          → (first ≡ accepted) × (second ≡ accepted)
      go first second h =
          by_test (eqb first accepted) (λ is. (eqb-true first accepted is, simp is at h))
          (λ other. absurd (no_way first other (simp other at h)))
        where
          no_way : (n : ℕ) → eqb n accepted ≡ false → n ≡ accepted → ⊥
          no_way n other is = false≢true (sym other ∙ ap (λ (k : ℕ). eqb k accepted) is)

  test_points : (tested ida idb a b kept).refusal ≡ accepted → 0 < (tested ida idb a b kept).touch.count
      → PointsSomewhere (tested ida idb a b kept).touch.normal
  unfolding tested tested_as touch_of with_ages
  test_points taken some =
      let accepts = both_taken taken in
      let counted : 0 < m.point_count = above m.point_count some in
      let made = met_made accepts.0 counted in
      let unit : TurnedUnit (world_points a b m).world.normal =
      subst TurnedUnit (sym (points_turned a b m counted made accepts.1))
      (turned_near_unit a.xf.q m.local_normal turned made.normal) in
      record { not_zero = not_both_zero _ 128 tt unit.unit; near_unit = unit }
    where
      above : (n : ℕ) → 0 < n % 256 → 0 < n
      above zero h = h
      above (suc n) h = zero-lt-suc n

-- ---- after any lines
pub outline_pushes : (lines : List (List ℕ)) (bytes : List ℕ) → OutlinePushes (reached lines).world bytes
unfolding said_of_frame change_in
outline_pushes lines bytes = record { pushes = pushes }
  where
    w : World
    w = (reached lines).world

    a : Body
    a = body_at w (first_place bytes)

    b : Body
    b = body_at w (second_place bytes)

    pushes : (t : Touch) → (said_of_frame w bytes).answer ≡ Tested t → a.kind ≡ outline_kind → b.kind ≡ circle_kind
        → Heading a.xf.q → 0 < t.count → PointsSomewhere t.normal
    pushes t is is_outline is_circle turned some =
        let capped = reached_worlds_capped lines in
        let pair = pair_at w (first_place bytes) (second_place bytes) in
        let was = was_tested a b pair bytes t is in
        let ida = byte_at bytes 1 in
        let idb = byte_at bytes 2 in
        let other : eqb a.kind chain_kind ≡ false = ap (λ (k : ℕ). eqb k chain_kind) is_outline in
        let one = only_test a other ida idb b pair in
        let touch_is : t ≡ (tested ida idb a b (kept_of pair 0)).touch =
        was.touch_is ∙ ap (λ (answer : TestAnswer). answer.touch) one in
        let taken : (tested ida idb a b (kept_of pair 0)).refusal ≡ accepted =
        ap (λ (answer : TestAnswer). answer.refusal) (sym one)
        ∙ each_accepted ida idb a b pair was.not_refused 0 (rw (one_piece a other) (omega arith)) in
        subst (λ (u : Touch). PointsSomewhere u.normal) (sym touch_is)
        (test_points a b (capped.each (first_place bytes)) (capped.each (second_place bytes)) is_outline is_circle
        turned ida idb (kept_of pair 0) taken (subst (λ (u : Touch). 0 < u.count) touch_is some))
