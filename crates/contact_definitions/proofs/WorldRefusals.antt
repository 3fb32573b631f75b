-- Which refusals the world points can give of the manifold of an accepted contact call, under its placements and the
-- radii of its shapes: none, or 9 for a number of that manifold; never 7, 6, or 9 for a radius. Assumes nothing.
use mathlib.Core.Path.{◌≡◌, refl, sym}
use mathlib.Core.Bool.{Bool, true, false, not, cond, ◌&&◌, ◌||◌, false≢true, and-eq-true_iff}
use mathlib.Core.Logic.{◌⊎◌, inl, inr}
use Prim.Native.Nat.{◌≤◌}
use native.Mathlib.Omega.{arith}
use lib.Dec.{eqb}
use lib.Ieee.{Float}
use borrow.Author.Tests.{le-ltb}
use Rattle.floats.specs.declared.b2_math.B2Transform.{B2Transform}
use Rattle.floats.specs.Ranges.{radius_in_range, transform_in_range}
use Rattle.shape_definitions.specs.declared.b2_circle_shape.B2circleShape.{B2circleShape}
use Rattle.shape_definitions.specs.declared.b2_polygon_shape.B2polygonShape.{B2polygonShape}
use Rattle.shape_definitions.specs.declared.b2_edge_shape.B2edgeShape.{B2edgeShape}
use Rattle.shape_definitions.specs.Circle.{circle_in_range}
use Rattle.shape_definitions.specs.Validate.{polygon_in_range}
use Rattle.shape_definitions.specs.Edge.{edge_in_range}
use Rattle.shape_definitions.specs.Refusal.{accepted, shape_out_of_range, placement_out_of_range, count_out_of_range}
use Rattle.shape_definitions.specs.Refusal.{contact_out_of_range}
use Rattle.contact_definitions.specs.declared.b2_collision.B2manifold.{B2manifold}
use Rattle.contact_definitions.specs.declared.b2_collision.B2worldManifold.{B2worldManifold}
use Rattle.contact_definitions.specs.Answers.{ManifoldAnswer}
use Rattle.contact_definitions.specs.Answers.{WorldAnswer}
use Rattle.contact_definitions.specs.Manifold.{manifold_refused, miscounted, unless_miscounted, where_in_range}
use Rattle.contact_definitions.specs.B2CollideCircle.{b2_collide_circles, b2_collide_polygon_and_circle}
use Rattle.contact_definitions.specs.B2CollidePolygon.{b2_collide_polygons}
use Rattle.contact_definitions.specs.B2CollideEdge.{b2_collide_edge_and_circle, b2_collide_edge_and_polygon}
use Rattle.contact_definitions.specs.WorldManifold.{manifold_in_range, b2_world_manifold_initialize}
use Rattle.contact_definitions.specs.WorldManifold.{world_of_kind, world_accepted, world_refused}
use Rattle.contact_definitions.proofs.Theorem.{circles_count, polygon_and_circle_count, edge_and_circle_count}
use Rattle.contact_definitions.proofs.Theorem.{polygons_count_and_kind, edge_and_polygon_count_and_kind}

-- ---- an accepted call tested its shapes and placements
accepted_tests : (shapes : Bool) (xfA xfB : B2Transform) (old : B2manifold) (answer : ManifoldAnswer)
    → (where_in_range shapes xfA xfB old answer).refusal ≡ accepted
    → (shapes ≡ true) × ((transform_in_range xfA && transform_in_range xfB) ≡ true)
accepted_tests shapes xfA xfB old answer = go shapes (transform_in_range xfA && transform_in_range xfB)
  where
    go : (s p : Bool) → (cond (not s) (manifold_refused shape_out_of_range old)
        (cond (not p) (manifold_refused placement_out_of_range old) answer)).refusal ≡ accepted
        → (s ≡ true) × (p ≡ true)
    go true true h = (refl, refl)
    go true false h = absurd (refused_not_accepted h)
      where
        refused_not_accepted : placement_out_of_range ≡ accepted → ⊥
        refused_not_accepted e = omega arith
    go false p h = absurd (refused_not_accepted h)
      where
        refused_not_accepted : shape_out_of_range ≡ accepted → ⊥
        refused_not_accepted e = omega arith

accepted_counts : (wrong : Bool) (old : B2manifold) (answer : ManifoldAnswer)
    → (unless_miscounted wrong old answer).refusal ≡ accepted → answer.refusal ≡ accepted
accepted_counts true old answer h = absurd (refused_not_accepted h)
  where
    refused_not_accepted : count_out_of_range ≡ accepted → ⊥
    refused_not_accepted e = omega arith
accepted_counts false old answer h = h

-- ---- what the world points answer of a manifold: the world manifold, or 9 for a number of the manifold
abbrev pub OnlyNumbers : WorldAnswer → B2manifold → Type 0
OnlyNumbers answer m =
    (answer.refusal ≡ accepted) ⊎ ((answer.refusal ≡ contact_out_of_range) × (manifold_in_range m ≡ false))

module _ (world : B2worldManifold) (m : B2manifold) (xfA : B2Transform) (radiusA : Float) (xfB : B2Transform)
    (radiusB : Float) where
  by_tests : (none numbers a b placed : Bool) → a ≡ true → b ≡ true → placed ≡ true → numbers ≡ manifold_in_range m
      → (answer : WorldAnswer) → answer.refusal ≡ accepted
      → OnlyNumbers (cond none (world_accepted world)
      (cond (not (numbers && a && b)) (world_refused contact_out_of_range world)
      (cond (not placed) (world_refused placement_out_of_range world) answer))) m
  by_tests true numbers a b placed a_is b_is placed_is numbers_is answer answer_is = inl refl
  by_tests false true true true true a_is b_is placed_is numbers_is answer answer_is = inl answer_is
  by_tests false false a b placed a_is b_is placed_is numbers_is answer answer_is = inr (refl, sym numbers_is)
  by_tests false true false b placed a_is b_is placed_is numbers_is answer answer_is = absurd (false≢true a_is)
  by_tests false true true false placed a_is b_is placed_is numbers_is answer answer_is = absurd (false≢true b_is)
  by_tests false true true true false a_is b_is placed_is numbers_is answer answer_is = absurd (false≢true placed_is)

  pub few_answered : m.point_count ≤ 2 → radius_in_range radiusA ≡ true → radius_in_range radiusB ≡ true
      → (transform_in_range xfA && transform_in_range xfB) ≡ true
      → OnlyNumbers (b2_world_manifold_initialize world m xfA radiusA xfB radiusB) m
  unfolding b2_world_manifold_initialize
  few_answered few a_is b_is placed_is =
      simp (le-ltb _ _ few) (by_tests (eqb m.point_count 0) (manifold_in_range m) (radius_in_range radiusA)
      (radius_in_range radiusB) (transform_in_range xfA && transform_in_range xfB) a_is b_is placed_is refl
      (world_accepted (world_of_kind m.manifold_type world m xfA radiusA xfB radiusB)) refl)

-- ---- radii of shapes in range
circle_radius : (c : B2circleShape) → circle_in_range c ≡ true → radius_in_range c.m_radius ≡ true
unfolding circle_in_range
circle_radius c h = ((and-eq-true_iff _ _).0 h).0

polygon_radius : (p : B2polygonShape) → polygon_in_range p ≡ true → radius_in_range p.m_radius ≡ true
unfolding polygon_in_range
polygon_radius p h = ((and-eq-true_iff _ _).0 ((and-eq-true_iff _ _).0 ((and-eq-true_iff _ _).0 h).0).0).0

edge_radius : (e : B2edgeShape) → edge_in_range e ≡ true → radius_in_range e.m_radius ≡ true
unfolding edge_in_range
edge_radius e h = ((and-eq-true_iff _ _).0 ((and-eq-true_iff _ _).0 ((and-eq-true_iff _ _).0 h).0).0).0

-- ---- after each contact call
module _ (world : B2worldManifold) (old : B2manifold) (xfA xfB : B2Transform) where
  -- the world points of an answer's manifold, under these placements
  abbrev After : ManifoldAnswer → Float → Float → Type 0
  After answer radiusA radiusB = answer.refusal ≡ accepted
      → OnlyNumbers (b2_world_manifold_initialize world answer.manifold xfA radiusA xfB radiusB) answer.manifold

  from_tests : (m : B2manifold) (radiusA radiusB : Float) (a b : Bool) → m.point_count ≤ 2
      → (a ≡ true → radius_in_range radiusA ≡ true) → (b ≡ true → radius_in_range radiusB ≡ true)
      → ((a && b) ≡ true) × ((transform_in_range xfA && transform_in_range xfB) ≡ true)
      → OnlyNumbers (b2_world_manifold_initialize world m xfA radiusA xfB radiusB) m
  from_tests m radiusA radiusB a b few a_radius b_radius tests =
      let shapes = (and-eq-true_iff a b).0 tests.0 in
      few_answered world m xfA radiusA xfB radiusB few (a_radius shapes.0) (b_radius shapes.1) tests.1

  pub after_circles : (a b : B2circleShape)
      → After (b2_collide_circles old a xfA b xfB) a.m_radius b.m_radius
  unfolding b2_collide_circles
  after_circles a b h =
      from_tests _ a.m_radius b.m_radius (circle_in_range a) (circle_in_range b)
      (circles_count old xfA xfB a b h).at_most_two (circle_radius a) (circle_radius b)
      (accepted_tests (circle_in_range a && circle_in_range b) xfA xfB old _ h)

  pub after_polygon_and_circle : (a : B2polygonShape) (b : B2circleShape)
      → After (b2_collide_polygon_and_circle old a xfA b xfB) a.m_radius b.m_radius
  unfolding b2_collide_polygon_and_circle
  after_polygon_and_circle a b h =
      from_tests _ a.m_radius b.m_radius (polygon_in_range a) (circle_in_range b)
      (polygon_and_circle_count old xfA xfB a b h).at_most_two (polygon_radius a) (circle_radius b)
      (accepted_tests (polygon_in_range a && circle_in_range b) xfA xfB old _
      (accepted_counts (miscounted a.m_count) old _ h))

  pub after_polygons : (a b : B2polygonShape)
      → After (b2_collide_polygons old a xfA b xfB) a.m_radius b.m_radius
  unfolding b2_collide_polygons
  after_polygons a b h =
      from_tests _ a.m_radius b.m_radius (polygon_in_range a) (polygon_in_range b)
      (polygons_count_and_kind old xfA xfB a b h).at_most_two (polygon_radius a) (polygon_radius b)
      (accepted_tests (polygon_in_range a && polygon_in_range b) xfA xfB old _
      (accepted_counts (miscounted a.m_count || miscounted b.m_count) old _ h))

  pub after_edge_and_circle : (a : B2edgeShape) (b : B2circleShape)
      → After (b2_collide_edge_and_circle old a xfA b xfB) a.m_radius b.m_radius
  unfolding b2_collide_edge_and_circle
  after_edge_and_circle a b h =
      from_tests _ a.m_radius b.m_radius (edge_in_range a) (circle_in_range b)
      (edge_and_circle_count old xfA xfB a b h).at_most_two (edge_radius a) (circle_radius b)
      (accepted_tests (edge_in_range a && circle_in_range b) xfA xfB old _ h)

  pub after_edge_and_polygon : (a : B2edgeShape) (b : B2polygonShape)
      → After (b2_collide_edge_and_polygon old a xfA b xfB) a.m_radius b.m_radius
  unfolding b2_collide_edge_and_polygon
  after_edge_and_polygon a b h =
      from_tests _ a.m_radius b.m_radius (edge_in_range a) (polygon_in_range b)
      (edge_and_polygon_count_and_kind old xfA xfB a b h).at_most_two (edge_radius a) (polygon_radius b)
      (accepted_tests (edge_in_range a && polygon_in_range b) xfA xfB old _
      (accepted_counts (miscounted b.m_count) old _ h))
