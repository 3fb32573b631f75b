-- Which refusals a test can meet in a sound world: its outlines have three to eight corners and its bodies are placed
-- within the range, so neither 7 nor 6. Assumes nothing.
use Prim.Native.Nat.{ℕ, zero, suc, ◌+◌, ◌-◌, ◌≤◌, ◌<◌}
use mathlib.Core.Path.{◌≡◌, refl, sym, ◌∙◌}
use mathlib.Core.Bool.{Bool, true, false, not, ◌&&◌, ◌||◌, false≢true}
use native.Mathlib.Omega.{arith}
use lib.Dec.{eqb}
use lib.Ieee.{Float, le, lt}
use borrow.Author.Tests.{eqb-true, le-ltb}
use Rattle.algebra.proofs.Booleans.{by_test}
use Rattle.rounding.specs.Literals.{zero32}
use Rattle.floats.specs.declared.b2_math.B2vec2.{B2vec2}
use Rattle.floats.specs.declared.b2_math.B2Transform.{B2Transform}
use Rattle.floats.specs.Ranges.{radius_in_range, transform_in_range}
use Rattle.floats.specs.B2Math.{b2_sub, b2_dot}
use Rattle.shape_definitions.specs.declared.b2_edge_shape.B2edgeShape.{B2edgeShape}
use Rattle.shape_definitions.specs.declared.b2_polygon_shape.B2polygonShape.{B2polygonShape}
use Rattle.shape_definitions.specs.Circle.{circle_in_range}
use Rattle.shape_definitions.specs.Edge.{edge_in_range}
use Rattle.shape_definitions.specs.Validate.{polygon_in_range}
use Rattle.shape_definitions.specs.Refusal.{accepted, placement_out_of_range, count_out_of_range, wall_too_short}
use Rattle.contact_definitions.specs.declared.b2_collision.B2manifold.{B2manifold}
use Rattle.contact_definitions.specs.Answers.{ManifoldAnswer}
use Rattle.contact_definitions.specs.Answers.{WorldAnswer}
use Rattle.contact_definitions.specs.Manifold.{miscounted, unless_miscounted, where_in_range, manifold_accepted}
use Rattle.contact_definitions.specs.Manifold.{manifold_refused, default_manifold}
use Rattle.contact_definitions.specs.B2CollideCircle.{b2_collide_circles, b2_collide_polygon_and_circle}
use Rattle.contact_definitions.specs.B2CollidePolygon.{b2_collide_polygons}
use Rattle.contact_definitions.specs.B2CollideEdge.{b2_collide_edge_and_circle, b2_collide_edge_and_polygon}
use Rattle.contact_definitions.specs.B2CollideEdge.{edge_circle_answer}
use Rattle.contact_definitions.specs.EdgeAxis.{right_of}
use Rattle.contact_definitions.specs.WorldManifold.{b2_world_manifold_initialize, manifold_in_range}
use Rattle.contact_definitions.proofs.Counts.{either}
use Rattle.record_definitions.specs.declared.world.Body.{Body}
use Rattle.record_definitions.specs.declared.world.Kept.{Kept}
use Rattle.record_definitions.specs.declared.world.Pair.{Pair}
use Rattle.record_definitions.specs.World.{circle_kind, outline_kind, wall_kind, chain_kind, blank_outline}
use Rattle.record_definitions.specs.World.{wall_body, placed, pieces_of, piece_of}
use Rattle.record_definitions.specs.Touch.{meet_circle, meet_outline, meet, skin, world_points, tested_as, tested}
use Rattle.record_definitions.specs.Touch.{piece_tested, pieces_tested, first_refusal}
use Rattle.record_definitions.specs.Frame.{listed, all_tests}
use Rattle.record_definitions.proofs.Changes.{by_choice}
use Rattle.record_definitions.proofs.Counting.{met_few}
use Rattle.record_definitions.proofs.BuiltCounts.{built_count}
use Rattle.record_definitions.proofs.Sound.{Built, SoundBody, some_piece, piece_sound}

-- neither of a placement nor of a count
abbrev pub NotOfHost : ℕ → Type 0
NotOfHost n = (n ≡ placement_out_of_range → ⊥) × (n ≡ count_out_of_range → ⊥)

Fine : ManifoldAnswer → Type 0
Fine answer = NotOfHost answer.refusal

-- ---- contacts
right_count : (count : ℕ) → 3 ≤ count → count ≤ 8 → miscounted count ≡ false
right_count count enough few = simp (le-ltb count 3 enough, le-ltb 8 count few)

pub counted_right : (outline : B2polygonShape) → Built outline → miscounted outline.m_count ≡ false
counted_right outline built =
    let right = built_count blank_outline built.points built.taken in
    rw built.is (right_count _ right.0 right.1)

in_range_fine : (shapes : Bool) (xfA xfB : B2Transform) (old : B2manifold) (answer : ManifoldAnswer)
    → transform_in_range xfA ≡ true → transform_in_range xfB ≡ true → Fine answer
    → Fine (where_in_range shapes xfA xfB old answer)
unfolding Fine
in_range_fine shapes xfA xfB old answer a_placed b_placed fine =
    rw (a_placed, b_placed)
    (either Fine (not shapes) _ answer (λ e. absurd (omega arith), λ e. absurd (omega arith)) fine)

accepted_fine : (m : B2manifold) → Fine (manifold_accepted m)
unfolding Fine
accepted_fine m = (λ e. absurd (omega arith), λ e. absurd (omega arith))

too_short_fine : (m : B2manifold) → Fine (manifold_refused wall_too_short m)
unfolding Fine
too_short_fine m = (λ e. absurd (omega arith), λ e. absurd (omega arith))

counted_fine : (wrong : Bool) (old : B2manifold) (answer : ManifoldAnswer) → wrong ≡ false → Fine answer
    → Fine (unless_miscounted wrong old answer)
counted_fine wrong old answer right fine = rw right fine

edge_circle_fine : (old : B2manifold) (edge : B2edgeShape) (q : B2vec2) (radius : Float) (centre : B2vec2)
    → Fine (edge_circle_answer old edge q radius centre)
unfolding edge_circle_answer
edge_circle_fine old edge q radius centre =
    let a = edge.m_vertex1 in
    let b = edge.m_vertex2 in
    let e = b2_sub b a in
    either Fine (edge.m_one_sided && lt (b2_dot (right_of e) (b2_sub q a)) zero32) _ _ (accepted_fine _)
    (either Fine (le (b2_dot e (b2_sub q a)) zero32) _ _ (accepted_fine _)
    (either Fine (le (b2_dot e (b2_sub b q)) zero32) _ _ (accepted_fine _)
    (either Fine (lt zero32 (b2_dot e e)) _ _ (accepted_fine _) (too_short_fine old))))

-- a listed pair whose second is no circle has an outline there
never : (x : Bool) → x && false ≡ false
never true = refl
never false = refl

pub none_left : (x y z c : Bool)
    → (x && false) || (y && false) || (y && false) || (z && false) || (z && false) || (c && false) || (c && false)
    ≡ false
none_left x y z c = simp (never x, never y, never z, never c)

pub second_is_outline : (a b : ℕ) → listed a b ≡ true → eqb b circle_kind ≡ false → b ≡ outline_kind
unfolding listed
second_is_outline a b is no_circle =
    by_test (eqb b outline_kind) (eqb-true b outline_kind)
    (λ no_outline. let none : listed a b ≡ false =
    rw (no_circle, no_outline)
    (none_left (eqb a circle_kind) (eqb a outline_kind) (eqb a wall_kind) (eqb a chain_kind)) in
    absurd (false≢true (sym none ∙ is)))

module _ (a b : Body) (a_sound : SoundBody a) (b_sound : SoundBody b) where
  fine_range : (shapes : Bool) (answer : ManifoldAnswer) → Fine answer
      → Fine (where_in_range shapes a.xf b.xf default_manifold answer)
  fine_range shapes answer =
      in_range_fine shapes a.xf b.xf default_manifold answer a_sound.placement b_sound.placement

  outline_counted : (body : Body) → SoundBody body → body.kind ≡ outline_kind
      → miscounted body.outline.m_count ≡ false
  outline_counted body sound is = counted_right body.outline (sound.outline is)

  circles_fine : Fine (b2_collide_circles default_manifold a.circle a.xf b.circle b.xf)
  unfolding b2_collide_circles
  circles_fine = fine_range (circle_in_range a.circle && circle_in_range b.circle) _ (accepted_fine _)

  polygon_circle_fine : a.kind ≡ outline_kind
      → Fine (b2_collide_polygon_and_circle default_manifold a.outline a.xf b.circle b.xf)
  unfolding b2_collide_polygon_and_circle
  polygon_circle_fine is =
      counted_fine (miscounted a.outline.m_count) default_manifold _ (outline_counted a a_sound is)
      (fine_range (polygon_in_range a.outline && circle_in_range b.circle) _ (accepted_fine _))

  wall_circle_fine : Fine (b2_collide_edge_and_circle default_manifold a.wall a.xf b.circle b.xf)
  unfolding b2_collide_edge_and_circle
  wall_circle_fine =
      fine_range (edge_in_range a.wall && circle_in_range b.circle) _ (edge_circle_fine _ _ _ _ _)

  polygons_fine : a.kind ≡ outline_kind → b.kind ≡ outline_kind
      → Fine (b2_collide_polygons default_manifold a.outline a.xf b.outline b.xf)
  unfolding b2_collide_polygons
  polygons_fine a_is b_is =
      counted_fine (miscounted a.outline.m_count || miscounted b.outline.m_count) default_manifold _
      (simp (outline_counted a a_sound a_is, outline_counted b b_sound b_is))
      (fine_range (polygon_in_range a.outline && polygon_in_range b.outline) _ (accepted_fine _))

  wall_polygon_fine : b.kind ≡ outline_kind
      → Fine (b2_collide_edge_and_polygon default_manifold a.wall a.xf b.outline b.xf)
  unfolding b2_collide_edge_and_polygon
  wall_polygon_fine is =
      counted_fine (miscounted b.outline.m_count) default_manifold _ (outline_counted b b_sound is)
      (fine_range (edge_in_range a.wall && polygon_in_range b.outline) _ (accepted_fine _))

  met_fine : listed a.kind b.kind ≡ true → Fine (meet a b)
  unfolding meet meet_circle meet_outline
  met_fine is_listed =
      by_choice Fine (eqb b.kind circle_kind) _ _
      (λ circle. either Fine (eqb a.kind circle_kind) _ _ circles_fine
      (by_choice Fine (eqb a.kind outline_kind) _ _
      (λ is. polygon_circle_fine (eqb-true a.kind outline_kind is)) (λ wall. wall_circle_fine)))
      (λ other. let b_is = second_is_outline a.kind b.kind is_listed other in
      by_choice Fine (eqb a.kind outline_kind) _ _
      (λ is. polygons_fine (eqb-true a.kind outline_kind is) b_is) (λ wall. wall_polygon_fine b_is))

  -- ---- world points
  few_points : (m : B2manifold) → m.point_count ≤ 2 → NotOfHost (world_points a b m).refusal
  unfolding world_points b2_world_manifold_initialize
  few_points m few =
      rw (le-ltb 2 m.point_count few, a_sound.placement, b_sound.placement)
      (either FineWorld (eqb m.point_count 0) _ _ (λ e. absurd (omega arith), λ e. absurd (omega arith))
      (either FineWorld (not (manifold_in_range m && radius_in_range (skin a) && radius_in_range (skin b))) _ _
      (λ e. absurd (omega arith), λ e. absurd (omega arith)) (λ e. absurd (omega arith), λ e. absurd (omega arith))))
    where
      FineWorld : WorldAnswer → Type 0
      FineWorld answer = NotOfHost answer.refusal

  pub test_fine : (ida idb : ℕ) (kept : Kept) → listed a.kind b.kind ≡ true
      → NotOfHost (tested ida idb a b kept).refusal
  unfolding tested tested_as Fine
  test_fine ida idb kept is_listed =
      by_choice NotOfHost (eqb (meet a b).refusal accepted) _ _
      (λ taken. few_points (meet a b).manifold
      (met_few a b (eqb-true (meet a b).refusal accepted taken)).at_most_two)
      (λ not_taken. met_fine is_listed)

-- ---- the pieces of a body that is listed with another are listed too
as_wall : (circle outline : Bool) → (false && circle) || (false && circle) || (false && outline) || (false && circle)
    || (false && outline) || (true && circle) || (true && outline) ≡ true
    → (false && circle) || (false && circle) || (false && outline) || (true && circle) || (true && outline)
    || (false && circle) || (false && outline) ≡ true
as_wall true true e = refl
as_wall true false e = refl
as_wall false true e = refl
as_wall false false e = e

pub piece_listed : (body : Body) (i kind : ℕ) → listed body.kind kind ≡ true
    → listed (piece_of body i).kind kind ≡ true
unfolding piece_of placed wall_body listed
piece_listed body i kind is =
    by_choice (λ (piece : Body). listed piece.kind kind ≡ true) (eqb body.kind chain_kind) _ _
    (λ chain. as_wall (eqb kind circle_kind) (eqb kind outline_kind)
    (rw (eqb-true body.kind chain_kind chain) at is))
    (λ other. is)

module _ (a b : Body) (a_sound : SoundBody a) (b_sound : SoundBody b) (ida idb : ℕ) (pair : Pair)
    (is_listed : listed a.kind b.kind ≡ true) where
  pub piece_fine : (i : ℕ) → i < pieces_of a → NotOfHost (piece_tested ida idb a b pair i).refusal
  unfolding piece_tested
  piece_fine i within =
      test_fine (piece_of a i) b (piece_sound a i a_sound within) b_sound ida idb _
      (piece_listed a i b.kind is_listed)

  some_fine : (j n : ℕ) → j + n ≤ pieces_of a → NotOfHost (first_refusal (pieces_tested ida idb a b pair j n))
  unfolding pieces_tested first_refusal
  some_fine j zero few = (λ e. absurd (omega arith), λ e. absurd (omega arith))
  some_fine j (suc n) few =
      either NotOfHost (eqb (piece_tested ida idb a b pair j).refusal accepted) _ _
      (some_fine (suc j) n (omega arith)) (piece_fine j (omega arith))

  pub all_fine : NotOfHost (first_refusal (all_tests ida idb a b pair))
  unfolding first_refusal
  all_fine =
      let some = (some_piece a a_sound).0 in
      either NotOfHost (eqb (piece_tested ida idb a b pair 0).refusal accepted) _ _
      (some_fine 1 (pieces_of a - 1) (omega arith)) (piece_fine 0 some)
