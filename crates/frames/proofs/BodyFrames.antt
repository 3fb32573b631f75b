-- What each frame makes of what was read from it: the shape or the placement is taken, or refused. Assumes nothing.
use Prim.Native.Nat.{ℕ, ◌≤◌, ◌<◌}
use mathlib.Core.Path.{◌≡◌, ◌∙◌, ap, ap₂}
use mathlib.Core.Bool.{true, false}
use mathlib.Core.List.{List}
use lib.ListN.{take}
use lib.Ieee.{Float}
use borrow.Author.Tests.{eq-eqb, ne_eqb, lt-ltb, le-ltb}
use Rattle.floats.specs.declared.b2_math.B2vec2.{B2vec2}
use Rattle.floats.specs.declared.b2_math.B2Rot.{B2Rot}
use Rattle.floats.specs.declared.b2_math.B2Transform.{B2Transform}
use Rattle.floats.specs.Ranges.{transform_in_range}
use Rattle.headings.specs.Headings.{heading}
use Rattle.lines.specs.Fields.{byte_at, float_at, vector_at, points_at, placement_at}
use Rattle.lines.proofs.Points.{length_points}
use Rattle.shape_definitions.specs.Answers.{EdgeAnswer}
use Rattle.shape_definitions.specs.declared.b2_polygon_shape.B2polygonShape.{B2polygonShape}
use Rattle.shape_definitions.specs.declared.b2_polygon_shape.PolygonAnswer.{PolygonAnswer}
use Rattle.shape_definitions.specs.Circle.{circle_in_range}
use Rattle.shape_definitions.specs.Polygon.{b2_polygon_shape_set, b2_polygon_shape_set_counted}
use Rattle.shape_definitions.specs.Refusal.{accepted, shape_out_of_range, placement_out_of_range, no_shape}
use Rattle.shape_definitions.specs.Refusal.{unknown_turn}
use Rattle.shape_definitions.proofs.Counted.{counted_whole}
use Rattle.record_definitions.specs.declared.world.Body.{Body}
use Rattle.record_definitions.specs.declared.world.Pair.{Pair}
use Rattle.record_definitions.specs.World.{no_body, blank_outline, circle_body, outline_body, wall_body, placed}
use Rattle.record_definitions.specs.Frame.{refused, defined, wall_at, circle_change, outline_change, wall_change}
use Rattle.record_definitions.specs.Frame.{placed_at, place_change, largest_turn, turn_at, turned_placement, turn_change}

module _ (body : Body) (pair : Pair) (bytes : List ℕ) where
  -- ---- 01: p and r were read
  module _ (p : B2vec2) (r : Float) (p_is : p ≡ vector_at bytes 2) (r_is : r ≡ float_at bytes 10) where
    pub circle_taken : circle_in_range (record { m_radius = r; m_p = p }) ≡ true
        → defined (circle_body (record { m_radius = r; m_p = p })) pair ≡ circle_change body pair bytes
    unfolding circle_change
    circle_taken good = rw (← p_is, ← r_is) (simp good)

    pub circle_refused : circle_in_range (record { m_radius = r; m_p = p }) ≡ false
        → refused shape_out_of_range body pair ≡ circle_change body pair bytes
    unfolding circle_change
    circle_refused bad = rw (← p_is, ← r_is) (simp bad)

  -- ---- 02: the builder on the first count of eight points is the builder on those points
  module _ (points : List B2vec2) (count : ℕ) (built : PolygonAnswer) (old : B2polygonShape)
      (count_is : count ≡ byte_at bytes 2) (points_are : take count points ≡ points_at bytes 3 count)
      (old_is : old ≡ blank_outline) (built_is : built ≡ b2_polygon_shape_set_counted old points count) where
    built_of_points : built ≡ b2_polygon_shape_set blank_outline (points_at bytes 3 (byte_at bytes 2))
    built_of_points =
        built_is
        ∙ ap (λ (o : B2polygonShape). b2_polygon_shape_set_counted o points count) old_is
        ∙ counted_whole blank_outline points (points_at bytes 3 count) count (length_points bytes 3 count)
        (λ few. points_are)
        ∙ ap (λ (n : ℕ). b2_polygon_shape_set blank_outline (points_at bytes 3 n)) count_is

    pub outline_taken : built.refusal ≡ accepted
        → defined (outline_body built.shape) pair ≡ outline_change body pair bytes
    unfolding outline_change
    outline_taken none = rw (← built_of_points) (simp (eq-eqb built.refusal accepted none))

    pub outline_refused : (built.refusal ≡ accepted → ⊥)
        → refused built.refusal body pair ≡ outline_change body pair bytes
    unfolding outline_change
    outline_refused some = rw (← built_of_points) (simp (ne_eqb built.refusal accepted some))

  -- ---- 03
  module _ (built : EdgeAnswer) (built_is : built ≡ wall_at bytes) where
    pub wall_taken : built.refusal ≡ accepted → defined (wall_body built.shape) pair ≡ wall_change body pair bytes
    unfolding wall_change
    wall_taken none = rw (← built_is) (simp (eq-eqb built.refusal accepted none))

    pub wall_refused : (built.refusal ≡ accepted → ⊥)
        → refused built.refusal body pair ≡ wall_change body pair bytes
    unfolding wall_change
    wall_refused some = rw (← built_is) (simp (ne_eqb built.refusal accepted some))

  -- ---- 04
  pub place_nothing : body.kind ≡ no_body → refused no_shape body pair ≡ place_change body pair bytes
  unfolding place_change
  place_nothing none = simp (eq-eqb body.kind no_body none)

  pub place_made : (xf : B2Transform) → xf ≡ placement_at bytes 2 → (body.kind ≡ no_body → ⊥)
      → placed_at body pair xf ≡ place_change body pair bytes
  unfolding place_change
  place_made xf xf_is some = rw xf_is (simp (ne_eqb body.kind no_body some))

  -- ---- 06: the number, the position and the heading were read
  pub turn_nothing : body.kind ≡ no_body → refused no_shape body pair ≡ turn_change body pair bytes
  unfolding turn_change
  turn_nothing none = simp (eq-eqb body.kind no_body none)

  module _ (number : ℕ) (number_is : number ≡ turn_at bytes 10) (some : body.kind ≡ no_body → ⊥) where
    pub turn_unknown : largest_turn < number → refused unknown_turn body pair ≡ turn_change body pair bytes
    unfolding turn_change
    turn_unknown above = rw (← number_is) (simp (ne_eqb body.kind no_body some, lt-ltb largest_turn number above))

    pub turn_made : (p : B2vec2) (q : B2Rot) → p ≡ vector_at bytes 2 → q ≡ heading number → number ≤ largest_turn
        → placed_at body pair (record { p = p; q = q }) ≡ turn_change body pair bytes
    unfolding turn_change
    turn_made p q p_is q_is known =
        let turned_is : record { p = p; q = q } ≡ turned_placement bytes =
        ap₂ (λ (p : B2vec2) (q : B2Rot). record { p = p; q = q }) p_is (q_is ∙ ap heading number_is) in
        rw (← turned_is, ← number_is) (simp (ne_eqb body.kind no_body some, le-ltb largest_turn number known))
