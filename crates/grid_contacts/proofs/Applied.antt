-- The second sentence on the witnesses, whatever the manifold and the world record held before: its hypotheses are met,
-- points are reported over a face of A and over a face of B, one and two of them, with the other outline turned by each
-- quarter, and by a turn number; one square keeps another off. And two sentences near it that are false: the distance
-- from another face than the one chosen, and the point carried by the reference's placement. Assumes nothing.
use mathlib.Core.Path.{◌≡◌, refl, sym, subst}
use mathlib.Core.Bool.{Bool, not}
use mathlib.Core.List.{List}
use mathlib.Core.Logic.{inl}
use Prim.Native.Nat.{ℕ, zero, suc, ◌+◌, ◌*◌, ◌^◌, ◌<◌}
use native.Mathlib.Nat.{not-le_of_lt}
use native.Mathlib.Omega.{arith}
use lib.Dec.{T, leb, nleb→lt, lit≤, lit<}
use lib.ListN.{length}
use lib.Ieee.{Float, of_bits}
use Rattle.algebra.specs.Integer.{Z, opp, ◌⊛◌}
use Rattle.algebra.specs.Plane.{Point}
use Rattle.algebra.specs.Squares.{signed_square, OverRootLe}
use Rattle.rounding.specs.Value.{metre, val}
use Rattle.floats.specs.declared.b2_math.B2vec2.{B2vec2}
use Rattle.floats.specs.declared.b2_math.B2Transform.{B2Transform}
use Rattle.shape_definitions.specs.declared.b2_polygon_shape.B2polygonShape.{B2polygonShape}
use Rattle.contact_definitions.specs.declared.b2_collision.B2manifold.{B2manifold}
use Rattle.contact_definitions.specs.declared.b2_collision.B2worldManifold.{B2worldManifold}
use Rattle.headings.proofs.Theorem.{quarter_turns}
use Rattle.grid.specs.Grid.{value_point}
use Rattle.grid.specs.Demand3.{outline_from}
use Rattle.grid.proofs.Controls.{points, square, grid_list, skinned, computed}
use Rattle.grid_contacts.specs.Placement.{unturned, to_left, GridPlacement, carried, placed_corners}
use Rattle.grid_contacts.specs.Lengths.{exactly, ◌plus◌, point_tolerance, choice_tolerance}
use Rattle.grid_contacts.specs.Faces.{Face, corner_at, face_at, off_line, squared_length, DistanceAbove}
use Rattle.grid_contacts.specs.Faces.{EveryFace, SeparationAtMost, NearFace, NearBoundary}
use Rattle.grid_contacts.specs.SecondSentence.{reach, KeepsOff, Reported, by_face_a, by_face_b, SecondSentenceOf}
use Rattle.grid_contacts.specs.SecondSentence.{distance_least, NearDistance, contact_point, separation_at}
use Rattle.grid_contacts.specs.TurnNumbers.{by_turn_number}
use Rattle.grid_contacts.proofs.Witnesses.{built, triangle, square_outline, triangle_outline, here, off, answer}
use Rattle.grid_contacts.proofs.Witnesses.{world_answer, beside, beside_left, upper, corner, depth}
use Rattle.grid_contacts.proofs.Witnesses.{touches, here_placed, beside_placed, left_placed, about_placed}
use Rattle.grid_contacts.proofs.Witnesses.{right_placed, off_placed, grid_placed}
use Rattle.grid_contacts.proofs.OffBoundary.{far_left}
use Rattle.grid_contacts.proofs.Theorem.{second_sentence}
use Rattle.grid_contacts.proofs.TurnNumbers.{quarter_turn_numbers}

-- ---- d / √t is above a / b, by a computed test
abbrev beyond : Z → ℕ → Z → ℕ → Bool
beyond d t a b =
    let left = (b * b) ⊛ signed_square d in
    let right = t ⊛ signed_square a in
    not (leb (left.0 + right.1) (right.0 + left.1))

beyond_means : (d : Z) (t : ℕ) (a : Z) (b : ℕ) → T (beyond d t a b) → ¬ OverRootLe d t a b
beyond_means d t a b computed_test h = not-le_of_lt (nleb→lt _ _ computed_test) h

-- a square has four corners
no_fifth : (j : ℕ) → suc (suc (suc (suc j))) < 4 → ⊥
no_fifth j h = omega arith

-- ---- a report speaks of every face of both outlines: none is above one level and 1/1024 m
over_both : {a b : List Point} {ta tb : B2Transform} {placedA : GridPlacement ta} {placedB : GridPlacement tb}
    {m : B2manifold} {world : B2worldManifold} → Reported a b placedA placedB m world
    → (level : Z) × EveryFace a (λ f. SeparationAtMost f b (exactly level plus choice_tolerance))
    × EveryFace b (λ f. SeparationAtMost f a (exactly level plus choice_tolerance))
over_both (by_face_a kind t) =
    (t.near_largest.level, t.near_largest.by_reference, t.near_largest.by_other)
over_both (by_face_b kind t) =
    (t.near_largest.level, t.near_largest.by_other, t.near_largest.by_reference)

-- ---- points are reported
module _ (old : B2manifold) (old_world : B2worldManifold) where
  abbrev ReportedOf : (A B : B2polygonShape) {xfA xfB : B2Transform} → GridPlacement xfA → GridPlacement xfB → Type 0
  ReportedOf A B {xfA} {xfB} placedA placedB =
      let m = answer old A xfA B xfB in
      Reported (placed_corners placedA A) (placed_corners placedB B) placedA placedB m
      (world_answer old_world m A xfA B xfB)

  -- two squares, the first at the origin
  squares : {xf : B2Transform} (placed : GridPlacement xf)
      → SecondSentenceOf square_outline square_outline here_placed placed old old_world
  squares placed =
      subst (λ (A : B2polygonShape). SecondSentenceOf A A here_placed placed old old_world) built.square_built
      (second_sentence skinned skinned refl refl (points square) (points square) (grid_list square tt)
      (grid_list square tt) (computed skinned).square_accepted (computed skinned).square_accepted here_placed placed
      old old_world)

  two_squares : {xf : B2Transform} (placed : GridPlacement xf)
      → (answer old square_outline here square_outline xf).point_count ≡ 2
      → ReportedOf square_outline square_outline here_placed placed
  two_squares placed two = (squares placed).where_reported (subst (λ (n : ℕ). 0 < n) (sym two) (lit< tt))

  reported_beside : ReportedOf square_outline square_outline here_placed beside_placed
  reported_beside = two_squares beside_placed (touches old).two_points

  reported_left : ReportedOf square_outline square_outline here_placed left_placed
  reported_left = two_squares left_placed (touches old).two_turned_left

  reported_about : ReportedOf square_outline square_outline here_placed about_placed
  reported_about = two_squares about_placed (touches old).two_turned_about

  reported_right : ReportedOf square_outline square_outline here_placed right_placed
  reported_right = two_squares right_placed (touches old).two_turned_right

  -- the first unturned and the second to the left, by the turn numbers 0 and 1,024
  abbrev first_turned : GridPlacement (by_turn_number here.p unturned)
  first_turned = quarter_turn_numbers.placement unturned here_placed.position

  abbrev second_turned : GridPlacement (by_turn_number beside_left.p to_left)
  second_turned = quarter_turn_numbers.placement to_left left_placed.position

  reported_by_numbers : ReportedOf square_outline square_outline first_turned second_turned
  reported_by_numbers =
      (subst (λ (A : B2polygonShape). SecondSentenceOf A A first_turned second_turned old old_world)
      built.square_built
      (quarter_turn_numbers.sentence skinned skinned refl refl (points square) (points square) (grid_list square tt)
      (grid_list square tt) (computed skinned).square_accepted (computed skinned).square_accepted unturned to_left
      here_placed.position left_placed.position old old_world)
      ).where_reported (rw (quarter_turns.unturned, quarter_turns.to_left, (touches old).two_turned_left) (lit< tt))

  -- a square and a triangle
  abbrev Sentence : B2polygonShape → B2polygonShape → Type 0
  Sentence A B = SecondSentenceOf A B here_placed here_placed old old_world

  square_and_triangle : Sentence square_outline triangle_outline
  square_and_triangle =
      let built_both = second_sentence skinned skinned refl refl (points square) (points triangle) (grid_list square tt)
      (grid_list triangle tt) (computed skinned).square_accepted built.triangle_accepted here_placed here_placed old
      old_world in
      subst (Sentence square_outline) built.triangle_built
      (subst (λ (A : B2polygonShape). Sentence A (outline_from skinned (points triangle))) built.square_built
      built_both)

  reported_triangle : ReportedOf square_outline triangle_outline here_placed here_placed
  reported_triangle =
      square_and_triangle.where_reported (subst (λ (n : ℕ). 0 < n) (sym (touches old).one_point) (lit< tt))

  -- "that same face": the corner (1, 1) is 1 inside of the triangle's first face, x = 2, which its world separation,
  -- the skins, does not say
  abbrev first_face : Face
  first_face = face_at (placed_corners here_placed triangle_outline) 0

  pub not_of_another_face : let m = answer old square_outline here triangle_outline here in
      ¬ NearDistance first_face (contact_point here_placed m 0)
      (val (separation_at (world_answer old_world m square_outline here triangle_outline here) 0))
  unfolding of_bits metre val here_placed grid_placed
  not_of_another_face near =
      let near_depth = subst (λ (w : Float). NearDistance first_face (contact_point here_placed
      (answer old square_outline here triangle_outline here) 0) (val w)) ((touches old).depth_is old_world) near in
      let near_corner = subst (λ (p : B2vec2). NearDistance first_face (carried here_placed (value_point p))
      (val depth))
      (touches old).corner_is near_depth in
      beyond_means (opp (off_line first_face (carried here_placed (value_point corner)))) (squared_length first_face)
      (opp (distance_least (val depth)).over) (distance_least (val depth)).under tt near_corner.at_least

  -- "carried by the placement of the other outline": by that of the reference, the upper point of two squares would lie
  -- 1/2 m left of the second one
  abbrev second_square : List Point
  second_square = placed_corners beside_placed square_outline

  off_second : (i : ℕ) → i < 4
      → ¬ NearFace point_tolerance (carried here_placed (value_point upper)) (face_at second_square i)
  unfolding of_bits metre val here_placed beside_placed grid_placed
  off_second zero h = far_left 4096 metre (2 ^ 148) _ _ (lit≤ tt) (lit≤ tt) (lit< tt)
  off_second (suc zero) h = far_left 4096 metre (2 ^ 148) _ _ (lit≤ tt) (lit≤ tt) (lit< tt)
  off_second (suc (suc zero)) h = far_left 4096 metre (2 ^ 148) _ _ (lit≤ tt) (lit≤ tt) (lit< tt)
  off_second (suc (suc (suc zero))) h = far_left 4096 metre (2 ^ 148) _ _ (lit≤ tt) (lit≤ tt) (lit< tt)
  off_second (suc (suc (suc (suc j)))) h = absurd (no_fifth j h)

  pub not_carried_by_the_reference : ¬ NearBoundary point_tolerance second_square
      (contact_point here_placed (answer old square_outline here square_outline beside) 0)
  not_carried_by_the_reference near =
      let at_upper = subst (λ (p : B2vec2). NearBoundary point_tolerance second_square (carried here_placed
      (value_point p)))
      (touches old).upper_is near in
      off_second at_upper.0 at_upper.1 at_upper.2

-- ---- the face x = 1 of a square keeps a square at x = 2 off
abbrev right_face : Face
right_face = face_at (placed_corners here_placed square_outline) 0

abbrev far : ℕ → Point
far j = corner_at (placed_corners off_placed square_outline) j

-- corner j is farther off than 0.02 + 1/4096 m
abbrev is_farther : ℕ → Bool
is_farther j = beyond (off_line right_face (far j)) (squared_length right_face) reach.over reach.under

farther : (j : ℕ) → T (is_farther j) → DistanceAbove right_face (far j) reach
farther j t =
    beyond_means (off_line right_face (far j)) (squared_length right_face) reach.over reach.under t

kept_off : KeepsOff (placed_corners here_placed square_outline) (placed_corners off_placed square_outline)
unfolding of_bits metre val here_placed off_placed grid_placed
kept_off = (0, lit< tt, each)
  where
    each : (j : ℕ) → j < length (placed_corners off_placed square_outline) → DistanceAbove right_face (far j) reach
    each zero h = farther 0 tt
    each (suc zero) h = farther 1 tt
    each (suc (suc zero)) h = farther 2 tt
    each (suc (suc (suc zero))) h = farther 3 tt
    each (suc (suc (suc (suc j)))) h = absurd (no_fifth j h)

no_point_off : (old : B2manifold) (old_world : B2worldManifold)
    → (answer old square_outline here square_outline off).point_count ≡ 0
no_point_off old old_world = (squares old old_world off_placed).none_where_kept_off (inl kept_off)
