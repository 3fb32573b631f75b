-- The range tests of two shapes, made kind by kind and four places at a time, answer as those made shape by shape.
-- Assumes nothing.
use mathlib.Core.Path.{◌≡◌, ap₂, refl, sym, ◌∙◌, ap}
use mathlib.Core.Bool.{true, ◌&&◌, and-eq-true_iff, Bool, false, and-false, and_assoc, and_comm, not, ◌||◌}
use mathlib.Core.List.{List}
use Prim.Native.Nat.{ℕ, ◌≤◌}
use lib.ListN.{length, take, drop}
use lib.Ieee.{Float}
use Rattle.floats.specs.declared.b2_math.B2vec2.{B2vec2}
use Rattle.floats.specs.Ranges.{point_in_range, normal_in_range, coordinate_in_range, radius_in_range}
use Rattle.shape_definitions.specs.Polygon.{all_points}
use Rattle.shape_definitions.specs.declared.b2_circle_shape.B2circleShape.{B2circleShape}
use Rattle.shape_definitions.specs.declared.b2_polygon_shape.B2polygonShape.{B2polygonShape}
use Rattle.shape_definitions.specs.declared.b2_edge_shape.B2edgeShape.{B2edgeShape}
use Rattle.shape_definitions.specs.Circle.{circle_in_range}
use Rattle.shape_definitions.specs.Edge.{edge_in_range}
use Rattle.shape_definitions.specs.Validate.{polygon_in_range}
use Rattle.shape_ranges.proofs.FourPlaces.{first_four, both_fours}
use Rattle.shape_ranges.proofs.InTurn.{first_fails, first_holds}
use Rattle.collision.specs.PairRanges.{points_in_range}

module _ (vs ns : List B2vec2) (n : ℕ)
    (first : (all_points point_in_range (take 4 vs) && all_points normal_in_range (take 4 ns)) ≡ true) where
  pub first_decide : n ≤ 4 → true ≡ points_in_range vs ns n
  first_decide few =
      let each = (and-eq-true_iff _ _).0 first in
      ap₂ ◌&&◌ (first_four point_in_range vs n few each.0) (first_four normal_in_range ns n few each.1)

  pub all_decide : length vs ≡ 8 → length ns ≡ 8
      → (all_points point_in_range (take 4 (drop 4 vs)) && all_points normal_in_range (take 4 (drop 4 ns))) ≡ true
      → true ≡ points_in_range vs ns n
  all_decide eight_vs eight_ns last =
      let each = (and-eq-true_iff _ _).0 first in
      let rest = (and-eq-true_iff _ _).0 last in
      ap₂ ◌&&◌ (both_fours point_in_range vs n eight_vs each.0 rest.0)
      (both_fours normal_in_range ns n eight_ns each.1 rest.1)

by_shape : (x y z w : Bool) → (x && y) && (z && w) ≡ (x && z) && (y && w)
by_shape true true z w = refl
by_shape true false z w = sym (and-false z)
by_shape false y z w = refl

-- the last of two is done before the points of the first
last_before : (a b v n : Bool) → (a && b) && (v && n) ≡ a && v && n && b
last_before true b v n = and_comm b (v && n)
last_before false b v n = refl

-- both are done before the points of both
both_before : (a b v n w m : Bool) → (a && b) && ((v && n) && (w && m)) ≡ (a && v && n) && (b && w && m)
both_before a b v n w m =
    by_shape a b (v && n) (w && m) ∙ ap₂ ◌&&◌ (sym (and_assoc a v n)) (sym (and_assoc b w m))

-- radii, the ends of a wall and a centre are done before the wall's ghost points
ghosts_last : (ra rb v1 v2 p g : Bool)
    → ((ra && rb) && (v1 && v2)) && p && g ≡ (ra && v1 && v2 && g) && (rb && p)
ghosts_last true true v1 v2 p g =
    and_assoc (v1 && v2) p g ∙ ap (λ (t : Bool). v1 && v2 && t) (and_comm p g) ∙ sym (and_assoc (v1 && v2) g p)
ghosts_last true false v1 v2 p g = sym (and-false (v1 && v2 && g))
ghosts_last false rb v1 v2 p g = refl

-- a wall and what heads an outline are done before the outline's points
points_last : (e h v n : Bool) → (e && h) && (v && n) ≡ e && (h && v && n)
points_last true h v n = sym (and_assoc h v n)
points_last false h v n = refl

-- a radius and a place
abbrev head : Float → B2vec2 → Bool
head r p = radius_in_range r && point_in_range p

-- both radii, and the four coordinates of both places
abbrev Radii : Float → Float → Bool → Type 0
Radii ra rb radii = radii ≡ (radius_in_range ra && radius_in_range rb)

abbrev Four : B2vec2 → B2vec2 → Bool → Type 0
Four p q four = four ≡ (coordinate_in_range p.x && coordinate_in_range p.y && coordinate_in_range q.x
    && coordinate_in_range q.y)

pub heads : (ra rb : Float) (p q : B2vec2) (radii four : Bool) → Radii ra rb radii → Four p q four
    → radii && four ≡ head ra p && head rb q
unfolding point_in_range coordinate_in_range
heads ra rb p q radii four rs fs =
    ap₂ ◌&&◌ rs (fs ∙ and_assoc (point_in_range p) (coordinate_in_range q.x) (coordinate_in_range q.y))
    ∙ by_shape (radius_in_range ra) (radius_in_range rb) (point_in_range p) (point_in_range q)

-- an outline's corners and normals, and all of its points
abbrev corners : B2polygonShape → Bool
corners a = all_points point_in_range (take a.m_count a.m_vertices)

abbrev normals : B2polygonShape → Bool
normals a = all_points normal_in_range (take a.m_count a.m_normals)

abbrev points : B2polygonShape → Bool
points a = points_in_range a.m_vertices a.m_normals a.m_count

abbrev outline_head : B2polygonShape → Bool
outline_head a = head a.m_radius a.m_centroid

-- an outline and a circle
module _ (a : B2polygonShape) (b : B2circleShape) (radii four : Bool)
    (rs : Radii a.m_radius b.m_radius radii) (fs : Four a.m_centroid b.m_p four) where
  tested : radii && four ≡ outline_head a && head b.m_radius b.m_p
  tested = heads a.m_radius b.m_radius a.m_centroid b.m_p radii four rs fs

  joined : (outline_head a && head b.m_radius b.m_p) && points a ≡ polygon_in_range a && circle_in_range b
  unfolding polygon_in_range circle_in_range
  joined = last_before (outline_head a) (head b.m_radius b.m_p) (corners a) (normals a)

  pub with_circle_fails : radii && four ≡ false → false ≡ polygon_in_range a && circle_in_range b
  with_circle_fails fails = first_fails (radii && four) _ (points a) tested fails ∙ joined

  pub with_circle_holds : (r : Bool) → r ≡ points a → radii && four ≡ true
      → r ≡ polygon_in_range a && circle_in_range b
  with_circle_holds r r_is holds = r_is ∙ first_holds (radii && four) _ (points a) tested holds ∙ joined

-- two outlines
module _ (a b : B2polygonShape) (radii four : Bool)
    (rs : Radii a.m_radius b.m_radius radii) (fs : Four a.m_centroid b.m_centroid four) where
  both_tested : radii && four ≡ outline_head a && outline_head b
  both_tested = heads a.m_radius b.m_radius a.m_centroid b.m_centroid radii four rs fs

  both_joined : (outline_head a && outline_head b) && (points a && points b) ≡ polygon_in_range a && polygon_in_range b
  unfolding polygon_in_range
  both_joined = both_before (outline_head a) (outline_head b) (corners a) (normals a) (corners b) (normals b)

  pub both_fail : radii && four ≡ false → false ≡ polygon_in_range a && polygon_in_range b
  both_fail fails = first_fails (radii && four) _ (points a && points b) both_tested fails ∙ both_joined

  pub both_hold : (r : Bool) → r ≡ (points a && points b) → radii && four ≡ true
      → r ≡ polygon_in_range a && polygon_in_range b
  both_hold r r_is holds = r_is ∙ first_holds (radii && four) _ (points a && points b) both_tested holds ∙ both_joined

-- a wall and an outline
module _ (a : B2edgeShape) (b : B2polygonShape) (t : Bool)
    (t_is : t ≡ (edge_in_range a && (radius_in_range b.m_radius
    && (coordinate_in_range b.m_centroid.x && coordinate_in_range b.m_centroid.y)))) where
  wall_tested : t ≡ edge_in_range a && outline_head b
  unfolding point_in_range coordinate_in_range
  wall_tested = t_is

  wall_joined : (edge_in_range a && outline_head b) && points b ≡ edge_in_range a && polygon_in_range b
  unfolding polygon_in_range
  wall_joined = points_last (edge_in_range a) (outline_head b) (corners b) (normals b)

  pub by_wall_fails : t ≡ false → false ≡ edge_in_range a && polygon_in_range b
  by_wall_fails fails = first_fails t (edge_in_range a && outline_head b) (points b) wall_tested fails ∙ wall_joined

  pub by_wall_holds : (r : Bool) → r ≡ points b → t ≡ true → r ≡ edge_in_range a && polygon_in_range b
  by_wall_holds r r_is holds =
      r_is ∙ first_holds t (edge_in_range a && outline_head b) (points b) wall_tested holds ∙ wall_joined

-- the ghost points count on a one-sided wall alone
abbrev ghosts : B2edgeShape → Bool
ghosts a = not a.m_one_sided || point_in_range a.m_vertex0 && point_in_range a.m_vertex3

pub ghosts_count : (a : B2edgeShape) (four : Bool) → a.m_one_sided ≡ true
    → Four a.m_vertex0 a.m_vertex3 four → four ≡ ghosts a
unfolding point_in_range coordinate_in_range
ghosts_count a four one_sided fs =
    let v0 = point_in_range a.m_vertex0 in
    let v3 = a.m_vertex3 in
    fs ∙ and_assoc v0 (coordinate_in_range v3.x) (coordinate_in_range v3.y)
    ∙ ap (λ (one : Bool). not one || v0 && point_in_range v3) (sym one_sided)

pub ghosts_pass : (a : B2edgeShape) → a.m_one_sided ≡ false → true ≡ ghosts a
ghosts_pass a two_sided =
    ap (λ (one : Bool). not one || point_in_range a.m_vertex0 && point_in_range a.m_vertex3) (sym two_sided)

-- a wall, and the radius and the place of another shape
module _ (a : B2edgeShape) (rb px py : Float) (radii ends x y : Bool)
    (rs : Radii a.m_radius rb radii) (es : Four a.m_vertex1 a.m_vertex2 ends)
    (xs : x ≡ coordinate_in_range px) (ys : y ≡ coordinate_in_range py) where
  place : Bool
  place = coordinate_in_range px && coordinate_in_range py

  parts : Bool
  parts =
      ((radius_in_range a.m_radius && radius_in_range rb)
      && (point_in_range a.m_vertex1 && point_in_range a.m_vertex2)) && place

  ends_tested : radii && ends && (x && y) ≡ parts
  unfolding parts place point_in_range coordinate_in_range
  ends_tested =
      let v2 = a.m_vertex2 in
      ap₂ ◌&&◌ (ap₂ ◌&&◌ rs (es ∙ and_assoc (point_in_range a.m_vertex1) (coordinate_in_range v2.x)
      (coordinate_in_range v2.y)))
      (ap₂ ◌&&◌ xs ys)

  ends_joined : parts && ghosts a
      ≡ edge_in_range a && (radius_in_range rb && (coordinate_in_range px && coordinate_in_range py))
  unfolding parts place edge_in_range
  ends_joined =
      ghosts_last (radius_in_range a.m_radius) (radius_in_range rb) (point_in_range a.m_vertex1)
      (point_in_range a.m_vertex2) place (ghosts a)

  pub wall_fails : radii && ends && (x && y) ≡ false
      → false ≡ edge_in_range a && (radius_in_range rb && (coordinate_in_range px && coordinate_in_range py))
  wall_fails fails = first_fails (radii && ends && (x && y)) parts (ghosts a) ends_tested fails ∙ ends_joined

  pub wall_holds : (r : Bool) → r ≡ ghosts a → radii && ends && (x && y) ≡ true
      → r ≡ edge_in_range a && (radius_in_range rb && (coordinate_in_range px && coordinate_in_range py))
  wall_holds r r_is holds =
      r_is ∙ first_holds (radii && ends && (x && y)) parts (ghosts a) ends_tested holds ∙ ends_joined
