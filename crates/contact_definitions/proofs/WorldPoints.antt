-- What the world points answer: nothing new for a manifold of no points; for one of one or two points with every number
-- in range the world record of its kind; and the separation at a counted place, over a reference face. Assumes nothing.
use mathlib.Core.Path.{◌≡◌, sym, ap, ◌∙◌, subst}
use mathlib.Core.Bool.{Bool}
use mathlib.Core.List.{List, [], ◌∷◌, map}
use Prim.Native.Nat.{ℕ, suc, ◌≤◌, ◌<◌}
use native.Mathlib.Nat.{zero-lt-suc}
use native.Mathlib.Omega.{arith}
use lib.Dec.{T}
use lib.ListN.{length, drop, get_or, length-map, get_or-map, get_or-append}
use lib.Seq.{length-take-le, get_or-take}
use lib.Ieee.{Float}
use lib.Ieee.Bits.{is_true}
use mir.Facts.{yes_and}
use borrow.Author.Tests.{le-ltb, eq-eqb, ne_eqb}
use Rattle.algebra.proofs.Lists.{getD_within}
use Rattle.rounding.specs.Literals.{zero32}
use Rattle.floats.specs.declared.b2_math.B2vec2.{B2vec2}
use Rattle.floats.specs.declared.b2_math.B2Transform.{B2Transform}
use Rattle.floats.specs.B2Math.{b2_mul_rot_by_vec2, b2_mul_transform_by_vec2}
use Rattle.floats.specs.Ranges.{radius_in_range, transform_in_range, contact_point_in_range}
use Rattle.contact_definitions.specs.declared.b2_collision.B2manifold.{B2manifold}
use Rattle.contact_definitions.specs.declared.b2_collision.B2manifoldPoint.{B2manifoldPoint}
use Rattle.contact_definitions.specs.declared.b2_collision.B2worldManifold.{B2worldManifold}
use Rattle.contact_definitions.specs.Manifold.{default_point, manifold_point, counted_points}
use Rattle.contact_definitions.specs.WorldManifold.{plane_separation, carried_points, world_of_face}
use Rattle.contact_definitions.specs.WorldManifold.{world_of_kind, points_in_range, manifold_in_range}
use Rattle.contact_definitions.specs.WorldManifold.{world_accepted, b2_world_manifold_initialize}

-- ---- the points that a manifold counts, where it has as many
module _ (m : B2manifold) (full : m.point_count ≤ length m.points) where
  pub counted_length : length (counted_points m) ≡ m.point_count
  unfolding counted_points
  counted_length = length-take-le m.point_count m.points full

  pub counted_at : (k : ℕ) → k < m.point_count → get_or (counted_points m) k default_point ≡ manifold_point m k
  unfolding counted_points
  counted_at k h = get_or-take m.point_count m.points k default_point h

  -- ---- the separation at a counted place
  module _ (is_b : Bool) (old : B2worldManifold) (xf1 : B2Transform) (radius1 : Float) (xf2 : B2Transform)
      (radius2 : Float) where
    abbrev separation : B2vec2 → Float
    separation =
        plane_separation (b2_mul_rot_by_vec2 xf1.q m.local_normal)
        (b2_mul_transform_by_vec2 xf1 m.local_point) radius1 radius2

    abbrev at : B2manifoldPoint → B2vec2
    at p = b2_mul_transform_by_vec2 xf2 p.local_point

    pub face_separation_at : (k : ℕ) → k < m.point_count
        → get_or (world_of_face is_b old m xf1 radius1 xf2 radius2).separations k zero32
        ≡ separation (at (manifold_point m k))
    unfolding world_of_face carried_points
    face_separation_at k h =
        let carried = map at (counted_points m) in
        let new = map separation carried in
        let same = length-map carried separation ∙ length-map (counted_points m) at ∙ counted_length in
        let inside : k < length new = subst (λ (n : ℕ). k < n) (sym same) h in
        get_or-append new (drop (length new) old.separations) zero32 k inside
        ∙ getD_within new k zero32 (separation (at default_point)) inside
        ∙ get_or-map separation carried k (at default_point)
        ∙ ap separation (get_or-map at (counted_points m) k default_point ∙ ap at (counted_at k h))

-- ---- all points are in range where each is
pub each_in_range : (ps : List B2manifoldPoint)
    → ((k : ℕ) → k < length ps → T (contact_point_in_range (get_or ps k default_point).local_point))
    → T (points_in_range ps)
unfolding points_in_range
each_in_range [] h = tt
each_in_range (p ∷ ps) h =
    yes_and (contact_point_in_range p.local_point) (points_in_range ps) (h 0 (zero-lt-suc (length ps)))
    (each_in_range ps (λ k k_in. h (suc k) (omega arith)))

-- ---- the answers
module _ (old : B2worldManifold) (m : B2manifold) (xfA : B2Transform) (radiusA : Float) (xfB : B2Transform)
    (radiusB : Float) where
  pub no_points_answer : m.point_count ≡ 0
      → b2_world_manifold_initialize old m xfA radiusA xfB radiusB ≡ world_accepted old
  unfolding b2_world_manifold_initialize
  no_points_answer none =
      let few : m.point_count ≤ 2 = omega arith in
      simp (le-ltb 2 m.point_count few, eq-eqb m.point_count 0 none)

  pub points_answer : m.point_count ≤ 2 → 0 < m.point_count → T (manifold_in_range m)
      → T (radius_in_range radiusA) → T (radius_in_range radiusB) → T (transform_in_range xfA)
      → T (transform_in_range xfB)
      → b2_world_manifold_initialize old m xfA radiusA xfB radiusB
      ≡ world_accepted (world_of_kind m.manifold_type old m xfA radiusA xfB radiusB)
  unfolding b2_world_manifold_initialize
  points_answer few some numbers a_skin b_skin a_placed b_placed =
      simp (
        le-ltb 2 m.point_count few,
        ne_eqb m.point_count 0 (λ none. not_both none),
        is_true (manifold_in_range m) numbers,
        is_true (radius_in_range radiusA) a_skin,
        is_true (radius_in_range radiusB) b_skin,
        is_true (transform_in_range xfA) a_placed,
        is_true (transform_in_range xfB) b_placed,
      )
    where
      not_both : m.point_count ≡ 0 → ⊥
      not_both none = omega arith
