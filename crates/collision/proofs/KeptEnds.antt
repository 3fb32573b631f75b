-- The manifold from what the clipping left and from the points that are kept, as the code has them. Assumes nothing.
use mathlib.Core.Path.{◌≡◌, refl, ap, ◌∙◌}
use mathlib.Core.Bool.{Bool, true, false}
use mathlib.Core.List.{List, [], ◌∷◌}
use Prim.Native.Nat.{ℕ, suc, ◌<◌, ◌≤◌}
use native.Mathlib.Omega.{arith}
use lib.ListN.{length, get_or}
use Rattle.floats.specs.declared.b2_math.B2vec2.{B2vec2}
use Rattle.contact_definitions.specs.declared.b2_collision.B2manifoldPoint.{B2manifoldPoint}
use Rattle.contact_definitions.specs.declared.b2_collision.B2manifold.{B2manifold}
use Rattle.contact_definitions.specs.declared.b2_collision.B2clipVertex.{B2clipVertex}
use Rattle.contact_definitions.specs.Manifold.{default_point}
use Rattle.contact_definitions.specs.ReferenceFace.{only, points_from, with_points, manifold_of_ends}
use Rattle.contact_definitions.specs.declared.b2_collision.Clip.{Clip}
use Rattle.collision.specs.ClipPlaces.{left_over}
use Rattle.algebra.proofs.Two.{Two, two, two_of}
use Rattle.collision.proofs.Clips.{over_both}
use Rattle.collision.specs.declared.manifolds.Kept.{Kept}
use Rattle.collision.specs.KeptPoints.{point_at_end, kept_ends, points_of, points_kept}

-- ---- points of a manifold are points of its places
points_same : (made : B2manifoldPoint → B2clipVertex → B2manifoldPoint) (m : B2manifold) (i : ℕ) (ends : List
    B2clipVertex)
    → points_of made m.points i ends ≡ points_from made m i ends
unfolding points_from
points_same made m i [] = refl
points_same made m i (end ∷ ends) = ap (◌∷◌ (made (get_or m.points i default_point) end)) (points_same made m (suc
    i) ends)

module _ (m : B2manifold) (normal point : B2vec2) (near : B2clipVertex → Bool)
    (made : B2manifoldPoint → B2clipVertex → B2manifoldPoint) where
  -- ---- fewer than two ends: nothing more is written
  few_left : (left : List B2clipVertex) → length left < 2 → m ≡ manifold_of_ends m normal point near made left
  unfolding manifold_of_ends
  few_left [] few = refl
  few_left (end ∷ []) few = refl
  few_left (end0 ∷ end1 ∷ ends) few = absurd (omega arith)

  -- ---- two: those that are near, as points
  two_left : (k : Kept) {left : List B2clipVertex} (d : B2clipVertex) → Two left
      → k ≡ points_kept made m.points
      (kept_ends (near (get_or left 0 d)) (near (get_or left 1 d)) (get_or left 0 d) (get_or left 1 d))
      → ◌≡◌ {A = B2manifold} (record {
        points = k.points;
        local_normal = normal;
        local_point = point;
        manifold_type = m.manifold_type;
        point_count = k.count;
      }) (manifold_of_ends m normal point near made left)
  unfolding manifold_of_ends with_points only
  two_left k d (two end0 end1) k_is =
      ap (λ (j : Kept). record {
        points = j.points;
        local_normal = normal;
        local_point = point;
        manifold_type = m.manifold_type;
        point_count = j.count;
      }) k_is
      ∙ ap (with_points m normal point)
      (points_same made m 0 (kept_ends (near end0) (near end1) end0 end1))

  module _ (left ends : List B2clipVertex) (ends_two : length ends ≡ 2) (never : length left ≤ 2) (c : Clip)
      (c_is : c ≡ left_over left ends) where
    count_is : c.count ≡ length left
    count_is = ap (λ (r : Clip). r.count) c_is

    pub nothing_written : c.count < 2 → m ≡ manifold_of_ends m normal point near made left
    nothing_written few = let count = count_is in few_left left (omega arith)

    out_is : 2 ≤ c.count → c.out ≡ left
    out_is enough =
        let count = count_is in
        ap (λ (r : Clip). r.out) c_is ∙ over_both left ends ends_two (omega arith) never

    pub points_written : 2 ≤ c.count → (d : B2clipVertex) (k : Kept)
        → k ≡ points_kept made m.points (kept_ends (near (get_or c.out 0 d)) (near (get_or c.out 1 d))
        (get_or c.out 0 d) (get_or c.out 1 d))
        → ◌≡◌ {A = B2manifold} (record {
          points = k.points;
          local_normal = normal;
          local_point = point;
          manifold_type = m.manifold_type;
          point_count = k.count;
        }) (manifold_of_ends m normal point near made left)
    points_written enough d k k_is =
        let count = count_is in
        two_left k d (two_of left (omega arith))
        (k_is ∙ ap (λ (l : List B2clipVertex). points_kept made m.points
        (kept_ends (near (get_or l 0 d)) (near (get_or l 1 d)) (get_or l 0 d) (get_or l 1 d))) (out_is enough))

-- ---- ends that are placed first, and then kept as they are
pub placed_first : (placed : B2clipVertex → B2clipVertex) (old : List B2manifoldPoint) (near0 near1 : Bool)
    (e0 e1 : B2clipVertex)
    → points_kept point_at_end old (kept_ends near0 near1 (placed e0) (placed e1))
    ≡ points_kept (λ p e. point_at_end p (placed e)) old (kept_ends near0 near1 e0 e1)
placed_first placed old true true e0 e1 = refl
placed_first placed old true false e0 e1 = refl
placed_first placed old false true e0 e1 = refl
placed_first placed old false false e0 e1 = refl
