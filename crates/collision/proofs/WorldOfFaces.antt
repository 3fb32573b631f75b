-- The world manifold of a face from what the code computes: the points over the places, by the count, and the middle
-- from either side. Assumes nothing.
use mathlib.Core.Path.{◌≡◌, refl, ap, ap₂, ◌∙◌}
use mathlib.Core.Bool.{Bool, true, false, cond}
use mathlib.Core.List.{List, [], ◌∷◌, map}
use Prim.Native.Nat.{ℕ, zero, suc, ◌≤◌, ◌<◌}
use native.Mathlib.Omega.{arith}
use lib.Dec.{eqb}
use lib.ListN.{length, get_or, take}
use lib.Ieee.{Float}
use Rattle.algebra.specs.Buffer.{over}
use Rattle.rounding.specs.Literals.{zero32, half32}
use Rattle.rounding.proofs.Commutes.{add_commutes}
use Rattle.floats.specs.declared.b2_math.B2vec2.{B2vec2}
use Rattle.floats.specs.declared.b2_math.B2Transform.{B2Transform}
use Rattle.floats.specs.B2Math.{vec2, b2_add, b2_neg, b2_scale, b2_mul_rot_by_vec2, b2_mul_transform_by_vec2}
use Rattle.shape_definitions.specs.Outline.{origin}
use Rattle.contact_definitions.specs.declared.b2_collision.B2manifoldPoint.{B2manifoldPoint}
use Rattle.contact_definitions.specs.declared.b2_collision.B2manifold.{B2manifold}
use Rattle.contact_definitions.specs.declared.b2_collision.B2worldManifold.{B2worldManifold}
use Rattle.contact_definitions.specs.Manifold.{default_point, manifold_point, counted_points}
use Rattle.contact_definitions.specs.WorldManifold.{plane_middle, plane_separation, carried_points, world_of_face}
use Rattle.algebra.proofs.Two.{Two, two, two_of}
use Rattle.collision.specs.declared.world_points.WorldPoint.{WorldPoint}
use Rattle.collision.specs.FacePoints.{at_plane, second_of}

-- ---- the middle from either side
sums_commute : (a b : B2vec2) → b2_add a b ≡ b2_add b a
unfolding b2_add
sums_commute a b = ap₂ vec2 (add_commutes a.x b.x) (add_commutes a.y b.y)

middle_either : (is_b : Bool) (normal plane : B2vec2) (radius1 radius2 : Float) (p : B2vec2)
    → plane_middle false normal plane radius1 radius2 p ≡ plane_middle is_b normal plane radius1 radius2 p
unfolding plane_middle
middle_either true normal plane radius1 radius2 p = ap (b2_scale half32) (sums_commute _ _)
middle_either false normal plane radius1 radius2 p = refl

-- ---- one or two points over two places
module _ {A : Type 0} (carry : B2manifoldPoint → B2vec2) (value : B2vec2 → A) (d g : B2manifoldPoint) (e : A) where
  over_places : (count : ℕ) (ps : List B2manifoldPoint) (old : List A) → length ps ≡ 2 → length old ≡ 2 → 0 < count
      → count ≤ 2
      → value (carry (get_or ps 0 d)) ∷ cond (eqb count 1) (get_or old 1 e) (value (carry (get_or ps 1 g))) ∷ []
      ≡ over (map value (map carry (take count ps))) old
  over_places count ps old ps_two old_two some few = go count some few (two_of ps ps_two) (two_of old old_two)
    where
      go : (n : ℕ) → 0 < n → n ≤ 2 → {l : List B2manifoldPoint} {o : List A} → Two l → Two o
          → value (carry (get_or l 0 d)) ∷ cond (eqb n 1) (get_or o 1 e) (value (carry (get_or l 1 g))) ∷ []
          ≡ over (map value (map carry (take n l))) o
      go zero some few (two p q) (two a b) = absurd (omega arith)
      go (suc zero) some few (two p q) (two a b) = refl
      go (suc (suc zero)) some few (two p q) (two a b) = refl
      go (suc (suc (suc n))) some few (two p q) (two a b) = absurd (omega arith)

chosen_middle : (t : Bool) (a b : WorldPoint) → (cond t a b).middle ≡ cond t a.middle b.middle
chosen_middle true a b = refl
chosen_middle false a b = refl

chosen_separation : (t : Bool) (a b : WorldPoint) → (cond t a b).separation ≡ cond t a.separation b.separation
chosen_separation true a b = refl
chosen_separation false a b = refl

-- ---- the whole record
module _ (is_b : Bool) (old : B2worldManifold) (m : B2manifold) (d : B2manifoldPoint) (xf1 : B2Transform)
    (radius1 : Float) (xf2 : B2Transform) (radius2 : Float) (m_two : length m.points ≡ 2)
    (points_two : length old.points ≡ 2) (separations_two : length old.separations ≡ 2)
    (some : 0 < m.point_count) (few : m.point_count ≤ 2) where
  abbrev carry : B2manifoldPoint → B2vec2
  carry p = b2_mul_transform_by_vec2 xf2 p.local_point

  abbrev made : B2vec2 → B2vec2 → B2vec2 → B2worldManifold
  made normal plane carried0 =
      let second = second_of old m normal plane radius1 xf2 radius2 in
      record {
        normal = cond is_b (b2_neg normal) normal;
        points = plane_middle false normal plane radius1 radius2 carried0 ∷ second.middle ∷ [];
        separations = plane_separation normal plane radius1 radius2 carried0 ∷ second.separation ∷ [];
      }

  middles : (normal plane : B2vec2) → (made normal plane (carry (get_or m.points 0 d))).points
      ≡ over (map (plane_middle is_b normal plane radius1 radius2) (carried_points m xf2)) old.points
  unfolding carried_points counted_points
  middles normal plane =
      ap₂ (λ (p q : B2vec2). p ∷ q ∷ [])
      (middle_either is_b normal plane radius1 radius2 (carry (get_or m.points 0 d)))
      (chosen_middle (eqb m.point_count 1) _ _
      ∙ ap (cond (eqb m.point_count 1) (get_or old.points 1 origin))
      (middle_either is_b normal plane radius1 radius2 (carry (manifold_point m 1))))
      ∙ over_places carry (plane_middle is_b normal plane radius1 radius2) d default_point origin m.point_count
      m.points old.points m_two points_two some few

  distances : (normal plane : B2vec2)
      → (made normal plane (carry (get_or m.points 0 d))).separations
      ≡ over (map (plane_separation normal plane radius1 radius2) (carried_points m xf2)) old.separations
  unfolding carried_points counted_points
  distances normal plane =
      ap (λ (s : Float). plane_separation normal plane radius1 radius2 (carry (get_or m.points 0 d)) ∷ s ∷ [])
      (chosen_separation (eqb m.point_count 1) _ _)
      ∙ over_places carry (plane_separation normal plane radius1 radius2) d default_point zero32 m.point_count
      m.points old.separations m_two separations_two some few

  made_is : made (b2_mul_rot_by_vec2 xf1.q m.local_normal) (b2_mul_transform_by_vec2 xf1 m.local_point)
      (carry (get_or m.points 0 d)) ≡ world_of_face is_b old m xf1 radius1 xf2 radius2
  unfolding world_of_face
  made_is =
      ap₂ (λ (ps : List B2vec2) (ss : List Float). record {
        normal = cond is_b (b2_neg (b2_mul_rot_by_vec2 xf1.q m.local_normal))
            (b2_mul_rot_by_vec2 xf1.q m.local_normal);
        points = ps;
        separations = ss;
      })
      (middles _ _) (distances _ _)

  pub face_is : (normal plane carried0 outward : B2vec2) (first second : WorldPoint)
      → normal ≡ b2_mul_rot_by_vec2 xf1.q m.local_normal
      → plane ≡ b2_mul_transform_by_vec2 xf1 m.local_point → carried0 ≡ carry (get_or m.points 0 d)
      → first ≡ at_plane normal plane radius1 radius2 carried0
      → second ≡ second_of old m normal plane radius1 xf2 radius2 → outward ≡ cond is_b (b2_neg normal) normal
      → ◌≡◌ {A = B2worldManifold} (record {
        normal = outward;
        points = first.middle ∷ second.middle ∷ [];
        separations = first.separation ∷ second.separation ∷ [];
      }) (world_of_face is_b old m xf1 radius1 xf2 radius2)
  face_is normal plane carried0 outward first second normal_is plane_is carried0_is first_is second_is outward_is =
      simp (outward_is, first_is, second_is, carried0_is, plane_is, normal_is) made_is
