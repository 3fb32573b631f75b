-- What wall against circle answers, by its regions, from the numbers that the code has. Assumes nothing.
use mathlib.Core.Path.{◌≡◌, refl, sym, ◌∙◌, ap}
use mathlib.Core.Bool.{Bool, true, false, cond, ◌&&◌}
use Prim.Native.Nat.{ℕ}
use lib.Ieee.{Float, binary32, neg, div, le, lt}
use Rattle.rounding.specs.Literals.{zero32, one32}
use Rattle.floats.specs.declared.b2_math.B2vec2.{B2vec2}
use Rattle.floats.specs.B2Math.{vec2, b2_add, b2_sub, b2_neg, b2_scale, b2_dot, b2_normalize, unit_or_same}
use Rattle.shape_definitions.specs.declared.b2_edge_shape.B2edgeShape.{B2edgeShape}
use Rattle.shape_definitions.specs.Outline.{origin}
use Rattle.shape_definitions.specs.Refusal.{wall_too_short}
use Rattle.contact_definitions.specs.declared.b2_collision.B2manifold.{B2manifold}
use Rattle.contact_definitions.specs.declared.b2_collision.B2manifoldType.TheVariants.{ECircles, EFaceA}
use Rattle.contact_definitions.specs.Answers.{ManifoldAnswer}
use Rattle.contact_definitions.specs.Manifold.{vertex_feature, face_feature, contact_id}
use Rattle.contact_definitions.specs.Manifold.{with_count, with_one_point, manifold_refused, manifold_accepted}
use Rattle.contact_definitions.specs.EdgeAxis.{right_of}
use Rattle.contact_definitions.specs.B2CollideCircle.{farther}
use Rattle.contact_definitions.specs.B2CollideEdge.{circle_at_end, circle_at_wall, over_before, over_after}
use Rattle.contact_definitions.specs.B2CollideEdge.{edge_circle_answer}
use Rattle.contact_definitions.proofs.Counts.{one_point_anew}
use Rattle.wall_contacts.specs.declared.edge_circle.Touch.{Touch}
use Rattle.wall_contacts.specs.declared.edge_circle.Touch.TheVariants.{Nothing, End, Face, Flat}
use Rattle.wall_contacts.specs.EdgeCircle.{end_touch, face_of, face_touch, touch_answer}

-- the point of the wall nearest to the circle's centre
pub foot_is : (e a b su sv sum p : B2vec2) (u v den : Float) → den ≡ b2_dot e e → su ≡ b2_scale u a → sv ≡ b2_scale v b
    → sum ≡ b2_add su sv → p ≡ b2_scale (div binary32 one32 den) sum
    → p ≡ b2_scale (div binary32 one32 (b2_dot e e)) (b2_add (b2_scale u a) (b2_scale v b))
foot_is e a b su sv sum p u v den den_is su_is sv_is sum_is_lem p_is = rw (p_is, sum_is_lem, su_is, sv_is, den_is) refl

module _ (old : B2manifold) (edge : B2edgeShape) (centre : B2vec2) where
  none : B2manifold
  none = with_count old 0

  -- ---- the ways to touch, each from its tests
  over_neighbour : (far : Bool) (end : B2vec2) (index : ℕ)
      → touch_answer Nothing old edge centre
      ≡ manifold_accepted (cond far none (cond true none
      (with_one_point none ECircles origin end centre (contact_id index 0 vertex_feature vertex_feature))))
  unfolding touch_answer none
  over_neighbour true end index = refl
  over_neighbour false end index = refl

  at_end : (far : Bool) (end : B2vec2) (index : ℕ)
      → touch_answer (cond far Nothing (End index end.x end.y)) old edge centre
      ≡ manifold_accepted (cond far none (cond false none
      (with_one_point none ECircles origin end centre (contact_id index 0 vertex_feature vertex_feature))))
  unfolding touch_answer none
  at_end true end index = refl
  at_end false end index = refl

  at_wall : (long far : Bool) (normal : B2vec2)
      → touch_answer (cond long (cond far Nothing (face_of normal)) Flat) old edge centre
      ≡ cond long (manifold_accepted (cond far none
      (with_one_point none EFaceA normal edge.m_vertex1 centre (contact_id 0 0 face_feature vertex_feature))))
      (manifold_refused wall_too_short old)
  unfolding touch_answer none
  at_wall true true normal = refl
  at_wall true false normal = refl
  at_wall false far normal = refl

  -- ---- the regions: e leads from vertex 1 to vertex 2, qa to the circle
  module _ (q e qa : B2vec2) (radius offset u v : Float) (e_is : e ≡ b2_sub edge.m_vertex2 edge.m_vertex1)
      (qa_is : qa ≡ b2_sub q edge.m_vertex1) (offset_is : offset ≡ b2_dot (vec2 e.y (neg e.x)) qa)
      (u_is : u ≡ b2_dot e (b2_sub edge.m_vertex2 q)) (v_is : v ≡ b2_dot e qa) where
    by_regions : Bool → Bool → Bool → ManifoldAnswer
    by_regions behind before after =
        cond behind (manifold_accepted none)
        (cond before (manifold_accepted (circle_at_end none edge.m_vertex1 0
        (over_before edge q) q radius centre))
        (cond after (manifold_accepted (circle_at_end none edge.m_vertex2 1 (over_after edge q) q radius centre))
        (cond (lt zero32 (b2_dot e e))
        (manifold_accepted (circle_at_wall none edge.m_vertex1 edge.m_vertex2 u v
        (b2_dot e e) offset q radius centre))
        (manifold_refused wall_too_short old))))

    regions_are : (behind before after : Bool) → (edge.m_one_sided && lt offset zero32) ≡ behind
        → le v zero32 ≡ before
        → le u zero32 ≡ after → by_regions behind before after ≡ edge_circle_answer old edge q radius centre
    unfolding edge_circle_answer right_of by_regions none
    regions_are behind before after behind_is before_is after_is =
        rw (← behind_is, ← before_is, ← after_is, offset_is, u_is, v_is, qa_is, e_is) refl

    pub touch_behind : (edge.m_one_sided && lt offset zero32) ≡ true
        → touch_answer Nothing old edge centre ≡ edge_circle_answer old edge q radius centre
    unfolding by_regions none touch_answer
    touch_behind behind = regions_are true (le v zero32) (le u zero32) behind refl refl

    module _ (front : (edge.m_one_sided && lt offset zero32) ≡ false) where
      pub touch_before : le v zero32 ≡ true → over_before edge q ≡ true
          → touch_answer Nothing old edge centre ≡ edge_circle_answer old edge q radius centre
      unfolding by_regions circle_at_end
      touch_before before over =
          over_neighbour (farther radius q edge.m_vertex1) edge.m_vertex1 0
          ∙ rw over at (regions_are false true (le u zero32) front before refl)

      pub touch_end1 : (t : Touch) → le v zero32 ≡ true → over_before edge q ≡ false
          → t ≡ end_touch edge.m_vertex1 q radius 0
          → touch_answer t old edge centre ≡ edge_circle_answer old edge q radius centre
      unfolding by_regions circle_at_end end_touch
      touch_end1 t before over t_is =
          rw t_is (at_end (farther radius q edge.m_vertex1) edge.m_vertex1 0)
          ∙ rw over at (regions_are false true (le u zero32) front before refl)

      pub touch_after : le v zero32 ≡ false → le u zero32 ≡ true → over_after edge q ≡ true
          → touch_answer Nothing old edge centre ≡ edge_circle_answer old edge q radius centre
      unfolding by_regions circle_at_end
      touch_after before after over =
          over_neighbour (farther radius q edge.m_vertex2) edge.m_vertex2 1
          ∙ rw over at (regions_are false false true front before after)

      pub touch_end2 : (t : Touch) → le v zero32 ≡ false → le u zero32 ≡ true → over_after edge q ≡ false
          → t ≡ end_touch edge.m_vertex2 q radius 1
          → touch_answer t old edge centre ≡ edge_circle_answer old edge q radius centre
      unfolding by_regions circle_at_end end_touch
      touch_end2 t before after over t_is =
          rw t_is (at_end (farther radius q edge.m_vertex2) edge.m_vertex2 1)
          ∙ rw over at (regions_are false false true front before after)

      pub touch_middle : (t : Touch) → le v zero32 ≡ false → le u zero32 ≡ false
          → t ≡ face_touch edge.m_vertex1 edge.m_vertex2 q e u v (vec2 e.y (neg e.x)) offset radius
          → touch_answer t old edge centre ≡ edge_circle_answer old edge q radius centre
      unfolding by_regions circle_at_wall face_touch right_of
      touch_middle t before after t_is =
          let d = b2_sub edge.m_vertex2 edge.m_vertex1 in
          let foot = b2_scale (div binary32 one32 (b2_dot d d))
          (b2_add (b2_scale u edge.m_vertex1) (b2_scale v edge.m_vertex2)) in
          let normal = unit_or_same (b2_normalize (cond (lt offset zero32) (b2_neg (right_of d)) (right_of d))) in
          rw (t_is, e_is)
          (at_wall (lt zero32 (b2_dot d d)) (farther radius q foot) normal
          ∙ rw e_is at (regions_are false false false front before after))

-- the answer from the way to touch
pub answered : (m : B2manifold) (edge : B2edgeShape) (centre : B2vec2) (t way : Touch) (a answer : ManifoldAnswer)
    → t ≡ way
    → a ≡ touch_answer way m edge centre → touch_answer t m edge centre ≡ answer → a ≡ answer
answered m edge centre t way a answer t_is a_is answer_is =
    a_is ∙ ap (λ (w : Touch). touch_answer w m edge centre) (sym t_is) ∙ answer_is

-- ---- a point at an end, and one along the wall
pub end_answered : (m : B2manifold) (edge : B2edgeShape) (centre : B2vec2) (t : Touch) (i : ℕ) (x y : Float)
    (made : B2manifold) (answer : ManifoldAnswer) → t ≡ End i x y
    → made ≡ with_one_point m ECircles origin (vec2 x y) centre (contact_id i 0 vertex_feature vertex_feature)
    → touch_answer t m edge centre ≡ answer → manifold_accepted made ≡ answer
unfolding touch_answer
end_answered m edge centre t i x y made answer t_is made_is =
    answered m edge centre t (End i x y) _ answer t_is
    (ap manifold_accepted (made_is ∙ one_point_anew m ECircles origin (vec2 x y) centre _))

pub face_answered : (m : B2manifold) (edge : B2edgeShape) (centre : B2vec2) (t : Touch) (x y : Float)
    (made : B2manifold) (answer : ManifoldAnswer) → t ≡ Face x y
    → made ≡ with_one_point m EFaceA (vec2 x y) edge.m_vertex1 centre (contact_id 0 0 face_feature vertex_feature)
    → touch_answer t m edge centre ≡ answer → manifold_accepted made ≡ answer
unfolding touch_answer
face_answered m edge centre t x y made answer t_is made_is =
    answered m edge centre t (Face x y) _ answer t_is
    (ap manifold_accepted (made_is ∙ one_point_anew m EFaceA (vec2 x y) edge.m_vertex1 centre _))
