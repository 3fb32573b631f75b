-- Where a circle meets a corner and a face: each way out of the code is what the definition says. Assumes
-- nothing.
use mathlib.Core.Path.{◌≡◌, refl, sym, ◌∙◌, ap, ap₂}
use mathlib.Core.Bool.{Bool, true, false, cond, ◌||◌}
use Rattle.std.specs.declared.option.Option.{Option}
use Rattle.std.specs.declared.option.Option.TheVariants.{None, Some}
use Prim.Native.Nat.{ℕ}
use native.Mathlib.Omega.{arith}
use lib.Ieee.{Float, lt, le}
use Rattle.rounding.specs.Literals.{zero32, half32}
use Rattle.floats.specs.declared.b2_math.B2vec2.{B2vec2}
use Rattle.floats.specs.B2Common.{b2_epsilon}
use Rattle.floats.specs.B2Math.{b2_add, b2_sub, b2_scale, b2_dot, b2_normalize, unit_or}
use Rattle.contact_definitions.specs.B2CollideCircle.{farther, circle_at_corner, circle_at_face}
use Rattle.circle_contacts.specs.declared.outline_meeting.Meeting.{Meeting}
use Rattle.circle_contacts.specs.Meetings.{AtCorner, AtFace}

-- ---- a corner
module _ (v normal c : B2vec2) (radius : Float) (far : Bool) (far_is : far ≡ farther radius c v) where
  pub corner_far : far ≡ true → AtCorner v normal c radius None
  unfolding circle_at_corner
  corner_far h old centre = simp (sym far_is ∙ h)

  pub corner_near : (d n : B2vec2) → far ≡ false → d ≡ b2_sub c v → n ≡ unit_or normal (b2_normalize d)
      → AtCorner v normal c radius (Some (record { nx = n.x; ny = n.y; x = v.x; y = v.y }))
  unfolding circle_at_corner
  corner_near d n h d_is n_is old centre = simp (sym far_is ∙ h, n_is, d_is)

-- ---- the face from v1 to v2
module _ (v1 v2 normal c : B2vec2) (separation radius : Float) (sum middle : B2vec2) (sum_is_lem : sum ≡ b2_add v1 v2)
    (middle_is : middle ≡ b2_scale half32 sum) where
  pub face_inside : lt separation b2_epsilon ≡ true
      → AtFace v1 v2 normal separation c radius (Some (record { nx = normal.x; ny = normal.y; x = middle.x; y = middle.y }))
  unfolding circle_at_face
  face_inside inside old centre = simp (inside, middle_is, sum_is_lem)

  module _ (d1 e1 d2 e2 : B2vec2) (u1 u2 : Float) (outside : lt separation b2_epsilon ≡ false)
      (d1_is : d1 ≡ b2_sub c v1)
      (e1_is : e1 ≡ b2_sub v2 v1) (u1_is : u1 ≡ b2_dot d1 e1) (d2_is : d2 ≡ b2_sub c v2) (e2_is : e2 ≡ b2_sub v1 v2)
      (u2_is : u2 ≡ b2_dot d2 e2) where
    first_test : (t : Bool) → le u1 zero32 ≡ t → le (b2_dot (b2_sub c v1) (b2_sub v2 v1)) zero32 ≡ t
    first_test t h = ap (λ (u : Float). le u zero32) (sym (u1_is ∙ ap₂ b2_dot d1_is e1_is)) ∙ h

    second_test : (t : Bool) → le u2 zero32 ≡ t → le (b2_dot (b2_sub c v2) (b2_sub v1 v2)) zero32 ≡ t
    second_test t h = ap (λ (u : Float). le u zero32) (sym (u2_is ∙ ap₂ b2_dot d2_is e2_is)) ∙ h

    -- v is the end that the tests t1 and t2 choose
    at_end : (t1 t2 : Bool) (v : B2vec2) (r : Option Meeting) → le u1 zero32 ≡ t1 → le u2 zero32 ≡ t2 → (t1 || t2) ≡ true
        → v ≡ cond t1 v1 v2
        → AtCorner v normal c radius r → AtFace v1 v2 normal separation c radius r
    unfolding circle_at_face
    at_end true t2 v r h1 h2 some v_is meets old centre =
        simp (outside, first_test true h1) (meets old centre
        ∙ ap (λ (w : B2vec2). circle_at_corner old w normal c radius centre) v_is)
    at_end false true v r h1 h2 some v_is meets old centre =
        simp (outside, first_test false h1, second_test true h2)
        (meets old centre ∙ ap (λ (w : B2vec2). circle_at_corner old w normal c radius centre) v_is)
    at_end false false v r h1 h2 some v_is meets old centre = absurd (never some)
      where
        never : false ≡ true → ⊥
        never h = let z : ◌≡◌ {A = ℕ} 0 1 = cc in omega arith

    pub face_corner : (v : B2vec2) (r : Option Meeting) → (le u1 zero32 || le u2 zero32) ≡ true → v ≡ cond (le u1 zero32) v1 v2
        → AtCorner v normal c radius r → AtFace v1 v2 normal separation c radius r
    face_corner v r some v_is meets = at_end (le u1 zero32) (le u2 zero32) v r refl refl some v_is meets

    neither : (t1 t2 : Bool) → (t1 || t2) ≡ false → (t1 ≡ false) × (t2 ≡ false)
    neither true t2 h = absurd (never h)
      where
        never : true ≡ false → ⊥
        never h = let z : ◌≡◌ {A = ℕ} 0 1 = cc in omega arith
    neither false t2 h = (refl, h)

    module _ (d3 : B2vec2) (s : Float) (none : (le u1 zero32 || le u2 zero32) ≡ false) (d3_is : d3 ≡ b2_sub c middle)
        (s_is : s ≡ b2_dot d3 normal) where
      third_test : (t : Bool) → lt radius s ≡ t
          → lt radius (b2_dot (b2_sub c (b2_scale half32 (b2_add v1 v2))) normal) ≡ t
      third_test t h =
          ap (lt radius) (sym (s_is ∙ ap (λ (d : B2vec2). b2_dot d normal)
          (d3_is ∙ ap (b2_sub c) (middle_is ∙ ap (b2_scale half32) sum_is_lem)))) ∙ h

      pub face_far : lt radius s ≡ true → AtFace v1 v2 normal separation c radius None
      unfolding circle_at_face
      face_far h old centre =
          let not = neither (le u1 zero32) (le u2 zero32) none in
          simp (outside, first_test false not.0, second_test false not.1, third_test true h)

      pub face_near : lt radius s ≡ false
          → AtFace v1 v2 normal separation c radius (Some (record { nx = normal.x; ny = normal.y; x = middle.x; y = middle.y }))
      unfolding circle_at_face
      face_near h old centre =
          let not = neither (le u1 zero32) (le u2 zero32) none in
          simp (outside, first_test false not.0, second_test false not.1, third_test false h, middle_is, sum_is_lem)
