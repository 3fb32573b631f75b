-- Around a row of corners: the edges and the fan of triangles from place i on, and the steps of the two loops over
-- them. Assumes nothing.
use mathlib.Core.Path.{◌≡◌, refl, sym, ◌∙◌, ap}
use mathlib.Core.Bool.{Bool, cond}
use mathlib.Core.List.{List, [], ◌∷◌}
use mathlib.Core.Logic.{◌⊎◌, inl, inr}
use Prim.Native.Nat.{ℕ, ◌+◌, ◌<◌, ◌≤◌}
use native.Mathlib.Numerals.{add-one}
use native.Mathlib.Omega.{arith}
use lib.ListN.{length, get_or, take, drop, drop_of_length-le, get_or-eq_default}
use lib.Seq.{drop-cons, get_or-drop, length-take-le}
use borrow.Author.Tests.{lt-ltb, le-ltb}
use Rattle.algebra.proofs.Booleans.{less_or_not}
use Rattle.algebra.proofs.Lists.{getD_within}
use Rattle.floats.specs.declared.b2_math.B2vec2.{B2vec2}
use Rattle.floats.specs.B2Math.{b2_sub}
use Rattle.rounding.specs.Literals.{zero32}
use Rattle.shape_definitions.specs.declared.b2_polygon_shape.FanSum.{FanSum}
use Rattle.shape_definitions.specs.Outline.{origin, point_at, place_after, edges_from, edges, with_triangle, fan_from}
use Rattle.shape_definitions.specs.Outline.{fan}
use Rattle.shapes.proofs.Tests.{at_first_place}

-- the corner after the one at i
abbrev pub following : List B2vec2 → ℕ → B2vec2
following l i = point_at l (place_after (length l) i)

-- ---- the corners in eight places, and in the list of the first m: a corner, and the one after it
module _ (vs : List B2vec2) (m i : ℕ) (within : i < m) (few : m ≤ length vs) where
  pub from_corner : (q p s : B2vec2) → q ≡ point_at vs i → p ≡ b2_sub q s → p ≡ b2_sub (point_at (take m vs) i) s
  from_corner q p s q_is p_is = p_is ∙ ap (λ (x : B2vec2). b2_sub x s) (q_is ∙ sym (at_first_place vs m i within))

  module _ (a : ℕ) (a_within : a < m) (a_is : a ≡ place_after m i) where
    following_at : point_at vs a ≡ following (take m vs) i
    following_at =
        sym (at_first_place vs m a a_within) ∙ ap (point_at (take m vs)) a_is
        ∙ ap (λ (k : ℕ). point_at (take m vs) (place_after k i)) (sym (length-take-le m vs few))

    pub from_following : (q p s : B2vec2) → q ≡ point_at vs a → p ≡ b2_sub q s → p ≡ b2_sub (following (take m vs) i) s
    from_following q p s q_is p_is = p_is ∙ ap (λ (x : B2vec2). b2_sub x s) (q_is ∙ following_at)

    pub edge_of_corners : (q s e : B2vec2) → q ≡ point_at vs a → s ≡ point_at vs i → e ≡ b2_sub q s
        → e ≡ b2_sub (following (take m vs) i) (point_at (take m vs) i)
    edge_of_corners q s e q_is s_is e_is =
        from_following q e s q_is e_is
        ∙ ap (b2_sub (following (take m vs) i)) (s_is ∙ sym (at_first_place vs m i within))

-- ---- what follows is the head of the rest, or the first corner
following_by : (l : List B2vec2) (i : ℕ) → i < length l → (i + 1 < length l) ⊎ (length l ≤ i + 1)
    → get_or l (i + 1) (point_at l 0) ≡ following l i
following_by l i within (inl more) =
    getD_within l (i + 1) (point_at l 0) origin more
    ∙ ap (λ (t : Bool). point_at l (cond t (i + 1) 0)) (sym (lt-ltb (i + 1) (length l) more))
following_by l i within (inr last) =
    get_or-eq_default l (point_at l 0) last ∙ ap (λ (t : Bool). point_at l (cond t (i + 1) 0))
    (sym (le-ltb (i + 1) (length l) last))

following_is : (l : List B2vec2) (i : ℕ) → i < length l → get_or (drop (i + 1) l) 0 (point_at l 0) ≡ following l i
following_is l i within =
    get_or-drop (i + 1) l 0 (point_at l 0) ∙ ap (λ (k : ℕ). get_or l k (point_at l 0)) plain
    ∙ following_by l i within (less_or_not (i + 1) (length l))
  where
    plain : i + 1 + 0 ≡ i + 1
    plain = omega arith

rest_at : (l : List B2vec2) (i : ℕ) → i < length l → drop i l ≡ point_at l i ∷ drop (i + 1) l
rest_at l i within = drop-cons l i origin within ∙ ap (λ (k : ℕ). point_at l i ∷ drop k l) (sym (add-one i))

-- ---- the edges of the corners that are left
abbrev pub edges_rest : B2vec2 → List B2vec2 → List B2vec2
edges_rest first [] = []
edges_rest first (p ∷ qs) = edges_from first p qs

edges_head : (first p : B2vec2) (qs : List B2vec2)
    → edges_from first p qs ≡ b2_sub (get_or qs 0 first) p ∷ edges_rest first qs
edges_head first p [] = refl
edges_head first p (q ∷ qs) = refl

pub edges_start : (l : List B2vec2) → edges_rest (point_at l 0) l ≡ edges l
unfolding edges
edges_start [] = refl
edges_start (p ∷ l) = refl

pub edges_next : (l : List B2vec2) (i : ℕ) → i < length l
    → edges_rest (point_at l 0) (drop i l) ≡ b2_sub (following l i) (point_at l i) ∷ edges_rest (point_at l 0)
    (drop (i + 1) l)
edges_next l i within =
    ap (edges_rest (point_at l 0)) (rest_at l i within) ∙ edges_head (point_at l 0) (point_at l i) (drop (i + 1) l)
    ∙ ap (λ (q : B2vec2). b2_sub q (point_at l i) ∷ edges_rest (point_at l 0) (drop (i + 1) l))
    (following_is l i within)

-- ---- the triangles that are left, added to a sum
abbrev pub fan_rest : B2vec2 → List B2vec2 → FanSum → FanSum
fan_rest s [] sum = sum
fan_rest s (p ∷ qs) sum = fan_from s p qs sum

fan_head : (s p : B2vec2) (qs : List B2vec2) (sum : FanSum)
    → fan_from s p qs sum ≡ fan_rest s qs (with_triangle (b2_sub s s) (b2_sub p s) (b2_sub (get_or qs 0 s) s) sum)
fan_head s p [] sum = refl
fan_head s p (q ∷ qs) sum = refl

pub fan_start : (l : List B2vec2) → 0 < length l
    → fan_rest (point_at l 0) l (record { area = zero32; moment = origin }) ≡ fan l
unfolding fan
fan_start [] some_corner = absurd (omega arith)
fan_start (p ∷ l) some_corner = refl

pub fan_next : (l : List B2vec2) (i : ℕ) (s p1 p2 p3 : B2vec2) (sum new : FanSum) → i < length l → s ≡ point_at l 0
    → p1 ≡ b2_sub s s
    → p2 ≡ b2_sub (point_at l i) s → p3 ≡ b2_sub (following l i) s → new ≡ with_triangle p1 p2 p3 sum
    → fan_rest (point_at l 0) (drop i l) sum ≡ fan l → fan_rest (point_at l 0) (drop (i + 1) l) new ≡ fan l
fan_next l i s p1 p2 p3 sum new within s_is p1_is p2_is p3_is New_is so_far =
    ap (fan_rest (point_at l 0) (drop (i + 1) l)) new_here ∙ sym here ∙ so_far
  where
    new_here : new
        ≡ with_triangle (b2_sub (point_at l 0) (point_at l 0)) (b2_sub (point_at l i) (point_at l 0))
        (b2_sub (following l i) (point_at l 0)) sum
    new_here = New_is ∙ (simp (p1_is, p2_is, p3_is, s_is))

    here : fan_rest (point_at l 0) (drop i l) sum
        ≡ fan_rest (point_at l 0) (drop (i + 1) l)
        (with_triangle (b2_sub (point_at l 0) (point_at l 0)) (b2_sub (point_at l i) (point_at l 0))
        (b2_sub (following l i) (point_at l 0)) sum)
    here =
        ap (λ (rest : List B2vec2). fan_rest (point_at l 0) rest sum) (rest_at l i within)
        ∙ fan_head (point_at l 0) (point_at l i) (drop (i + 1) l) sum
        ∙ ap (λ (q : B2vec2). fan_rest (point_at l 0) (drop (i + 1) l)
        (with_triangle (b2_sub (point_at l 0) (point_at l 0)) (b2_sub (point_at l i) (point_at l 0))
        (b2_sub q (point_at l 0)) sum))
        (following_is l i within)

pub fan_ended : (l : List B2vec2) (i : ℕ) (sum : FanSum) → length l ≤ i
    → fan_rest (point_at l 0) (drop i l) sum ≡ fan l → sum ≡ fan l
fan_ended l i sum past so_far =
    ap (λ (rest : List B2vec2). fan_rest (point_at l 0) rest sum) (sym (drop_of_length-le l past)) ∙ so_far
