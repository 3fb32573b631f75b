-- What is left of a segment clipped to a line, and to two sides in turn, over the output places; and the range of a
-- clip. Each from what the code has. Assumes nothing.
use mathlib.Core.Path.{◌≡◌, refl, sym, ap, ap₂, ◌∙◌}
use mathlib.Core.List.{List, [], ◌∷◌}
use mathlib.Core.Bool.{Bool, ◌&&◌}
use Prim.Native.Nat.{ℕ, ◌<◌, ◌≤◌}
use native.Mathlib.Omega.{arith}
use lib.ListN.{length, get_or}
use lib.Ieee.{Float}
use Rattle.algebra.specs.Buffer.{over}
use Rattle.algebra.proofs.Two.{Two, two, two_of, two_over, both_places}
use Rattle.floats.specs.declared.b2_math.B2vec2.{B2vec2}
use Rattle.floats.specs.Ranges.{contact_point_in_range, contact_number_in_range}
use Rattle.contact_definitions.specs.declared.b2_collision.B2clipVertex.{B2clipVertex}
use Rattle.contact_definitions.specs.Clip.{clip_distance, clipped_by, clipped, clip_in_range}
use Rattle.contact_definitions.specs.declared.b2_collision.Clip.{Clip}
use Rattle.collision.specs.ClipPlaces.{left_over, two_ends}

-- ---- what is left, over two places
module _ (left out : List B2clipVertex) (r : Clip) where
  pub two_left : (a b new : B2clipVertex) → length out ≡ 2 → left ≡ a ∷ b ∷ [] → r ≡ two_ends a new → new ≡ b
      → r ≡ left_over left out
  two_left a b new out_two left_is r_is New_is =
      r_is ∙ ap (two_ends a) New_is
      ∙ ap (λ (l : List B2clipVertex). record { out = l; count = 2 }) (two_over out a b out_two)
      ∙ ap (λ (l : List B2clipVertex). left_over l out) (sym left_is)

  pub one_left : (a : B2clipVertex) → left ≡ a ∷ [] → r ≡ left_over (a ∷ []) out → r ≡ left_over left out
  one_left a left_is r_is = r_is ∙ ap (λ (l : List B2clipVertex). left_over l out) (sym left_is)

pub nothing_left : (left out : List B2clipVertex) → left ≡ []
    → ◌≡◌ {A = Clip} (record { out = out; count = 0 }) (left_over left out)
nothing_left left out left_is = ap (λ (l : List B2clipVertex). left_over l out) (sym left_is)

-- ---- from the distances that the code has of the two ends
pub clipped_of : (vs : List B2clipVertex) (d : B2clipVertex) (normal : B2vec2) (offset : Float) (index : ℕ)
    (distance0 distance1 : Float) → length vs ≡ 2
    → distance0 ≡ clip_distance normal offset (get_or vs 0 d) → distance1 ≡ clip_distance normal offset (get_or vs 1 d)
    → (r : Clip) (out : List B2clipVertex)
    → r ≡ left_over (clipped_by (get_or vs 0 d) (get_or vs 1 d) distance0 distance1 index) out
    → r ≡ left_over (clipped vs normal offset index) out
unfolding clipped
clipped_of vs d normal offset index distance0 distance1 vs_two first_is second_is r out r_is =
    r_is ∙ ap (λ (l : List B2clipVertex). left_over l out) (sym (go (two_of vs vs_two)
    ∙ ap₂ (λ (p q : Float). clipped_by (get_or vs 0 d) (get_or vs 1 d) p q index) (sym first_is) (sym second_is)))
  where
    go : {l : List B2clipVertex} → Two l → clipped l normal offset index
        ≡ clipped_by (get_or l 0 d) (get_or l 1 d) (clip_distance normal offset (get_or l 0 d))
        (clip_distance normal offset (get_or l 1 d)) index
    go (two a b) = refl

-- ---- two ends over two places are themselves
pub over_both : {A : Type 0} (left old : List A) → length old ≡ 2 → 2 ≤ length left → length left ≤ 2
    → over left old ≡ left
over_both left old old_two enough few = go (two_of left (omega arith))
  where
    go : {l : List _} → Two l → over l old ≡ l
    go (two a b) = sym (two_over old a b old_two)

-- ---- fewer than two ends are clipped to nothing
none_of_few : (left : List B2clipVertex) (normal : B2vec2) (offset : Float) (index : ℕ) → length left < 2
    → clipped left normal offset index ≡ []
unfolding clipped
none_of_few [] normal offset index few = refl
none_of_few (end ∷ []) normal offset index few = refl
none_of_few (end0 ∷ end1 ∷ ends) normal offset index few = absurd (omega arith)

module _ (ends : List B2clipVertex) (ends_two : length ends ≡ 2) (normal1 : B2vec2) (offset1 : Float) (index1 : ℕ)
    (normal2 : B2vec2) (offset2 : Float) (index2 : ℕ) (first : Clip)
    (first_is : first ≡ left_over (clipped ends normal1 offset1 index1) ends) where
  abbrev once : List B2clipVertex
  once = clipped ends normal1 offset1 index1

  count_is : first.count ≡ length once
  count_is = ap (λ (c : Clip). c.count) first_is

  pub none_after : first.count < 2
      → ◌≡◌ {A = Clip} (record { out = ends; count = 0 }) (left_over (clipped once normal2 offset2 index2) ends)
  none_after few =
      let count = count_is in
      ap (λ (l : List B2clipVertex). left_over l ends) (sym (none_of_few once normal2 offset2 index2 (omega arith)))

pub ends_in_range : (ends : List B2clipVertex) (d : B2clipVertex) (normal : B2vec2) (offset : Float) (s t u v : Bool)
    → length ends ≡ 2 → s ≡ contact_point_in_range (get_or ends 0 d).v → t ≡ contact_point_in_range (get_or ends 1 d).v
    → u ≡ contact_point_in_range normal → v ≡ contact_number_in_range offset
    → (s && (t && (u && v))) ≡ clip_in_range ends normal offset
unfolding clip_in_range
ends_in_range ends d normal offset s t u v size s_is t_is u_is v_is =
    ap₂ ◌&&◌ s_is (ap₂ ◌&&◌ t_is (ap₂ ◌&&◌ u_is v_is))
    ∙ ap (λ (l : List B2clipVertex). clip_in_range l normal offset) (both_places ends d size)
