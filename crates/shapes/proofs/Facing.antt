-- The normals on their way: those done stand over the old ones, the edges to come complete the row, and decide
-- whether all are long enough. Assumes nothing.
use mathlib.Core.Path.{◌≡◌, refl, sym, ◌∙◌, ap, subst}
use mathlib.Core.Bool.{Bool, true, false, ◌&&◌}
use mathlib.Core.List.{List, [], ◌∷◌, ◌++◌, map, map-append, append_assoc, append-nil}
use Prim.Native.Nat.{ℕ, ◌+◌, ◌<◌, ◌≤◌}
use native.Mathlib.Omega.{arith}
use lib.ListN.{length, drop, set, length-map, drop_of_length-le}
use lib.Ieee.{lt}
use Rattle.floats.specs.declared.b2_math.B2vec2.{B2vec2}
use Rattle.floats.specs.B2Math.{b2_sub, b2_length_squared}
use Rattle.floats.specs.B2Common.{epsilon_squared}
use Rattle.shape_definitions.specs.Outline.{point_at, edges, long_enough, normal_of_edge}
use Rattle.shape_definitions.specs.Polygon.{put_first}
use Rattle.shapes.specs.Parts.{NormalsResult}
use Rattle.algebra.proofs.Lists.{length_one_more}
use Rattle.algebra.proofs.Buffer.{over_store}
use Rattle.shapes.proofs.Around.{following, edges_rest, edges_start, edges_next}

-- with the normals of the edges before the one at i done
pub record Facing (l old : List B2vec2) (i : ℕ) (ns : List B2vec2) : Type 0 where
  pub done : List B2vec2
  pub done_length : length done ≡ i
  pub filled : ns ≡ put_first (map normal_of_edge done) old
  pub rest : done ++ edges_rest (point_at l 0) (drop i l) ≡ edges l
  pub long : long_enough (edges_rest (point_at l 0) (drop i l)) ≡ long_enough (edges l)

pub facing_starts : (l old : List B2vec2) → Facing l old 0 old
facing_starts l old =
    record { done = []; done_length = refl; filled = refl; rest = edges_start l; long = ap long_enough (edges_start l) }

module _ (l old ns : List B2vec2) (i : ℕ) (e : B2vec2) (f : Facing l old i ns) (within : i < length l)
    (e_is : e ≡ b2_sub (following l i) (point_at l i)) where
  edges_here : edges_rest (point_at l 0) (drop i l) ≡ e ∷ edges_rest (point_at l 0) (drop (i + 1) l)
  edges_here = edges_next l i within ∙ ap (λ (x : B2vec2). x ∷ edges_rest (point_at l 0) (drop (i + 1) l)) (sym e_is)

  long_here : (t : Bool) → lt epsilon_squared (b2_length_squared e) ≡ t
      → t && long_enough (edges_rest (point_at l 0) (drop (i + 1) l)) ≡ long_enough (edges l)
  unfolding long_enough
  long_here t t_is =
      ap (λ (u : Bool). u && long_enough (edges_rest (point_at l 0) (drop (i + 1) l))) (sym t_is)
      ∙ sym (ap long_enough edges_here)
      ∙ f.long

  -- the edge is long enough
  pub facing_next : (n : B2vec2) → length l ≤ length old → n ≡ normal_of_edge e
      → lt epsilon_squared (b2_length_squared e) ≡ true
      → Facing l old (i + 1) (set ns i n)
  facing_next n fits n_is is_long = record {
    done = f.done ++ (e ∷ []);
    done_length = length_one_more f.done e i f.done_length;
    filled =
        over_store ns (map normal_of_edge f.done) old n i f.filled (length-map f.done normal_of_edge
        ∙ f.done_length) (omega arith)
        ∙ ap (λ (x : B2vec2). put_first (map normal_of_edge f.done ++ (x ∷ [])) old) n_is
        ∙ ap (λ (new : List B2vec2). put_first new old) (sym (map-append normal_of_edge f.done (e ∷ [])));
    rest =
        append_assoc f.done (e ∷ []) (edges_rest (point_at l 0) (drop (i + 1) l))
        ∙ ap (λ (es : List B2vec2). f.done ++ es) (sym edges_here) ∙ f.rest;
    long = long_here true is_long;
  }

  -- it is too short
  pub facing_short : (new : List B2vec2) → lt epsilon_squared (b2_length_squared e) ≡ false
      → NormalsResult (edges l) old (long_enough (edges l)) false new
  facing_short new is_short =
      subst (λ (t : Bool). NormalsResult (edges l) old t false new) (long_here false is_short) refl

pub facing_ended : (l old ns : List B2vec2) (i : ℕ) → Facing l old i ns → i ≡ length l
    → NormalsResult (edges l) old (long_enough (edges l)) true ns
unfolding long_enough
facing_ended l old ns i f end =
    subst (λ (t : Bool). NormalsResult (edges l) old t true ns) all_long
    (subst (λ (es : List B2vec2). NormalsResult es old true true ns) done_is (refl, f.filled))
  where
    none_left : edges_rest (point_at l 0) (drop i l) ≡ []
    none_left = ap (edges_rest (point_at l 0)) (drop_of_length-le l {i = i} (omega arith))

    done_is : f.done ≡ edges l
    done_is = sym (append-nil f.done) ∙ ap (λ (es : List B2vec2). f.done ++ es) (sym none_left) ∙ f.rest

    all_long : true ≡ long_enough (edges l)
    all_long = sym (ap long_enough none_left) ∙ f.long
