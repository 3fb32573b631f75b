-- The walk of the outline builder on its way: the corners done stand over the old points, and those to come complete
-- the row. Assumes nothing.
use mathlib.Core.Path.{◌≡◌, refl, sym, ◌∙◌, ap, subst}
use mathlib.Core.List.{List, [], ◌∷◌, ◌++◌, map, map-append}
use mathlib.Core.Option
use mathlib.Core.Option.{Option, some}
use Rattle.std.specs.Prelude.{Some, None}
use Prim.Native.Nat.{ℕ, suc, ◌+◌, ◌-◌, ◌<◌, ◌≤◌}
use native.Mathlib.Omega.{arith}
use lib.Dec.{eqb}
use lib.ListN.{length, set, length-map}
use borrow.Author.Tests.{eq-eqb, ne_eqb}
use Rattle.algebra.specs.Loops.{walk}
use Rattle.algebra.proofs.Loops.{walk_starts, walk_back, walk_next}
use Rattle.floats.specs.declared.b2_math.B2vec2.{B2vec2}
use Rattle.shape_definitions.specs.Outline.{point_at, start, next, row}
use Rattle.shape_definitions.specs.Polygon.{put_first}
use Rattle.shapes.specs.Parts.{WalkResult}
use Rattle.algebra.proofs.Lists.{length_one_more}
use Rattle.algebra.proofs.Buffer.{over_store}

-- at place ih, with m corners done
pub record Walking (ps old : List B2vec2) (m ih : ℕ) (corners : List B2vec2) : Type 0 where
  pub done : List ℕ
  pub done_length : length done ≡ m
  pub filled : corners ≡ put_first (map (point_at ps) done) old
  pub rest : Option.map (◌++◌ done) (walk eqb (next ps) (start ps) (8 - m) ih) ≡ row ps

pub walking_starts : (ps old : List B2vec2) (i0 : ℕ) → i0 ≡ start ps → Walking ps old 0 i0 old
unfolding row
walking_starts ps old i0 i0_is = record {
  done = [];
  done_length = refl;
  filled = refl;
  rest = walk_starts (walk eqb (next ps) (start ps) 8 i0) ∙ ap (walk eqb (next ps) (start ps) 8) i0_is;
}

module _ (ps old corners : List B2vec2) (m ih : ℕ) (p : B2vec2) (w : Walking ps old m ih corners) (room : m < 8)
    (eight : length old ≡ 8)
    (p_is : p ≡ point_at ps ih) where
  done_here : List ℕ
  done_here = w.done ++ (ih ∷ [])

  filled_here : set corners m p ≡ put_first (map (point_at ps) done_here) old
  unfolding done_here
  filled_here =
      let new_length : length (map (point_at ps) w.done) ≡ m = length-map w.done (point_at ps) ∙ w.done_length in
      over_store corners (map (point_at ps) w.done) old p m w.filled new_length (omega arith)
      ∙ ap (λ (q : B2vec2). put_first (map (point_at ps) w.done ++ (q ∷ [])) old) p_is
      ∙ ap (λ (new : List B2vec2). put_first new old) (sym (map-append (point_at ps) w.done (ih ∷ [])))

  rest_here : Option.map (◌++◌ w.done) (walk eqb (next ps) (start ps) (suc (8 - (m + 1))) ih) ≡ row ps
  rest_here = ap (λ (k : ℕ). Option.map (◌++◌ w.done) (walk eqb (next ps) (start ps) k ih)) fuel ∙ w.rest
    where
      fuel : suc (8 - (m + 1)) ≡ 8 - m
      fuel = omega arith

  -- the next corner is another one
  pub walking_next : (after : ℕ) → after ≡ next ps ih → (after ≡ start ps → ⊥)
      → Walking ps old (m + 1) after (set corners m p)
  unfolding done_here
  walking_next after after_is other = record {
    done = w.done ++ (ih ∷ []);
    done_length = length_one_more w.done ih m w.done_length;
    filled = filled_here;
    rest =
        ap (λ (k : ℕ). Option.map (◌++◌ (w.done ++ (ih ∷ [])))
        (walk eqb (next ps) (start ps) (8 - (m + 1)) k)) after_is
        ∙ walk_next eqb (next ps) (start ps) ih (8 - (m + 1)) w.done (row ps) rest_here
        (ne_eqb (next ps ih) (start ps) (λ e. other (after_is ∙ e)));
  }

  -- it is the start
  pub walking_back : (count : ℕ) (new : List B2vec2) → next ps ih ≡ start ps → count ≡ m + 1 → new ≡ set corners m p
      → WalkResult ps old (row ps) (Some count) new
  unfolding done_here
  walking_back count new back count_is New_is =
      subst (λ (o : Option (List ℕ)). WalkResult ps old o (Some count) new) row_is
      (ap Some (count_is ∙ sym (length_one_more w.done ih m w.done_length)), New_is ∙ filled_here)
    where
      row_is : some (w.done ++ (ih ∷ [])) ≡ row ps
      row_is =
          walk_back eqb (next ps) (start ps) ih (8 - (m + 1)) w.done (row ps) rest_here
          (eq-eqb (next ps ih) (start ps) back)

-- not back after eight
pub walking_lost : (ps old corners new : List B2vec2) (m ih : ℕ) → Walking ps old m ih corners → 8 ≤ m
    → WalkResult ps old (row ps) None new
walking_lost ps old corners new m ih w ended =
    subst (λ (o : Option (List ℕ)). WalkResult ps old o None new)
    (ap (λ (k : ℕ). Option.map (◌++◌ w.done) (walk eqb (next ps) (start ps) k ih)) none_left ∙ w.rest) refl
  where
    none_left : 0 ≡ 8 - m
    none_left = omega arith
