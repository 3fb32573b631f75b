-- Points read one behind the other: one more behind the first k. Assumes nothing.
use Prim.Native.Nat.{ℕ, zero, suc, ◌+◌, ◌*◌, ◌≤◌, ◌<◌}
use mathlib.Core.Path.{◌≡◌, refl, sym, ◌∙◌, ap}
use mathlib.Core.List.{List, [], ◌∷◌, ◌++◌}
use native.Mathlib.Numerals.{add-one}
use native.Mathlib.Omega.{arith}
use lib.ListN.{length, take, set, replicate, length-set, length-replicate}
use lib.Seq.{take_at}
use Rattle.algebra.specs.Buffer.{over}
use Rattle.algebra.proofs.Buffer.{over_store}
use Rattle.floats.specs.declared.b2_math.B2vec2.{B2vec2}
use Rattle.lines.specs.Fields.{vector_at, points_at}

pub length_points : (bytes : List ℕ) (at n : ℕ) → length (points_at bytes at n) ≡ n
unfolding points_at
length_points bytes at zero = refl
length_points bytes at (suc n) = ap suc (length_points bytes (at + 8) n)

pub points_next : (bytes : List ℕ) (at k : ℕ)
    → points_at bytes at (suc k) ≡ points_at bytes at k ++ (vector_at bytes (at + 8 * k) ∷ [])
unfolding points_at
points_next bytes at zero =
    let same : at ≡ at + 8 * 0 = omega arith in
    ap (λ (place : ℕ). vector_at bytes place ∷ []) same
points_next bytes at (suc k) =
    let same : at + 8 + 8 * k ≡ at + 8 * suc k = omega arith in
    ap (◌∷◌ (vector_at bytes at))
    (points_next bytes (at + 8) k ∙ ap (λ (place : ℕ). points_at bytes (at + 8) k ++ (vector_at bytes place ∷ [])) same)

-- after k turns of the loop that reads n points into a row of size places, all of which held p
pub record PointsSoFar (bytes : List ℕ) (at n size : ℕ) (p : B2vec2) (ps : List B2vec2) (k : ℕ) : Type 0 where
  pub within : k ≤ n
  pub few : n ≤ size
  pub room : at + 8 * n ≤ length bytes
  pub all : length ps ≡ size
  pub read : ps ≡ over (points_at bytes at k) (replicate size p)

-- one turn of the loop
pub point_read : (bytes : List ℕ) (at n size : ℕ) (p : B2vec2) (ps : List B2vec2) (k : ℕ) (v : B2vec2) → k < n
    → v ≡ vector_at bytes (at + 8 * k) → PointsSoFar bytes at n size p ps k
    → PointsSoFar bytes at n size p (set ps k v) (k + 1)
point_read bytes at n size p ps k v more v_is so_far = record {
  within = omega arith;
  few = so_far.few;
  room = so_far.room;
  all = length-set ps k v ∙ so_far.all;
  read =
      over_store ps (points_at bytes at k) (replicate size p) v k so_far.read (length_points bytes at k)
      (omega (arith, so_far.few, length-replicate size p))
      ∙ ap (λ (l : List B2vec2). over l (replicate size p))
      (ap (λ (q : B2vec2). points_at bytes at k ++ (q ∷ [])) v_is ∙ sym (points_next bytes at k)
      ∙ ap (points_at bytes at) (sym (add-one k)));
}

-- after the last turn
pub points_read : (bytes : List ℕ) (at n size : ℕ) (p : B2vec2) (ps : List B2vec2) (k : ℕ) → n ≤ k
    → PointsSoFar bytes at n size p ps k
    → (take n ps ≡ points_at bytes at n) × (length ps ≡ size) × (ps ≡ over (points_at bytes at n) (replicate size p))
points_read bytes at n size p ps k last so_far =
    let all : k ≡ n = omega (arith, so_far.within) in
    let whole : ps ≡ over (points_at bytes at n) (replicate size p) =
    so_far.read ∙ ap (λ (i : ℕ). over (points_at bytes at i) (replicate size p)) all in
    (ap (take n) whole ∙ take_at (points_at bytes at n) _ n (length_points bytes at n), so_far.all, whole)
