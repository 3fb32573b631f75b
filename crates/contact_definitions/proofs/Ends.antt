-- Where the ends and points of a manifold come from: a clip leaves an end of the segment, or the crossing where the
-- distances have opposite signs; a test keeps some of them; and each point is made of one. Assumes nothing.
use mathlib.Core.Path.{◌≡◌, refl}
use mathlib.Core.Bool.{Bool, true, false, cond}
use mathlib.Core.List.Memᴰ
use mathlib.Core.List.{List, [], ◌∷◌, Memᴰ}
use mathlib.Core.Logic.{◌⊎◌, inl, inr}
use Prim.Native.Nat.{ℕ, zero, suc, ◌<◌}
use native.Mathlib.Omega.{arith}
use lib.Dec.{T}
use lib.ListN.{length, get_or}
use lib.Ieee.{Float, binary32, mul, le, lt}
use Rattle.rounding.specs.Literals.{zero32}
use Rattle.contact_definitions.specs.declared.b2_collision.B2manifold.{B2manifold}
use Rattle.contact_definitions.specs.declared.b2_collision.B2manifoldPoint.{B2manifoldPoint}
use Rattle.contact_definitions.specs.declared.b2_collision.B2clipVertex.{B2clipVertex}
use Rattle.contact_definitions.specs.Clip.{crossing, kept_if, clipped_by}
use Rattle.contact_definitions.specs.ReferenceFace.{only, points_from}

-- ---- a clip
kept : (test : Bool) (x end : B2clipVertex) (rest : List B2clipVertex) → Memᴰ x (kept_if test end rest)
    → (T test × (x ≡ end)) ⊎ Memᴰ x rest
kept true x end rest m = first (Memᴰ.cases_cons m)
  where
    first : (x ≡ end) ⊎ Memᴰ x rest → (T true × (x ≡ end)) ⊎ Memᴰ x rest
    first (inl e) = inl (tt, e)
    first (inr k) = inr k
kept false x end rest m = inr m

module _ (end0 end1 : B2clipVertex) (distance0 distance1 : Float) (index : ℕ) where
  pub data Left (x : B2clipVertex) : Type 0 where
    first_end : x ≡ end0 → Left x
    second_end : x ≡ end1 → Left x
    crossed : T (lt (mul binary32 distance0 distance1) zero32) → x ≡ crossing end0 end1 distance0 distance1 index
        → Left x

  pub clip_leaves : (x : B2clipVertex) → Memᴰ x (clipped_by end0 end1 distance0 distance1 index) → Left x
  unfolding clipped_by
  clip_leaves x m = first (kept (le distance0 zero32) x end0 _ m)
    where
      added : B2clipVertex
      added = crossing end0 end1 distance0 distance1 index

      last : List B2clipVertex
      last = kept_if (lt (mul binary32 distance0 distance1) zero32) added []

      third : (T (lt (mul binary32 distance0 distance1) zero32) × (x ≡ added)) ⊎ Memᴰ x [] → Left x
      third (inl h) = crossed h.0 h.1
      third (inr k) = absurd (Memᴰ.not-nil k)

      second : (T (le distance1 zero32) × (x ≡ end1)) ⊎ Memᴰ x last → Left x
      second (inl h) = second_end h.1
      second (inr k) = third (kept (lt (mul binary32 distance0 distance1) zero32) x added [] k)

      first : (T (le distance0 zero32) × (x ≡ end0)) ⊎ Memᴰ x (kept_if (le distance1 zero32) end1 last) → Left x
      first (inl h) = first_end h.1
      first (inr k) = second (kept (le distance1 zero32) x end1 last k)

-- ---- the ends that pass a test
pub only_some : (test : B2clipVertex → Bool) (ends : List B2clipVertex) (x : B2clipVertex)
    → Memᴰ x (only test ends)
    → Memᴰ x ends
unfolding only
only_some test [] x m = m
only_some test (end ∷ ends) x m = by_test (test end) (only_some test ends x) m
  where
    by_test : (t : Bool) → (Memᴰ x (only test ends) → Memᴰ x ends)
        → Memᴰ x (cond t (end ∷ only test ends) (only test ends)) → Memᴰ x (end ∷ ends)
    by_test true rest m = here (Memᴰ.cases_cons m)
      where
        here : (x ≡ end) ⊎ Memᴰ x (only test ends) → Memᴰ x (end ∷ ends)
        here (inl e) = Memᴰ.head e
        here (inr k) = Memᴰ.tail (rest k)
    by_test false rest m = Memᴰ.tail (rest m)

-- ---- the points
-- p is made of one of the ends
pub record MadeOf (made : B2manifoldPoint → B2clipVertex → B2manifoldPoint) (ends : List B2clipVertex)
    (p : B2manifoldPoint) : Type 0 where
  pub old : B2manifoldPoint
  pub end : B2clipVertex
  pub listed : Memᴰ end ends
  pub is : p ≡ made old end

pub point_made : (made : B2manifoldPoint → B2clipVertex
    → B2manifoldPoint) (m : B2manifold) (d : B2manifoldPoint) (i : ℕ)
    (ends : List B2clipVertex) (k : ℕ) → k < length (points_from made m i ends)
    → MadeOf made ends (get_or (points_from made m i ends) k d)
unfolding points_from
point_made made m d i [] k h = absurd (omega arith)
point_made made m d i (end ∷ ends) zero h =
    record { old = _; end = end; listed = Memᴰ.head refl; is = refl }
point_made made m d i (end ∷ ends) (suc k) h =
    let later = point_made made m d (suc i) ends k (omega arith) in
    record { old = later.old; end = later.end; listed = Memᴰ.tail later.listed; is = later.is }
