-- Manifolds whose numbers the world points take: a normal of at most 8 m, points of at most 2^30 m. What the contact
-- calls write to them. Assumes nothing.
use Prim.Native.Nat.{ℕ, zero, suc, ◌*◌, ◌^◌, ◌≤◌}
use mathlib.Core.Path.{◌≡◌, refl}
use mathlib.Core.Bool.{Bool, true, false, cond, ◌&&◌}
use mathlib.Core.List.{List, [], ◌∷◌, ◌++◌}
use native.Mathlib.Nat.{le_trans, le_of_eq}
use lib.Dec.{T}
use lib.Ieee.{Float}
use lib.Ieee.Bits.{is_true}
use lib.Ieee.Fits.{and_i}
use lib.ListN.{length, take, drop}
use Rattle.algebra.specs.Buffer.{over}
use Rattle.algebra.proofs.Magnitude.{abs_widen}
use Rattle.rounding.specs.Value.{metre, mag, val}
use Rattle.rounding.proofs.Value.{abs_mag}
use Rattle.floats.specs.declared.b2_math.B2vec2.{B2vec2}
use Rattle.floats.specs.Ranges.{vec2_within, local_normal_in_range, contact_point_in_range}
use Rattle.floats.proofs.RangeValue.{Limit, vec2_limit, local_normal_limit_is, contact_limit_is}
use Rattle.contact_definitions.specs.declared.b2_collision.B2clipVertex.{B2clipVertex}
use Rattle.contact_definitions.specs.declared.b2_collision.B2contactId.{B2contactId}
use Rattle.contact_definitions.specs.declared.b2_collision.B2manifold.{B2manifold}
use Rattle.contact_definitions.specs.declared.b2_collision.B2manifoldPoint.{B2manifoldPoint}
use Rattle.contact_definitions.specs.declared.b2_collision.B2manifoldType.{B2manifoldType}
use Rattle.contact_definitions.specs.Manifold.{with_count, with_kind, with_one_point, with_local_point, counted_points}
use Rattle.contact_definitions.specs.Manifold.{manifold_point}
use Rattle.contact_definitions.specs.ReferenceFace.{only, points_from, with_points, manifold_of_ends}
use Rattle.contact_definitions.specs.WorldManifold.{points_in_range, manifold_in_range}
use Rattle.record_ranges.proofs.Vectors.{Caps}
use Rattle.record_ranges.proofs.Clipped.{EndsCap}

-- every place holds a point of at most 2^30 m
unfoldable pub PointsCap : List B2manifoldPoint → Type 0
PointsCap [] = Unit {0}
PointsCap (p ∷ ps) = Caps p.local_point 30 × PointsCap ps

pub record Ranged (m : B2manifold) : Type 0 where
  pub normal : Caps m.local_normal 3
  pub point : Caps m.local_point 30
  pub points : PointsCap m.points

-- ---- what the calls write
pub count_ranged : (m : B2manifold) (n : ℕ) → Ranged m → Ranged (with_count m n)
unfolding with_count
count_ranged m n h = record { normal = h.normal; point = h.point; points = h.points }

pub kind_ranged : (m : B2manifold) (kind : B2manifoldType) → Ranged m → Ranged (with_kind m kind)
unfolding with_kind
kind_ranged m kind h = record { normal = h.normal; point = h.point; points = h.points }

dropped : (n : ℕ) (ps : List B2manifoldPoint) → PointsCap ps → PointsCap (drop n ps)
unfolding PointsCap
dropped zero ps h = h
dropped (suc n) [] h = tt
dropped (suc n) (p ∷ ps) h = dropped n ps h.1

joined : (ps qs : List B2manifoldPoint) → PointsCap ps → PointsCap qs → PointsCap (ps ++ qs)
unfolding PointsCap
joined [] qs h g = g
joined (p ∷ ps) qs h g = (h.0, joined ps qs h.1 g)

over_points : (new old : List B2manifoldPoint) → PointsCap new → PointsCap old → PointsCap (over new old)
over_points new old h g = joined new (drop (length new) old) h (dropped (length new) old g)

pub one_ranged : (m : B2manifold) (kind : B2manifoldType) (normal point centre : B2vec2) (id : B2contactId) → Ranged m
    → Caps normal 3 → Caps point 30 → Caps centre 30 → Ranged (with_one_point m kind normal point centre id)
unfolding with_one_point with_local_point PointsCap
one_ranged m kind normal point centre id h normal_caps point_caps centre_caps = record {
  normal = normal_caps;
  point = point_caps;
  points = over_points (with_local_point (manifold_point m 0) centre id ∷ []) m.points (centre_caps, tt) h.points;
}

-- points made of clipped ends
module _ (near : B2clipVertex → Bool) (made : B2manifoldPoint → B2clipVertex → B2manifoldPoint)
    (made_caps : (old : B2manifoldPoint) (end : B2clipVertex) → Caps end.v 27
    → Caps (made old end).local_point 30)
  where
    kept : (t : Bool) (end : B2clipVertex) (rest : List B2clipVertex) → Caps end.v 27 → EndsCap rest 27
        → EndsCap (cond t (end ∷ rest) rest) 27
    unfolding EndsCap
    kept true end rest h g = (h, g)
    kept false end rest h g = g

    only_caps : (ends : List B2clipVertex) → EndsCap ends 27 → EndsCap (only near ends) 27
    unfolding only EndsCap
    only_caps [] h = tt
    only_caps (end ∷ ends) h = kept (near end) end (only near ends) h.0 (only_caps ends h.1)

    from_caps : (m : B2manifold) (i : ℕ) (ends : List B2clipVertex) → EndsCap ends 27
        → PointsCap (points_from made m i ends)
    unfolding points_from EndsCap PointsCap
    from_caps m i [] h = tt
    from_caps m i (end ∷ ends) h = (made_caps (manifold_point m i) end h.0, from_caps m (suc i) ends h.1)

    pub ends_ranged : (m : B2manifold) (normal point : B2vec2) (ends : List B2clipVertex) → Ranged m → Caps normal 3
        → Caps point 30 → EndsCap ends 27 → Ranged (manifold_of_ends m normal point near made ends)
    unfolding manifold_of_ends with_points
    ends_ranged m normal point [] h normal_caps point_caps ends_caps = h
    ends_ranged m normal point (end ∷ []) h normal_caps point_caps ends_caps = h
    ends_ranged m normal point (end0 ∷ end1 ∷ ends) h normal_caps point_caps ends_caps = record {
      normal = normal_caps;
      point = point_caps;
      points = over_points (points_from made m 0 (only near (end0 ∷ end1 ∷ ends))) m.points
          (from_caps m 0 (only near (end0 ∷ end1 ∷ ends)) (only_caps (end0 ∷ end1 ∷ ends) ends_caps)) h.points;
    }

-- ---- so the world points take it
within_limit : {limit : Float} (v : B2vec2) (k h : ℕ) → Limit limit h → 2 ^ k * metre ≤ h * metre → Caps v k
    → T (vec2_within limit v)
within_limit v k h l fits caps =
    vec2_limit {v = v} l caps.x_cap.own caps.y_cap.own
    (abs_widen (val v.x) (mag v.x) (h * metre) (abs_mag v.x) (le_trans caps.x_cap.size fits))
    (abs_widen (val v.y) (mag v.y) (h * metre) (abs_mag v.y) (le_trans caps.y_cap.size fits))

point_taken : (v : B2vec2) → Caps v 30 → T (contact_point_in_range v)
unfolding contact_point_in_range
point_taken v h = within_limit v 30 (2 ^ 30) contact_limit_is (le_of_eq refl) h

points_taken : (n : ℕ) (ps : List B2manifoldPoint) → PointsCap ps → T (points_in_range (take n ps))
unfolding PointsCap points_in_range
points_taken zero ps h = tt
points_taken (suc n) [] h = tt
points_taken (suc n) (p ∷ ps) h =
    and_i (contact_point_in_range p.local_point) (points_in_range (take n ps))
    (point_taken p.local_point h.0) (points_taken n ps h.1)

pub ranged_taken : (m : B2manifold) → Ranged m → manifold_in_range m ≡ true
unfolding manifold_in_range counted_points local_normal_in_range
ranged_taken m h =
    let first = local_normal_in_range m.local_normal && contact_point_in_range m.local_point in
    let rest = points_in_range (take m.point_count m.points) in
    is_true (first && rest) (and_i first rest
    (and_i (local_normal_in_range m.local_normal) (contact_point_in_range m.local_point)
    (within_limit m.local_normal 3 8 local_normal_limit_is (le_of_eq refl) h.normal)
    (point_taken m.local_point h.point))
    (points_taken m.point_count m.points h.points))
