-- The impulses and the age of a point, at both places of a manifold, and what the parts of each contact write: they
-- stay as they were given. Assumes nothing.
use Prim.Native.Nat.{ℕ, ◌≤◌}
use mathlib.Core.Path.{◌≡◌, refl, ◌∙◌, ap, ap₂}
use mathlib.Core.Bool.{Bool}
use mathlib.Core.List.{List, [], ◌∷◌, map}
use native.Mathlib.Omega.{arith}
use lib.Ieee.{Float}
use lib.ListN.{length, get_or}
use Rattle.algebra.specs.Buffer.{over}
use Rattle.floats.specs.declared.b2_math.B2vec2.{B2vec2}
use Rattle.contact_definitions.specs.declared.b2_collision.B2clipVertex.{B2clipVertex}
use Rattle.contact_definitions.specs.declared.b2_collision.B2contactId.{B2contactId}
use Rattle.contact_definitions.specs.declared.b2_collision.B2manifold.{B2manifold}
use Rattle.contact_definitions.specs.declared.b2_collision.B2manifoldPoint.{B2manifoldPoint}
use Rattle.contact_definitions.specs.declared.b2_collision.B2manifoldType.{B2manifoldType}
use Rattle.contact_definitions.specs.Manifold.{with_count, with_kind, with_one_point, default_point}
use Rattle.contact_definitions.specs.Manifold.{with_local_point, manifold_point}
use Rattle.contact_definitions.specs.Unwritten.{unwritten, AsGiven}
use Rattle.contact_definitions.specs.ReferenceFace.{only, points_from, with_points, manifold_of_ends}
use Rattle.contact_definitions.proofs.Counts.{only_fewer}

-- ---- two places, and points written over the first of them
pub local_point_written : (p : B2manifoldPoint) (v : B2vec2) (id : B2contactId)
    → unwritten (with_local_point p v id) ≡ unwritten p
unfolding with_local_point
local_point_written p v id = refl

-- points as those were
PointsAsGiven : List B2manifoldPoint → List B2manifoldPoint → Type 0
PointsAsGiven points new = (length new ≡ 2) × (map unwritten new ≡ map unwritten points)

first_written : (points : List B2manifoldPoint) (p : B2manifoldPoint) → length points ≡ 2
    → unwritten p ≡ unwritten (get_or points 0 default_point) → PointsAsGiven points (over (p ∷ []) points)
unfolding PointsAsGiven
first_written [] p size same = absurd (omega arith)
first_written (x ∷ []) p size same = absurd (omega arith)
first_written (x ∷ y ∷ []) p size same = (refl, ap (λ (u : Float × Float × ℕ). u ∷ unwritten y ∷ []) same)
first_written (x ∷ y ∷ z ∷ rest) p size same = absurd (omega arith)

module _ (made : B2manifoldPoint → B2clipVertex → B2manifoldPoint)
    (keeps : (p : B2manifoldPoint) (end : B2clipVertex) → unwritten (made p end) ≡ unwritten p) (m : B2manifold) where
  both_written : (points : List B2manifoldPoint) → m.points ≡ points → length points ≡ 2 → (ends : List B2clipVertex)
      → length ends ≤ 2 → PointsAsGiven points (over (points_from made m 0 ends) points)
  unfolding points_from PointsAsGiven
  both_written [] is size ends few = absurd (omega arith)
  both_written (x ∷ []) is size ends few = absurd (omega arith)
  both_written (x ∷ y ∷ []) is size [] few = (refl, refl)
  both_written (x ∷ y ∷ []) is size (end ∷ []) few =
      rw is (refl, ap (λ (u : Float × Float × ℕ). u ∷ unwritten y ∷ []) (keeps x end))
  both_written (x ∷ y ∷ []) is size (end0 ∷ end1 ∷ []) few =
      rw is (refl, ap₂ (λ (u v : Float × Float × ℕ). u ∷ v ∷ []) (keeps x end0) (keeps y end1))
  both_written (x ∷ y ∷ []) is size (end0 ∷ end1 ∷ end2 ∷ ends) few = absurd (omega arith)
  both_written (x ∷ y ∷ z ∷ rest) is size ends few = absurd (omega arith)

-- ---- what calls write
module _ (old : B2manifold) where
  abbrev Kept : B2manifold → Type 0
  Kept m = AsGiven old m

  pub count_written : (m : B2manifold) (n : ℕ) → Kept m → Kept (with_count m n)
  unfolding with_count
  count_written m n h = record { two = h.two; kept = h.kept }

  pub kind_written : (m : B2manifold) (kind : B2manifoldType) → Kept m → Kept (with_kind m kind)
  unfolding with_kind
  kind_written m kind h = record { two = h.two; kept = h.kept }

  pub one_written : (m : B2manifold) (kind : B2manifoldType) (normal point centre : B2vec2) (id : B2contactId)
      → Kept m → Kept (with_one_point m kind normal point centre id)
  unfolding with_one_point PointsAsGiven
  one_written m kind normal point centre id h =
      let p = manifold_point m 0 in
      let written = first_written m.points (with_local_point p centre id) h.two
      (local_point_written p centre id) in
      record { two = written.0; kept = written.1 ∙ h.kept }

  pub ends_written : (m : B2manifold) (normal point : B2vec2) (near : B2clipVertex → Bool)
      (made : B2manifoldPoint → B2clipVertex → B2manifoldPoint) (ends : List B2clipVertex) → Kept m
      → ((p : B2manifoldPoint) (end : B2clipVertex) → unwritten (made p end) ≡ unwritten p)
      → length ends ≤ 2 → Kept (manifold_of_ends m normal point near made ends)
  unfolding manifold_of_ends with_points PointsAsGiven
  ends_written m normal point near made [] h keeps few = h
  ends_written m normal point near made (end ∷ []) h keeps few = h
  ends_written m normal point near made (end0 ∷ end1 ∷ ends) h keeps few =
      let near_ends = only near (end0 ∷ end1 ∷ ends) in
      let written = both_written made keeps m m.points refl h.two near_ends
      (omega (arith, only_fewer near (end0 ∷ end1 ∷ ends))) in
      record { two = written.0; kept = written.1 ∙ h.kept }
