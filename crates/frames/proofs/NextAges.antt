-- The age that a point of an id has at the next test, by how many points the last one had and which of them has the id:
-- the code's five ways; and both points of a manifold as the code reads them. Assumes nothing.
use Prim.Native.Nat.{ℕ, ◌<◌}
use mathlib.Core.Path.{◌≡◌, sym, ◌∙◌}
use mathlib.Core.Bool.{Bool, true, false}
use native.Mathlib.Omega.{arith}
use lib.Dec.{eqb}
use lib.Ieee.{nan}
use lib.ListN.{length, get_or}
use borrow.Author.Tests.{eq-eqb, ne_eqb}
use Rattle.algebra.proofs.Booleans.{by_test}
use Rattle.algebra.proofs.Lists.{getD_within}
use Rattle.floats.specs.B2Math.{vec2}
use Rattle.contact_definitions.specs.declared.b2_collision.B2contactId.{B2contactId}
use Rattle.contact_definitions.specs.declared.b2_collision.B2manifold.{B2manifold}
use Rattle.contact_definitions.specs.declared.b2_collision.B2manifoldPoint.{B2manifoldPoint}
use Rattle.contact_definitions.specs.Manifold.{default_id, default_point, manifold_point}
use Rattle.contact_definitions.specs.PointStates.{same_id, ids_in}
use Rattle.record_definitions.specs.declared.world.Kept.{Kept}
use Rattle.record_definitions.specs.World.{one_more}
use Rattle.record_definitions.specs.Ages.{age_after, next_age}

module _ (kept : Kept) (id : B2contactId) where
  pub no_point : kept.ids.count ≡ 0 → 0 ≡ next_age kept id
  unfolding next_age ids_in age_after
  no_point none = simp (eq-eqb kept.ids.count 0 none)

  module _ (some : kept.ids.count ≡ 0 → ⊥) where
    pub as_first : (r : Bool) → r ≡ same_id kept.ids.first id → r ≡ true
        → one_more kept.ages.first ≡ next_age kept id
    unfolding next_age ids_in age_after
    as_first r r_is same =
        by_test (eqb kept.ids.count 1)
        (λ one. simp (ne_eqb kept.ids.count 0 some, one, sym r_is ∙ same))
        (λ more. simp (ne_eqb kept.ids.count 0 some, more, sym r_is ∙ same))

    module _ (r : Bool) (r_is : r ≡ same_id kept.ids.first id) (differs : r ≡ false) where
      pub not_the_one : kept.ids.count ≡ 1 → 0 ≡ next_age kept id
      unfolding next_age ids_in age_after
      not_the_one one =
          simp (ne_eqb kept.ids.count 0 some, eq-eqb kept.ids.count 1 one, sym r_is ∙ differs)

      module _ (more : kept.ids.count ≡ 1 → ⊥) where
        pub as_second : (s : Bool) → s ≡ same_id kept.ids.second id → s ≡ true
            → one_more kept.ages.second ≡ next_age kept id
        unfolding next_age ids_in age_after
        as_second s s_is same =
            simp (
              ne_eqb kept.ids.count 0 some,
              ne_eqb kept.ids.count 1 more,
              sym r_is ∙ differs,
              sym s_is ∙ same,
            )

        pub as_neither : (s : Bool) → s ≡ same_id kept.ids.second id → s ≡ false → 0 ≡ next_age kept id
        unfolding next_age ids_in age_after
        as_neither s s_is other =
            simp (
              ne_eqb kept.ids.count 0 some,
              ne_eqb kept.ids.count 1 more,
              sym r_is ∙ differs,
              sym s_is ∙ other,
            )

-- ---- the points of a manifold: past both places the logic has an element of its own
abbrev no_element : B2manifoldPoint
no_element = record {
  local_point = vec2 nan nan;
  normal_impulse = nan;
  tangent_impulse = nan;
  id = default_id;
  age = 0;
}

pub point_read : (m : B2manifold) (i : ℕ) → length m.points ≡ 2 → i < 2
    → get_or m.points i no_element ≡ manifold_point m i
point_read m i two within = getD_within m.points i no_element default_point (omega arith)
