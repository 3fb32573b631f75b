-- Point states from counted ids, by the count. Assumes nothing.
use mathlib.Core.Path.{◌≡◌, refl, sym, ◌∙◌, ap, ap₂}
use mathlib.Core.Bool.{Bool, false, cond, ◌||◌, or-false}
use mathlib.Core.List.{List, [], ◌∷◌, map}
use Prim.Native.Nat.{ℕ, zero, suc, ◌≤◌}
use native.Mathlib.Omega.{arith}
use lib.Dec.{ltb}
use lib.ListN.{length, get_or, take}
use lib.Seq.{take-nil}
use borrow.Author.Tests.{eq-eqb, ne_eqb, lt-ltb}
use Rattle.contact_definitions.specs.declared.b2_collision.B2contactId.{B2contactId}
use Rattle.contact_definitions.specs.declared.b2_collision.B2manifold.{B2manifold}
use Rattle.contact_definitions.specs.declared.b2_collision.B2manifoldPoint.{B2manifoldPoint}
use Rattle.contact_definitions.specs.declared.b2_collision.B2pointState.{B2pointState}
use Rattle.contact_definitions.specs.declared.b2_collision.B2pointState.TheVariants.{B2NullState, B2PersistState}
use Rattle.contact_definitions.specs.declared.b2_collision.CountedIds.{CountedIds}
use Rattle.contact_definitions.specs.Manifold.{as_byte, default_point, manifold_point, counted_points}
use Rattle.algebra.proofs.Lists.{getD_within}
use Rattle.algebra.proofs.Two.{both_places}
use Rattle.contact_definitions.specs.PointStates.{same_id, id_among, counted_ids, ids_of, ids_in, point_state}

-- ---- the ids by their count
module _ (ids : CountedIds) where
  no_ids : ids.count ≡ 0 → ids_in ids ≡ []
  unfolding ids_in
  no_ids none = simp (eq-eqb ids.count 0 none)

  one_id : (ids.count ≡ 0 → ⊥) → ids.count ≡ 1 → ids_in ids ≡ ids.first ∷ []
  unfolding ids_in
  one_id some one = simp (ne_eqb ids.count 0 some, eq-eqb ids.count 1 one)

  two_ids : (ids.count ≡ 0 → ⊥) → (ids.count ≡ 1 → ⊥) → ids_in ids ≡ ids.first ∷ ids.second ∷ []
  unfolding ids_in
  two_ids some more = simp (ne_eqb ids.count 0 some, ne_eqb ids.count 1 more)

-- ---- an id among others
module _ (id : B2contactId) (others : CountedIds) where
  pub among_none : others.count ≡ 0 → false ≡ id_among id (ids_in others)
  unfolding id_among
  among_none none = sym (ap (id_among id) (no_ids others none))

  pub among_one : (r : Bool) → r ≡ same_id others.first id → (others.count ≡ 0 → ⊥) → others.count ≡ 1
      → r ≡ id_among id (ids_in others)
  unfolding id_among
  among_one r r_is some one = r_is ∙ sym (or-false (same_id others.first id))
      ∙ sym (ap (id_among id) (one_id others some one))

  pub among_two : (r s : Bool) → r ≡ same_id others.first id → s ≡ same_id others.second id
      → (others.count ≡ 0 → ⊥)
      → (others.count ≡ 1 → ⊥) → (r || s) ≡ id_among id (ids_in others)
  unfolding id_among
  among_two r s r_is s_is some more =
      ap₂ ◌||◌ r_is (s_is ∙ sym (or-false (same_id others.second id)))
      ∙ sym (ap (id_among id) (two_ids others some more))

-- ---- the state of a point
module _ (alone : B2pointState) (others : List B2contactId) where
  abbrev state_if : Bool → B2contactId → B2pointState
  state_if counted id = cond counted (cond (id_among id others) B2PersistState alone) B2NullState

  first_by : (n : ℕ) (a b : B2contactId) → state_if (ltb 0 n) a
      ≡ point_state alone (ids_in (record { count = n; first = a; second = b })) others 0
  unfolding point_state ids_in
  first_by zero a b = refl
  first_by (suc zero) a b = refl
  first_by (suc (suc n)) a b =
      simp (
        lt-ltb 0 (suc (suc n)) (omega arith),
        two_ids (record { count = suc (suc n); first = a; second = b })
            (λ none. omega arith) (λ one. omega arith),
      )

  second_by : (n : ℕ) (a b : B2contactId) → state_if (ltb 1 n) b
      ≡ point_state alone (ids_in (record { count = n; first = a; second = b })) others 1
  unfolding point_state ids_in
  second_by zero a b = refl
  second_by (suc zero) a b = refl
  second_by (suc (suc n)) a b =
      simp (
        lt-ltb 1 (suc (suc n)) (omega arith),
        two_ids (record { count = suc (suc n); first = a; second = b })
            (λ none. omega arith) (λ one. omega arith),
      )

  pub first_state : (mine : CountedIds) → state_if (ltb 0 mine.count) mine.first
      ≡ point_state alone (ids_in mine) others 0
  first_state mine = first_by mine.count mine.first mine.second

  pub second_state : (mine : CountedIds) → state_if (ltb 1 mine.count) mine.second
      ≡ point_state alone (ids_in mine) others 1
  second_state mine = second_by mine.count mine.first mine.second

-- ---- the ids that a manifold counts
abbrev id_of : B2manifoldPoint → B2contactId
id_of p = p.id

by_count : (n : ℕ) (p0 p1 : B2manifoldPoint)
    → ids_in (record { count = n; first = p0.id; second = p1.id }) ≡ map id_of (take n (p0 ∷ p1 ∷ []))
unfolding ids_in
by_count zero p0 p1 = refl
by_count (suc zero) p0 p1 = refl
by_count (suc (suc n)) p0 p1 =
    two_ids (record { count = suc (suc n); first = p0.id; second = p1.id }) (λ none. omega arith) (λ one. omega arith)
    ∙ ap (λ (l : List B2manifoldPoint). p0.id ∷ p1.id ∷ map id_of l) (sym (take-nil n))

-- where the manifold has two places
module _ (m : B2manifold) (two : length m.points ≡ 2) where
  pub ids_of_two : m.point_count ≤ 2 → ids_in (ids_of m) ≡ counted_ids m
  unfolding ids_of counted_ids counted_points
  ids_of_two few =
      ap (λ (n : ℕ). ids_in (record { count = n; first = (manifold_point m 0).id; second = (manifold_point m 1).id }))
      (let same : as_byte m.point_count ≡ m.point_count = omega (arith, few) in same)
      ∙ by_count m.point_count (manifold_point m 0) (manifold_point m 1)
      ∙ ap (λ (l : List B2manifoldPoint). map id_of (take m.point_count l))
      (both_places m.points default_point two)

  pub ids_read : (p0 p1 d : B2manifoldPoint) → p0 ≡ get_or m.points 0 d → p1 ≡ get_or m.points 1 d
      → record { count = as_byte m.point_count; first = p0.id; second = p1.id } ≡ ids_of m
  unfolding ids_of
  ids_read p0 p1 d p0_is p1_is =
      simp (
        p0_is,
        p1_is,
        getD_within m.points 0 d default_point (omega arith),
        getD_within m.points 1 d default_point (omega arith),
      )
