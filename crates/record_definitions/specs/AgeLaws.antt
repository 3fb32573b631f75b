-- Document 02, request 06, in the referee's words: how long a point has been pressed. At one test, from what was kept
-- of the last one; and over a heat, from the contacts of the tests before. Definitions only.
use Rattle.std.specs.Prelude.{ℕ, suc, ◌≤◌, ◌<◌, min, ◌≡◌, Bool, true, false, cond, List, [], ◌∷◌, length, get_or}
use Rattle.contact_definitions.specs.declared.b2_collision.B2contactId.{B2contactId}
use Rattle.contact_definitions.specs.declared.b2_collision.B2manifold.{B2manifold}
use Rattle.contact_definitions.specs.declared.b2_collision.B2pointState.{B2pointState}
use Rattle.contact_definitions.specs.declared.b2_collision.B2pointState.TheVariants.{B2AddState, B2PersistState}
use Rattle.contact_definitions.specs.Manifold.{default_id, default_manifold}
use Rattle.contact_definitions.specs.PointStates.{counted_ids, id_among, ids_in}
use Rattle.record_definitions.specs.declared.world.Kept.{Kept}
use Rattle.record_definitions.specs.World.{largest_count, one_more}
use Rattle.record_definitions.specs.Ages.{ages_in}

-- ---- at one test
-- of some points' ids, in list order, the first that is this one stands at place k
pub record FirstMatch (id : B2contactId) (ids : List B2contactId) (k : ℕ) : Type 0 where
  pub within : k < length ids
  pub same : get_or ids k default_id ≡ id
  pub first : (j : ℕ) → j < k → get_or ids j default_id ≡ id → ⊥

-- a point that is printed in this state
pub record PointAge (old : Kept) (id : B2contactId) (state : B2pointState) (age : ℕ) : Type 0 where
  -- one that is added has age 0
  pub added : state ≡ B2AddState → age ≡ 0
  -- one that persists is one older than the first old point with its id
  pub persists : state ≡ B2PersistState
      → (k : ℕ) × FirstMatch id (ids_in old.ids) k × (age ≡ one_more (get_or (ages_in old.ages) k 0))
  -- the age is held
  pub held : age ≤ largest_count

-- ---- over a heat: contacts are those of a piece's tests, the latest first
-- there was a point of this id at the latest of them (0), the one before (1), ..
abbrev pub there_at : B2contactId → List B2manifold → ℕ → Bool
there_at id contacts k = id_among id (counted_ids (get_or contacts k default_manifold))

-- at how many of them in a row, from the latest back
unfoldable pub tests_in_a_row : B2contactId → List B2manifold → ℕ
tests_in_a_row id [] = 0
tests_in_a_row id (contact ∷ earlier) =
    cond (id_among id (counted_ids contact)) (suc (tests_in_a_row id earlier)) 0

-- as far as 32 bits hold it
abbrev pub age_by : B2contactId → List B2manifold → ℕ
age_by id earlier = min (tests_in_a_row id earlier) largest_count

-- a point of this id that has this age at a test, after tests that met the earlier contacts
pub record PressedFor (id : B2contactId) (earlier : List B2manifold) (age : ℕ) : Type 0 where
  -- its age is the number of tests in a row, up to the one before, at which there was a point of its id
  pub in_a_row : age ≡ age_by id earlier
  -- one that was there at each of the last n tests is n old at least
  pub at_least : (n : ℕ) → ((k : ℕ) → k < n → there_at id earlier k ≡ true) → min n largest_count ≤ age
  -- one that was not there at the last test, or had no last test, is 0 old, wherever it was before
  pub anew : there_at id earlier 0 ≡ false → age ≡ 0
  -- none is older than there were tests
  pub at_most : age ≤ length earlier
