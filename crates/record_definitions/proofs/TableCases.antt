-- Closed cases of small tables: the length of each frame, the pairs that are tested, the places of pairs, the kind that
-- is printed, and the touches by the points before and now. What they give is read off documents 01 and 02.
-- Assumes nothing.
use Prim.Native.Nat.{ℕ, ◌-◌}
use mathlib.Core.Path.{◌≡◌, refl}
use mathlib.Core.Bool.{true, false}
use mathlib.Core.List.{[], ◌∷◌, map}
use Rattle.shape_definitions.specs.Refusal.{accepted}
use Rattle.contact_definitions.specs.declared.b2_collision.B2manifold.{B2manifold}
use Rattle.contact_definitions.specs.declared.b2_collision.B2manifoldType.TheVariants.{EFaceB}
use Rattle.contact_definitions.specs.declared.b2_collision.B2pointState.TheVariants.{B2NullState, B2AddState}
use Rattle.contact_definitions.specs.declared.b2_collision.B2pointState.TheVariants.{B2RemoveState}
use Rattle.contact_definitions.specs.Manifold.{contact_id, default_id, default_manifold, with_count, with_kind}
use Rattle.contact_definitions.specs.PointStates.{same_id, id_among, ids_of, ids_in, point_state, states_of_ids}
use Rattle.contact_definitions.specs.WorldManifold.{default_world_manifold}
use Rattle.contact_definitions.proofs.StateCases.{counting}
use Rattle.record_definitions.specs.declared.touch.TestAnswer.{TestAnswer}
use Rattle.record_definitions.specs.World.{no_body, circle_kind, outline_kind, wall_kind, chain_kind}
use Rattle.record_definitions.specs.World.{largest_count, pair_place}
use Rattle.record_definitions.specs.Ages.{age_after, next_age, ages_of, with_ages}
use Rattle.record_definitions.specs.Touch.{states_of, touches_after, shown_kind, touch_of}
use Rattle.record_definitions.specs.Touch.{tested_as}
use Rattle.record_definitions.specs.Frame.{frame_length, listed}
use Rattle.record_definitions.specs.Answer.{longest_answer, longest_line, longest_said}
use Rattle.record_definitions.specs.Reading.{kept_length}

-- one point, of an outline's corner on a wall's face
abbrev pub one_point : ℕ → B2manifold
one_point corner = counting 1 (contact_id 0 corner 1 0) default_id

-- a test that meets this contact, of a pair that kept that one with ages 3 and 7 and four touches
abbrev pub tested_after : B2manifold → B2manifold → TestAnswer
tested_after kept contact =
    tested_as 0 1 (record { ids = ids_of kept; ages = record { first = 3; second = 7 }; touches = 4 })
    (record { manifold = contact; refusal = accepted }) (record { world = default_world_manifold; refusal = accepted })

pub record TableCases : Type 0 where
  -- by the kind, 0 to 8, where the third byte is 0
  pub lengths : map (λ (kind : ℕ). frame_length kind 0) (0 ∷ 1 ∷ 2 ∷ 3 ∷ 4 ∷ 5 ∷ 6 ∷ 7 ∷ 8 ∷ [])
      ≡ 0 ∷ 14 ∷ 3 ∷ 19 ∷ 18 ∷ 3 ∷ 12 ∷ 19 ∷ 0 ∷ []
  -- of an outline by its count, of a wall by its flag
  pub outline_lengths : map (frame_length 2) (1 ∷ 2 ∷ 3 ∷ 8 ∷ 9 ∷ 255 ∷ []) ≡ 11 ∷ 19 ∷ 27 ∷ 67 ∷ 0 ∷ 0 ∷ []
  pub wall_lengths : map (frame_length 3) (1 ∷ 2 ∷ 255 ∷ []) ≡ 35 ∷ 0 ∷ 0 ∷ []
  -- of a chain by its count
  pub chain_lengths : map (frame_length 7) (1 ∷ 2 ∷ 3 ∷ 8 ∷ 9 ∷ 255 ∷ []) ≡ 27 ∷ 35 ∷ 43 ∷ 83 ∷ 0 ∷ 0 ∷ []
  -- a row for each kind of the first body: none, circle, outline, wall, chain
  pub after_none : map (listed no_body) (0 ∷ 1 ∷ 2 ∷ 3 ∷ 7 ∷ []) ≡ false ∷ false ∷ false ∷ false ∷ false ∷ []
  pub after_circle : map (listed circle_kind) (0 ∷ 1 ∷ 2 ∷ 3 ∷ 7 ∷ []) ≡ false ∷ true ∷ false ∷ false ∷ false ∷ []
  pub after_outline : map (listed outline_kind) (0 ∷ 1 ∷ 2 ∷ 3 ∷ 7 ∷ []) ≡ false ∷ true ∷ true ∷ false ∷ false ∷ []
  pub after_wall : map (listed wall_kind) (0 ∷ 1 ∷ 2 ∷ 3 ∷ 7 ∷ []) ≡ false ∷ true ∷ true ∷ false ∷ false ∷ []
  pub after_chain : map (listed chain_kind) (0 ∷ 1 ∷ 2 ∷ 3 ∷ 7 ∷ []) ≡ false ∷ true ∷ true ∷ false ∷ false ∷ []
  -- the corners of the table of pairs
  pub places : pair_place 0 1 ∷ pair_place 1 0 ∷ pair_place 7 7 ∷ [] ≡ 1 ∷ 8 ∷ 63 ∷ []
  -- by the count of a manifold of kind face B: without a point the kind is not printed
  pub kinds_shown : map (λ (n : ℕ). shown_kind (with_kind (with_count default_manifold n) EFaceB)) (0 ∷ 1 ∷ 2 ∷ [])
      ≡ 0 ∷ 2 ∷ 2 ∷ []
  -- from no point to none, one and two; from one point; from two
  pub counted_from_none : map (touches_after 4 0) (0 ∷ 1 ∷ 2 ∷ []) ≡ 4 ∷ 5 ∷ 5 ∷ []
  pub counted_from_one : map (touches_after 4 1) (0 ∷ 1 ∷ 2 ∷ []) ≡ 4 ∷ 4 ∷ 4 ∷ []
  pub counted_from_two : map (touches_after 4 2) (0 ∷ 1 ∷ 2 ∷ []) ≡ 4 ∷ 4 ∷ 4 ∷ []
  -- a roll from corner 3 to corner 0: the old point is removed and the new one added, and no touch begins
  pub roll_states : (tested_after (one_point 3) (one_point 0)).touch.states
      ≡ record { old0 = B2RemoveState; old1 = B2NullState; new0 = B2AddState; new1 = B2NullState }
  pub roll_touches : (tested_after (one_point 3) (one_point 0)).touch.touches ≡ 4
  -- the same point where there was none
  pub begun_touches : (tested_after default_manifold (one_point 0)).touch.touches ≡ 5
  -- the count holds at 2^32 - 1
  pub largest : largest_count ≡ 0xffff_ffff
  pub last_counted : touches_after (largest_count - 1) 0 1 ≡ largest_count
  pub held : touches_after largest_count 0 2 ≡ largest_count
  pub sizes : longest_answer ∷ longest_line ∷ longest_said ∷ kept_length ∷ [] ≡ 53 ∷ 107 ∷ 749 ∷ 167 ∷ []

pub table_cases : TableCases
unfolding frame_length listed with_kind with_count same_id id_among ids_of ids_in point_state states_of_ids
    touches_after states_of age_after next_age ages_of with_ages touch_of tested_as
table_cases = record {
  lengths = refl;
  outline_lengths = refl;
  wall_lengths = refl;
  chain_lengths = refl;
  after_none = refl;
  after_circle = refl;
  after_outline = refl;
  after_wall = refl;
  after_chain = refl;
  places = refl;
  kinds_shown = refl;
  counted_from_none = refl;
  counted_from_one = refl;
  counted_from_two = refl;
  roll_states = refl;
  roll_touches = refl;
  begun_touches = refl;
  largest = refl;
  last_counted = refl;
  held = refl;
  sizes = refl;
}
