-- A fresh world is sound, and every frame keeps it so. Assumes nothing.
use Prim.Native.Nat.{ℕ, zero, suc, ◌≤◌, ◌<◌}
use mathlib.Core.Path.{◌≡◌, refl, ◌∙◌}
use mathlib.Core.Bool.{Bool, true, false, false≢true}
use mathlib.Core.List.{List, [], ◌∷◌, map}
use native.Mathlib.Omega.{arith}
use lib.Dec.{eqb, leb}
use lib.ListN.{length, get_or, set, replicate, length-set}
use borrow.Author.Tests.{eqb-true, leb-true}
use Rattle.lines.specs.Fields.{byte_at, points_at}
use Rattle.shape_definitions.specs.Circle.{circle_in_range}
use Rattle.shape_definitions.specs.Polygon.{b2_polygon_shape_set}
use Rattle.shape_definitions.specs.Refusal.{accepted}
use Rattle.contact_definitions.proofs.Counts.{either}
use Rattle.record_definitions.specs.declared.world.Body.{Body}
use Rattle.record_definitions.specs.declared.world.Kept.{Kept as KeptTest}
use Rattle.record_definitions.specs.declared.world.Pair.{Pair}
use Rattle.record_definitions.specs.declared.touch.TestAnswer.{TestAnswer}
use Rattle.record_definitions.specs.declared.world.World.{World}
use Rattle.record_definitions.specs.declared.frame.Change.{Change}
use Rattle.record_definitions.specs.World.{fresh_pair, forget_below, blank_outline, blank_body, pieces_of}
use Rattle.record_definitions.specs.World.{piece_of, fresh_kept, kept_of, fresh_world, body_at, pair_at}
use Rattle.record_definitions.specs.World.{pair_place}
use Rattle.record_definitions.specs.Frame.{well_formed, frame_refusal, circle_at, circle_change, outline_change}
use Rattle.record_definitions.specs.Frame.{wall_at, wall_change, place_change, turn_change, test_refusal}
use Rattle.record_definitions.specs.Frame.{frame_length, chain_at, chain_refusal, chain_change, all_tests, keep}
use Rattle.record_definitions.specs.Frame.{test_change, change_of_kind, change}
use Rattle.record_definitions.specs.Touch.{tested, piece_tested, first_refusal, meet, tested_as}
use Rattle.record_definitions.specs.World.{largest_count}
use Rattle.record_definitions.specs.OneFrame.{first_place, second_place, pairs_after, changed, change_in}
use Rattle.record_definitions.specs.OneFrame.{after_frame}
use Rattle.record_definitions.proofs.Placements.{place_cases, turn_cases}
use Rattle.record_definitions.proofs.Changes.{by_choice}
use Rattle.record_definitions.proofs.FrameRefusals.{formed}
use Rattle.record_definitions.proofs.OneLine.{length_forget}
use Rattle.record_definitions.proofs.Rulebook.{held}
use Rattle.record_definitions.proofs.Counting.{contact_taken, met_few}
use Rattle.record_definitions.proofs.MetPlaces.{met_two}
use Rattle.record_definitions.proofs.Sound.{SoundBody, SoundPair, Sound, fresh_pair_sound, blank_sound}
use Rattle.record_definitions.proofs.Sound.{circle_sound, outline_sound, wall_sound, placed_sound}
use Rattle.record_definitions.proofs.Sound.{wall_at_in_range, SoundKept, chain_body_sound, some_piece}
use Rattle.record_definitions.proofs.SoundChains.{chain_sound}
use Rattle.record_definitions.proofs.PieceTests.{over_good, all_size, nth_test, each_accepted}
use Rattle.algebra.proofs.Buffer.{length_over}

-- ---- a frame keeps the body that it names sound
-- a well-formed chain has at most eight points
count_within : (bytes : List ℕ) (t : Bool) → leb (byte_at bytes 2) 8 ≡ t → well_formed bytes ≡ true
    → byte_at bytes 0 ≡ 7 → byte_at bytes 2 ≤ 8
unfolding well_formed frame_length
count_within bytes true few formed seven = leb-true (byte_at bytes 2) 8 few
count_within bytes false many formed seven = absurd (false≢true (simp (seven, many) at formed))

pub chain_few : (bytes : List ℕ) → well_formed bytes ≡ true → byte_at bytes 0 ≡ 7 → byte_at bytes 2 ≤ 8
chain_few bytes formed seven = count_within bytes (leb (byte_at bytes 2) 8) refl formed seven

module _ (a b : Body) (pair : Pair) (bytes : List ℕ) (sound : SoundBody a) where
  abbrev Kept : Change → Type 0
  Kept c = SoundBody c.body

  circle_kept : Kept (circle_change a pair bytes)
  unfolding circle_change
  circle_kept =
      by_choice Kept (circle_in_range (circle_at bytes)) _ _ (circle_sound bytes) (λ out. sound)

  outline_kept : Kept (outline_change a pair bytes)
  unfolding outline_change
  outline_kept =
      let points = points_at bytes 3 (byte_at bytes 2) in
      let built = b2_polygon_shape_set blank_outline points in
      by_choice Kept (eqb built.refusal accepted) _ _
      (λ taken. outline_sound built.shape
      (record { points = points; taken = eqb-true built.refusal accepted taken; is = refl }))
      (λ not_taken. sound)

  wall_kept : Kept (wall_change a pair bytes)
  unfolding wall_change
  wall_kept =
      by_choice Kept (eqb (wall_at bytes).refusal accepted) _ _
      (λ taken. wall_sound (wall_at bytes).shape
      (wall_at_in_range bytes (eqb-true (wall_at bytes).refusal accepted taken)))
      (λ not_taken. sound)

  place_kept : Kept (place_change a pair bytes)
  place_kept = place_cases a pair bytes Kept (λ n. sound) (λ xf. placed_sound a xf sound)

  turn_kept : Kept (turn_change a pair bytes)
  turn_kept = turn_cases a pair bytes Kept (λ n. sound) (λ xf. placed_sound a xf sound)

  chain_kept : byte_at bytes 2 ≤ 8 → Kept (chain_change a pair bytes)
  unfolding chain_change
  chain_kept few =
      by_choice Kept (eqb (chain_refusal bytes) accepted) _ _
      (λ taken. chain_body_sound (chain_at bytes)
      (chain_sound bytes few (eqb-true (chain_refusal bytes) accepted taken)))
      (λ not_taken. sound)

  test_kept : (ida idb : ℕ) → Kept (test_change ida idb a b pair)
  unfolding test_change
  test_kept ida idb =
      either Kept (eqb (test_refusal ida idb a.kind b.kind) accepted) _ _
      (either Kept (eqb (first_refusal (all_tests ida idb a b pair)) accepted) _ _ sound sound) sound

  kind_kept : (kind : ℕ) → (kind ≡ 7 → byte_at bytes 2 ≤ 8) → Kept (change_of_kind kind a b pair bytes)
  unfolding change_of_kind
  kind_kept kind few =
      either Kept (eqb kind 1) _ _ circle_kept
      (either Kept (eqb kind 2) _ _ outline_kept
      (either Kept (eqb kind 3) _ _ wall_kept
      (either Kept (eqb kind 4) _ _ place_kept
      (either Kept (eqb kind 6) _ _ turn_kept
      (by_choice Kept (eqb kind 7) _ _ (λ seven. chain_kept (few (eqb-true kind 7 seven)))
      (λ other. test_kept (byte_at bytes 1) (byte_at bytes 2)))))))

  change_kept : Kept (change a b pair bytes)
  unfolding change
  change_kept =
      by_choice Kept (eqb (frame_refusal bytes) accepted) _ _
      (λ taken. kind_kept (byte_at bytes 0) (chain_few bytes (formed bytes (eqb-true (frame_refusal bytes) accepted taken))))
      (λ refused. sound)

-- ---- and the pair
module _ (a b : Body) (pair : Pair) (bytes : List ℕ) (a_sound : SoundBody a) (sound : SoundPair pair) where
  abbrev PairKept : Change → Type 0
  PairKept c = SoundPair c.pair

  tested_kept : (ida idb : ℕ) (piece : Body) (kept : KeptTest) → kept.touches ≤ largest_count
      → (tested ida idb piece b kept).refusal ≡ accepted → SoundKept (tested ida idb piece b kept).kept
  unfolding tested tested_as
  tested_kept ida idb piece kept kept_held taken =
      let met = contact_taken piece b ida idb kept taken in
      record {
        last = (meet piece b).manifold;
        two_places = met_two piece b;
        few = (met_few piece b met).at_most_two;
        ids_are = refl;
        held = held kept.touches _ _ kept_held;
      }

  piece_kept_sound : (ida idb : ℕ) → first_refusal (all_tests ida idb a b pair) ≡ accepted → (i : ℕ)
      → i < pieces_of a → SoundKept (piece_tested ida idb a b pair i).kept
  unfolding piece_tested
  piece_kept_sound ida idb taken i within =
      tested_kept ida idb (piece_of a i) (kept_of pair i) (sound.piece i).held
      (each_accepted ida idb a b pair taken i within)

  tested_pair : (ida idb : ℕ) → first_refusal (all_tests ida idb a b pair) ≡ accepted
      → SoundPair (keep (all_tests ida idb a b pair) pair)
  tested_pair ida idb taken =
      let kepts = map (λ (t : TestAnswer). t.kept) (all_tests ida idb a b pair) in
      let some = some_piece a a_sound in
      let size : length kepts ≡ pieces_of a = all_size ida idb a b pair (λ (t : TestAnswer). t.kept) some.0 in
      record {
        seven = length_over kepts pair.pieces (omega (arith, sound.seven, some.1)) ∙ sound.seven;
        piece = over_good fresh_kept SoundKept kepts pair.pieces
            (λ k within. rw (nth_test ida idb a b pair (λ (t : TestAnswer). t.kept) fresh_kept k (omega arith))
            (piece_kept_sound ida idb taken k (omega arith)))
            sound.piece;
      }

  test_pair_kept : (ida idb : ℕ) → PairKept (test_change ida idb a b pair)
  unfolding test_change
  test_pair_kept ida idb =
      let refusal = first_refusal (all_tests ida idb a b pair) in
      either PairKept (eqb (test_refusal ida idb a.kind b.kind) accepted) _ _
      (by_choice PairKept (eqb refusal accepted) _ _
      (λ taken. tested_pair ida idb (eqb-true refusal accepted taken)) (λ not_taken. sound))
      sound

  kind_pair_kept : (kind : ℕ) → PairKept (change_of_kind kind a b pair bytes)
  unfolding change_of_kind circle_change outline_change wall_change chain_change
  kind_pair_kept kind =
      let built = b2_polygon_shape_set blank_outline (points_at bytes 3 (byte_at bytes 2)) in
      either PairKept (eqb kind 1) _ _ (either PairKept (circle_in_range (circle_at bytes)) _ _ sound sound)
      (either PairKept (eqb kind 2) _ _ (either PairKept (eqb built.refusal accepted) _ _ sound sound)
      (either PairKept (eqb kind 3) _ _ (either PairKept (eqb (wall_at bytes).refusal accepted) _ _ sound sound)
      (either PairKept (eqb kind 4) _ _ (place_cases a pair bytes PairKept (λ n. sound) (λ xf inside. sound))
      (either PairKept (eqb kind 6) _ _ (turn_cases a pair bytes PairKept (λ n. sound) (λ xf inside. sound))
      (either PairKept (eqb kind 7) _ _ (either PairKept (eqb (chain_refusal bytes) accepted) _ _ sound sound)
      (test_pair_kept (byte_at bytes 1) (byte_at bytes 2)))))))

  change_pair_kept : PairKept (change a b pair bytes)
  unfolding change
  change_pair_kept =
      either PairKept (eqb (frame_refusal bytes) accepted) _ _ (kind_pair_kept (byte_at bytes 0)) sound

-- ---- and the world
module _ {A : Type 0} (Good : A → Type 0) (default : A) where
  stored : (l : List A) (i : ℕ) (a : A) → Good a → ((k : ℕ) → Good (get_or l k default))
      → (k : ℕ) → Good (get_or (set l i a) k default)
  stored [] i a new old k = old k
  stored (x ∷ l) zero a new old zero = new
  stored (x ∷ l) zero a new old (suc k) = old (suc k)
  stored (x ∷ l) (suc i) a new old zero = old zero
  stored (x ∷ l) (suc i) a new old (suc k) = stored l i a new (λ j. old (suc j)) k

  all_alike : Good default → (n k : ℕ) → Good (get_or (replicate n default) k default)
  all_alike good zero k = good
  all_alike good (suc n) zero = good
  all_alike good (suc n) (suc k) = all_alike good n k

PairsSound : List Pair → Type 0
PairsSound pairs = (k : ℕ) → SoundPair (get_or pairs k fresh_pair)

forgotten_sound : (id : ℕ) (pairs : List Pair) (n : ℕ) → PairsSound pairs → PairsSound (forget_below id pairs n)
unfolding forget_below PairsSound
forgotten_sound id pairs zero sound = sound
forgotten_sound id pairs (suc n) sound =
    let earlier = forget_below id pairs n in
    stored SoundPair fresh_pair (set earlier (pair_place id n) fresh_pair) (pair_place n id) fresh_pair fresh_pair_sound
    (stored SoundPair fresh_pair earlier (pair_place id n) fresh_pair fresh_pair_sound
    (forgotten_sound id pairs n sound))

pairs_kept : (t : Bool) (pairs : List Pair) (a b : ℕ) (pair : Pair) → SoundPair pair → PairsSound pairs
    → PairsSound (pairs_after t pairs a b pair)
unfolding PairsSound
pairs_kept true pairs a b pair new sound = forgotten_sound a pairs 8 sound
pairs_kept false pairs a b pair new sound = stored SoundPair fresh_pair pairs (pair_place a b) pair new sound

pairs_length : (t : Bool) (pairs : List Pair) (a b : ℕ) (pair : Pair)
    → length (pairs_after t pairs a b pair) ≡ length pairs
pairs_length true pairs a b pair = length_forget a pairs 8
pairs_length false pairs a b pair = length-set pairs _ pair

body_kept : (w : World) (bytes : List ℕ) → Sound w → SoundBody (change_in w bytes).body
unfolding change_in
body_kept w bytes sound =
    let a = first_place bytes in
    let b = second_place bytes in
    change_kept (body_at w a) (body_at w b) (pair_at w a b) bytes (sound.each a)

pair_kept : (w : World) (bytes : List ℕ) → Sound w → SoundPair (change_in w bytes).pair
unfolding change_in
pair_kept w bytes sound =
    let a = first_place bytes in
    let b = second_place bytes in
    change_pair_kept (body_at w a) (body_at w b) (pair_at w a b) bytes (sound.each a)
    (sound.each_pair (pair_place a b))

pub frame_keeps_sound : (w : World) (bytes : List ℕ) → Sound w → Sound (after_frame w bytes)
unfolding after_frame changed PairsSound
frame_keeps_sound w bytes sound =
    let a = first_place bytes in
    let b = second_place bytes in
    let c = change_in w bytes in
    record {
      bodies_size = length-set w.bodies a c.body ∙ sound.bodies_size;
      pairs_size = pairs_length c.forget w.pairs a b c.pair ∙ sound.pairs_size;
      each = stored SoundBody blank_body w.bodies a c.body (body_kept w bytes sound) sound.each;
      each_pair = pairs_kept c.forget w.pairs a b c.pair (pair_kept w bytes sound) sound.each_pair;
    }

pub fresh_sound : Sound fresh_world
unfolding fresh_world
fresh_sound = record {
  bodies_size = refl;
  pairs_size = refl;
  each = all_alike SoundBody blank_body blank_sound 8;
  each_pair = all_alike SoundPair fresh_pair fresh_pair_sound 64;
}
