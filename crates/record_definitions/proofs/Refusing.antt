-- A change whose answer is a refusal is that refusal alone, whatever the frame: so it leaves the world as it was.
-- Assumes nothing.
use Prim.Native.Nat.{ℕ}
use mathlib.Core.Path.{◌≡◌, refl, ◌∙◌, ap}
use mathlib.Core.List.{List}
use native.Mathlib.Omega.{arith}
use lib.Dec.{eqb}
use lib.Seq.{set-get_or}
use Rattle.lines.specs.Fields.{byte_at, points_at}
use Rattle.shape_definitions.specs.Circle.{circle_in_range}
use Rattle.shape_definitions.specs.Polygon.{b2_polygon_shape_set}
use Rattle.shape_definitions.specs.Refusal.{accepted, shape_out_of_range}
use Rattle.contact_definitions.proofs.Counts.{either}
use Rattle.record_definitions.specs.declared.world.Body.{Body}
use Rattle.record_definitions.specs.declared.world.Pair.{Pair}
use Rattle.record_definitions.specs.declared.world.World.{World}
use Rattle.record_definitions.specs.declared.touch.Touch.{Touch}
use Rattle.record_definitions.specs.declared.frame.Answer.TheVariants.{Accepted, Refused, Tested}
use Rattle.record_definitions.specs.declared.frame.Change.{Change}
use Rattle.record_definitions.specs.World.{blank_outline, blank_body, fresh_pair, body_at, pair_at, pair_place}
use Rattle.record_definitions.specs.Touch.{piece_tested, first_refusal}
use Rattle.record_definitions.specs.Frame.{frame_refusal, refused, circle_at, circle_change, outline_change}
use Rattle.record_definitions.specs.Frame.{wall_at, wall_change, place_change, turn_change, chain_refusal}
use Rattle.record_definitions.specs.Frame.{chain_change, test_refusal, all_tests, test_change, change_of_kind}
use Rattle.record_definitions.specs.Frame.{change}
use Rattle.record_definitions.specs.OneFrame.{first_place, second_place, changed, change_in, after_frame}
use Rattle.record_definitions.specs.OneFrame.{said_of_frame}
use Rattle.record_definitions.proofs.Placements.{place_cases, turn_cases}

-- where the answer is a refusal, the change is that refusal alone
Keeps : Body → Pair → Change → Type 0
Keeps a pair c = (n : ℕ) → c.said.answer ≡ Refused n → c ≡ refused n a pair

module _ (a : Body) (pair : Pair) where
  refused_keeps : (m : ℕ) → Keeps a pair (refused m a pair)
  unfolding Keeps
  refused_keeps m n e =
      let same : m ≡ n = cc in
      ap (λ (k : ℕ). refused k a pair) same

  accepted_keeps : (c : Change) → c.said.answer ≡ Accepted → Keeps a pair c
  unfolding Keeps
  accepted_keeps c is n e =
      let never : ◌≡◌ {A = ℕ} 0 1 = cc in
      absurd (omega arith)

  tested_keeps : (c : Change) (t : Touch) → c.said.answer ≡ Tested t → Keeps a pair c
  unfolding Keeps
  tested_keeps c t is n e =
      let never : ◌≡◌ {A = ℕ} 0 1 = cc in
      absurd (omega arith)

  module _ (bytes : List ℕ) where
    circle_keeps : Keeps a pair (circle_change a pair bytes)
    unfolding circle_change
    circle_keeps =
        either (Keeps a pair) (circle_in_range (circle_at bytes)) _ _ (accepted_keeps _ refl)
        (refused_keeps shape_out_of_range)

    outline_keeps : Keeps a pair (outline_change a pair bytes)
    unfolding outline_change
    outline_keeps =
        let number = (b2_polygon_shape_set blank_outline (points_at bytes 3 (byte_at bytes 2))).refusal in
        either (Keeps a pair) (eqb number accepted) _ _ (accepted_keeps _ refl) (refused_keeps number)

    wall_keeps : Keeps a pair (wall_change a pair bytes)
    unfolding wall_change
    wall_keeps =
        either (Keeps a pair) (eqb (wall_at bytes).refusal accepted) _ _ (accepted_keeps _ refl)
        (refused_keeps (wall_at bytes).refusal)

    chain_keeps : Keeps a pair (chain_change a pair bytes)
    unfolding chain_change
    chain_keeps =
        either (Keeps a pair) (eqb (chain_refusal bytes) accepted) _ _ (accepted_keeps _ refl)
        (refused_keeps (chain_refusal bytes))

    place_keeps : Keeps a pair (place_change a pair bytes)
    place_keeps = place_cases a pair bytes (Keeps a pair) refused_keeps (λ xf inside. accepted_keeps _ refl)

    turn_keeps : Keeps a pair (turn_change a pair bytes)
    turn_keeps = turn_cases a pair bytes (Keeps a pair) refused_keeps (λ xf inside. accepted_keeps _ refl)

    test_keeps : (ida idb : ℕ) (b : Body) → Keeps a pair (test_change ida idb a b pair)
    unfolding test_change
    test_keeps ida idb b =
        let t = piece_tested ida idb a b pair 0 in
        let refusal = first_refusal (all_tests ida idb a b pair) in
        let number = test_refusal ida idb a.kind b.kind in
        either (Keeps a pair) (eqb number accepted) _ _
        (either (Keeps a pair) (eqb refusal accepted) _ _ (tested_keeps _ t.touch refl) (refused_keeps refusal))
        (refused_keeps number)

    kind_keeps : (kind : ℕ) (b : Body) → Keeps a pair (change_of_kind kind a b pair bytes)
    unfolding change_of_kind
    kind_keeps kind b =
        either (Keeps a pair) (eqb kind 1) _ _ circle_keeps
        (either (Keeps a pair) (eqb kind 2) _ _ outline_keeps
        (either (Keeps a pair) (eqb kind 3) _ _ wall_keeps
        (either (Keeps a pair) (eqb kind 4) _ _ place_keeps
        (either (Keeps a pair) (eqb kind 6) _ _ turn_keeps
        (either (Keeps a pair) (eqb kind 7) _ _ chain_keeps
        (test_keeps (byte_at bytes 1) (byte_at bytes 2) b))))))

    change_refused : (b : Body) (n : ℕ) → (change a b pair bytes).said.answer ≡ Refused n
        → change a b pair bytes ≡ refused n a pair
    unfolding change Keeps
    change_refused b =
        either (Keeps a pair) (eqb (frame_refusal bytes) accepted) _ _ (kind_keeps (byte_at bytes 0) b)
        (refused_keeps (frame_refusal bytes))

-- so a frame that is refused leaves the world as it was
pub after_refused : (w : World) (bytes : List ℕ) (n : ℕ) → (said_of_frame w bytes).answer ≡ Refused n
    → after_frame w bytes ≡ w
unfolding after_frame said_of_frame changed change_in
after_refused w bytes n is =
    let a = first_place bytes in
    let b = second_place bytes in
    ap (changed w a b) (change_refused (body_at w a) (pair_at w a b) bytes (body_at w b) n is)
    ∙ rw (set-get_or w.bodies a blank_body, set-get_or w.pairs (pair_place a b) fresh_pair) refl
