-- In every world that frames reach each body has numbers of at most 2^20 m. Assumes nothing.
use Prim.Native.Nat.{ℕ, zero, suc}
use mathlib.Core.Path.{◌≡◌}
use mathlib.Core.Bool.{true, not}
use mathlib.Core.List.{List, [], ◌∷◌}
use lib.Dec.{eqb, ltb}
use lib.ListN.{get_or, set, replicate}
use borrow.Author.Tests.{eqb-true, not-false}
use Rattle.floats.specs.declared.b2_math.B2Transform.{B2Transform}
use Rattle.floats.specs.Ranges.{transform_in_range}
use Rattle.lines.specs.Fields.{byte_at, points_at, placement_at}
use Rattle.shape_definitions.specs.Circle.{circle_in_range}
use Rattle.shape_definitions.specs.Polygon.{b2_polygon_shape_set}
use Rattle.shape_definitions.specs.Refusal.{accepted}
use Rattle.contact_definitions.proofs.Counts.{either}
use Rattle.record_definitions.specs.declared.world.Body.{Body}
use Rattle.record_definitions.specs.declared.world.Pair.{Pair}
use Rattle.record_definitions.specs.declared.world.World.{World}
use Rattle.record_definitions.specs.declared.frame.Change.{Change}
use Rattle.record_definitions.specs.World.{no_body, blank_outline, blank_body, fresh_world, body_at, pair_at}
use Rattle.record_definitions.specs.Touch.{first_refusal}
use Rattle.record_definitions.specs.Frame.{frame_refusal, circle_at, circle_change, outline_change, wall_at}
use Rattle.record_definitions.specs.Frame.{wall_change, placed_at, place_change, largest_turn, turn_at}
use Rattle.record_definitions.specs.Frame.{turned_placement, turn_change, chain_refusal, chain_change, test_refusal}
use Rattle.record_definitions.specs.Frame.{all_tests, test_change, change_of_kind, change}
use Rattle.record_definitions.specs.OneFrame.{first_place, second_place, changed, change_in, after_frame}
use Rattle.record_definitions.proofs.Changes.{by_choice}
use Rattle.record_ranges.proofs.Outlines.{built_radius}
use Rattle.record_ranges.proofs.Bodies.{CappedBody, blank_capped, circle_capped, outline_capped, wall_capped}
use Rattle.record_ranges.proofs.Bodies.{placement_caps, turned_caps, placed_capped}
use Rattle.record_ranges.proofs.Chains.{chain_capped}
use Rattle.record_ranges.proofs.Shapes.{AtPlace}

pub record CappedWorld (w : World) : Type 0 where
  pub each : (id : ℕ) → CappedBody (body_at w id)

module _ (a b : Body) (pair : Pair) (bytes : List ℕ) (capped : CappedBody a) where
  abbrev Kept : Change → Type 0
  Kept c = CappedBody c.body

  outline_kept : Kept (outline_change a pair bytes)
  unfolding outline_change
  outline_kept =
      let points = points_at bytes 3 (byte_at bytes 2) in
      let built = b2_polygon_shape_set blank_outline points in
      by_choice Kept (eqb built.refusal accepted) _ _
      (λ taken. outline_capped bytes (byte_at bytes 2) (eqb-true built.refusal accepted taken) (built_radius points))
      (λ not_taken. capped)

  placed_kept : (xf : B2Transform) → (transform_in_range xf ≡ true → AtPlace xf) → Kept (placed_at a pair xf)
  placed_kept xf place =
      by_choice Kept (not (transform_in_range xf)) _ _ (λ out. capped)
      (λ inside. placed_capped a xf capped (place (not-false (transform_in_range xf) inside)))

  place_kept : Kept (place_change a pair bytes)
  unfolding place_change
  place_kept =
      either Kept (eqb a.kind no_body) _ _ capped (placed_kept (placement_at bytes 2) (placement_caps bytes))

  turn_kept : Kept (turn_change a pair bytes)
  unfolding turn_change
  turn_kept =
      either Kept (eqb a.kind no_body) _ _ capped
      (either Kept (ltb largest_turn (turn_at bytes 10)) _ _ capped
      (placed_kept (turned_placement bytes) (turned_caps bytes)))

  test_kept : (ida idb : ℕ) → Kept (test_change ida idb a b pair)
  unfolding test_change
  test_kept ida idb =
      either Kept (eqb (test_refusal ida idb a.kind b.kind) accepted) _ _
      (either Kept (eqb (first_refusal (all_tests ida idb a b pair)) accepted) _ _ capped capped) capped

  kind_kept : (kind : ℕ) → Kept (change_of_kind kind a b pair bytes)
  unfolding change_of_kind circle_change wall_change chain_change
  kind_kept kind =
      either Kept (eqb kind 1) _ _
      (by_choice Kept (circle_in_range (circle_at bytes)) _ _ (circle_capped bytes) (λ out. capped))
      (either Kept (eqb kind 2) _ _ outline_kept
      (either Kept (eqb kind 3) _ _
      (by_choice Kept (eqb (wall_at bytes).refusal accepted) _ _
      (λ taken. wall_capped bytes (eqb-true (wall_at bytes).refusal accepted taken)) (λ not_taken. capped))
      (either Kept (eqb kind 4) _ _ place_kept
      (either Kept (eqb kind 6) _ _ turn_kept
      (either Kept (eqb kind 7) _ _
      (by_choice Kept (eqb (chain_refusal bytes) accepted) _ _
      (λ taken. chain_capped bytes (eqb-true (chain_refusal bytes) accepted taken)) (λ not_taken. capped))
      (test_kept (byte_at bytes 1) (byte_at bytes 2)))))))

  change_kept : Kept (change a b pair bytes)
  unfolding change
  change_kept =
      either Kept (eqb (frame_refusal bytes) accepted) _ _ (kind_kept (byte_at bytes 0)) capped

stored : (l : List Body) (i : ℕ) (body : Body) → CappedBody body → ((k : ℕ) → CappedBody (get_or l k blank_body))
    → (k : ℕ) → CappedBody (get_or (set l i body) k blank_body)
stored [] i body new old k = old k
stored (x ∷ l) zero body new old zero = new
stored (x ∷ l) zero body new old (suc k) = old (suc k)
stored (x ∷ l) (suc i) body new old zero = old zero
stored (x ∷ l) (suc i) body new old (suc k) = stored l i body new (λ j. old (suc j)) k

pub frame_keeps_capped : (w : World) (bytes : List ℕ) → CappedWorld w → CappedWorld (after_frame w bytes)
unfolding after_frame changed change_in
frame_keeps_capped w bytes capped =
    let a = first_place bytes in
    let b = second_place bytes in
    record {
      each = stored w.bodies a (change_in w bytes).body
          (change_kept (body_at w a) (body_at w b) (pair_at w a b) bytes (capped.each a)) capped.each;
    }

pub fresh_capped : CappedWorld fresh_world
unfolding fresh_world
fresh_capped = record { each = alike 8 }
  where
    alike : (n k : ℕ) → CappedBody (get_or (replicate n blank_body) k blank_body)
    alike zero k = blank_capped
    alike (suc n) zero = blank_capped
    alike (suc n) (suc k) = alike n k
