-- A frame that is no test looks at and changes one body alone: not at the other body, and the pair stays as it was
-- (`change_alone`). Assumes nothing.
use Prim.Native.Nat.{ℕ}
use mathlib.Core.Path.{◌≡◌, refl}
use mathlib.Core.Bool.{Bool, true, false, not, cond}
use mathlib.Core.List.{List}
use lib.Dec.{eqb, ltb}
use borrow.Author.Tests.{eqb-true}
use Rattle.algebra.proofs.Booleans.{by_test}
use Rattle.floats.specs.declared.b2_math.B2Transform.{B2Transform}
use Rattle.floats.specs.Ranges.{transform_in_range}
use Rattle.lines.specs.Fields.{byte_at, points_at, placement_at}
use Rattle.shape_definitions.specs.Circle.{circle_in_range}
use Rattle.shape_definitions.specs.Polygon.{b2_polygon_shape_set}
use Rattle.shape_definitions.specs.Refusal.{accepted, shape_out_of_range, placement_out_of_range}
use Rattle.record_definitions.specs.declared.world.Body.{Body}
use Rattle.record_definitions.specs.declared.world.Pair.{Pair}
use Rattle.record_definitions.specs.declared.frame.Change.{Change}
use Rattle.record_definitions.specs.World.{no_body, blank_outline, circle_body, outline_body, wall_body}
use Rattle.record_definitions.specs.World.{chain_body, placed}
use Rattle.record_definitions.specs.Frame.{frame_length, frame_refusal, refused, defined, moved, circle_at}
use Rattle.record_definitions.specs.Frame.{circle_change, outline_change, wall_at, wall_change, placed_at}
use Rattle.record_definitions.specs.Frame.{place_change, largest_turn, turn_at, turned_placement, turn_change}
use Rattle.record_definitions.specs.Frame.{chain_at, chain_refusal, chain_change, change_of_kind, change}
use Rattle.record_definitions.proofs.FrameRefusals.{last_kind, known_kind}

-- ---- one body alone
abbrev pub with_pair : Pair → Change → Change
with_pair pair c = record { said = c.said; body = c.body; pair = pair; forget = c.forget }

module _ (pair : Pair) where
  either_way : (t : Bool) (x y x' y' : Change) → x ≡ with_pair pair x' → y ≡ with_pair pair y'
      → cond t x y ≡ with_pair pair (cond t x' y')
  either_way true x y x' y' first second = first
  either_way false x y x' y' first second = second

  by_kind : (t : Bool) (x y x' y' : Change) → (t ≡ true → x ≡ with_pair pair x') → (t ≡ false → y ≡ with_pair pair y')
      → cond t x y ≡ with_pair pair (cond t x' y')
  by_kind true x y x' y' first second = first refl
  by_kind false x y x' y' first second = second refl

  module _ (a b b' : Body) (pair' : Pair) (bytes : List ℕ) where
    circle_alone : circle_change a pair bytes ≡ with_pair pair (circle_change a pair' bytes)
    unfolding circle_change
    circle_alone =
        let made = circle_body (circle_at bytes) in
        either_way (circle_in_range (circle_at bytes)) (defined made pair) (refused shape_out_of_range a pair)
        (defined made pair') (refused shape_out_of_range a pair') refl refl

    built_alone : (number : ℕ) (made : Body)
        → cond (eqb number accepted) (defined made pair) (refused number a pair)
        ≡ with_pair pair (cond (eqb number accepted) (defined made pair') (refused number a pair'))
    built_alone number made =
        either_way (eqb number accepted) (defined made pair) (refused number a pair) (defined made pair')
        (refused number a pair') refl refl

    placed_alone : (xf : B2Transform) → placed_at a pair xf ≡ with_pair pair (placed_at a pair' xf)
    placed_alone xf =
        either_way (not (transform_in_range xf)) (refused placement_out_of_range a pair) (moved (placed a xf) pair)
        (refused placement_out_of_range a pair') (moved (placed a xf) pair') refl refl

    place_alone : place_change a pair bytes ≡ with_pair pair (place_change a pair' bytes)
    unfolding place_change
    place_alone =
        by_test (eqb a.kind no_body) (λ none. rw none refl) (λ some. rw some (placed_alone (placement_at bytes 2)))

    turn_alone : turn_change a pair bytes ≡ with_pair pair (turn_change a pair' bytes)
    unfolding turn_change
    turn_alone =
        by_test (eqb a.kind no_body) (λ none. rw none refl)
        (λ some. by_test (ltb largest_turn (turn_at bytes 10)) (λ above. rw (some, above) refl)
        (λ known. rw (some, known) (placed_alone (turned_placement bytes))))

    outline_alone : outline_change a pair bytes ≡ with_pair pair (outline_change a pair' bytes)
    unfolding outline_change
    outline_alone =
        let built = b2_polygon_shape_set blank_outline (points_at bytes 3 (byte_at bytes 2)) in
        built_alone built.refusal (outline_body built.shape)

    wall_alone : wall_change a pair bytes ≡ with_pair pair (wall_change a pair' bytes)
    unfolding wall_change
    wall_alone = built_alone (wall_at bytes).refusal (wall_body (wall_at bytes).shape)

    chain_alone : chain_change a pair bytes ≡ with_pair pair (chain_change a pair' bytes)
    unfolding chain_change
    chain_alone = built_alone (chain_refusal bytes) (chain_body (chain_at bytes))

    kind_alone : (kind third : ℕ) → (frame_length kind third ≡ 0 → ⊥) → (kind ≡ 5 → ⊥)
        → change_of_kind kind a b pair bytes ≡ with_pair pair (change_of_kind kind a b' pair' bytes)
    unfolding change_of_kind
    kind_alone kind third known no_test =
        by_kind (eqb kind 1) _ _ _ _ (λ one. circle_alone)
        (λ no_1. by_kind (eqb kind 2) _ _ _ _ (λ two. outline_alone)
        (λ no_2. by_kind (eqb kind 3) _ _ _ _ (λ three. wall_alone)
        (λ no_3. by_kind (eqb kind 4) _ _ _ _ (λ four. place_alone)
        (λ no_4. by_kind (eqb kind 6) _ _ _ _ (λ six. turn_alone)
        (λ no_6. by_kind (eqb kind 7) _ _ _ _ (λ seven. chain_alone)
        (λ no_7. absurd (no_test (last_kind kind third known no_1 no_2 no_3 no_4 no_6 no_7))))))))

    pub change_alone : (byte_at bytes 0 ≡ 5 → ⊥) → change a b pair bytes ≡ with_pair pair (change a b' pair' bytes)
    unfolding change
    change_alone no_test =
        let number = frame_refusal bytes in
        by_kind (eqb number accepted) _ (refused number a pair) _ (refused number a pair')
        (λ taken. kind_alone (byte_at bytes 0) (byte_at bytes 2)
        (known_kind bytes (eqb-true number accepted taken)) no_test)
        (λ not_taken. refl)
