-- Frames 04 and 06 are refused or place the body within the range: what holds of every refusal and of every such
-- placement holds of what they make (`place_cases`, `turn_cases`). Assumes nothing.
use Prim.Native.Nat.{ℕ}
use mathlib.Core.Path.{◌≡◌}
use mathlib.Core.Bool.{true}
use mathlib.Core.List.{List}
use lib.Dec.{eqb, ltb}
use Rattle.algebra.proofs.Booleans.{by_test}
use Rattle.floats.specs.declared.b2_math.B2Transform.{B2Transform}
use Rattle.floats.specs.Ranges.{transform_in_range}
use Rattle.lines.specs.Fields.{placement_at}
use Rattle.shape_definitions.specs.Refusal.{placement_out_of_range, no_shape, unknown_turn}
use Rattle.record_definitions.specs.declared.world.Body.{Body}
use Rattle.record_definitions.specs.declared.world.Pair.{Pair}
use Rattle.record_definitions.specs.declared.frame.Change.{Change}
use Rattle.record_definitions.specs.World.{no_body, placed}
use Rattle.record_definitions.specs.Frame.{refused, moved, placed_at, place_change, largest_turn, turn_at}
use Rattle.record_definitions.specs.Frame.{turned_placement, turn_change}

module _ (a : Body) (pair : Pair) (bytes : List ℕ) (P : Change → Type 0) (down : (n : ℕ) → P (refused n a pair))
    (taken : (xf : B2Transform) → transform_in_range xf ≡ true → P (moved (placed a xf) pair)) where
  placed_cases : (xf : B2Transform) → P (placed_at a pair xf)
  placed_cases xf =
      by_test (transform_in_range xf) (λ inside. rw inside (taken xf inside))
      (λ out. rw out (down placement_out_of_range))

  pub place_cases : P (place_change a pair bytes)
  unfolding place_change
  place_cases =
      by_test (eqb a.kind no_body) (λ none. rw none (down no_shape))
      (λ some. rw some (placed_cases (placement_at bytes 2)))

  pub turn_cases : P (turn_change a pair bytes)
  unfolding turn_change
  turn_cases =
      by_test (eqb a.kind no_body) (λ none. rw none (down no_shape))
      (λ some. by_test (ltb largest_turn (turn_at bytes 10)) (λ above. rw (some, above) (down unknown_turn))
      (λ known. rw (some, known) (placed_cases (turned_placement bytes))))
