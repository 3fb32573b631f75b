-- Document 02, request 01, beside demand 3: the headings of 0, 1,024, 2,048 and 3,072 are the quarter turns, so the
-- second sentence holds of bodies placed by them (`quarter_turn_numbers`). Assumes nothing.
use mathlib.Core.Path.{refl}
use native.Mathlib.Omega.{arith}
use Rattle.rounding.proofs.Value.{neg_f32, val_neg}
use Rattle.rounding.proofs.Literals.{zero_f32, zero_val, one_f32, one_val}
use Rattle.floats.specs.declared.b2_math.B2vec2.{B2vec2}
use Rattle.headings.specs.Headings.{heading}
use Rattle.headings.proofs.Theorem.{quarter_turns}
use Rattle.grid.specs.Grid.{GridPoint}
use Rattle.grid_contacts.specs.Placement.{QuarterTurn, unturned, to_left, about, to_right, Turning, GridPlacement}
use Rattle.grid_contacts.specs.TurnNumbers.{turn_number, by_turn_number, QuarterTurnNumbers}
use Rattle.grid_contacts.proofs.Theorem.{second_sentence}

turning : (turn : QuarterTurn) → Turning (heading (turn_number turn)) turn
turning unturned = rw quarter_turns.unturned (record {
  s_own = zero_f32;
  c_own = one_f32;
  s_is = rw zero_val (omega arith);
  c_is = rw one_val (omega arith);
})
turning to_left = rw quarter_turns.to_left (record {
  s_own = one_f32;
  c_own = zero_f32;
  s_is = rw one_val (omega arith);
  c_is = rw zero_val (omega arith);
})
turning about = rw quarter_turns.about (record {
  s_own = zero_f32;
  c_own = neg_f32 one_f32;
  s_is = rw zero_val (omega arith);
  c_is = rw (val_neg, one_val) (omega arith);
})
turning to_right = rw quarter_turns.to_right (record {
  s_own = neg_f32 one_f32;
  c_own = zero_f32;
  s_is = rw (val_neg, one_val) (omega arith);
  c_is = rw zero_val (omega arith);
})

abbrev placement : (turn : QuarterTurn) {position : B2vec2} → GridPoint position
    → GridPlacement (by_turn_number position turn)
placement turn on_grid = record { position = on_grid; turn = turn; turning = turning turn }

pub quarter_turn_numbers : QuarterTurnNumbers
quarter_turn_numbers = record {
  placement = placement;
  its_turn = λ turn on_grid. refl;
  sentence = λ oldA oldB skinA skinB la lb gridA gridB takenA takenB turnA turnB on_gridA on_gridB.
      second_sentence oldA oldB skinA skinB la lb gridA gridB takenA takenB (placement turnA on_gridA)
      (placement turnB on_gridB);
}
