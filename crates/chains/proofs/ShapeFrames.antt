-- A frame that defines or places a chain in the one world and its piece i, a wall, in the other, and one that is
-- refused: the same new shape of both, or the chain and its piece as they were, placed anew (`Outcome`).
-- Assumes nothing.
use Prim.Native.Nat.{ℕ, ◌≤◌, ◌<◌}
use mathlib.Core.Path.{◌≡◌, refl, sym, ap, subst}
use mathlib.Core.Bool.{Bool, true, false, not, cond, ◌&&◌}
use mathlib.Core.List.{List}
use mathlib.Core.Logic.{inl, inr}
use lib.Dec.{eqb, ltb}
use Rattle.floats.specs.Ranges.{transform_in_range}
use Rattle.lines.specs.Fields.{byte_at, placement_at}
use Rattle.shape_definitions.specs.Refusal.{accepted, placement_out_of_range, no_shape}
use Rattle.shape_definitions.specs.Refusal.{unknown_turn}
use Rattle.floats.specs.declared.b2_math.B2Transform.{B2Transform}
use Rattle.record_definitions.specs.declared.world.Body.{Body}
use Rattle.record_definitions.specs.declared.world.Pair.{Pair}
use Rattle.record_definitions.specs.declared.frame.Change.{Change}
use Rattle.record_definitions.specs.declared.frame.Said.{Said}
use Rattle.record_definitions.specs.World.{no_body, chain_kind, wall_body, placed, piece_wall}
use Rattle.record_definitions.specs.World.{pieces_of, piece_of}
use Rattle.record_definitions.specs.Frame.{largest_id, refused, defined, moved}
use Rattle.record_definitions.specs.Frame.{placed_at, place_change, largest_turn, turn_at}
use Rattle.record_definitions.specs.Frame.{turned_placement, turn_change}
use Rattle.record_definitions.specs.Heat.{defines_shape}
use Rattle.chains.specs.ChainAsWalls.{piece_alone}
use Rattle.chains.proofs.Outcomes.{piece_pair, Outcome, both_ways}

-- ---- the first body: a chain, and its piece
module _ (a : Body) (chain : a.kind ≡ chain_kind) (i : ℕ) (within : i < pieces_of a) (pair : Pair) where
  abbrev piece : Body
  piece = placed (wall_body (piece_wall a.chain i)) a.xf

  pub piece_is : piece_of a i ≡ piece
  unfolding piece_of
  piece_is = rw chain refl

  module _ (bytes : List ℕ) (test : Bool) where
    no_shape_made : (t : Bool) (n : ℕ) → eqb n accepted ≡ false → t && eqb n accepted ≡ false
    no_shape_made true n some = some
    no_shape_made false n some = refl

    -- said as it is
    as_said : (t : Bool) (said : Said) → piece_alone i said ≡ said → said ≡ cond t (piece_alone i said) said
    as_said true said same = sym same
    as_said false said same = refl

    pub refused_seen : (n : ℕ) → eqb n accepted ≡ false
        → Outcome bytes i test (refused n a pair) (refused n piece (piece_pair i pair))
    unfolding piece_alone
    refused_seen n some = inr (record {
      not_new = no_shape_made (defines_shape bytes) n some;
      said = as_said test (refused n a pair).said refl;
      body = sym piece_is;
      chain = chain;
      piece = within;
      pair = refl;
      keeps = refl;
      keeps' = refl;
    })

    -- a shape: the same for both, or refused
    pub shape_seen : (ok : Bool) (new : Body) (n : ℕ) → byte_at bytes 1 ≤ largest_id → defines_shape bytes ≡ true
        → (ok ≡ false → eqb n accepted ≡ false)
        → Outcome bytes i test (cond ok (defined new pair) (refused n a pair))
        (cond ok (defined new (piece_pair i pair)) (refused n piece (piece_pair i pair)))
    shape_seen true new n named shape some = inl (record {
      named = named;
      new = rw shape refl;
      said = refl;
      body = refl;
      forgets = refl;
      forgets' = refl;
    })
    shape_seen false new n named shape some = refused_seen n (some refl)

    -- a placement: there is a shape
    there : (c : Change) → cond (eqb a.kind no_body) (refused no_shape a pair) c ≡ c
    there c = ap (λ (kind : ℕ). cond (eqb kind no_body) (refused no_shape a pair) c) chain

    placed_piece : (xf : B2Transform) → placed piece xf ≡ piece_of (placed a xf) i
    unfolding placed wall_body piece_of
    placed_piece xf =
        sym (ap (λ (kind : ℕ). cond (eqb kind chain_kind) (placed (wall_body (piece_wall a.chain i)) xf)
        (placed a xf)) chain)

    moved_seen : defines_shape bytes ≡ false → (xf : B2Transform)
        → Outcome bytes i test (moved (placed a xf) pair) (moved (placed piece xf) (piece_pair i pair))
    unfolding placed piece_alone
    moved_seen no_new xf = inr (record {
      not_new = rw no_new refl;
      said = as_said test (moved (placed a xf) pair).said refl;
      body = placed_piece xf;
      chain = chain;
      piece = within;
      pair = refl;
      keeps = refl;
      keeps' = refl;
    })

    placed_seen : defines_shape bytes ≡ false → (xf : B2Transform)
        → Outcome bytes i test (placed_at a pair xf) (placed_at piece (piece_pair i pair) xf)
    placed_seen no_new xf =
        both_ways bytes i test (not (transform_in_range xf)) _ _ _ _
        (λ out. refused_seen placement_out_of_range refl) (λ inside. moved_seen no_new xf)

    pub place_seen : defines_shape bytes ≡ false
        → Outcome bytes i test (place_change a pair bytes) (place_change piece (piece_pair i pair) bytes)
    unfolding place_change placed wall_body
    place_seen no_new =
        subst (λ (c : Change). Outcome bytes i test c (place_change piece (piece_pair i pair) bytes)) (sym (there _))
        (placed_seen no_new (placement_at bytes 2))

    pub turn_seen : defines_shape bytes ≡ false
        → Outcome bytes i test (turn_change a pair bytes) (turn_change piece (piece_pair i pair) bytes)
    unfolding turn_change placed wall_body
    turn_seen no_new =
        subst (λ (c : Change). Outcome bytes i test c (turn_change piece (piece_pair i pair) bytes)) (sym (there _))
        (both_ways bytes i test (ltb largest_turn (turn_at bytes 10)) _ _ _ _ (λ above. refused_seen unknown_turn refl)
        (λ known. placed_seen no_new (turned_placement bytes)))
