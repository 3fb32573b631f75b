-- What one frame can make of a chain and of its piece, a wall: the same new shape (`Renewed`), or the chain and the
-- piece that they were, placed anew or tested (`StillSeen`). And a chain is listed as a wall is. Assumes nothing.
use Prim.Native.Nat.{ℕ, ◌≤◌, ◌<◌}
use mathlib.Core.Path.{◌≡◌, refl, ap}
use mathlib.Core.Bool.{Bool, true, false, not, cond, ◌&&◌, ◌||◌}
use mathlib.Core.List.{List, ◌∷◌}
use mathlib.Core.Logic.{◌⊎◌}
use lib.Dec.{eqb}
use lib.ListN.{replicate}
use Rattle.lines.specs.Fields.{byte_at}
use Rattle.shape_definitions.specs.Refusal.{accepted, no_shape, pair_not_listed}
use Rattle.floats.specs.declared.b2_math.B2Transform.{B2Transform}
use Rattle.record_definitions.specs.declared.world.Chain.{Chain}
use Rattle.record_definitions.specs.declared.world.Pair.{Pair}
use Rattle.record_definitions.specs.declared.frame.Change.{Change}
use Rattle.record_definitions.specs.World.{no_body, circle_kind, outline_kind, wall_kind, chain_kind, wall_body, placed}
use Rattle.record_definitions.specs.World.{piece_wall, pieces_of, piece_of, fresh_kept, kept_of}
use Rattle.record_definitions.specs.Frame.{largest_id, listed, test_refusal}
use Rattle.record_definitions.specs.Export.{refusal_in}
use Rattle.record_definitions.specs.Heat.{defines_shape}
use Rattle.chains.specs.ChainAsWalls.{piece_alone}

-- what the pair of the wall keeps where that of the chain keeps this
abbrev pub piece_pair : ℕ → Pair → Pair
piece_pair i pair = record { pieces = kept_of pair i ∷ replicate 6 fresh_kept }

-- ---- the two changes
module _ (bytes : List ℕ) (i : ℕ) (test : Bool) where
  -- a shape is made
  abbrev pub makes : Change → Bool
  makes c = defines_shape bytes && eqb (refusal_in c.said) accepted

  pub record Renewed (c c' : Change) : Type 0 where
    pub named : byte_at bytes 1 ≤ largest_id
    pub new : makes c ≡ true
    pub said : c'.said ≡ c.said
    pub body : c'.body ≡ c.body
    pub forgets : c.forget ≡ true
    pub forgets' : c'.forget ≡ true

  pub record StillSeen (c c' : Change) : Type 0 where
    pub not_new : makes c ≡ false
    pub said : c'.said ≡ cond test (piece_alone i c.said) c.said
    pub body : c'.body ≡ piece_of c.body i
    pub chain : c.body.kind ≡ chain_kind
    pub piece : i < pieces_of c.body
    pub pair : c'.pair ≡ piece_pair i c.pair
    pub keeps : c.forget ≡ false
    pub keeps' : c'.forget ≡ false

  abbrev pub Outcome : Change → Change → Type 0
  Outcome c c' = Renewed c c' ⊎ StillSeen c c'

  pub both_ways : (t : Bool) (x y x' y' : Change) → (t ≡ true → Outcome x x') → (t ≡ false → Outcome y y')
      → Outcome (cond t x y) (cond t x' y')
  both_ways true x y x' y' first second = first refl
  both_ways false x y x' y' first second = second refl

-- ---- a chain is listed as a wall is, and neither with a wall nor with a chain
as_wall_listed : (kind : ℕ) → listed chain_kind kind ≡ listed wall_kind kind
unfolding listed
as_wall_listed kind = by_tests (eqb kind circle_kind) (eqb kind outline_kind)
  where
    by_tests : (circle outline : Bool)
        → (false && circle) || (false && circle) || (false && outline) || (false && circle)
        || (false && outline) || (true && circle) || (true && outline)
        ≡ (false && circle) || (false && circle) || (false && outline) || (true && circle)
        || (true && outline) || (false && circle) || (false && outline)
    by_tests true true = refl
    by_tests true false = refl
    by_tests false true = refl
    by_tests false false = refl

pub refused_as_wall : (ida idb kind : ℕ) → test_refusal ida idb chain_kind kind ≡ test_refusal ida idb wall_kind kind
unfolding test_refusal
refused_as_wall ida idb kind =
    ap (λ (t : Bool). cond (eqb kind no_body) no_shape (cond (eqb ida idb || not t) pair_not_listed accepted))
    (as_wall_listed kind)

pub refused_as_own : (ida idb : ℕ)
    → test_refusal ida idb chain_kind chain_kind ≡ test_refusal ida idb wall_kind wall_kind
unfolding test_refusal listed
refused_as_own ida idb = refl

-- a wall is its own only piece
pub piece_of_piece : (chain : Chain) (i : ℕ) (xf : B2Transform)
    → piece_of (placed (wall_body (piece_wall chain i)) xf) 0 ≡ placed (wall_body (piece_wall chain i)) xf
unfolding piece_of placed wall_body
piece_of_piece chain i xf = refl
