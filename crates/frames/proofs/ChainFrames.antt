-- Frame 07: its points read one after the other, the pieces tested one after the other, and what it makes of what was
-- read. Assumes nothing.
use Prim.Native.Nat.{ℕ, ◌+◌, ◌*◌, ◌-◌, ◌≤◌, ◌<◌}
use mathlib.Core.Path.{◌≡◌, sym, ◌∙◌, ap, ap₂}
use mathlib.Core.Bool.{Bool, true, false, not}
use mathlib.Core.List.{List, [], ◌∷◌, ◌++◌}
use native.Mathlib.Numerals.{add-one}
use native.Mathlib.Omega.{arith}
use lib.Dec.{ltb}
use lib.Ieee.{Float, binary32, mul, lt}
use lib.ListN.{length, get_or, take, set, replicate, length-set}
use lib.Seq.{take_at}
use borrow.Author.Tests.{eq-eqb, ne_eqb, lt-ltb, le-ltb}
use Rattle.algebra.specs.Buffer.{over}
use Rattle.algebra.proofs.Buffer.{over_store}
use Rattle.algebra.proofs.Lists.{getD_within}
use Rattle.floats.specs.declared.b2_math.B2vec2.{B2vec2}
use Rattle.floats.specs.B2Common.{b2_linear_slop}
use Rattle.floats.specs.B2Math.{b2_distance_vec2_squared}
use Rattle.floats.specs.Ranges.{point_in_range}
use Rattle.lines.specs.Fields.{byte_at, vector_at, points_at}
use Rattle.lines.proofs.Points.{length_points, points_next}
use Rattle.shape_definitions.specs.Outline.{origin, point_at}
use Rattle.shape_definitions.specs.Polygon.{all_points}
use Rattle.shape_definitions.specs.Refusal.{accepted, shape_out_of_range, chain_too_few, chain_too_near}
use Rattle.contact_definitions.specs.Searches.{some_below}
use Rattle.record_definitions.specs.declared.world.Body.{Body}
use Rattle.record_definitions.specs.declared.world.Chain.{Chain}
use Rattle.record_definitions.specs.declared.world.Pair.{Pair}
use Rattle.record_definitions.specs.World.{chain_body}
use Rattle.record_definitions.specs.Frame.{refused, defined, chain_points, chain_at, long_piece, chain_refusal}
use Rattle.record_definitions.specs.Frame.{chain_change}

-- ---- a piece, from what was read at its ends
pub length_is : (chain : Chain) (points : List B2vec2) (i : ℕ) (past : B2vec2) (squared : Float)
    → chain.points ≡ points → length points ≡ 10 → i < 7
    → squared ≡ b2_distance_vec2_squared (get_or points (i + 2) past) (get_or points (i + 1) past)
    → lt (mul binary32 b2_linear_slop b2_linear_slop) squared ≡ long_piece chain i
unfolding long_piece
length_is chain points i past squared points_are ten within squared_is =
    ap (lt (mul binary32 b2_linear_slop b2_linear_slop))
    (squared_is ∙ ap₂ b2_distance_vec2_squared (there (i + 2) (omega arith)) (there (i + 1) (omega arith)))
  where
    there : (j : ℕ) → j < 10 → get_or points j past ≡ point_at chain.points j
    there j inside =
        getD_within points j past origin (omega arith) ∙ ap (λ (ps : List B2vec2). point_at ps j) (sym points_are)

-- ---- the chain of a frame
module _ (chain : Chain) (bytes : List ℕ) (chain_is : chain ≡ chain_at bytes) where
  count_is : chain.count ≡ byte_at bytes 2
  unfolding chain_at
  count_is = ap (λ (c : Chain). c.count) chain_is

  pub few_points : byte_at bytes 2 ≤ 8 → chain.count ≤ 8
  few_points few = omega (arith, count_is)

  points_are : take (chain.count + 2) chain.points ≡ chain_points bytes
  unfolding chain_at
  points_are =
      ap (λ (c : Chain). take (c.count + 2) c.points) chain_is
      ∙ take_at (chain_points bytes) _ (byte_at bytes 2 + 2) (length_points bytes 3 (byte_at bytes 2 + 2))

  -- what it is refused for, in this order
  abbrev in_range : Bool
  in_range = all_points point_in_range (take (chain.count + 2) chain.points)

  abbrev some_short : Bool
  some_short = some_below (λ (i : ℕ). not (long_piece chain i)) (chain.count - 1)

  in_range_is : in_range ≡ all_points point_in_range (chain_points bytes)
  in_range_is = ap (all_points point_in_range) points_are

  some_short_is : some_short
      ≡ some_below (λ (i : ℕ). not (long_piece (chain_at bytes) i)) (byte_at bytes 2 - 1)
  some_short_is =
      ap₂ (λ (c : Chain) (n : ℕ). some_below (λ (i : ℕ). not (long_piece c i)) (n - 1)) chain_is count_is

  pub too_few : chain.count < 2 → chain_too_few ≡ chain_refusal bytes
  unfolding chain_refusal
  too_few few = simp (lt-ltb (byte_at bytes 2) 2 (omega (arith, count_is)))

  module _ (enough : 2 ≤ chain.count) where
    many : ltb (byte_at bytes 2) 2 ≡ false
    many = le-ltb (byte_at bytes 2) 2 (omega (arith, count_is))

    pub out_of_range : in_range ≡ false → shape_out_of_range ≡ chain_refusal bytes
    unfolding chain_refusal
    out_of_range out = simp (many, sym in_range_is ∙ out)

    module _ (inside : in_range ≡ true) where
      pub too_near : some_short ≡ true → chain_too_near ≡ chain_refusal bytes
      unfolding chain_refusal
      too_near short = simp (many, sym in_range_is ∙ inside, sym some_short_is ∙ short)

      pub none_refused : some_short ≡ false → accepted ≡ chain_refusal bytes
      unfolding chain_refusal
      none_refused long = simp (many, sym in_range_is ∙ inside, sym some_short_is ∙ long)

  -- what it makes
  module _ (body : Body) (pair : Pair) (number : ℕ) (number_is : number ≡ chain_refusal bytes) where
    pub chain_taken : number ≡ accepted → defined (chain_body chain) pair ≡ chain_change body pair bytes
    unfolding chain_change
    chain_taken none = rw (← number_is, ← chain_is) (simp (eq-eqb number accepted none))

    pub chain_refused : (number ≡ accepted → ⊥) → refused number body pair ≡ chain_change body pair bytes
    unfolding chain_change
    chain_refused some = rw (← number_is) (simp (ne_eqb number accepted some))
