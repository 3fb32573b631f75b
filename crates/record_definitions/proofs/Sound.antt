-- Worlds as lines make them (`Sound`): eight bodies, each without a shape or with one that its frame's call accepted,
-- placed within the range; 64 pairs, each with the ids of a contact for each of seven pieces. The bodies that frames
-- make are such, and so are the pieces of a chain.
-- Assumes nothing.
use Prim.Native.Nat.{ℕ, suc, ◌-◌, ◌≤◌, ◌<◌, min}
use mathlib.Core.Path.{◌≡◌, refl, sym, subst}
use mathlib.Core.Bool.{Bool, true, false, ◌&&◌}
use mathlib.Core.List.{List}
use native.Mathlib.Omega.{arith}
use lib.Dec.{eqb}
use lib.Ieee.{le, neg, of_bits}
use lib.ListN.{length, get_or}
use borrow.Author.Tests.{eqb-true}
use Rattle.algebra.proofs.Booleans.{both}
use Rattle.floats.specs.declared.b2_math.B2Transform.{B2Transform}
use Rattle.floats.specs.declared.b2_math.B2vec2.{B2vec2}
use Rattle.floats.specs.Ranges.{point_in_range, radius_in_range, rotation_in_range, transform_in_range}
use Rattle.lines.specs.Fields.{byte_at, vector_at}
use Rattle.shape_definitions.specs.declared.b2_edge_shape.B2edgeShape.{B2edgeShape}
use Rattle.shape_definitions.specs.Answers.{EdgeAnswer}
use Rattle.shape_definitions.specs.declared.b2_polygon_shape.B2polygonShape.{B2polygonShape}
use Rattle.shape_definitions.specs.Circle.{circle_in_range}
use Rattle.shape_definitions.specs.Edge.{b2_set_one_sided, b2_set_two_sided, edge_in_range}
use Rattle.shape_definitions.specs.Polygon.{b2_polygon_shape_set}
use Rattle.shape_definitions.specs.Refusal.{accepted}
use Rattle.contact_definitions.specs.declared.b2_collision.B2manifold.{B2manifold}
use Rattle.contact_definitions.specs.Manifold.{default_manifold}
use Rattle.contact_definitions.specs.PointStates.{ids_of}
use Rattle.contact_definitions.proofs.Counts.{either}
use Rattle.record_definitions.specs.declared.world.Body.{Body}
use Rattle.record_definitions.specs.declared.world.Chain.{Chain}
use Rattle.record_definitions.specs.declared.world.Kept.{Kept}
use Rattle.record_definitions.specs.declared.world.Pair.{Pair}
use Rattle.record_definitions.specs.declared.world.World.{World}
use Rattle.record_definitions.specs.World.{fresh_kept, fresh_pair, kept_of, chain_kind, chain_body, pieces_of}
use Rattle.record_definitions.specs.World.{piece_wall, piece_of, circle_kind, outline_kind, wall_kind, at_origin}
use Rattle.record_definitions.specs.World.{blank_outline, blank_wall, blank_body, circle_body, outline_body}
use Rattle.record_definitions.specs.World.{wall_body, placed, body_at}
use Rattle.record_definitions.specs.Frame.{circle_at, wall_at, long_piece}
use Rattle.contact_definitions.specs.declared.b2_collision.B2manifold.{B2manifold}
use Rattle.contact_definitions.specs.Manifold.{default_manifold}
use Rattle.contact_definitions.specs.PointStates.{ids_of}
use Rattle.record_definitions.specs.World.{largest_count}
use Rattle.record_definitions.proofs.Changes.{by_choice}
use Rattle.record_definitions.proofs.FreshPairs.{get_same}

-- ---- an outline that the builder made of some points
pub record Built (outline : B2polygonShape) : Type 0 where
  pub points : List B2vec2
  pub taken : (b2_polygon_shape_set blank_outline points).refusal ≡ accepted
  pub is : outline ≡ (b2_polygon_shape_set blank_outline points).shape

-- a chain of two to eight points, each piece a wall in range and longer than 0.005
pub record SoundChain (chain : Chain) : Type 0 where
  pub enough : 2 ≤ chain.count
  pub few : chain.count ≤ 8
  pub places : length chain.points ≡ 10
  pub in_range : (i : ℕ) → i < chain.count - 1 → edge_in_range (piece_wall chain i) ≡ true
  pub long : (i : ℕ) → i < chain.count - 1 → long_piece chain i ≡ true

pub record SoundBody (body : Body) : Type 0 where
  pub placement : transform_in_range body.xf ≡ true
  pub circle : body.kind ≡ circle_kind → circle_in_range body.circle ≡ true
  pub outline : body.kind ≡ outline_kind → Built body.outline
  pub wall : body.kind ≡ wall_kind → edge_in_range body.wall ≡ true
  pub chain : body.kind ≡ chain_kind → SoundChain body.chain

-- what is kept is of a contact with two places for points, and its count is below 2^32
pub record SoundKept (kept : Kept) : Type 0 where
  pub last : B2manifold
  pub two_places : length last.points ≡ 2
  pub few : last.point_count ≤ 2
  pub ids_are : kept.ids ≡ ids_of last
  pub held : kept.touches ≤ largest_count

pub record SoundPair (pair : Pair) : Type 0 where
  pub seven : length pair.pieces ≡ 7
  pub piece : (i : ℕ) → SoundKept (kept_of pair i)

pub record Sound (w : World) : Type 0 where
  pub bodies_size : length w.bodies ≡ 8
  pub pairs_size : length w.pairs ≡ 64
  pub each : (id : ℕ) → SoundBody (body_at w id)
  pub each_pair : (place : ℕ) → SoundPair (get_or w.pairs place fresh_pair)

-- ---- a pair before any test: the contact is a default manifold
fresh_kept_sound : SoundKept fresh_kept
unfolding ids_of
fresh_kept_sound =
    record { last = default_manifold; two_places = refl; few = omega arith; ids_are = refl; held = omega arith }

pub kept_of_fresh : (i : ℕ) → kept_of fresh_pair i ≡ fresh_kept
unfolding fresh_pair
kept_of_fresh i = get_same fresh_kept 7 i

pub fresh_pair_sound : SoundPair fresh_pair
unfolding fresh_pair
fresh_pair_sound = record { seven = refl; piece = λ i. subst SoundKept (sym (kept_of_fresh i)) fresh_kept_sound }

-- ---- bodies that frames make
at_origin_in_range : transform_in_range at_origin ≡ true
unfolding transform_in_range point_in_range rotation_in_range of_bits neg le
at_origin_in_range = refl

pub skin_in_range : radius_in_range blank_wall.m_radius ≡ true
unfolding radius_in_range of_bits le
skin_in_range = refl

pub blank_sound : SoundBody blank_body
unfolding blank_body
blank_sound = record {
  placement = at_origin_in_range;
  circle = λ never. absurd (omega arith);
  outline = λ never. absurd (omega arith);
  wall = λ never. absurd (omega arith);
  chain = λ never. absurd (omega arith);
}

pub circle_sound : (bytes : List ℕ) → circle_in_range (circle_at bytes) ≡ true
    → SoundBody (circle_body (circle_at bytes))
unfolding circle_body
circle_sound bytes taken = record {
  placement = at_origin_in_range;
  circle = λ is. taken;
  outline = λ never. absurd (omega arith);
  wall = λ never. absurd (omega arith);
  chain = λ never. absurd (omega arith);
}

pub outline_sound : (outline : B2polygonShape) → Built outline → SoundBody (outline_body outline)
unfolding outline_body
outline_sound outline built = record {
  placement = at_origin_in_range;
  circle = λ never. absurd (omega arith);
  outline = λ is. built;
  wall = λ never. absurd (omega arith);
  chain = λ never. absurd (omega arith);
}

pub wall_sound : (wall : B2edgeShape) → edge_in_range wall ≡ true → SoundBody (wall_body wall)
unfolding wall_body
wall_sound wall taken = record {
  placement = at_origin_in_range;
  circle = λ never. absurd (omega arith);
  outline = λ never. absurd (omega arith);
  wall = λ is. taken;
  chain = λ never. absurd (omega arith);
}

pub placed_sound : (body : Body) (xf : B2Transform) → SoundBody body → transform_in_range xf ≡ true
    → SoundBody (placed body xf)
unfolding placed
placed_sound body xf sound taken = record {
  placement = taken;
  circle = sound.circle;
  outline = sound.outline;
  wall = sound.wall;
  chain = sound.chain;
}

pub chain_body_sound : (chain : Chain) → SoundChain chain → SoundBody (chain_body chain)
unfolding chain_body
chain_body_sound chain sound = record {
  placement = at_origin_in_range;
  circle = λ never. absurd (omega arith);
  outline = λ never. absurd (omega arith);
  wall = λ never. absurd (omega arith);
  chain = λ is. sound;
}

-- ---- pieces of bodies
pub some_piece : (body : Body) → SoundBody body → (0 < pieces_of body) × (pieces_of body ≤ 7)
some_piece body sound =
    by_choice (λ (n : ℕ). (0 < n) × (n ≤ 7)) (eqb body.kind chain_kind) _ _
    (λ is. let chain = sound.chain (eqb-true body.kind chain_kind is) in
    (omega (arith, chain.enough), omega (arith, chain.few)))
    (λ other. (omega arith, omega arith))

pub piece_sound : (body : Body) (i : ℕ) → SoundBody body → i < pieces_of body → SoundBody (piece_of body i)
unfolding piece_of placed wall_body
piece_sound body i sound within =
    by_choice SoundBody (eqb body.kind chain_kind) _ _
    (λ is. let chain = sound.chain (eqb-true body.kind chain_kind is) in
    record {
      placement = sound.placement;
      circle = λ never. absurd (omega arith);
      outline = λ never. absurd (omega arith);
      wall = λ wall. chain.in_range i (let below : suc i ≤ min (body.chain.count - 1) 7 = simp is at within in
          omega (arith, below));
      chain = λ never. absurd (omega arith);
    })
    (λ other. sound)

-- ---- walls that are accepted are in range
two_sided_in_range : (v1 v2 : B2vec2) (t : Bool) → point_in_range v1 && point_in_range v2 ≡ t
    → (b2_set_two_sided blank_wall v1 v2).refusal ≡ accepted
    → edge_in_range (b2_set_two_sided blank_wall v1 v2).shape ≡ true
unfolding b2_set_two_sided edge_in_range
two_sided_in_range v1 v2 false out taken =
    let never : ◌≡◌ {A = ℕ} 2 0 = simp out at taken in
    absurd (omega arith)
two_sided_in_range v1 v2 true inside taken =
    let each = both (point_in_range v1) (point_in_range v2) inside in
    simp (skin_in_range, each.0, each.1)

one_sided_in_range : (v0 v1 v2 v3 : B2vec2) (t : Bool)
    → point_in_range v0 && point_in_range v1 && point_in_range v2 && point_in_range v3 ≡ t
    → (b2_set_one_sided blank_wall v0 v1 v2 v3).refusal ≡ accepted
    → edge_in_range (b2_set_one_sided blank_wall v0 v1 v2 v3).shape ≡ true
unfolding b2_set_one_sided edge_in_range
one_sided_in_range v0 v1 v2 v3 false out taken =
    let never : ◌≡◌ {A = ℕ} 2 0 = simp out at taken in
    absurd (omega arith)
one_sided_in_range v0 v1 v2 v3 true inside taken =
    let last = both (point_in_range v0 && point_in_range v1 && point_in_range v2) (point_in_range v3) inside in
    let third = both (point_in_range v0 && point_in_range v1) (point_in_range v2) last.0 in
    let first = both (point_in_range v0) (point_in_range v1) third.0 in
    simp (skin_in_range, first.0, first.1, third.1, last.1)

pub wall_at_in_range : (bytes : List ℕ) → (wall_at bytes).refusal ≡ accepted
    → edge_in_range (wall_at bytes).shape ≡ true
unfolding wall_at
wall_at_in_range bytes =
    either (λ (answer : EdgeAnswer). answer.refusal ≡ accepted → edge_in_range answer.shape ≡ true)
    (eqb (byte_at bytes 2) 0) _ _
    (two_sided_in_range (vector_at bytes 3) (vector_at bytes 11) _ refl)
    (one_sided_in_range (vector_at bytes 3) (vector_at bytes 11) (vector_at bytes 19) (vector_at bytes 27) _ refl)
