-- Bodies as frames make them have shapes and placements of at most 2^20 m, and skins within the range. Assumes nothing.
use Prim.Native.Nat.{ℕ, zero, suc, ◌+◌}
use mathlib.Core.Path.{◌≡◌, subst}
use mathlib.Core.Bool.{true, not, ◌&&◌}
use mathlib.Core.List.{List}
use lib.Dec.{T, eqb}
use lib.Ieee.{Float, binary32}
use lib.Ieee.Bits.{is_true, of_bits-fits}
use native.Mathlib.Omega.{arith}
use Rattle.algebra.proofs.Booleans.{both}
use Rattle.floats.specs.declared.b2_math.B2Transform.{B2Transform}
use Rattle.floats.specs.declared.b2_math.B2vec2.{B2vec2}
use Rattle.floats.specs.Ranges.{point_in_range, radius_in_range, rotation_in_range, transform_in_range}
use Rattle.floats.specs.B2Common.{b2_polygon_radius}
use Rattle.headings.specs.Headings.{heading, Component}
use Rattle.headings.proofs.Theorem.{heading_is}
use Rattle.lines.specs.Fields.{byte_at, number_at, float_at, vector_at, points_at, rotation_at, placement_at}
use Rattle.shape_definitions.specs.Answers.{EdgeAnswer}
use Rattle.shape_definitions.specs.Circle.{circle_in_range}
use Rattle.shape_definitions.specs.Edge.{b2_set_one_sided, b2_set_two_sided}
use Rattle.shape_definitions.specs.Polygon.{all_points, b2_polygon_shape_set}
use Rattle.shape_definitions.specs.Refusal.{accepted}
use Rattle.contact_definitions.specs.CircleNormals.{Single, Singles}
use Rattle.contact_definitions.proofs.Counts.{either}
use Rattle.record_definitions.specs.declared.world.Body.{Body}
use Rattle.record_definitions.specs.declared.world.Chain.{Chain}
use Rattle.record_definitions.specs.World.{no_body, circle_kind, outline_kind, wall_kind}
use Rattle.record_definitions.specs.World.{at_origin, blank_outline, blank_wall, blank_body, circle_body, outline_body}
use Rattle.record_definitions.specs.World.{wall_body, placed, blank_chain, piece_wall}
use Rattle.record_definitions.specs.Touch.{skin}
use Rattle.record_definitions.specs.Frame.{circle_at, wall_at, turn_at}
use Rattle.record_definitions.specs.Frame.{turned_placement}
use Rattle.record_definitions.proofs.Changes.{by_choice}
use Rattle.record_ranges.proofs.Caps.{Cap}
use Rattle.record_ranges.proofs.Vectors.{Caps}
use Rattle.record_ranges.proofs.Shapes.{zero_cap, one_cap, origin_caps, CircleCaps, WallCaps, OutlineCaps}
use Rattle.record_ranges.proofs.Shapes.{AtPlace}
use Rattle.record_ranges.proofs.InRange.{point_caps, place_caps}
use Rattle.record_ranges.proofs.Outlines.{Each, each_at, origins, built_caps, blank_outline_caps}
use Rattle.record_ranges.proofs.Outlines.{skin_taken}
use Rattle.record_ranges.proofs.BuiltNormals.{Built, set_built}

pub record CappedBody (body : Body) : Type 0 where
  pub place : AtPlace body.xf
  pub circle : CircleCaps body.circle
  pub outline : OutlineCaps body.outline
  pub wall : WallCaps body.wall
  pub chain : (i : ℕ) → WallCaps (piece_wall body.chain i)
  pub skin_taken : radius_in_range (skin body) ≡ true
  pub built : body.kind ≡ outline_kind → Built body.outline

-- ---- numbers read from frames
read_single : (bytes : List ℕ) (at : ℕ) → Single (vector_at bytes at)
unfolding vector_at
read_single bytes at =
    (of_bits-fits binary32 (number_at bytes at), of_bits-fits binary32 (number_at bytes (at + 4)))

read_singles : (bytes : List ℕ) (at n : ℕ) → Singles (points_at bytes at n)
unfolding points_at
read_singles bytes at zero i in_List = absurd (omega arith)
read_singles bytes at (suc n) zero in_List = read_single bytes at
read_singles bytes at (suc n) (suc i) in_List = read_singles bytes (at + 8) n i (omega arith)

read_caps : (bytes : List ℕ) (at : ℕ) → point_in_range (vector_at bytes at) ≡ true → Caps (vector_at bytes at) 20
read_caps bytes at taken = point_caps (vector_at bytes at) (read_single bytes at) taken

pub points_caps : (bytes : List ℕ) (at n : ℕ) → all_points point_in_range (points_at bytes at n) ≡ true
    → Each (points_at bytes at n) 20
unfolding points_at Each
points_caps bytes at zero taken = tt
points_caps bytes at (suc n) taken =
    let later = all_points point_in_range (points_at bytes (at + 8) n) in
    let first = both (point_in_range (vector_at bytes at)) later taken in
    (read_caps bytes at first.0, points_caps bytes (at + 8) n first.1)

pub placement_caps : (bytes : List ℕ) → transform_in_range (placement_at bytes 2) ≡ true
    → AtPlace (placement_at bytes 2)
unfolding placement_at rotation_at
placement_caps bytes taken =
    place_caps (placement_at bytes 2)
    (read_single bytes 2, of_bits-fits binary32 (number_at bytes 10), of_bits-fits binary32 (number_at bytes 14)) taken

pub turned_caps : (bytes : List ℕ) → transform_in_range (turned_placement bytes) ≡ true
    → AtPlace (turned_placement bytes)
unfolding transform_in_range
turned_caps bytes taken =
    let number = turn_at bytes 10 in
    let each = both (point_in_range (vector_at bytes 2)) (rotation_in_range (heading number)) taken in
    record {
      turn = record {
        sine = component_cap (heading_is number).sine;
        cosine = component_cap (heading_is number).cosine;
      };
      position = read_caps bytes 2 each.0;
    }
  where
    component_cap : {x : Float} → Component x → Cap x 0
    component_cap part = record { own = part.own; size = omega (arith, part.small) }

-- ---- bodies that frames make
pub at_origin_caps : AtPlace at_origin
at_origin_caps =
    record { turn = record { sine = zero_cap 0; cosine = one_cap }; position = origin_caps 20 }

pub blank_wall_caps : WallCaps blank_wall
blank_wall_caps = record { from = origin_caps 20; to = origin_caps 20 }

pub skin_is_taken : radius_in_range b2_polygon_radius ≡ true
skin_is_taken = is_true (radius_in_range b2_polygon_radius) skin_taken

-- a chain whose points are of at most 2^20 m
pub walls_capped : (chain : Chain) → Each chain.points 20 → (i : ℕ) → WallCaps (piece_wall chain i)
unfolding piece_wall
walls_capped chain points i =
    record { from = each_at chain.points 20 points (i + 1); to = each_at chain.points 20 points (i + 2) }

pub blank_chain_caps : (i : ℕ) → WallCaps (piece_wall blank_chain i)
blank_chain_caps = walls_capped blank_chain (origins 10 20)

-- a body of another kind is no outline
pub other_kind : {P : Type 0} (kind : ℕ) → T (not (eqb kind outline_kind)) → kind ≡ outline_kind → P
other_kind kind other is = absurd (subst (λ (k : ℕ). T (not (eqb k outline_kind))) is other)

pub blank_capped : CappedBody blank_body
unfolding blank_body skin
blank_capped = record {
  place = at_origin_caps;
  circle = record { centre = origin_caps 20 };
  outline = blank_outline_caps;
  wall = blank_wall_caps;
  chain = blank_chain_caps;
  skin_taken = skin_is_taken;
  built = other_kind no_body tt;
}

pub circle_capped : (bytes : List ℕ) → circle_in_range (circle_at bytes) ≡ true
    → CappedBody (circle_body (circle_at bytes))
unfolding circle_body circle_in_range skin
circle_capped bytes taken =
    let each = both (radius_in_range (float_at bytes 10)) (point_in_range (vector_at bytes 2)) taken in
    record {
      place = at_origin_caps;
      circle = record { centre = read_caps bytes 2 each.1 };
      outline = blank_outline_caps;
      wall = blank_wall_caps;
      chain = blank_chain_caps;
      skin_taken = each.0;
      built = other_kind circle_kind tt;
    }

pub outline_capped : (bytes : List ℕ) (n : ℕ)
    → (b2_polygon_shape_set blank_outline (points_at bytes 3 n)).refusal ≡ accepted
    → (b2_polygon_shape_set blank_outline (points_at bytes 3 n)).shape.m_radius ≡ b2_polygon_radius
    → CappedBody (outline_body (b2_polygon_shape_set blank_outline (points_at bytes 3 n)).shape)
unfolding outline_body skin
outline_capped bytes n taken radius_is = record {
  place = at_origin_caps;
  circle = record { centre = origin_caps 20 };
  outline = built_caps (points_at bytes 3 n) (points_caps bytes 3 n) taken;
  wall = blank_wall_caps;
  chain = blank_chain_caps;
  skin_taken = rw radius_is skin_is_taken;
  built = λ is. set_built blank_outline (points_at bytes 3 n) (read_singles bytes 3 n) taken;
}

-- the walls of a frame
WallIf : EdgeAnswer → Type 0
WallIf answer =
    answer.refusal ≡ accepted → WallCaps answer.shape × (radius_in_range answer.shape.m_radius ≡ true)

two_sided_caps : (v1 v2 : B2vec2) → (point_in_range v1 ≡ true → Caps v1 20) → (point_in_range v2 ≡ true → Caps v2 20)
    → WallIf (b2_set_two_sided blank_wall v1 v2)
unfolding b2_set_two_sided WallIf
two_sided_caps v1 v2 h g =
    by_choice WallIf (point_in_range v1 && point_in_range v2) _ _
    (λ inside taken. let each = both (point_in_range v1) (point_in_range v2) inside in
    (record { from = h each.0; to = g each.1 }, skin_is_taken))
    (λ out taken. let never : ◌≡◌ {A = ℕ} 2 0 = taken in absurd (omega arith))

one_sided_caps : (v0 v1 v2 v3 : B2vec2) → (point_in_range v1 ≡ true → Caps v1 20)
    → (point_in_range v2 ≡ true → Caps v2 20) → WallIf (b2_set_one_sided blank_wall v0 v1 v2 v3)
unfolding b2_set_one_sided WallIf
one_sided_caps v0 v1 v2 v3 h g =
    by_choice WallIf (point_in_range v0 && point_in_range v1 && point_in_range v2 && point_in_range v3) _ _
    (λ inside taken.
    let last = both (point_in_range v0 && point_in_range v1 && point_in_range v2) (point_in_range v3) inside in
    let third = both (point_in_range v0 && point_in_range v1) (point_in_range v2) last.0 in
    let first = both (point_in_range v0) (point_in_range v1) third.0 in
    (record { from = h first.1; to = g third.1 }, skin_is_taken))
    (λ out taken. let never : ◌≡◌ {A = ℕ} 2 0 = taken in absurd (omega arith))

wall_at_caps : (bytes : List ℕ) → WallIf (wall_at bytes)
unfolding wall_at
wall_at_caps bytes =
    either WallIf (eqb (byte_at bytes 2) 0) _ _
    (two_sided_caps (vector_at bytes 3) (vector_at bytes 11) (read_caps bytes 3) (read_caps bytes 11))
    (one_sided_caps (vector_at bytes 3) (vector_at bytes 11) (vector_at bytes 19) (vector_at bytes 27)
    (read_caps bytes 11) (read_caps bytes 19))

pub wall_capped : (bytes : List ℕ) → (wall_at bytes).refusal ≡ accepted → CappedBody (wall_body (wall_at bytes).shape)
unfolding wall_body skin WallIf
wall_capped bytes taken =
    let caps = wall_at_caps bytes taken in
    record {
      place = at_origin_caps;
      circle = record { centre = origin_caps 20 };
      outline = blank_outline_caps;
      wall = caps.0;
      chain = blank_chain_caps;
      skin_taken = caps.1;
      built = other_kind wall_kind tt;
    }

pub placed_capped : (body : Body) (xf : B2Transform) → CappedBody body → AtPlace xf → CappedBody (placed body xf)
unfolding placed skin
placed_capped body xf h place = record {
  place = place;
  circle = h.circle;
  outline = h.outline;
  wall = h.wall;
  chain = h.chain;
  skin_taken = h.skin_taken;
  built = h.built;
}
