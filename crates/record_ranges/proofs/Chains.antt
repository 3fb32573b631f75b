-- Chains that frames make are within the caps of bodies, and so are the pieces of a body. Assumes nothing.
use Prim.Native.Nat.{ℕ, ◌+◌}
use mathlib.Core.Path.{◌≡◌}
use mathlib.Core.Bool.{true}
use mathlib.Core.List.{List}
use lib.Dec.{eqb}
use Rattle.floats.specs.Ranges.{radius_in_range}
use Rattle.lines.specs.Fields.{byte_at}
use Rattle.shape_definitions.specs.Refusal.{accepted}
use Rattle.record_definitions.specs.declared.world.Body.{Body}
use lib.ListN.{replicate}
use Rattle.shape_definitions.specs.Outline.{origin}
use Rattle.record_definitions.specs.declared.world.Chain.{Chain}
use Rattle.record_definitions.specs.World.{wall_body, placed, wall_kind, chain_kind, chain_body, piece_wall, piece_of}
use Rattle.record_definitions.specs.Touch.{skin}
use Rattle.record_definitions.specs.Frame.{chain_points, chain_at, chain_refusal}
use Rattle.record_definitions.proofs.Changes.{by_choice}
use Rattle.record_definitions.proofs.SoundChains.{chain_taken}
use Rattle.record_ranges.proofs.Shapes.{origin_caps}
use Rattle.record_ranges.proofs.Outlines.{each_over, origins, blank_outline_caps}
use Rattle.record_ranges.proofs.Bodies.{CappedBody, points_caps, at_origin_caps, blank_wall_caps, skin_is_taken}
use Rattle.record_ranges.proofs.Bodies.{walls_capped, blank_chain_caps, other_kind}

pub chain_capped : (bytes : List ℕ) → chain_refusal bytes ≡ accepted → CappedBody (chain_body (chain_at bytes))
unfolding chain_body chain_at skin
chain_capped bytes accepts =
    let taken = chain_taken bytes accepts in
    let points = points_caps bytes 3 (byte_at bytes 2 + 2) taken.in_range in
    record {
      place = at_origin_caps;
      circle = record { centre = origin_caps 20 };
      outline = blank_outline_caps;
      wall = blank_wall_caps;
      chain = walls_capped (chain_at bytes)
          (each_over (chain_points bytes) (replicate 10 origin) 20 points (origins 10 20));
      skin_taken = skin_is_taken;
      built = other_kind chain_kind tt;
    }

pub piece_capped : (body : Body) (i : ℕ) → CappedBody body → CappedBody (piece_of body i)
unfolding piece_of piece_wall placed wall_body skin
piece_capped body i h =
    by_choice CappedBody (eqb body.kind chain_kind) _ _
    (λ is. record {
      place = h.place;
      circle = record { centre = origin_caps 20 };
      outline = blank_outline_caps;
      wall = h.chain i;
      chain = blank_chain_caps;
      skin_taken = piece_skin body.chain i;
      built = other_kind wall_kind tt;
    })
    (λ other. h)
  where
    piece_skin : (chain : Chain) (j : ℕ) → radius_in_range (piece_wall chain j).m_radius ≡ true
    piece_skin chain j = skin_is_taken
