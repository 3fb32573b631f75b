-- Document 01, "The touch record", with document 02's requests 02, 03 and 06: a test of two bodies, a chain piece by
-- piece. The contact call from a default manifold, the world points, the point states and the ages against the last
-- contact that was kept, and the touches: one more where there was no point and now is one. Definitions only.
use Rattle.std.specs.Prelude.{ℕ, zero, suc, Bool, cond, ◌&&◌, List, [], ◌∷◌, eqb, ltb, get_or, Float}
use Rattle.rounding.specs.Literals.{zero32}
use Rattle.shape_definitions.specs.Refusal.{accepted}
use Rattle.shape_definitions.specs.Outline.{point_at}
use Rattle.contact_definitions.specs.declared.b2_collision.B2manifold.{B2manifold}
use Rattle.contact_definitions.specs.declared.b2_collision.B2worldManifold.{B2worldManifold}
use Rattle.contact_definitions.specs.Answers.{ManifoldAnswer}
use Rattle.contact_definitions.specs.declared.b2_collision.PointStates.{PointStates}
use Rattle.contact_definitions.specs.Answers.{WorldAnswer}
use Rattle.contact_definitions.specs.Manifold.{as_byte, default_manifold, kind_number, manifold_point}
use Rattle.contact_definitions.specs.B2CollideCircle.{b2_collide_circles, b2_collide_polygon_and_circle}
use Rattle.contact_definitions.specs.B2CollidePolygon.{b2_collide_polygons}
use Rattle.contact_definitions.specs.B2CollideEdge.{b2_collide_edge_and_circle, b2_collide_edge_and_polygon}
use Rattle.contact_definitions.specs.PointStates.{ids_in, ids_of, states_of_ids}
use Rattle.contact_definitions.specs.WorldManifold.{default_world_manifold, b2_world_manifold_initialize}
use Rattle.record_definitions.specs.declared.world.Body.{Body}
use Rattle.record_definitions.specs.declared.world.Kept.{Kept}
use Rattle.record_definitions.specs.declared.world.Pair.{Pair}
use Rattle.record_definitions.specs.declared.touch.TestAnswer.{TestAnswer}
use Rattle.record_definitions.specs.declared.touch.Touch.{Touch}
use Rattle.record_definitions.specs.declared.touch.TouchPoint.{TouchPoint}
use Rattle.record_definitions.specs.World.{circle_kind, outline_kind, piece_of, one_more, kept_of}
use Rattle.record_definitions.specs.Ages.{ages_of, with_ages}

-- ---- the contact of a listed pair, from a default manifold
unfoldable pub meet_circle : Body → Body → ManifoldAnswer
meet_circle a b =
    cond (eqb a.kind circle_kind) (b2_collide_circles default_manifold a.circle a.xf b.circle b.xf)
    (cond (eqb a.kind outline_kind)
    (b2_collide_polygon_and_circle default_manifold a.outline a.xf b.circle b.xf)
    (b2_collide_edge_and_circle default_manifold a.wall a.xf b.circle b.xf))

unfoldable pub meet_outline : Body → Body → ManifoldAnswer
meet_outline a b =
    cond (eqb a.kind outline_kind)
    (b2_collide_polygons default_manifold a.outline a.xf b.outline b.xf)
    (b2_collide_edge_and_polygon default_manifold a.wall a.xf b.outline b.xf)

unfoldable pub meet : Body → Body → ManifoldAnswer
meet a b = cond (eqb b.kind circle_kind) (meet_circle a b) (meet_outline a b)

-- ---- its world points, with the radius of each body's shape
unfoldable pub skin : Body → Float
skin body =
    cond (eqb body.kind circle_kind) body.circle.m_radius
    (cond (eqb body.kind outline_kind) body.outline.m_radius body.wall.m_radius)

unfoldable pub world_points : Body → Body → B2manifold → WorldAnswer
world_points a b m = b2_world_manifold_initialize default_world_manifold m a.xf (skin a) b.xf (skin b)

-- a test is refused by the contact, then by the world points
abbrev pub refusal_of : ManifoldAnswer → WorldAnswer → ℕ
refusal_of met world = cond (eqb met.refusal accepted) world.refusal met.refusal

-- ---- the states against the last contact that was kept
unfoldable pub states_of : Kept → B2manifold → PointStates
states_of kept m = states_of_ids (ids_in kept.ids) (ids_in (ids_of m))

-- ---- touches: one begins at a test that finds points where the last test found none, or where there was no last test.
-- That needs no flag: what is kept without one is fresh, a contact without points
abbrev pub touch_begins : ℕ → ℕ → Bool
touch_begins before now = eqb before 0 && ltb 0 now

unfoldable pub touches_after : ℕ → ℕ → ℕ → ℕ
touches_after touches before now = cond (touch_begins before now) (one_more touches) touches

-- ---- the result as printed: the kind is 0 where there is no point
abbrev pub shown_kind : B2manifold → ℕ
shown_kind m = cond (eqb m.point_count 0) 0 (kind_number m.manifold_type)

abbrev pub point_of : B2manifold → B2worldManifold → ℕ → TouchPoint
point_of m w i = record {
  p = point_at w.points i;
  separation = get_or w.separations i zero32;
  age = (manifold_point m i).age;
}

unfoldable pub touch_of : ℕ → ℕ → B2manifold → PointStates → ℕ → B2worldManifold → Touch
touch_of ida idb m states touches w = record {
  a = ida;
  b = idb;
  count = as_byte m.point_count;
  kind = shown_kind m;
  states = states;
  touches = touches;
  normal = w.normal;
  first = point_of m w 0;
  second = point_of m w 1;
}

-- ---- the test of a listed pair
unfoldable pub tested_as : ℕ → ℕ → Kept → ManifoldAnswer → WorldAnswer → TestAnswer
tested_as ida idb kept met world =
    let m = met.manifold in
    let states = states_of kept m in
    let ages = ages_of kept (ids_of m) in
    let touches = touches_after kept.touches kept.ids.count m.point_count in
    record {
      refusal = refusal_of met world;
      touch = touch_of ida idb (with_ages m ages) states touches world.world;
      kept = record { ids = ids_of m; ages = ages; touches = touches };
    }

unfoldable pub tested : ℕ → ℕ → Body → Body → Kept → TestAnswer
tested ida idb a b kept = tested_as ida idb kept (meet a b) (world_points a b (meet a b).manifold)

-- ---- the test of a pair: its first body piece by piece, each with what the pair keeps of it
unfoldable pub piece_tested : ℕ → ℕ → Body → Body → Pair → ℕ → TestAnswer
piece_tested ida idb a b pair i = tested ida idb (piece_of a i) b (kept_of pair i)

-- n pieces, from piece i on
unfoldable pub pieces_tested : ℕ → ℕ → Body → Body → Pair → ℕ → ℕ → List TestAnswer
pieces_tested ida idb a b pair i zero = []
pieces_tested ida idb a b pair i (suc n) =
    piece_tested ida idb a b pair i ∷ pieces_tested ida idb a b pair (suc i) n

-- the first refusal among some tests, 0 for none
unfoldable pub first_refusal : List TestAnswer → ℕ
first_refusal [] = accepted
first_refusal (t ∷ tests) = cond (eqb t.refusal accepted) (first_refusal tests) t.refusal
