-- Demand 3, second sentence, in document 01's words, of the definitions of the outline-outline call and of the world
-- points: nothing is refused; no point is reported where some face keeps the other outline more than 0.02 + 1/4096 m
-- off; and what holds where points are reported. proofs/Theorem shows it of all outlines built from grid lists with
-- the default skin, placed on the grid. Definitions only.
use Rattle.std.specs.Prelude.{◌≡◌, List, ◌⊎◌, ℕ, ◌≤◌, ◌<◌, length, get_or, Float}
use Rattle.algebra.specs.Integer.{Z}
use Rattle.algebra.specs.Plane.{Point}
use Rattle.rounding.specs.Value.{F32, val}
use Rattle.rounding.specs.Literals.{zero32}
use Rattle.floats.specs.declared.b2_math.B2vec2.{B2vec2}
use Rattle.floats.specs.declared.b2_math.B2Transform.{B2Transform}
use Rattle.shape_definitions.specs.declared.b2_polygon_shape.B2polygonShape.{B2polygonShape}
use Rattle.shape_definitions.specs.Refusal.{accepted}
use Rattle.contact_definitions.specs.declared.b2_collision.B2manifold.{B2manifold}
use Rattle.contact_definitions.specs.declared.b2_collision.B2manifoldType.TheVariants.{EFaceA, EFaceB}
use Rattle.contact_definitions.specs.declared.b2_collision.B2worldManifold.{B2worldManifold}
use Rattle.contact_definitions.specs.Answers.{ManifoldAnswer}
use Rattle.contact_definitions.specs.Answers.{WorldAnswer}
use Rattle.contact_definitions.specs.Manifold.{manifold_point}
use Rattle.contact_definitions.specs.B2CollidePolygon.{b2_collide_polygons}
use Rattle.contact_definitions.specs.WorldManifold.{b2_world_manifold_initialize}
use Rattle.grid.specs.Grid.{value_point}
use Rattle.grid_contacts.specs.Placement.{GridPlacement, carried, placed_corners}
use Rattle.grid_contacts.specs.Lengths.{Length, exactly, ◌plus◌, ◌less◌, both_skins, point_tolerance}
use Rattle.grid_contacts.specs.Lengths.{choice_tolerance}
use Rattle.grid_contacts.specs.Faces.{Face, face_at, EveryFace, SomeFace, DistanceAtMost, DistanceAtLeast}
use Rattle.grid_contacts.specs.Faces.{SeparationAtMost, SeparationAtLeast, SeparationAbove, NearBoundary}

-- ---- some face of the first outline keeps the second more than 0.02 + 1/4096 m off
abbrev pub reach : Length
reach = both_skins plus point_tolerance

abbrev pub KeepsOff : List Point → List Point → Type 0
KeepsOff corners other = SomeFace corners (λ f. SeparationAbove f other reach)

-- ---- the separation of a face f of the reference outline is within 1/1024 m of the largest over all faces of both:
-- it reaches some level, and none is above that level and 1/1024 m
pub record NearLargest (reference other : List Point) (f : Face) : Type 0 where
  pub level : Z
  pub reached : SeparationAtLeast f other (exactly level)
  pub by_reference : EveryFace reference (λ g. SeparationAtMost g other (exactly level plus choice_tolerance))
  pub by_other : EveryFace other (λ g. SeparationAtMost g reference (exactly level plus choice_tolerance))

-- ---- w is within 1/4096 m of the signed distance of c from f's line, less 0.02 m
abbrev pub distance_most : Z → Length
distance_most w = exactly w plus both_skins plus point_tolerance

abbrev pub distance_least : Z → Length
distance_least w = exactly w plus both_skins less point_tolerance

pub record NearDistance (f : Face) (c : Point) (w : Z) : Type 0 where
  pub at_most : DistanceAtMost f c (distance_most w)
  pub at_least : DistanceAtLeast f c (distance_least w)

-- ---- a manifold point: its local point, carried by the placement of the other outline; and its world separation
abbrev pub local_at : B2manifold → ℕ → B2vec2
local_at m k = (manifold_point m k).local_point

abbrev pub contact_point : {t : B2Transform} → GridPlacement t → B2manifold → ℕ → Point
contact_point placed m k = carried placed (value_point (local_at m k))

abbrev pub separation_at : B2worldManifold → ℕ → Float
separation_at world k = get_or world.separations k zero32

-- ---- what holds of the points of m and of their world points. Each number is finite: a NaN would have the value 0
pub record Touching (reference other : List Point) {t : B2Transform} (placed : GridPlacement t) (m : B2manifold)
    (world : B2worldManifold) : Type 0 where
  -- "one face of the reference outline has an exact separation within 1/1024 m of the largest over all faces of both,
  pub place : ℕ
  pub inside : place < length reference
  pub near_largest : NearLargest reference other (face_at reference place)
  -- every manifold point lies within 1/4096 m of the other outline's boundary,
  pub point_finite : (k : ℕ) → k < m.point_count → F32 (local_at m k).x × F32 (local_at m k).y
  pub on_boundary : (k : ℕ) → k < m.point_count → NearBoundary point_tolerance other (contact_point placed m k)
  -- and its world separation is within 1/4096 m of that point's exact signed distance from that same face's line, less
  -- 0.02 m"
  pub separation_finite : (k : ℕ) → k < m.point_count → F32 (separation_at world k)
  pub near_distance : (k : ℕ) → k < m.point_count
      → NearDistance (face_at reference place) (contact_point placed m k) (val (separation_at world k))

-- the kind names the reference outline; its points are carried by the placement of the other
pub data Reported (a b : List Point) {ta tb : B2Transform} (placedA : GridPlacement ta) (placedB : GridPlacement tb)
    (m : B2manifold) (world : B2worldManifold) : Type 0 where
  by_face_a : m.manifold_type ≡ EFaceA → Touching a b placedB m world → Reported a b placedA placedB m world
  by_face_b : m.manifold_type ≡ EFaceB → Touching b a placedA m world → Reported a b placedA placedB m world

-- ---- the sentence, a part for each clause, of what the two calls answer: neither refuses; "no point is reported where
-- some face keeps the other outline more than 0.02 + 1/4096 m off; where points are reported, .."
pub record SecondSentence (a b : List Point) {ta tb : B2Transform} (placedA : GridPlacement ta)
    (placedB : GridPlacement tb) (contact : ManifoldAnswer) (world : WorldAnswer) : Type 0 where
  pub contact_accepted : contact.refusal ≡ accepted
  pub world_accepted : world.refusal ≡ accepted
  pub at_most_two : contact.manifold.point_count ≤ 2
  pub none_where_kept_off : KeepsOff a b ⊎ KeepsOff b a → contact.manifold.point_count ≡ 0
  pub where_reported : 0 < contact.manifold.point_count
      → Reported a b placedA placedB contact.manifold world.world

-- for outlines A and B, placed by xfA and xfB, whatever the manifold and the world record held before
abbrev pub SecondSentenceOf : (A B : B2polygonShape) {xfA xfB : B2Transform} → GridPlacement xfA → GridPlacement xfB
    → B2manifold → B2worldManifold → Type 0
SecondSentenceOf A B {xfA} {xfB} placedA placedB old old_world =
    let contact = b2_collide_polygons old A xfA B xfB in
    let world = b2_world_manifold_initialize old_world contact.manifold xfA A.m_radius xfB B.m_radius in
    SecondSentence (placed_corners placedA A) (placed_corners placedB B) placedA placedB contact world
