-- Demand 3, second sentence, of the definitions of the outline builder, the outline-outline call and the world points,
-- for every two grid lists that the builder accepts. Bodies only cite.
--
-- | the client's words | parts of specs/SecondSentence |
-- |---|---|
-- | two outlines built from such lists, default skin | the hypotheses; built-skin |
-- | placed on that grid within 4 m by quarter turns | GridPlacement |
-- | whatever the manifold and the world record held before | old, old-world |
-- | (both calls answer, with two points at most) | contact-accepted, world-accepted, at-most-two |
-- | no point where some face keeps the other outline more than 0.02 + 1/4096 m off | none-where-kept-off |
-- | one face of the reference outline is within 1/1024 m of the largest over all faces of both | near-largest |
-- | every manifold point lies within 1/4096 m of the other outline's boundary | on-boundary |
-- | its world separation: within 1/4096 m of its distance from that same line, less 0.02 m | near-distance |
-- | (each of these numbers is finite) | point-finite, separation-finite |
--
-- Assumes nothing.
use mathlib.Core.Path.{◌≡◌, ◌∙◌}
use mathlib.Core.List.{List}
use Prim.Native.Nat.{◌<◌}
use Rattle.algebra.specs.Plane.{Point}
use Rattle.floats.specs.declared.b2_math.B2vec2.{B2vec2}
use Rattle.floats.specs.declared.b2_math.B2Transform.{B2Transform}
use Rattle.floats.specs.B2Common.{b2_polygon_radius}
use Rattle.shape_definitions.specs.declared.b2_polygon_shape.B2polygonShape.{B2polygonShape}
use Rattle.shape_definitions.specs.Refusal.{accepted}
use Rattle.contact_definitions.specs.declared.b2_collision.B2manifold.{B2manifold}
use Rattle.contact_definitions.specs.declared.b2_collision.B2worldManifold.{B2worldManifold}
use Rattle.grid.specs.Grid.{GridList}
use Rattle.grid.specs.Demand3.{refusal_of, outline_from}
use Rattle.grid.proofs.Outline.{accepted_outline}
use Rattle.grid_contacts.specs.Placement.{GridPlacement, placed_corners}
use Rattle.grid_contacts.specs.Lengths.{Length, ◌plus◌, choice_tolerance}
use Rattle.grid_contacts.specs.Faces.{Face, squared_length, EveryFace, SeparationAtMost}
use Rattle.grid_contacts.specs.SecondSentence.{NearLargest, SecondSentenceOf}
use Rattle.grid_contacts.proofs.PlacedOutline.{placed_faces_long}
use Rattle.grid_contacts.proofs.Largest.{every_of_reference, every_of_other}
use Rattle.grid_contacts.proofs.Sentence.{outlines_sentence}

module _ (old : B2polygonShape) (l : List B2vec2) (grid : GridList l) (taken : refusal_of old l ≡ accepted) where
  -- a built outline has the skin of the shape that was given
  pub built_skin : (outline_from old l).m_radius ≡ old.m_radius
  built_skin = (accepted_outline old l grid taken).radius

  -- no placed face has length 0: every quotient of the sentence means something
  pub faces_long : {xf : B2Transform} (placed : GridPlacement xf)
      → EveryFace (placed_corners placed (outline_from old l)) (λ f. 0 < squared_length f)
  faces_long placed = placed_faces_long placed (outline_from old l) (accepted_outline old l grid taken).outline

-- what near-largest means, without its level: whatever length the separation of f is at most, that of every face of
-- both outlines is at most 1/1024 m more
pub largest_means : {reference other : List Point} {f : Face} → NearLargest reference other f → 0 < squared_length f
    → (a : Length) → SeparationAtMost f other a
    → EveryFace reference (λ g. SeparationAtMost g other (a plus choice_tolerance))
    × EveryFace other (λ g. SeparationAtMost g reference (a plus choice_tolerance))
largest_means near long a at_most = (every_of_reference near long a at_most, every_of_other near long a at_most)

-- the sentence; old shapes with the default skin, otherwise of any bits
pub second_sentence : (oldA oldB : B2polygonShape) → oldA.m_radius ≡ b2_polygon_radius
    → oldB.m_radius ≡ b2_polygon_radius → (la lb : List B2vec2) → GridList la → GridList lb
    → refusal_of oldA la ≡ accepted → refusal_of oldB lb ≡ accepted
    → {xfA xfB : B2Transform} (placedA : GridPlacement xfA) (placedB : GridPlacement xfB)
    → (old : B2manifold) (old_world : B2worldManifold)
    → SecondSentenceOf (outline_from oldA la) (outline_from oldB lb) placedA placedB old old_world
second_sentence oldA oldB skinA skinB la lb gridA gridB takenA takenB placedA placedB =
    outlines_sentence (outline_from oldA la) (outline_from oldB lb) placedA placedB
    (accepted_outline oldA la gridA takenA).outline (accepted_outline oldB lb gridB takenB).outline
    (built_skin oldA la gridA takenA ∙ skinA) (built_skin oldB lb gridB takenB ∙ skinB)
