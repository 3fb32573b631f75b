-- The one table of document 01's marked cases, each with the complete answer: outlines for any old shape, validate for
-- any shape of no corners in range, circles and the tie of two boxes for any old manifold, clips for any output places;
-- the tie's boxes are the box call's answers from any two shapes with the usual skin. And the whole case of the touch
-- record, from all the input to all the output. Computed from the definitions. Assumes nothing.
use mathlib.Core.List.{List, [], ◌∷◌}
use Rattle.shape_definitions.specs.declared.b2_polygon_shape.B2polygonShape.{B2polygonShape}
use Rattle.shape_definitions.proofs.OutlineCases.{OutlineCases, outline_cases}
use Rattle.contact_definitions.specs.declared.b2_collision.B2clipVertex.{B2clipVertex}
use Rattle.contact_definitions.specs.declared.b2_collision.B2manifold.{B2manifold}
use Rattle.contact_definitions.proofs.Controls.{ContactCases, contact_cases}
use Rattle.record_definitions.proofs.Heats.{Runs}
use Rattle.record_definitions.proofs.Controls.{line_cases}

pub record MarkedCases : Type 0 where
  -- two points and nine points: 1; welded: 3, and not welded; on one line: 4; an area too small: 5; a fifth point on a
  -- side; validate of no corners
  pub outlines : (old : B2polygonShape) → OutlineCases old
  -- circles that touch and that miss; clips at 0 and 1, at -1 and 1, and where the product underflows; two boxes
  pub contacts : (old : B2manifold) (places : List B2clipVertex) (a b : B2polygonShape) → ContactCases old places a b
  -- two circles of radius 1, centres 1.5 apart
  pub whole_case : Runs (
      ("010000000000000000003f800000", "00") ∷
      ("01013fc00000000000003f800000", "00") ∷
      ("050001", "050001010000000100000000013f800000000000003f40000000000000bf00000000000000") ∷
      [])

pub marked_cases : MarkedCases
marked_cases = record { outlines = outline_cases; contacts = contact_cases; whole_case = line_cases.document_case }
