-- The count, the ranges, then the faces. Assumes nothing.
use mathlib.Core.Path.{refl, ◌∙◌, ap}
use mathlib.Core.Bool.{not}
use lib.Dec.{ltb}
use borrow.Author.Tests.{lt-ltb, le-ltb}
use Rattle.shape_definitions.specs.Validate.{polygon_in_range, b2_polygon_shape_validate}
use Rattle.algebra.proofs.Booleans.{chosen, unchosen}
use Rattle.shapes.proofs.b2_polygon_shape.b2_polygon_shape_validate.Goals as goal

pub returns-then-count-gt-B2_MAX_POLYGON_VERTICES : goal.returns-then-count-gt-B2_MAX_POLYGON_VERTICES
unfolding b2_polygon_shape_validate
returns-then-count-gt-B2_MAX_POLYGON_VERTICES c =
    let count = c.args.shape.m_count in
    chosen (ltb 8 count) _ _ _ (lt-ltb 8 count c.if-count-gt-B2_MAX_POLYGON_VERTICES.true) refl

pub returns-then-not-polygon_in_range : goal.returns-then-not-polygon_in_range
unfolding b2_polygon_shape_validate
returns-then-not-polygon_in_range c =
    let shape = c.args.shape in
    let count = shape.m_count in
    chosen (not (polygon_in_range shape)) _ _ _ (ap not c.if-not-polygon_in_range.true) (simp c.polygon_in_range.ensures)
    ∙ unchosen (ltb 8 count) _ _ _ (le-ltb 8 count c.if-count-gt-B2_MAX_POLYGON_VERTICES.false) refl

pub returns : goal.returns
unfolding b2_polygon_shape_validate
returns c =
    let shape = c.args.shape in
    let count = shape.m_count in
    simp c.faces_convex.ensures
    (unchosen (not (polygon_in_range shape)) _ _ _ (ap not c.if-not-polygon_in_range.false) (simp c.polygon_in_range.ensures)
    ∙ unchosen (ltb 8 count) _ _ _ (le-ltb 8 count c.if-count-gt-B2_MAX_POLYGON_VERTICES.false) refl)
