-- The radius and the ends, then the ghost points of a one-sided wall. Assumes nothing.
use mathlib.Core.Path.{◌≡◌, sym, ◌∙◌, ap, ap₂}
use mathlib.Core.Bool.{Bool, true, false, not, ◌&&◌, ◌||◌}
use Rattle.floats.specs.Ranges.{point_in_range}
use Rattle.shape_definitions.specs.Edge.{edge_in_range}
use Rattle.shape_ranges.proofs.InTurn.{first_fails, first_holds}
use Rattle.shape_ranges.proofs.edge_range.edge_in_range.Goals as goal

-- the ghost points count on a one-sided wall alone
ghosts_count : (one ghosts : Bool) → one ≡ true → ghosts ≡ (not one || ghosts)
ghosts_count one ghosts one_sided = ap (λ (b : Bool). not b || ghosts) (sym one_sided)

ghosts_pass : (one ghosts : Bool) → one ≡ false → true ≡ (not one || ghosts)
ghosts_pass one ghosts two_sided = ap (λ (b : Bool). not b || ghosts) (sym two_sided)

pub returns-then-not-radius-v1 : goal.returns-then-not-radius-v1
unfolding edge_in_range
returns-then-not-radius-v1 c =
    first_fails _ _ _ (ap₂ ◌&&◌ (ap₂ ◌&&◌ c.radius_in_range-radius.ensures c.point_in_range-v1.ensures)
    c.point_in_range-v2.ensures)
    c.if-not-radius-v1.true

pub returns-then-shape : goal.returns-then-shape
unfolding edge_in_range
returns-then-shape c =
    ap₂ ◌&&◌ c.point_in_range-v0.ensures c.point_in_range-v3.ensures
    ∙ ghosts_count _ _ c.if-shape.true
    ∙ first_holds _ _ _ (ap₂ ◌&&◌ (ap₂ ◌&&◌ c.radius_in_range-radius.ensures c.point_in_range-v1.ensures)
    c.point_in_range-v2.ensures)
    c.if-not-radius-v1.false

pub returns : goal.returns
unfolding edge_in_range
returns c =
    let shape = c.args.shape in
    ghosts_pass _ (point_in_range shape.m_vertex0 && point_in_range shape.m_vertex3) c.if-shape.false
    ∙ first_holds _ _ _ (ap₂ ◌&&◌ (ap₂ ◌&&◌ c.radius_in_range-radius.ensures c.point_in_range-v1.ensures)
    c.point_in_range-v2.ensures)
    c.if-not-radius-v1.false
