-- The turned edge, times the reciprocal of its length. Assumes nothing.
use mathlib.Core.Path.{sym, subst}
use lib.Dec.{T}
use lib.Ieee.{binary32, fits}
use Rattle.floats.proofs.Turned.{normal_is}
use Rattle.shapes.proofs.outline.normal_of_edge.Goals as goal

pub returns : goal.returns
returns c =
    let edge = c.args.edge in
    let x_fits : T (fits binary32 edge.x) = subst T (sym c.well_formed.0.1.1.0.1) tt in
    let y_fits : T (fits binary32 edge.y) = subst T (sym c.well_formed.0.1.1.1.0.1) tt in
    normal_is edge c.args.squared x_fits y_fits c.requires.0 c.requires.1 _ _
    c.b2_cross_vec_by_scalar-turned.ensures
    c.b2_sqrt-inv_length.ensures
