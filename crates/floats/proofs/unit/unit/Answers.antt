-- Both coordinates times the factor. Assumes nothing.
use mathlib.Core.Path.{sym, ap, ◌∙◌, subst}
use lib.Dec.{T}
use lib.Ieee.{binary32, fits}
use Rattle.floats.specs.Unit.{inverse_root}
use Rattle.floats.proofs.Scale.{scale_by_square, scaled_is}
use Rattle.floats.proofs.unit.unit.Goals as goal

pub returns : goal.returns
returns c =
    let inverse_root' = c.inverse_root-k in
    let square = c.b2_length_squared in
    let a = c.args.a in
    let x_fits : T (fits binary32 a.x) = subst T (sym c.well_formed.0.1.1.0.1) tt in
    let y_fits : T (fits binary32 a.y) = subst T (sym c.well_formed.0.1.1.1.0.1) tt in
    scaled_is a x_fits y_fits _ (inverse_root'.ensures ∙ ap inverse_root square.ensures ∙ scale_by_square a)
