-- Both coordinates times the factor. Assumes nothing.
use mathlib.Core.Path.{sym, subst}
use lib.Dec.{T}
use lib.Ieee.{binary32, fits}
use Rattle.floats.proofs.Scale.{scaled_is}
use Rattle.wall_contacts.proofs.b2_collide_edge.scaled.Goals as goal

pub returns : goal.returns
returns c =
    let args' = c.args in
    let good' = c.well_formed in
    let pre' = c.requires in
    let e = args'.e in
    let x_fits : T (fits binary32 e.x) = subst T (sym good'.0.1.1.0.1) tt in
    let y_fits : T (fits binary32 e.y) = subst T (sym good'.0.1.1.1.0.1) tt in
    scaled_is e x_fits y_fits _ (pre')
