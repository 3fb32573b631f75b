-- The distance from the face, against both skins. Assumes nothing.
use Rattle.contact_definitions.specs.B2CollidePolygon.{within_skins}
use Rattle.outline_contacts.proofs.faces.within_skins.Goals as goal

pub returns : goal.returns
unfolding within_skins
returns c =
    let b2_dot = c.b2_dot in
    simp (c.b2_dot-2.ensures, b2_dot.ensures)
