-- The crossing and its features. Assumes nothing.
use Rattle.contact_definitions.specs.Clip.{crossing}
use Rattle.collision.proofs.clip.cut.Goals as goal

pub returns : goal.returns
unfolding crossing
returns c =
    let b2_add = c.b2_add-v in
    let b2_scale = c.b2_scale in
    let b2_sub = c.b2_sub in
    simp (c.contact_id.ensures, b2_add.ensures, b2_scale.ensures, b2_sub.ensures)
