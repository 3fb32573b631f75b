-- The two surfaces, their middle and their separation. Assumes nothing.
use Rattle.contact_definitions.specs.WorldManifold.{on_face, on_other, plane_middle, plane_separation}
use Rattle.collision.proofs.world_points.face_point.Goals as goal

pub returns : goal.returns
unfolding plane_middle plane_separation on_face on_other
returns c =
    simp (
      c.b2_dot-separation.ensures,
      c.b2_sub-2.ensures,
      c.b2_scale-middle.ensures,
      c.b2_add.ensures,
      c.b2_sub-other.ensures,
      c.b2_scale-2.ensures,
      c.b2_add-face.ensures,
      c.b2_scale.ensures,
      c.b2_dot.ensures,
      c.b2_sub.ensures,
    )
