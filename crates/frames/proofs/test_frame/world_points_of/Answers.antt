-- Both skins. Assumes nothing.
use mathlib.Core.Path.{sym, ◌∙◌, ap}
use Rattle.contact_definitions.specs.declared.b2_collision.B2worldManifold.{B2worldManifold}
use Rattle.contact_definitions.specs.Answers.{world_answered}
use Rattle.record_definitions.specs.Touch.{world_points}
use Rattle.frames.proofs.test_frame.world_points_of.Goals as goal

pub returns : goal.returns
unfolding world_points
returns c =
    ap (λ (old : B2worldManifold). world_answered old c.b2_world_manifold_initialize_core.result)
    (sym c.default_world_manifold-old.ensures)
    ∙ c.b2_world_manifold_initialize_core.ensures
    ∙ simp (c.skin-skin_b.ensures, c.skin-skin_a.ensures, c.default_world_manifold-old.ensures)
