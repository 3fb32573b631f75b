-- The contact of two bodies has two places for points, whatever it counts, refused ones too. Assumes nothing.
use mathlib.Core.Path.{◌≡◌, refl}
use lib.Dec.{eqb}
use lib.ListN.{length}
use Rattle.contact_definitions.specs.Answers.{ManifoldAnswer}
use Rattle.contact_definitions.specs.Manifold.{default_manifold}
use Rattle.contact_definitions.specs.Unwritten.{AsGiven, CallsLeave}
use Rattle.contact_definitions.proofs.Counts.{either}
use Rattle.contact_definitions.proofs.Theorem.{calls_leave}
use Rattle.record_definitions.specs.declared.world.Body.{Body}
use Rattle.record_definitions.specs.World.{circle_kind, outline_kind}
use Rattle.record_definitions.specs.Touch.{meet_circle, meet_outline, meet}

pub met_two : (a b : Body) → length (meet a b).manifold.points ≡ 2
unfolding meet meet_circle meet_outline
met_two a b =
    (either Leaves (eqb b.kind circle_kind) _ _
    (either Leaves (eqb a.kind circle_kind) _ _ (leave.circles a.circle b.circle)
    (either Leaves (eqb a.kind outline_kind) _ _ (leave.polygon_and_circle a.outline b.circle)
    (leave.edge_and_circle a.wall b.circle)))
    (either Leaves (eqb a.kind outline_kind) _ _ (leave.polygons a.outline b.outline)
    (leave.edge_and_polygon a.wall b.outline))
    ).two
  where
    Leaves : ManifoldAnswer → Type 0
    Leaves answer = AsGiven default_manifold answer.manifold

    leave : CallsLeave default_manifold a.xf b.xf
    leave = calls_leave default_manifold refl a.xf b.xf
