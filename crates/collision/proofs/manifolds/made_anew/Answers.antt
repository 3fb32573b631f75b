-- The two points are those that were there. Assumes nothing.
use mathlib.Core.Path.{ap}
use mathlib.Core.List.{List}
use Rattle.contact_definitions.specs.declared.b2_collision.B2manifoldPoint.{B2manifoldPoint}
use Rattle.contact_definitions.specs.Manifold.{with_count, with_kind}
use Rattle.algebra.proofs.Two.{both_places}
use Rattle.collision.proofs.manifolds.made_anew.Goals as goal

pub returns : goal.returns
unfolding with_kind with_count
returns c =
    let args = c.args in
    let good = c.well_formed in
    ap (λ (l : List B2manifoldPoint). with_kind (with_count (record {
      points = l;
      local_normal = args.m.local_normal;
      local_point = args.m.local_point;
      manifold_type = args.m.manifold_type;
      point_count = args.m.point_count;
    }) args.point_count) args.manifold_type)
    (both_places args.m.points _ good.0.1.1.0.1.0.1)
