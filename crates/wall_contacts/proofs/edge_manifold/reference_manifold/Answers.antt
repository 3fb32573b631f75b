-- By what is left between the two sides. Assumes nothing.
use Rattle.contact_definitions.specs.EdgeReference.{within_radius}
use Rattle.wall_contacts.proofs.Clipped.{given_up, points_left}
use Rattle.wall_contacts.proofs.edge_manifold.reference_manifold.Goals as goal

pub returns-then-c-lt2 : goal.returns-then-c-lt2
returns-then-c-lt2 c =
    let if1' = c.if-c-lt2 in
    let clip_to_sides' = c.clip_to_sides-c in
    let args' = c.args in
    given_up args'.f args'.m args'.xf args'.radius _ clip_to_sides'.ensures _ if1'.true
    c.only_kind.ensures

pub returns : goal.returns
unfolding within_radius
returns c =
    let kept_points' = c.kept_points-k in
    let placed_end2' = c.placed_end-w1 in
    let placed_end' = c.placed_end-w0 in
    let within_radius2' = c.within_radius-near1 in
    let within_radius' = c.within_radius-near0 in
    let if1' = c.if-c-lt2 in
    let clip_to_sides' = c.clip_to_sides-c in
    let args' = c.args in
    points_left args'.f args'.m args'.xf args'.radius _ clip_to_sides'.ensures _ _ _ _ _ _ _
    if1'.false within_radius'.ensures within_radius2'.ensures placed_end'.ensures placed_end2'.ensures
    kept_points'.ensures c.kind_of.ensures
