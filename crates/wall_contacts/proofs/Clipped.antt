-- The manifold of a reference, from what the two clips leave. Assumes nothing.
use mathlib.Core.Path.{◌≡◌, refl, ◌∙◌}
use mathlib.Core.Bool.{Bool, true, false, cond}
use mathlib.Core.List.{List, [], ◌∷◌}
use Prim.Native.Nat.{◌<◌, ◌≤◌}
use lib.Ieee.{Float}
use lib.ListN.{get_or}
use Rattle.floats.specs.declared.b2_math.B2Transform.{B2Transform}
use Rattle.contact_definitions.specs.declared.b2_collision.B2clipVertex.{B2clipVertex}
use Rattle.contact_definitions.specs.declared.b2_collision.B2manifold.{B2manifold}
use Rattle.contact_definitions.specs.declared.b2_collision.B2manifoldPoint.{B2manifoldPoint}
use Rattle.contact_definitions.specs.declared.b2_collision.B2manifoldType.{B2manifoldType}
use Rattle.contact_definitions.specs.declared.b2_collision.B2manifoldType.TheVariants.{EFaceA, EFaceB}
use Rattle.contact_definitions.specs.Manifold.{with_count, with_kind}
use Rattle.contact_definitions.specs.Clip.{clipped}
use Rattle.contact_definitions.specs.ReferenceFace.{clipped_to_sides}
use Rattle.contact_definitions.specs.EdgeReference.{within_radius, point_in_frame, point_as_it_is}
use Rattle.contact_definitions.proofs.Counts.{sides_few}
use Rattle.contact_definitions.specs.declared.b2_collision.Clip.{Clip}
use Rattle.collision.specs.ClipPlaces.{left_over}
use Rattle.collision.specs.declared.manifolds.Kept.{Kept}
use Rattle.collision.specs.KeptPoints.{point_at_end, kept_ends, points_kept}
use Rattle.collision.proofs.KeptEnds.{nothing_written, points_written, placed_first}
use Rattle.wall_contacts.specs.declared.edge_reference.Reference.{Reference}
use Rattle.wall_contacts.specs.Reference.{point_by, reference_manifold}
use Rattle.wall_contacts.specs.Reference.{placed_end}

-- the ends are placed first, and kept as they are
kept_placed : (flip : Bool) (xf : B2Transform) (old : List B2manifoldPoint) (near0 near1 : Bool)
    (e0 e1 : B2clipVertex)
    → points_kept point_at_end old (kept_ends near0 near1 (placed_end flip xf e0) (placed_end flip xf e1))
    ≡ points_kept (point_by flip xf) old (kept_ends near0 near1 e0 e1)
unfolding point_in_frame point_as_it_is
kept_placed true xf old near0 near1 e0 e1 = placed_first (placed_end true xf) old near0 near1 e0 e1
kept_placed false xf old near0 near1 e0 e1 = placed_first (placed_end false xf) old near0 near1 e0 e1

-- ---- the manifold of what the clips leave
module _ (f : Reference) (m : B2manifold) (xf : B2Transform) (radius : Float) where
  abbrev ends_of : List B2clipVertex
  ends_of = f.a ∷ f.b ∷ []

  abbrev begun : B2manifold
  begun = with_kind (with_count m 0) (cond f.flip EFaceB EFaceA)

  abbrev left : List B2clipVertex
  left = clipped_to_sides f.face ends_of

  module _ (c : Clip) (c_is : c ≡ left_over (clipped (clipped ends_of f.face.side_normal1
      f.face.side_offset1 f.face.i1) f.face.side_normal2 f.face.side_offset2 f.face.i2)
      ends_of) where
    left_is : c ≡ left_over left ends_of
    unfolding clipped_to_sides
    left_is = c_is

    -- fewer than two are left
    pub given_up : (r : B2manifold) → c.count < 2 → r ≡ begun → r ≡ reference_manifold f m xf radius
    unfolding reference_manifold
    given_up r few r_is =
        r_is ∙ nothing_written begun _ _ (within_radius radius f.face) (point_by f.flip xf) left ends_of refl
        (sides_few f.face ends_of) c left_is few

    -- two are left; d is whatever is said to stand past the end
    pub points_left : (d w0 w1 : B2clipVertex) (near0 near1 : Bool) (k : Kept) (kind : B2manifoldType) → 2 ≤ c.count
        → near0 ≡ within_radius radius f.face (get_or c.out 0 d)
        → near1 ≡ within_radius radius f.face (get_or c.out 1 d)
        → w0 ≡ placed_end f.flip xf (get_or c.out 0 d) → w1 ≡ placed_end f.flip xf (get_or c.out 1 d)
        → k ≡ points_kept point_at_end m.points (kept_ends near0 near1 w0 w1)
        → kind ≡ cond f.flip EFaceB EFaceA
        → ◌≡◌ {A = B2manifold} (record {
          points = k.points;
          local_normal = f.local_normal;
          local_point = f.local_point;
          manifold_type = kind;
          point_count = k.count;
        }) (reference_manifold f m xf radius)
    unfolding reference_manifold with_kind with_count
    points_left d w0 w1 near0 near1 k kind enough near0_is near1_is w0_is w1_is k_is kind_is =
        let e0 = get_or c.out 0 d in
        let e1 = get_or c.out 1 d in
        rw kind_is
        (points_written begun _ _ (within_radius radius f.face) (point_by f.flip xf) left ends_of refl
        (sides_few f.face ends_of) c left_is enough d k
        (rw (near0_is, near1_is, w0_is, w1_is) at k_is ∙ kept_placed f.flip xf m.points
        (within_radius radius f.face e0) (within_radius radius f.face e1) e0 e1))
