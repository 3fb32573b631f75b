-- The manifold on a face, from the parts that the code has worked out one by one. Assumes nothing.
use mathlib.Core.Path.{◌≡◌, refl, ap, ap₂, ◌∙◌}
use mathlib.Core.Bool.{Bool, cond}
use mathlib.Core.List.{List}
use Prim.Native.Nat.{◌<◌, ◌≤◌}
use lib.ListN.{get_or}
use lib.Ieee.{Float}
use Rattle.floats.specs.declared.b2_math.B2vec2.{B2vec2}
use Rattle.floats.specs.declared.b2_math.B2Transform.{B2Transform}
use Rattle.rounding.specs.Literals.{half32, one32}
use Rattle.floats.specs.B2Math.{b2_add, b2_scale, b2_cross_vec_by_scalar}
use Rattle.contact_definitions.specs.declared.b2_collision.B2manifoldType.{B2manifoldType}
use Rattle.contact_definitions.specs.declared.b2_collision.B2manifoldType.TheVariants.{EFaceA, EFaceB}
use Rattle.contact_definitions.specs.declared.b2_collision.B2manifold.{B2manifold}
use Rattle.contact_definitions.specs.declared.b2_collision.B2manifoldPoint.{B2manifoldPoint}
use Rattle.contact_definitions.specs.declared.b2_collision.B2clipVertex.{B2clipVertex}
use Rattle.contact_definitions.specs.declared.b2_collide_edge.B2referenceFace.{B2referenceFace}
use Rattle.contact_definitions.specs.Manifold.{with_count, with_kind}
use Rattle.contact_definitions.specs.Clip.{clipped}
use Rattle.contact_definitions.specs.ReferenceFace.{clipped_to_sides}
use Rattle.contact_definitions.specs.B2CollidePolygon.{within_skins, outline_point}
use Rattle.contact_definitions.proofs.Counts.{sides_few}
use Rattle.contact_definitions.specs.declared.b2_collision.Clip.{Clip}
use Rattle.collision.specs.ClipPlaces.{left_over}
use Rattle.outline_contacts.specs.declared.faces.Face.{Face}
use Rattle.collision.specs.declared.manifolds.Kept.{Kept}
use Rattle.outline_contacts.specs.Faces.{incident_ends, placed_along}
use Rattle.collision.specs.KeptPoints.{point_at_end, kept_ends, points_kept}
use Rattle.collision.proofs.KeptEnds.{nothing_written, points_written, placed_first}
use Rattle.outline_contacts.specs.OnFace.{named_by, placed_end, tangent_of, manifold_on_face}

-- the ends are placed first, and kept as they are
kept_placed : (flip : Bool) (xf : B2Transform) (old : List B2manifoldPoint) (near0 near1 : Bool)
    (e0 e1 w0 w1 : B2clipVertex) (k : Kept)
    → w0 ≡ placed_end flip xf e0 → w1 ≡ placed_end flip xf e1
    → k ≡ points_kept point_at_end old (kept_ends near0 near1 w0 w1)
    → k ≡ points_kept (outline_point (named_by flip) xf) old (kept_ends near0 near1 e0 e1)
unfolding outline_point
kept_placed flip xf old near0 near1 e0 e1 w0 w1 k w0_is w1_is k_is =
    k_is ∙ ap₂ (λ (v w : B2clipVertex). points_kept point_at_end old (kept_ends near0 near1 v w)) w0_is w1_is
    ∙ placed_first (placed_end flip xf) old near0 near1 e0 e1

module _ (m : B2manifold) (f : Face) (total : Float) (tangent : B2vec2) (face : B2referenceFace)
    (ends : List B2clipVertex) (c : Clip) (tangent_is : tangent ≡ tangent_of f)
    (face_is : face ≡ placed_along f tangent total) (ends_is : ends ≡ incident_ends f)
    (c_is : c ≡ left_over (clipped (clipped ends face.side_normal1 face.side_offset1 face.i1)
    face.side_normal2 face.side_offset2 face.i2) ends) where
  abbrev placed : B2referenceFace
  placed = placed_along f (tangent_of f) total

  abbrev left : List B2clipVertex
  left = clipped_to_sides placed (incident_ends f)

  placed_is : face ≡ placed
  placed_is = face_is ∙ ap (λ (t : B2vec2). placed_along f t total) tangent_is

  left_is : c ≡ left_over left (incident_ends f)
  unfolding clipped_to_sides
  left_is = c_is ∙ ap₂ (λ (g : B2referenceFace) (l : List B2clipVertex). left_over (clipped_to_sides g l) l)
      placed_is ends_is

  abbrev kinded : B2manifold
  kinded = with_kind (with_count m 0) (cond f.flip EFaceB EFaceA)

  -- ---- fewer than two ends are left
  pub only_the_kind : c.count < 2 → (r : B2manifold) → r ≡ kinded → r ≡ manifold_on_face m f total
  unfolding manifold_on_face
  only_the_kind few r r_is =
      r_is ∙ nothing_written kinded _ _ (within_skins total placed) (outline_point (named_by f.flip) f.xf2) left
      (incident_ends f) refl (sides_few placed (incident_ends f)) c left_is few

  -- ---- two are
  pub with_its_points : 2 ≤ c.count → (d w0 w1 : B2clipVertex) (near0 near1 : Bool) (k : Kept)
      (normal point : B2vec2) (kind : B2manifoldType) → near0 ≡ within_skins total face (get_or c.out 0 d)
      → near1 ≡ within_skins total face (get_or c.out 1 d)
      → w0 ≡ placed_end f.flip f.xf2 (get_or c.out 0 d) → w1 ≡ placed_end f.flip f.xf2 (get_or c.out 1 d)
      → k ≡ points_kept point_at_end m.points (kept_ends near0 near1 w0 w1)
      → normal ≡ b2_cross_vec_by_scalar tangent one32 → point ≡ b2_scale half32 (b2_add f.v11 f.v12)
      → kind ≡ cond f.flip EFaceB EFaceA
      → ◌≡◌ {A = B2manifold} (record {
        points = k.points;
        local_normal = normal;
        local_point = point;
        manifold_type = kind;
        point_count = k.count;
      }) (manifold_on_face m f total)
  unfolding manifold_on_face with_kind with_count
  with_its_points enough d w0 w1 near0 near1 k normal point kind near0_is near1_is w0_is w1_is k_is normal_is point_is
      kind_is =
      rw (normal_is, point_is, kind_is, tangent_is)
      (points_written kinded _ _ (within_skins total placed) (outline_point (named_by f.flip) f.xf2) left
      (incident_ends f) refl (sides_few placed (incident_ends f)) c left_is enough d k
      (kept_placed f.flip f.xf2 m.points near0 near1 _ _ w0 w1 k w0_is w1_is k_is
      ∙ ap₂ (λ (p q : Bool). points_kept (outline_point (named_by f.flip) f.xf2) m.points
      (kept_ends p q (get_or c.out 0 d) (get_or c.out 1 d)))
      (near0_is ∙ ap (λ (g : B2referenceFace). within_skins total g (get_or c.out 0 d)) placed_is)
      (near1_is ∙ ap (λ (g : B2referenceFace). within_skins total g (get_or c.out 1 d)) placed_is)))
