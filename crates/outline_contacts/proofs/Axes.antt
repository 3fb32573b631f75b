-- The manifold of two outlines by the axis that the search has answered. Assumes nothing.
use mathlib.Core.Path.{◌≡◌, sym, ap, subst, ◌∙◌}
use mathlib.Core.Bool.{Bool, true, false, cond}
use Prim.Native.Nat.{ℕ}
use lib.Ieee.{Float}
use Rattle.floats.specs.declared.b2_math.B2vec2.{B2vec2}
use Rattle.floats.specs.declared.b2_math.B2Transform.{B2Transform}
use Rattle.floats.specs.B2Math.{vec2}
use Rattle.shape_definitions.specs.declared.b2_polygon_shape.B2polygonShape.{B2polygonShape}
use Rattle.shape_definitions.specs.Outline.{point_at}
use Rattle.contact_definitions.specs.declared.axis.Axis.{Axis}
use Rattle.contact_definitions.specs.declared.axis.Axis.TheVariants.{Apart, FaceA, FaceB}
use Rattle.contact_definitions.specs.declared.b2_collision.B2manifold.{B2manifold}
use Rattle.contact_definitions.specs.declared.b2_collision.B2manifoldType.TheVariants.{EFaceA, EFaceB}
use Rattle.contact_definitions.specs.Manifold.{with_count, with_kind}
use Rattle.contact_definitions.specs.B2CollidePolygon.{face_separation, b2_find_max_separation, axis_of, polygons_axis}
use Rattle.contact_definitions.specs.B2CollidePolygon.{incident_place, incident_end, b2_find_incident_edge}
use Rattle.contact_definitions.specs.B2CollidePolygon.{local_tangent, face_middle, outline_face, outline_manifold}
use Rattle.contact_definitions.specs.B2CollidePolygon.{manifold_on, polygons_manifold}
use Rattle.outline_contacts.specs.Outlines.{outlined, Placed}
use Rattle.outline_contacts.specs.declared.faces.Face.{Face}
use Rattle.outline_contacts.specs.Faces.{face_of}
use Rattle.outline_contacts.specs.OnFace.{named_by, manifold_on_face}

-- an outline by its corners, normals and count, as the search takes it
abbrev bare : B2polygonShape → B2polygonShape
bare poly = outlined poly.m_vertices poly.m_normals poly.m_count

-- the data of its face, and of the incident edge of another
abbrev face_between : B2polygonShape → B2Transform → B2polygonShape → B2Transform → ℕ → B2vec2 → Bool → Face
face_between poly1 xf1 poly2 xf2 edge normal flip =
    face_of poly1.m_vertices edge normal poly1.m_count xf1 poly2.m_vertices poly2.m_normals
    poly2.m_count xf2 flip

-- the manifold on it is the definition's
on_face : (m : B2manifold) (total : Float) (flip : Bool) (poly1 : B2polygonShape) (xf1 : B2Transform)
    (poly2 : B2polygonShape) (xf2 : B2Transform) (edge : ℕ) (normal : B2vec2) (f : Face) (r : B2manifold)
    → normal ≡ point_at poly1.m_normals edge
    → f ≡ face_between poly1 xf1 poly2 xf2 edge normal flip
    → r ≡ manifold_on_face m f total
    → r ≡ outline_manifold (with_kind (with_count m 0) (cond flip EFaceB EFaceA)) (named_by flip) total poly1 xf1 edge
    poly2 xf2
unfolding manifold_on_face face_of outline_manifold outline_face local_tangent face_middle b2_find_incident_edge
    incident_end incident_place
on_face m total flip poly1 xf1 poly2 xf2 edge normal f r normal_is f_is r_is =
    r_is ∙ ap (λ (g : Face). manifold_on_face m g total) f_is
    ∙ ap (λ (n : B2vec2). manifold_on_face m (face_between poly1 xf1 poly2 xf2 edge n flip) total) normal_is

module _ (m : B2manifold) (total : Float) (polyA : B2polygonShape) (xfA : B2Transform) (polyB : B2polygonShape)
    (xfB : B2Transform) (axis : Axis) (axis_is : axis ≡ polygons_axis total (bare polyA) xfA (bare polyB) xfB) where
  abbrev On_its_outline : Axis → Type 0
  On_its_outline = Placed polyA.m_normals polyA.m_count polyB.m_normals polyB.m_count

  own_axis : axis ≡ polygons_axis total polyA xfA polyB xfB
  unfolding polygons_axis axis_of b2_find_max_separation face_separation
  own_axis = axis_is

  by_axis : (known : Axis) → axis ≡ known
      → manifold_on known (with_count m 0) total polyA xfA polyB xfB
      ≡ polygons_manifold (with_count m 0) total polyA xfA polyB xfB
  unfolding polygons_manifold
  by_axis known is_Known =
      ap (λ (a : Axis). manifold_on a (with_count m 0) total polyA xfA polyB xfB) (sym is_Known ∙ own_axis)

  pub when_apart : (s : Float) → axis ≡ Apart s → (r : B2manifold) → r ≡ with_count m 0
      → r ≡ polygons_manifold (with_count m 0) total polyA xfA polyB xfB
  when_apart s is_apart r r_is = r_is ∙ by_axis (Apart s) is_apart

  module _ (s x y : Float) (i : ℕ) (f : Face) (r : B2manifold) (r_is : r ≡ manifold_on_face m f total) where
    pub on_face_of_a : axis ≡ FaceA s x y i → On_its_outline axis
        → f ≡ face_between polyA xfA polyB xfB i (vec2 x y) false
        → r ≡ polygons_manifold (with_count m 0) total polyA xfA polyB xfB
    on_face_of_a is_a placed f_is =
        let normal_is : vec2 x y ≡ point_at polyA.m_normals i = (subst On_its_outline is_a placed).1 in
        on_face m total false polyA xfA polyB xfB i (vec2 x y) f r normal_is f_is r_is ∙ by_axis (FaceA s x y i) is_a

    pub on_face_of_b : axis ≡ FaceB s x y i → On_its_outline axis
        → f ≡ face_between polyB xfB polyA xfA i (vec2 x y) true
        → r ≡ polygons_manifold (with_count m 0) total polyA xfA polyB xfB
    on_face_of_b is_b placed f_is =
        let normal_is : vec2 x y ≡ point_at polyB.m_normals i = (subst On_its_outline is_b placed).1 in
        on_face m total true polyB xfB polyA xfA i (vec2 x y) f r normal_is f_is r_is ∙ by_axis (FaceB s x y i) is_b
