-- What holds of the outline that is built from a grid list: 3 to 8 grid corners, at each place the normal of the edge
-- from its corner to the next, and every number in range where the radius is. Assumes nothing.
use mathlib.Core.Path.{◌≡◌, refl, sym, ap, ◌∙◌, subst}
use mathlib.Core.List.{List, map}
use mathlib.Core.Bool.{◌&&◌}
use Prim.Native.Nat.{ℕ, ◌≤◌, ◌<◌}
use native.Mathlib.Omega.{arith}
use lib.Dec.{T}
use lib.ListN.{length, take, drop, get_or, length-map, get_or-map, get_or-append, length-append}
use lib.Seq.{take-append_seam, take_at}
use mir.Facts.{yes_and}
use Rattle.algebra.specs.Plane.{Point}
use Rattle.algebra.specs.Lists.{Once}
use Rattle.algebra.proofs.Lists.{getD_within, once_place}
use Rattle.algebra.proofs.All.{all_at}
use Rattle.floats.specs.declared.b2_math.B2vec2.{B2vec2}
use Rattle.floats.specs.Ranges.{point_in_range, radius_in_range, normal_in_range}
use Rattle.shape_definitions.specs.declared.b2_polygon_shape.B2polygonShape.{B2polygonShape}
use Rattle.shape_definitions.specs.declared.b2_polygon_shape.PolygonAnswer.{PolygonAnswer}
use Rattle.shape_definitions.specs.Outline.{origin, point_at, place_after, edges, normal_of_edge, fan, centroid_of}
use Rattle.shape_definitions.specs.Polygon.{all_points, put_first, finished}
use Rattle.shape_definitions.specs.Validate.{polygon_in_range}
use Rattle.shape_definitions.proofs.Edges.{edges_length, edge_at, after_in, after_other}
use Rattle.grid.specs.Grid.{GridPoint, GridList, value_point, values}
use Rattle.grid.specs.Demand3.{refusal_of, outline_from}
use Rattle.grid.proofs.Places.{grid_at}
use Rattle.grid.proofs.Normals.{edge_normal, edge_normal_in_range}
use Rattle.grid.specs.GridOutline.{GridOutline, EdgeNormal}
use Rattle.grid.proofs.Verdict.{Corners, all_in_range, Verdict, wrong_number, too_few, on_line, built, verdict}
use Rattle.grid.proofs.Centroid.{centroid_in_range}

-- ---- corners at different places differ by value
values_at : (cs : List B2vec2) (i : ℕ) → get_or (values cs) i (value_point origin) ≡ value_point (point_at cs i)
values_at cs i = get_or-map value_point cs i origin

module _ (cs : List B2vec2) (grid : GridList cs) (once : Once (values cs)) (two : 2 ≤ length cs) (i : ℕ)
    (i_in : i < length cs) where
  corners_differ : ¬ (value_point (point_at cs (place_after (length cs) i)) ≡ value_point (point_at cs i))
  corners_differ e =
      after_other (length cs) i two i_in
      (once_place (values cs) (value_point origin) once (place_after (length cs) i) i
      (rw (length-map cs value_point) (after_in (length cs) i i_in))
      (rw (length-map cs value_point) i_in) (values_at cs (place_after (length cs) i) ∙ e ∙ sym (values_at cs i)))

  -- the normal at a place
  normal_at : EdgeNormal (point_at cs i) (point_at cs (place_after (length cs) i))
      (point_at (map normal_of_edge (edges cs)) i)
  normal_at =
      subst (EdgeNormal (point_at cs i) (point_at cs (place_after (length cs) i)))
      (sym (getD_within (map normal_of_edge (edges cs)) i origin (normal_of_edge origin)
      (rw (length-map (edges cs) normal_of_edge, edges_length cs) i_in)
      ∙ get_or-map normal_of_edge (edges cs) i origin ∙ ap normal_of_edge (edge_at cs i i_in)))
      (edge_normal (grid_at cs grid i i_in)
      (grid_at cs grid (place_after (length cs) i) (after_in (length cs) i i_in)) corners_differ)

-- ---- the outline made of such corners
module _ (old : B2polygonShape) (s : List Point) (cs : List B2vec2) (c : Corners s cs) where
  row_three : 3 ≤ length cs
  row_three =
      subst (λ (n : ℕ). 3 ≤ n) (sym (ap length c.hull.is) ∙ length-map cs value_point) c.hull.hull.three

  row_once : Once (values cs)
  row_once = subst Once (sym c.hull.is) c.hull.hull.once

  row_normal : (i : ℕ) → i < length cs
      → EdgeNormal (point_at cs i) (point_at cs (place_after (length cs) i))
      (point_at (map normal_of_edge (edges cs)) i)
  row_normal i i_in = normal_at cs c.grid row_once (let h = row_three in omega arith) i i_in

  normals_length : length (map normal_of_edge (edges cs)) ≡ length cs
  normals_length = length-map (edges cs) normal_of_edge ∙ edges_length cs

  -- what is put first is read at its places
  vertex_at : (i : ℕ) → i < length cs → point_at cs i ≡ point_at (put_first cs old.m_vertices) i
  vertex_at i i_in = sym (get_or-append cs (drop (length cs) old.m_vertices) origin i i_in)

  stored_normal_at : (i : ℕ) → i < length cs
      → point_at (map normal_of_edge (edges cs)) i
      ≡ point_at (put_first (map normal_of_edge (edges cs)) old.m_normals) i
  stored_normal_at i i_in =
      sym (get_or-append (map normal_of_edge (edges cs))
      (drop (length (map normal_of_edge (edges cs))) old.m_normals) origin i
      (rw normals_length i_in))

  vertices_in_range : T (all_points point_in_range (take (length cs) (put_first cs old.m_vertices)))
  vertices_in_range = rw (take-append_seam cs (drop (length cs) old.m_vertices)) (all_in_range cs c.grid)

  normals_in_range : T (all_points normal_in_range
      (take (length cs) (put_first (map normal_of_edge (edges cs)) old.m_normals)))
  normals_in_range =
      rw (take_at (map normal_of_edge (edges cs)) (drop (length (map normal_of_edge (edges cs))) old.m_normals)
      (length cs) normals_length)
      (all_at normal_in_range (map normal_of_edge (edges cs)) origin one)
    where
      one : (i : ℕ) → i < length (map normal_of_edge (edges cs))
          → T (normal_in_range (point_at (map normal_of_edge (edges cs)) i))
      one i i_in =
          edge_normal_in_range (point_at cs i) (point_at cs (place_after (length cs) i))
          (point_at (map normal_of_edge (edges cs)) i)
          (row_normal i (rw normals_length at i_in))

  first_grid : GridPoint (point_at cs 0)
  first_grid = grid_at cs c.grid 0 (let h = row_three in omega arith)

  finished_grid : GridOutline (finished old cs (fan cs)).shape
  unfolding polygon_in_range
  finished_grid = record {
    three = row_three;
    eight = c.few;
    full = omega (arith, length-append cs (drop (length cs) old.m_vertices));
    corner = λ i i_in. subst GridPoint (vertex_at i i_in) (grid_at cs c.grid i i_in);
    normal = λ i i_in. rw (
      ← vertex_at i i_in,
      ← vertex_at (place_after (length cs) i)
          (after_in (length cs) i i_in),
      ← stored_normal_at i i_in,
    ) (row_normal i i_in);
    in_range = λ radius.
        yes_and (radius_in_range old.m_radius && point_in_range centroid && all_points point_in_range
        (take (length cs) vertices))
        (all_points normal_in_range (take (length cs) normals))
        (yes_and (radius_in_range old.m_radius && point_in_range centroid)
        (all_points point_in_range (take (length cs) vertices))
        (yes_and (radius_in_range old.m_radius) (point_in_range centroid) radius
        (centroid_in_range c.sums first_grid)) vertices_in_range)
        normals_in_range;
  }
    where
      vertices : List B2vec2
      vertices = put_first cs old.m_vertices

      normals : List B2vec2
      normals = put_first (map normal_of_edge (edges cs)) old.m_normals

      centroid : B2vec2
      centroid = centroid_of (point_at cs 0) (fan cs)

-- ---- of a grid list that is accepted
pub record BuiltOutline (old shape : B2polygonShape) : Type 0 where
  pub outline : GridOutline shape
  pub radius : shape.m_radius ≡ old.m_radius

built_outline_of : {old : B2polygonShape} {l : List B2vec2} {b : PolygonAnswer} → Verdict old l b → b.refusal ≡ 0
    → BuiltOutline old b.shape
built_outline_of (wrong_number count e) r = absurd (let h = ap (λ (a : PolygonAnswer). a.refusal) e in omega arith)
built_outline_of (too_few count few line e) r = absurd (let h = ap (λ (a : PolygonAnswer). a.refusal) e in omega arith)
built_outline_of (on_line count three line e) r =
    absurd (let h = ap (λ (a : PolygonAnswer). a.refusal) e in omega arith)
built_outline_of {old} {l} (built count off cs c e) r =
    subst (λ (a : PolygonAnswer). BuiltOutline old a.shape) (sym e)
    (record { outline = finished_grid old (values l) cs c; radius = refl })

pub accepted_outline : (old : B2polygonShape) (l : List B2vec2) → GridList l → refusal_of old l ≡ 0
    → BuiltOutline old (outline_from old l)
accepted_outline old l grid r = built_outline_of (verdict old l grid) r
