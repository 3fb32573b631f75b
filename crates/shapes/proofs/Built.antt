-- The outline builder, refusal by refusal: what each way out of the code answers is what the definition says. Assumes
-- nothing.
use mathlib.Core.Path.{◌≡◌, refl, sym, ◌∙◌, ap, subst}
use mathlib.Core.Bool.{Bool, true, false, not, cond, ◌&&◌}
use mathlib.Core.List.{List, map}
use mathlib.Core.Option.{Option, none, some}
use Prim.Native.Nat.{ℕ, ◌<◌, ◌≤◌}
use native.Mathlib.Omega.{arith}
use lib.Dec.{T}
use Rattle.std.specs.Prelude.{Some, None, is_some, unwrap_or}
use lib.ListN.{length, take, length-map}
use lib.Seq.{length-take-le, take_at}
use lib.Ieee.{binary32, div, lt}
use borrow.Author.Tests.{lt-ltb, le-ltb}
use Rattle.floats.specs.declared.b2_math.B2vec2.{B2vec2}
use Rattle.rounding.specs.Literals.{one32}
use Rattle.floats.specs.B2Common.{b2_epsilon}
use Rattle.floats.specs.B2Math.{b2_add, b2_scale}
use Rattle.floats.specs.Ranges.{point_in_range}
use Rattle.shape_definitions.specs.declared.b2_polygon_shape.B2polygonShape.{B2polygonShape}
use Rattle.shape_definitions.specs.declared.b2_polygon_shape.FanSum.{FanSum}
use Rattle.shape_definitions.specs.Refusal.{accepted, wrong_number_of_points, shape_out_of_range, too_few_after_welding}
use Rattle.shape_definitions.specs.Refusal.{walk_not_closed, edge_or_area_too_small}
use Rattle.shape_definitions.specs.Outline.{point_at, welded, row, edges, long_enough, normal_of_edge, fan}
use Rattle.shape_definitions.specs.Polygon.{
  refused,
  all_points,
  put_first,
  finished,
  outline_of_corners,
  outline_of_row,
  outline_of_welded,
  b2_polygon_shape_set,
  b2_polygon_shape_set_counted,
}
use Rattle.shapes.specs.Parts.{WalkResult, NormalsResult}

-- ---- 1: the count
module _ (old : B2polygonShape) (points : List B2vec2) (count : ℕ) where
  pub too_few_points : count < 3 → refused wrong_number_of_points old ≡ b2_polygon_shape_set_counted old points count
  unfolding b2_polygon_shape_set_counted
  too_few_points few = simp (lt-ltb count 3 few)

  pub too_many_points : 8 < count → refused wrong_number_of_points old ≡ b2_polygon_shape_set_counted old points count
  unfolding b2_polygon_shape_set_counted
  too_many_points many = simp (le-ltb count 3 (omega arith), lt-ltb 8 count many)

  -- ---- 2: the ranges
  module _ (enough : 3 ≤ count) (not_more : count ≤ 8) (eight : length points ≡ 8) where
    counted_is : b2_polygon_shape_set_counted old points count
        ≡ cond (not (all_points point_in_range (take count points))) (refused shape_out_of_range old)
        (outline_of_welded old (welded (take count points)))
    unfolding b2_polygon_shape_set_counted b2_polygon_shape_set
    counted_is = simp (length-take-le count points (omega arith), le-ltb count 3 enough, le-ltb 8 count not_more)

    pub out_of_range : all_points point_in_range (take count points) ≡ false
        → refused shape_out_of_range old ≡ b2_polygon_shape_set_counted old points count
    out_of_range outside =
        sym (counted_is ∙ ap (λ (t : Bool). cond (not t) (refused shape_out_of_range old)
        (outline_of_welded old (welded (take count points)))) outside)

    -- the points that welding keeps
    of_welded : (ps : List B2vec2) → all_points point_in_range (take count points) ≡ true
        → ps ≡ welded (take count points)
        → outline_of_welded old ps ≡ b2_polygon_shape_set_counted old points count
    of_welded ps inside ps_is =
        ap (outline_of_welded old) ps_is
        ∙ sym (counted_is ∙ ap (λ (t : Bool). cond (not t) (refused shape_out_of_range old)
        (outline_of_welded old (welded (take count points)))) inside)

-- ---- a row of m corners: they stand in the first places, over the old vertices
module _ (ps old : List B2vec2) (m : ℕ) (vs : List B2vec2) where
  count_is : (places : List ℕ) → WalkResult ps old (some places) (Some m) vs → m ≡ length places
  count_is places walked = ap (λ answer. unwrap_or answer 0) walked.0

  corners_are : (places : List ℕ) → WalkResult ps old (some places) (Some m) vs
      → take m vs ≡ map (point_at ps) places
  corners_are places walked =
      ap (take m) walked.1 ∙ take_at (map (point_at ps) places) _ m (length-map places (point_at ps)
      ∙ sym (count_is places walked))

  corners_count : (o : Option (List ℕ)) → WalkResult ps old o (Some m) vs → length (take m vs) ≡ m
  corners_count none walked = absurd (subst T (ap is_some walked) tt)
  corners_count (some places) walked = ap length (corners_are places walked) ∙ length-map places (point_at ps)
      ∙ sym (count_is places walked)

  over_vertices : (o : Option (List ℕ)) → WalkResult ps old o (Some m) vs → vs ≡ put_first (take m vs) old
  over_vertices none walked = absurd (subst T (ap is_some walked) tt)
  over_vertices (some places) walked = walked.1 ∙ ap (λ (new : List B2vec2). put_first new old)
      (sym (corners_are places walked))

-- ---- 3: what is left after welding
module _ (old : B2polygonShape) (ps : List B2vec2) where
  pub too_few_kept : length ps < 3 → refused too_few_after_welding old ≡ outline_of_welded old ps
  unfolding outline_of_welded
  too_few_kept few = simp (lt-ltb (length ps) 3 few)

  of_row : 3 ≤ length ps → outline_of_row old ps (row ps) ≡ outline_of_welded old ps
  unfolding outline_of_welded
  of_row enough =
      ap (λ (t : Bool). cond t (refused too_few_after_welding old) (outline_of_row old ps (row ps)))
      (sym (le-ltb (length ps) 3 enough))

  -- ---- 4: the walk
  module _ (before vs : List B2vec2) where
    not_back : (o : Option (List ℕ)) → WalkResult ps before o None vs
        → refused walk_not_closed old ≡ outline_of_row old ps o
    not_back none walked = refl
    not_back (some places) walked = absurd (subst T (ap is_some (sym walked.0)) tt)

  module _ (before : List B2vec2) (m : ℕ) (vs : List B2vec2) where
    few_corners : (o : Option (List ℕ)) → WalkResult ps before o (Some m) vs → m < 3
        → refused walk_not_closed old ≡ outline_of_row old ps o
    few_corners none walked few = absurd (subst T (ap is_some walked) tt)
    few_corners (some places) walked few =
        let same = count_is ps before m vs places walked in simp (lt-ltb (length places) 3 (omega arith))

    of_corners : (o : Option (List ℕ)) → WalkResult ps before o (Some m) vs → 3 ≤ m
        → outline_of_corners old (take m vs) ≡ outline_of_row old ps o
    of_corners none walked enough = absurd (subst T (ap is_some walked) tt)
    of_corners (some places) walked enough =
        let same = count_is ps before m vs places walked in
        ap (outline_of_corners old) (corners_are ps before m vs places walked)
        ∙ ap (λ (t : Bool). cond t (refused walk_not_closed old) (outline_of_corners old (map (point_at ps) places)))
        (sym (le-ltb (length places) 3 (omega arith)))

-- ---- what is known after welding, of the n points kept, and after the walk, of the m corners
module _ (old : B2polygonShape) (points : List B2vec2) (count : ℕ) where
  pub record AfterWeld (n : ℕ) (ps : List B2vec2) : Type 0 where
    pub kept_length : length (take n ps) ≡ n
    pub kept_so : outline_of_welded old (take n ps) ≡ b2_polygon_shape_set_counted old points count

  pub record AfterWalk (m : ℕ) (vs : List B2vec2) : Type 0 where
    pub corners_length : length (take m vs) ≡ m
    pub corners_over : vs ≡ put_first (take m vs) old.m_vertices
    pub corners_so : outline_of_corners old (take m vs) ≡ b2_polygon_shape_set_counted old points count

  module _ (n : ℕ) (ps : List B2vec2) where
    pub after_weld : 3 ≤ count → count ≤ 8 → length points ≡ 8 → all_points point_in_range (take count points) ≡ true
        → n ≤ count → length ps ≡ 8 → take n ps ≡ welded (take count points) → AfterWeld n ps
    after_weld enough not_more eight inside fewer room welds = record {
      kept_length = length-take-le n ps (omega arith);
      kept_so = of_welded old points count enough not_more eight (take n ps) inside welds;
    }

    module _ (known : AfterWeld n ps) (enough : 3 ≤ n) where
      row_so : outline_of_row old (take n ps) (row (take n ps)) ≡ b2_polygon_shape_set_counted old points count
      row_so = let same = known.kept_length in of_row old (take n ps) (omega arith) ∙ known.kept_so

      pub walk_not_back : (vs : List B2vec2) → WalkResult (take n ps) old.m_vertices (row (take n ps)) None vs
          → refused walk_not_closed old ≡ b2_polygon_shape_set_counted old points count
      walk_not_back vs walked = not_back old (take n ps) old.m_vertices vs (row (take n ps)) walked ∙ row_so

      module _ (m : ℕ) (vs : List B2vec2)
          (walked : WalkResult (take n ps) old.m_vertices (row (take n ps)) (Some m) vs) where
        pub walk_too_short : m < 3 → refused walk_not_closed old ≡ b2_polygon_shape_set_counted old points count
        walk_too_short few = few_corners old (take n ps) old.m_vertices m vs (row (take n ps)) walked few ∙ row_so

        pub after_walk : 3 ≤ m → AfterWalk m vs
        after_walk closed = record {
          corners_length = corners_count (take n ps) old.m_vertices m vs (row (take n ps)) walked;
          corners_over = over_vertices (take n ps) old.m_vertices m vs (row (take n ps)) walked;
          corners_so = of_corners old (take n ps) old.m_vertices m vs (row (take n ps)) walked closed ∙ row_so;
        }

-- ---- 5: edges and area
short_edge : (es old new : List B2vec2) (t : Bool) → NormalsResult es old t false new → t ≡ false
short_edge es old new true faced = sym faced.0
short_edge es old new false faced = refl

pub long_edges : (es old new : List B2vec2) (t : Bool) → NormalsResult es old t true new
    → (t ≡ true) × (new ≡ put_first (map normal_of_edge es) old)
long_edges es old new true faced = (refl, faced.1)
long_edges es old new false faced = absurd (subst T faced tt)

module _ (old : B2polygonShape) (corners : List B2vec2) where
  pub edge_too_short : (before new : List B2vec2) → NormalsResult (edges corners) before (long_enough (edges corners))
      false new
      → refused edge_or_area_too_small old ≡ outline_of_corners old corners
  unfolding outline_of_corners
  edge_too_short before new faced = simp (short_edge (edges corners) before new (long_enough (edges corners)) faced)

  module _ (sum : FanSum) (all_long : long_enough (edges corners) ≡ true) (sum_is_lem : sum ≡ fan corners) where
    pub area_too_small : lt b2_epsilon sum.area ≡ false
        → refused edge_or_area_too_small old ≡ outline_of_corners old corners
    unfolding outline_of_corners
    area_too_small small = simp (all_long, ap (λ (x : FanSum). lt b2_epsilon x.area) (sym sum_is_lem) ∙ small)

    pub outline_built : (vs ns : List B2vec2) (m : ℕ) (s scaled centroid : B2vec2) → lt b2_epsilon sum.area ≡ true
        → vs ≡ put_first corners old.m_vertices
        → ns ≡ put_first (map normal_of_edge (edges corners)) old.m_normals → m ≡ length corners
        → scaled ≡ b2_scale (div binary32 one32 sum.area) sum.moment → centroid ≡ b2_add scaled s
        → s ≡ point_at corners 0
        → record {
          refusal = accepted;
          shape = record {
            m_radius = old.m_radius;
            m_centroid = centroid;
            m_vertices = vs;
            m_normals = ns;
            m_count = m;
          };
        } ≡ outline_of_corners old corners
    unfolding outline_of_corners
    outline_built vs ns m s scaled centroid large vs_is ns_is m_is scaled_is centroid_is s_is =
        (simp (vs_is, ns_is, m_is, centroid_is, scaled_is, s_is, sum_is_lem))
        ∙ sym (ap (λ (t : Bool). cond t (finished old corners (fan corners)) (refused edge_or_area_too_small old))
        accepts)
      where
        accepts : long_enough (edges corners) && lt b2_epsilon (fan corners).area ≡ true
        accepts = simp (all_long, ap (λ (x : FanSum). lt b2_epsilon x.area) (sym sum_is_lem) ∙ large)
