-- Closed cases, computed by antt from the builder's definition, and witnesses that the hypotheses of the theorems can
-- be met: a list with a repeat, a point on an edge and both zeros; the smallest triangle of the grid and the largest
-- square; a list on one line; one with two different points; too many points. And the bounds of normals as fractions.
-- Assumes nothing.
use mathlib.Core.Path.{◌≡◌, refl, sym, ap, subst}
use mathlib.Core.List.Memᴰ
use mathlib.Core.List.{List, [], ◌∷◌, Memᴰ, map}
use mathlib.Core.Bool.{Bool, true, ◌&&◌}
use mathlib.Core.Logic.{◌⊎◌, inl, inr}
use Prim.Native.Nat.{ℕ, ◌+◌, ◌*◌, ◌/◌, ◌^◌}
use native.Mathlib.Omega.{arith}
use lib.Dec.{T, ltb, leb, eqb, leb→le}
use mir.Facts.{and_yes}
use lib.ListN.{take, replicate}
use lib.Ieee.{of_bits, neg, add, sub, mul, le}
use Rattle.algebra.specs.Integer.{signed}
use Rattle.algebra.proofs.Magnitude.{abs_signed}
use Rattle.floats.specs.declared.b2_math.B2vec2.{B2vec2}
use Rattle.floats.specs.B2Common.{b2_polygon_radius}
use Rattle.floats.specs.B2Math.{b2_sub, b2_dot, b2_cross, b2_length_squared, b2_distance_vec2_squared}
use Rattle.floats.specs.Ranges.{point_in_range}
use Rattle.floats.proofs.BitPatterns.{float, vector}
use Rattle.floats.proofs.Constants.{skin_in_range}
use Rattle.rounding.proofs.Literals.{bits_sign, bits_field, bits_units, bits_dyadic}
use Rattle.hull.specs.Hull.{OnLine, ThreeDifferent}
use Rattle.shape_definitions.specs.declared.b2_polygon_shape.B2polygonShape.{B2polygonShape}
use Rattle.shape_definitions.specs.Outline.{origin, too_near, welded, comes_before, start, closer, next, row, edges}
use Rattle.shape_definitions.specs.Outline.{long_enough, fan}
use Rattle.shape_definitions.specs.Polygon.{outline_of_corners, outline_of_welded, b2_polygon_shape_set}
use Rattle.shape_definitions.specs.Validate.{polygon_in_range}
use Rattle.grid.specs.Grid.{grid_limit, GridNumber, GridPoint, GridList, values}
use Rattle.grid.specs.Demand3.{ThreeToEight, HullRow, built_corners, refusal_of, outline_from}
use Rattle.rounding.specs.Value.{metre, tick}
use Rattle.rounding.proofs.Value.{metre_ticks}
use Rattle.floats.specs.NearUnit.{normal_bound, direction_error, length_error}
use Rattle.grid.specs.GridOutline.{GridOutline}
use Rattle.grid.proofs.Theorem.{first_sentence, built_outline, built_in_range}

-- ---- lists by the bit patterns of their coordinates: 0, -0, 1/256, 1/2, 1, 2, 4 and -4
abbrev pub points : List (ℕ × ℕ) → List B2vec2
points l = map (λ b. vector b.0 b.1) l

abbrev pub minus_zero : ℕ
minus_zero = 0x8000_0000

abbrev step : ℕ
step = 0x3b80_0000

abbrev pub half : ℕ
half = 0x3f00_0000

abbrev pub one : ℕ
one = 0x3f80_0000

abbrev pub two : ℕ
two = 0x4000_0000

abbrev four : ℕ
four = 0x4080_0000

abbrev minus_four : ℕ
minus_four = 0xc080_0000

abbrev pub square : List (ℕ × ℕ)
square = (0, 0) ∷ (one, 0) ∷ (one, one) ∷ (minus_zero, one) ∷ (half, 0) ∷ (one, minus_zero) ∷ []

abbrev smallest : List (ℕ × ℕ)
smallest = (0, 0) ∷ (0, step) ∷ (step, 0) ∷ []

abbrev largest : List (ℕ × ℕ)
largest = (four, four) ∷ (minus_four, minus_four) ∷ (four, minus_four) ∷ (minus_four, four) ∷ []

abbrev on_line : List (ℕ × ℕ)
on_line = (0, 0) ∷ (one, 0) ∷ (two, 0) ∷ []

abbrev two_different : List (ℕ × ℕ)
two_different = (0, 0) ∷ (one, 0) ∷ (minus_zero, minus_zero) ∷ []

abbrev nine : List (ℕ × ℕ)
nine = replicate 9 (0, 0)

-- ---- what the builder computes: refusals, and the corners bit for bit
pub record Computed (old : B2polygonShape) : Type 0 where
  pub square_accepted : refusal_of old (points square) ≡ 0
  pub square_corners : take (outline_from old (points square)).m_count
      (outline_from old (points square)).m_vertices
      ≡ points ((one, 0) ∷ (one, one) ∷ (minus_zero, one) ∷ (0, 0) ∷ [])
  pub smallest_accepted : refusal_of old (points smallest) ≡ 0
  pub smallest_corners : take (outline_from old (points smallest)).m_count
      (outline_from old (points smallest)).m_vertices
      ≡ points ((step, 0) ∷ (0, step) ∷ (0, 0) ∷ [])
  pub largest_accepted : refusal_of old (points largest) ≡ 0
  pub on_line_refused : refusal_of old (points on_line) ≡ 4
  pub two_different_refused : refusal_of old (points two_different) ≡ 3
  pub nine_refused : refusal_of old (points nine) ≡ 1

pub computed : (old : B2polygonShape) → Computed old
unfolding b2_polygon_shape_set outline_of_welded outline_of_corners welded start next row edges long_enough fan
    too_near comes_before closer point_in_range b2_sub b2_dot b2_cross b2_length_squared b2_distance_vec2_squared le
    neg add sub mul of_bits
computed old = record {
  square_accepted = refl;
  square_corners = refl;
  smallest_accepted = refl;
  smallest_corners = refl;
  largest_accepted = refl;
  on_line_refused = refl;
  two_different_refused = refl;
  nine_refused = refl;
}

-- ---- they are on the grid, by a computed test
abbrev steps_of : ℕ → ℕ
steps_of b = 2 ^ 8 * bits_units b / 2 ^ 149

abbrev pub on_grid : ℕ → Bool
on_grid b = ltb (bits_field b) 255 && (eqb (2 ^ 8 * bits_units b) (2 ^ 149 * steps_of b) && leb (steps_of b) grid_limit)

pub grid_number : (b : ℕ) → T (on_grid b) → GridNumber (float b)
grid_number b t =
    let finite = and_yes (ltb (bits_field b) 255)
    (eqb (2 ^ 8 * bits_units b) (2 ^ 149 * steps_of b) && leb (steps_of b) grid_limit) t in
    let whole_steps = and_yes (eqb (2 ^ 8 * bits_units b) (2 ^ 149 * steps_of b)) (leb (steps_of b) grid_limit)
    finite.1 in
    let d = bits_dyadic b (steps_of b) 8 finite.0 whole_steps.0 in
    record {
      own = d.own;
      count = signed (bits_sign b) (steps_of b);
      is = d.is;
      most = abs_signed (bits_sign b) (steps_of b) grid_limit (leb→le (steps_of b) grid_limit whole_steps.1);
    }

abbrev pub all_on_grid : List (ℕ × ℕ) → Bool
all_on_grid [] = true
all_on_grid (b ∷ l) = (on_grid b.0 && on_grid b.1) && all_on_grid l

pub grid_list : (l : List (ℕ × ℕ)) → T (all_on_grid l) → GridList (points l)
grid_list [] t v m = absurd (Memᴰ.not-nil m)
grid_list (b ∷ l) t v m =
    let both = and_yes (on_grid b.0 && on_grid b.1) (all_on_grid l) t in
    let here = and_yes (on_grid b.0) (on_grid b.1) both.0 in
    go (grid_number b.0 here.0, grid_number b.1 here.1) (grid_list l both.1 v) (Memᴰ.cases_cons m)
  where
    go : GridPoint (vector b.0 b.1) → (Memᴰ v (points l) → GridPoint v)
        → (v ≡ vector b.0 b.1) ⊎ Memᴰ v (points l)
        → GridPoint v
    go first later (inl e) = subst GridPoint (sym e) first
    go first later (inr k) = later k

-- ---- the theorems on them
square_suitable : (old : B2polygonShape) → ThreeToEight (points square) × (¬ OnLine (values (points square)))
square_suitable old =
    (first_sentence old (points square) (grid_list square tt)).accepted_exactly_when.0 (computed old).square_accepted

square_hull : (old : B2polygonShape)
    → HullRow (values (points square)) (built_corners (outline_from old (points square)))
square_hull old =
    (first_sentence old (points square) (grid_list square tt)).corners_are_hull (computed old).square_accepted

smallest_suitable : (old : B2polygonShape) → ThreeToEight (points smallest) × (¬ OnLine (values (points smallest)))
smallest_suitable old = (first_sentence old (points smallest) (grid_list smallest tt)).accepted_exactly_when.0
    (computed old).smallest_accepted

largest_suitable : (old : B2polygonShape) → ThreeToEight (points largest) × (¬ OnLine (values (points largest)))
largest_suitable old =
    (first_sentence old (points largest)
    (grid_list largest tt)).accepted_exactly_when.0 (computed old).largest_accepted

on_line_is : (old : B2polygonShape) → ThreeToEight (points on_line) × ThreeDifferent (values (points on_line)) × OnLine
    (values (points on_line))
on_line_is old =
    (first_sentence old (points on_line) (grid_list on_line tt)).on_one_line.0 (computed old).on_line_refused

two_different_is : (old : B2polygonShape)
    → ThreeToEight (points two_different) × (¬ ThreeDifferent (values (points two_different)))
two_different_is old = (first_sentence old (points two_different) (grid_list two_different tt)).too_few_different.0
    (computed old).two_different_refused

-- an outline with the default skin
abbrev pub skinned : B2polygonShape
skinned = record {
  m_radius = b2_polygon_radius;
  m_centroid = origin;
  m_vertices = replicate 8 origin;
  m_normals = replicate 8 origin;
  m_count = 0;
}

square_outline : GridOutline (outline_from skinned (points square))
square_outline = built_outline skinned (points square) (grid_list square tt) (computed skinned).square_accepted

square_in_range : T (polygon_in_range (outline_from skinned (points square)))
square_in_range =
    built_in_range skinned (points square) (grid_list square tt) (computed skinned).square_accepted skin_in_range

-- ---- the bounds of normals as fractions: 1 + 2^-21, 2^-22 and 2^-19
normal_bound_is : 2 ^ 21 * normal_bound ≡ (2 ^ 21 + 1) * metre
normal_bound_is = let e = metre_ticks in omega arith

direction_error_is : (l : ℕ) → 2 ^ 22 * direction_error l ≡ metre * l
direction_error_is l = let e : metre * l ≡ 2 ^ 25 * tick * l = ap (λ (n : ℕ). n * l) metre_ticks in omega arith

length_error_is : 2 ^ 19 * length_error ≡ metre
length_error_is = let e = metre_ticks in omega arith
