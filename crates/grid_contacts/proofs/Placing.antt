-- Grid points, turned by quarters, added, subtracted and carried by placements on the grid, stay on the grid and are
-- exact in f32; and so is a corner of outline 1 seen from the frame of outline 2, as b2_find_max_separation sees it.
-- Assumes nothing.
use Prim.Native.Nat.{ℕ, ◌+◌, ◌*◌, ◌^◌}
use native.Mathlib.Omega.{arith}
use lib.Dec.{T, leb}
use lib.Ieee.{binary32, add, sub}
use Rattle.algebra.specs.Integer.{◌⊞◌, ◌⊟◌, ◌⊛◌}
use Rattle.algebra.specs.Plane.{Point, SameVector, sum_of, from_to}
use Rattle.algebra.proofs.Integer.{same_trans, sum_same, difference_same, multiple_same}
use Rattle.algebra.proofs.Plane.{vector_refl, vector_trans}
use Rattle.rounding.specs.Value.{metre, F32, val}
use Rattle.rounding.proofs.Caps.{Capped}
use Rattle.floats.specs.declared.b2_math.B2vec2.{B2vec2}
use Rattle.floats.specs.declared.b2_math.B2Rot.{B2Rot}
use Rattle.floats.specs.declared.b2_math.B2Transform.{B2Transform}
use Rattle.floats.specs.B2Math.{b2_add, b2_sub, b2_mul_rot_by_vec2, b2_mul_t_rot_by_vec2, b2_mul_transform_by_vec2}
use Rattle.floats.specs.B2Math.{b2_mul_t_transform}
use Rattle.floats.proofs.Vectors.{carry_is}
use Rattle.grid.specs.Grid.{steps_per_metre, grid_limit, StepsPoint, GridPoint, value_point}
use Rattle.grid.proofs.Exact.{ExactVec, steps_add, add_is, steps_vec_sub, sub_is, steps_metres, counts}
use Rattle.grid.proofs.Limits.{vector_limit}
use Rattle.grid_contacts.specs.Placement.{QuarterTurn, turned, Turning, GridPlacement, carried}
use Rattle.grid_contacts.proofs.Turns.{turned_same, turned_abs, turned_multiple, turned_sum, turned_from_to}
use Rattle.grid_contacts.proofs.Turns.{reversed, turn_undone, after, turned_after}
use Rattle.grid_contacts.proofs.ExactTurns.{turn_exact, turn_back_exact, frame_turn_exact}

-- v is at most n steps in each coordinate, and its value is p
pub record GridVec (n : ℕ) (v : B2vec2) (p : Point) : Type 0 where
  pub steps : StepsPoint n v
  pub is : SameVector (value_point v) p

grid_vec : {n : ℕ} {v : B2vec2} → StepsPoint n v → GridVec n v (value_point v)
grid_vec {v = v} steps = record { steps = steps; is = vector_refl (value_point v) }

-- sizes in metres
pub point_capped : {n : ℕ} {v : B2vec2} (h : ℕ) → T (leb n (steps_per_metre * h)) → StepsPoint n v
    → Capped v.x h × Capped v.y h
point_capped h low steps = (
  record { own = steps.0.own; cap = steps_metres h low steps.0 },
  record { own = steps.1.own; cap = steps_metres h low steps.1 },
)

-- ---- sums and differences
module _ {m n : ℕ} {v w : B2vec2} {p q : Point} (few : T (leb (m + n) (2 ^ 24))) (v_grid : GridVec m v p)
    (w_grid : GridVec n w q) where
  grid_vec_add : GridVec (m + n) (b2_add v w) (sum_of p q)
  unfolding b2_add
  grid_vec_add = record {
    steps = (
      steps_add few v_grid.steps.0 w_grid.steps.0,
      steps_add few v_grid.steps.1 w_grid.steps.1,
    );
    is = (
      same_trans (val (add binary32 v.x w.x)) (val v.x ⊞ val w.x) (p.x ⊞ q.x)
          (add_is few v_grid.steps.0 w_grid.steps.0)
          (sum_same (val v.x) p.x (val w.x) q.x v_grid.is.0 w_grid.is.0),
      same_trans (val (add binary32 v.y w.y)) (val v.y ⊞ val w.y) (p.y ⊞ q.y)
          (add_is few v_grid.steps.1 w_grid.steps.1)
          (sum_same (val v.y) p.y (val w.y) q.y v_grid.is.1 w_grid.is.1),
    );
  }

  grid_vec_sub : GridVec (m + n) (b2_sub v w) (from_to q p)
  unfolding b2_sub
  grid_vec_sub = record {
    steps = steps_vec_sub few v_grid.steps w_grid.steps;
    is = (
      same_trans (val (sub binary32 v.x w.x)) (val v.x ⊟ val w.x) (p.x ⊟ q.x)
          (sub_is few v_grid.steps.0 w_grid.steps.0)
          (difference_same (val v.x) p.x (val w.x) q.x v_grid.is.0 w_grid.is.0),
      same_trans (val (sub binary32 v.y w.y)) (val v.y ⊟ val w.y) (p.y ⊟ q.y)
          (sub_is few v_grid.steps.1 w_grid.steps.1)
          (difference_same (val v.y) p.y (val w.y) q.y v_grid.is.1 w_grid.is.1),
    );
  }

-- ---- turns: the counts of steps are turned too
turned_grid : {n : ℕ} {v w : B2vec2} (turn : QuarterTurn) (p : Point) → GridVec n v p
    → ExactVec w (turned turn (value_point v)) → GridVec n w (turned turn p)
turned_grid {n} {v} {w} turn p v_grid w_exact =
    let k = counts v_grid.steps in
    let turned_k = turned turn k in
    let most = turned_abs turn k n (v_grid.steps.0.most, v_grid.steps.1.most) in
    let whole_steps = turned_multiple turn steps_per_metre metre (value_point v) k
    (v_grid.steps.0.is, v_grid.steps.1.is) in
    let turned_v = turned turn (value_point v) in
    record {
      steps = (
        record {
          own = w_exact.x_own;
          count = turned_k.x;
          is = same_trans (steps_per_metre ⊛ val w.x) (steps_per_metre ⊛ turned_v.x) (metre ⊛ turned_k.x)
              (multiple_same steps_per_metre (val w.x) turned_v.x w_exact.is.0) whole_steps.0;
          most = most.0;
        },
        record {
          own = w_exact.y_own;
          count = turned_k.y;
          is = same_trans (steps_per_metre ⊛ val w.y) (steps_per_metre ⊛ turned_v.y) (metre ⊛ turned_k.y)
              (multiple_same steps_per_metre (val w.y) turned_v.y w_exact.is.1) whole_steps.1;
          most = most.1;
        },
      );
      is = vector_trans (value_point w) turned_v (turned turn p) w_exact.is
          (turned_same turn (value_point v) p v_grid.is);
    }

module _ {q : B2Rot} {turn : QuarterTurn} (t : Turning q turn) {n : ℕ} {v : B2vec2} {p : Point}
    (v_grid : GridVec n v p) where
  grid_vec_turned : GridVec n (b2_mul_rot_by_vec2 q v) (turned turn p)
  grid_vec_turned = turned_grid turn p v_grid (turn_exact t v_grid.steps.0.own v_grid.steps.1.own)

  grid_vec_turned_back : GridVec n (b2_mul_t_rot_by_vec2 q v) (turned (reversed turn) p)
  grid_vec_turned_back =
      turned_grid (reversed turn) p v_grid (turn_back_exact t v_grid.steps.0.own v_grid.steps.1.own)

-- ---- a grid point, carried by a placement: at most 8 m in each coordinate
pub carry_exact : {t : B2Transform} (g : GridPlacement t) {v : B2vec2} → GridPoint v
    → GridVec vector_limit (b2_mul_transform_by_vec2 t v) (carried g (value_point v))
carry_exact {t} g {v} v_grid =
    rw (carry_is t v) (grid_vec_add tt (grid_vec_turned g.turning (grid_vec v_grid)) (grid_vec g.position))

-- ---- from corner v1 of outline 1 to corner v2 of outline 2, in frame 2: at most 16 m in each coordinate
abbrev pub gap_limit : ℕ
gap_limit = grid_limit + (grid_limit + vector_limit)

module _ {xf1 xf2 : B2Transform} (g1 : GridPlacement xf1) (g2 : GridPlacement xf2) where
  -- the turn and the origin of frame 1, seen from frame 2
  abbrev pub frame_turn : QuarterTurn
  frame_turn = after (reversed g2.turn) g1.turn

  abbrev frame_origin : Point
  frame_origin = turned (reversed g2.turn) (from_to (value_point xf2.p) (value_point xf1.p))

  abbrev pub gap : B2vec2 → B2vec2 → Point
  gap v1 v2 = from_to (sum_of (turned frame_turn (value_point v1)) frame_origin) (value_point v2)

  abbrev xf : B2Transform
  xf = b2_mul_t_transform xf2 xf1

  pub frame_turning : Turning xf.q frame_turn
  unfolding b2_mul_t_transform
  frame_turning = frame_turn_exact g2.turning g1.turning

  origin_exact : GridVec vector_limit xf.p frame_origin
  unfolding b2_mul_t_transform
  origin_exact = grid_vec_turned_back g2.turning
      (grid_vec_sub tt (grid_vec g1.position) (grid_vec g2.position))

  module _ {v1 v2 : B2vec2} (v1_grid : GridPoint v1) (v2_grid : GridPoint v2) where
    pub gap_exact : GridVec gap_limit (b2_sub v2 (b2_mul_transform_by_vec2 xf v1)) (gap v1 v2)
    gap_exact =
        rw (carry_is xf v1) (grid_vec_sub tt (grid_vec v2_grid)
        (grid_vec_add tt (grid_vec_turned frame_turning (grid_vec v1_grid)) origin_exact))

  -- turned by placement 2, it is the vector from the carried v1 to the carried v2
  pub gap_turned : (v1 v2 : B2vec2)
      → SameVector (turned g2.turn (gap v1 v2)) (from_to (carried g1 (value_point v1)) (carried g2 (value_point v2)))
  gap_turned v1 v2 =
      let turn = g2.turn in
      let back = reversed turn in
      let w = turned g1.turn (value_point v1) in
      let o = from_to (value_point xf2.p) (value_point xf1.p) in
      let seen = sum_of (turned frame_turn (value_point v1)) frame_origin in
      let u = turned turn (value_point v2) in
      let goal = from_to (carried g1 (value_point v1)) (carried g2 (value_point v2)) in
      vector_trans (turned turn (gap v1 v2)) (from_to (turned turn seen) u) goal
      (turned_from_to turn seen (value_point v2))
      (parted (turned turn seen) w u (value_point xf1.p) (value_point xf2.p)
      (vector_trans (turned turn seen) (turned turn (turned back (sum_of w o))) (sum_of w o)
      (turned_same turn seen (turned back (sum_of w o))
      (gathered (turned frame_turn (value_point v1)) (turned back w) (turned back o) (turned back (sum_of w o))
      (turned_after back g1.turn (value_point v1)) (turned_sum back w o)))
      (turn_undone turn (sum_of w o))))
    where
      gathered : (a b c d : Point) → SameVector a b → SameVector d (sum_of b c) → SameVector (sum_of a c) d
      gathered a b c d h k = (omega arith, omega arith)

      parted : (s w u p r : Point) → SameVector s (sum_of w (from_to r p))
          → SameVector (from_to s u) (from_to (sum_of w p) (sum_of u r))
      parted s w u p r h = (omega arith, omega arith)

  -- a vector n of outline 1 seen from frame 2: turned by placement 2, it is n turned by placement 1
  pub frame_vector : {n : B2vec2} → F32 n.x → F32 n.y
      → SameVector (turned g2.turn (value_point (b2_mul_rot_by_vec2 xf.q n))) (turned g1.turn (value_point n))
  frame_vector {n} x_own y_own =
      let e = turn_exact frame_turning x_own y_own in
      let seen = value_point (b2_mul_rot_by_vec2 xf.q n) in
      let w = turned g1.turn (value_point n) in
      let back = turned (reversed g2.turn) w in
      vector_trans (turned g2.turn seen) (turned g2.turn back) w
      (turned_same g2.turn seen back (vector_trans seen (turned frame_turn (value_point n)) back e.is
      (turned_after (reversed g2.turn) g1.turn (value_point n))))
      (turn_undone g2.turn w)
