-- Quarter turns are exact in f32 at every number, -0 included: one factor of each product is 0, 1 or -1, and one of the
-- two products is 0. So are the turn back and the turn that one frame has from another. Assumes nothing.
use native.Mathlib.Omega.{arith}
use lib.Ieee.{Float, binary32, neg, add, sub, mul}
use Rattle.algebra.specs.Integer.{Z, whole, ◌⊞◌, ◌⊟◌, ◌⊠◌, ◌⊛◌, opp, ◌≐◌}
use Rattle.algebra.specs.Plane.{Point}
use Rattle.algebra.proofs.Integer.{same_trans, multiple_same}
use Rattle.rounding.specs.Value.{metre, F32, val}
use Rattle.rounding.proofs.Value.{neg_f32, val_neg}
use Rattle.rounding.proofs.Exact.{Is}
use Rattle.rounding.proofs.UnitFactors.{one_mul_exact, minus_one_mul_exact, zero_mul_exact, sub_zero_exact}
use Rattle.rounding.proofs.UnitFactors.{zero_sub_exact, add_zero_exact, zero_add_exact}
use Rattle.floats.specs.declared.b2_math.B2vec2.{B2vec2}
use Rattle.floats.specs.declared.b2_math.B2Rot.{B2Rot}
use Rattle.floats.specs.B2Math.{rot, b2_mul_t_rot, b2_mul_rot_by_vec2, b2_mul_t_rot_by_vec2}
use Rattle.grid.specs.Grid.{value_point}
use Rattle.grid.proofs.Exact.{ExactVec}
use Rattle.grid_contacts.specs.Placement.{QuarterTurn, unturned, to_left, about, to_right, sine, cosine, turned}
use Rattle.grid_contacts.specs.Placement.{Turning}
use Rattle.grid_contacts.proofs.Turns.{turned_multiple, reversed, after, direction, direction_after}

-- ---- sums and differences of two numbers of which one is 0
data OneZero (v w : Z) : Type 0 where
  first_zero : v ≐ whole 0 → OneZero v w
  second_zero : w ≐ whole 0 → OneZero v w

module _ {a b : Float} {v w : Z} (a_is : Is a v) (b_is : Is b w) where
  sum_exact : OneZero v w → Is (add binary32 a b) (v ⊞ w)
  sum_exact (first_zero e) =
      let first = a_is.is in
      let second = b_is.is in
      let r = zero_add_exact a_is.own b_is.own (omega arith) in
      record { own = r.own; is = same_trans (val (add binary32 a b)) (val b) (v ⊞ w) r.is (omega arith) }
  sum_exact (second_zero e) =
      let first = a_is.is in
      let second = b_is.is in
      let r = add_zero_exact a_is.own b_is.own (omega arith) in
      record { own = r.own; is = same_trans (val (add binary32 a b)) (val a) (v ⊞ w) r.is (omega arith) }

  difference_exact : OneZero v w → Is (sub binary32 a b) (v ⊟ w)
  difference_exact (first_zero e) =
      let first = a_is.is in
      let second = b_is.is in
      let r = zero_sub_exact a_is.own b_is.own (omega arith) in
      record { own = r.own; is = same_trans (val (sub binary32 a b)) (opp (val b)) (v ⊟ w) r.is (omega arith) }
  difference_exact (second_zero e) =
      let first = a_is.is in
      let second = b_is.is in
      let r = sub_zero_exact a_is.own b_is.own (omega arith) in
      record { own = r.own; is = same_trans (val (sub binary32 a b)) (val a) (v ⊟ w) r.is (omega arith) }

-- ---- products
-- k is 0, 1 or -1
data Unit : Z → Type 0 where
  zero_unit : Unit (whole 0)
  one_unit : Unit (whole 1)
  minus_unit : Unit (opp (whole 1))

unit_times : {k : Z} {u x : Float} → Unit k → F32 u → F32 x → val u ≐ metre ⊛ k → Is (mul binary32 u x) (k ⊠ val x)
unit_times {u = u} {x = x} zero_unit u_own x_own e =
    let r = zero_mul_exact u_own x_own (omega arith) in
    record { own = r.own; is = same_trans (val (mul binary32 u x)) (whole 0) (whole 0 ⊠ val x) r.is (omega arith) }
unit_times {u = u} {x = x} one_unit u_own x_own e =
    let r = one_mul_exact u_own x_own (omega arith) in
    record { own = r.own; is = same_trans (val (mul binary32 u x)) (val x) (whole 1 ⊠ val x) r.is (omega arith) }
unit_times {u = u} {x = x} minus_unit u_own x_own e =
    let r = minus_one_mul_exact u_own x_own (omega arith) in
    record {
      own = r.own;
      is = same_trans (val (mul binary32 u x)) (opp (val x)) (opp (whole 1) ⊠ val x) r.is (omega arith);
    }

sine_unit : (turn : QuarterTurn) → Unit (sine turn)
sine_unit unturned = zero_unit
sine_unit to_left = one_unit
sine_unit about = zero_unit
sine_unit to_right = minus_unit

cosine_unit : (turn : QuarterTurn) → Unit (cosine turn)
cosine_unit unturned = one_unit
cosine_unit to_left = zero_unit
cosine_unit about = minus_unit
cosine_unit to_right = zero_unit

one_zero : (turn : QuarterTurn) (v w : Z) → OneZero (cosine turn ⊠ v) (sine turn ⊠ w)
one_zero unturned v w = second_zero (omega arith)
one_zero to_left v w = first_zero (omega arith)
one_zero about v w = second_zero (omega arith)
one_zero to_right v w = first_zero (omega arith)

other_way : {v w : Z} → OneZero v w → OneZero w v
other_way (first_zero e) = second_zero e
other_way (second_zero e) = first_zero e

module _ {q : B2Rot} {turn : QuarterTurn} (t : Turning q turn) {x y : Float} (x_own : F32 x) (y_own : F32 y) where
  s_times : Is (mul binary32 q.s x) (sine turn ⊠ val x)
  s_times = unit_times (sine_unit turn) t.s_own x_own t.s_is

  c_times : Is (mul binary32 q.c y) (cosine turn ⊠ val y)
  c_times = unit_times (cosine_unit turn) t.c_own y_own t.c_is

-- c x - s y, s x + c y and c x + s y
module _ {q : B2Rot} {turn : QuarterTurn} (t : Turning q turn) {x y : Float} (x_own : F32 x) (y_own : F32 y) where
  turned_x : Is (sub binary32 (mul binary32 q.c x) (mul binary32 q.s y)) (cosine turn ⊠ val x ⊟ sine turn ⊠ val y)
  turned_x = difference_exact (c_times t y_own x_own) (s_times t y_own x_own) (one_zero turn (val x) (val y))

  turned_y : Is (add binary32 (mul binary32 q.s x) (mul binary32 q.c y)) (sine turn ⊠ val x ⊞ cosine turn ⊠ val y)
  turned_y = sum_exact (s_times t x_own y_own) (c_times t x_own y_own) (other_way (one_zero turn (val y) (val x)))

  back_x : Is (add binary32 (mul binary32 q.c x) (mul binary32 q.s y)) (cosine turn ⊠ val x ⊞ sine turn ⊠ val y)
  back_x = sum_exact (c_times t y_own x_own) (s_times t y_own x_own) (one_zero turn (val x) (val y))

-- ---- vectors
-- the turn back, whose sine is negated
turning_back : {q : B2Rot} {turn : QuarterTurn} → Turning q turn → Turning (rot (neg q.s) q.c) (reversed turn)
turning_back {q} {turn} t = record {
  s_own = neg_f32 t.s_own;
  c_own = t.c_own;
  s_is = rw val_neg (s_back turn (val q.s) t.s_is);
  c_is = c_back turn (val q.c) t.c_is;
}
  where
    s_back : (turn : QuarterTurn) (v : Z) → v ≐ metre ⊛ sine turn → opp v ≐ metre ⊛ sine (reversed turn)
    s_back unturned v e = omega arith
    s_back to_left v e = omega arith
    s_back about v e = omega arith
    s_back to_right v e = omega arith

    c_back : (turn : QuarterTurn) (v : Z) → v ≐ metre ⊛ cosine turn → v ≐ metre ⊛ cosine (reversed turn)
    c_back unturned v e = e
    c_back to_left v e = e
    c_back about v e = e
    c_back to_right v e = e

back_same : (turn : QuarterTurn) (v w : Z)
    → cosine turn ⊠ v ⊞ sine turn ⊠ w ≐ cosine (reversed turn) ⊠ v ⊟ sine (reversed turn) ⊠ w
back_same unturned v w = omega arith
back_same to_left v w = omega arith
back_same about v w = omega arith
back_same to_right v w = omega arith

module _ {q : B2Rot} {turn : QuarterTurn} (t : Turning q turn) {v : B2vec2} (x_own : F32 v.x)
    (y_own : F32 v.y) where
  pub turn_exact : ExactVec (b2_mul_rot_by_vec2 q v) (turned turn (value_point v))
  unfolding b2_mul_rot_by_vec2
  turn_exact =
      let x = turned_x t x_own y_own in
      let y = turned_y t x_own y_own in
      record { x_own = x.own; y_own = y.own; is = (x.is, y.is) }

  pub turn_back_exact : ExactVec (b2_mul_t_rot_by_vec2 q v) (turned (reversed turn) (value_point v))
  unfolding b2_mul_t_rot_by_vec2
  turn_back_exact =
      let x = back_x t x_own y_own in
      let y = turned_y (turning_back t) x_own y_own in
      record {
        x_own = x.own;
        y_own = y.own;
        is = (
          same_trans (val (add binary32 (mul binary32 q.c v.x) (mul binary32 q.s v.y)))
              (cosine turn ⊠ val v.x ⊞ sine turn ⊠ val v.y) (turned (reversed turn) (value_point v)).x x.is
              (back_same turn (val v.x) (val v.y)),
          y.is,
        );
      }

-- ---- the turn of frame 1 seen from frame 2: cosine and sine are the direction of turn 1, turned back by turn 2
module _ {q2 q1 : B2Rot} {turn2 turn1 : QuarterTurn} (t2 : Turning q2 turn2) (t1 : Turning q1 turn1) where
  pub frame_turn_exact : Turning (b2_mul_t_rot q2 q1) (after (reversed turn2) turn1)
  unfolding b2_mul_t_rot
  frame_turn_exact =
      let c = back_x t2 t1.c_own t1.s_own in
      let s = turned_x t2 t1.s_own t1.c_own in
      let seen : Point = record { x = val q1.c; y = val q1.s } in
      let scaled = turned_multiple (reversed turn2) 1 metre seen (direction turn1)
      (unscaled (val q1.c) (cosine turn1) t1.c_is, unscaled (val q1.s) (sine turn1) t1.s_is) in
      let is = direction_after (reversed turn2) turn1 in
      record {
        s_own = s.own;
        c_own = c.own;
        s_is = joined (val (sub binary32 (mul binary32 q2.c q1.s) (mul binary32 q2.s q1.c)))
            (cosine turn2 ⊠ val q1.s ⊟ sine turn2 ⊠ val q1.c) (turned (reversed turn2) seen).y
            (turned (reversed turn2) (direction turn1)).y (sine (after (reversed turn2) turn1)) s.is
            (back_other turn2 (val q1.c) (val q1.s)) scaled.1 is.1;
        c_is = joined (val (add binary32 (mul binary32 q2.c q1.c) (mul binary32 q2.s q1.s)))
            (cosine turn2 ⊠ val q1.c ⊞ sine turn2 ⊠ val q1.s) (turned (reversed turn2) seen).x
            (turned (reversed turn2) (direction turn1)).x (cosine (after (reversed turn2) turn1)) c.is
            (back_same turn2 (val q1.c) (val q1.s)) scaled.0 is.0;
      }
    where
      unscaled : (v k : Z) → v ≐ metre ⊛ k → 1 ⊛ v ≐ metre ⊛ k
      unscaled v k e = omega arith

      back_other : (turn : QuarterTurn) (c s : Z)
          → cosine turn ⊠ s ⊟ sine turn ⊠ c ≐ sine (reversed turn) ⊠ c ⊞ cosine (reversed turn) ⊠ s
      back_other unturned c s = omega arith
      back_other to_left c s = omega arith
      back_other about c s = omega arith
      back_other to_right c s = omega arith

      joined : (z v w k r : Z) → z ≐ v → v ≐ w → 1 ⊛ w ≐ metre ⊛ k → r ≐ k → z ≐ metre ⊛ r
      joined z v w k r h i j e = let m = multiple_same metre r k e in omega arith
