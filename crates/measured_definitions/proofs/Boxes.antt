-- Two measured boxes: the answer is right. The farthest choice with the smallest half-widths touches, then every two
-- boxes inside do; the nearest with the largest is apart, then every two are. Assumes nothing.
use mathlib.Core.Path.{refl}
use mathlib.Core.Bool.{◌&&◌}
use mathlib.Core.Logic.{inl, inr}
use Prim.Native.Nat.{ℕ, ◌+◌, ◌*◌, ◌≤◌, ◌<◌}
use native.Mathlib.Nat.{mul-le-mul_left}
use native.Mathlib.Omega.{arith}
use borrow.Author.Tests.{leb-true, leb-false}
use lib.Dec.{leb}
use lib.IntN.{ℤ, ◌+ℤ◌, ◌-ℤ◌}
use Rattle.std.proofs.Common.{Ok}
use Rattle.algebra.specs.Integer.{Z, whole, ◌⊟◌, ◌≼◌, Abs}
use Rattle.algebra.specs.Signed.{number}
use Rattle.algebra.specs.Squares.{above}
use Rattle.algebra.proofs.Booleans.{Decides, decides_same, decides_both, by_test}
use Rattle.algebra.proofs.Magnitude.{abs_widen}
use Rattle.algebra.proofs.Signed.{number_sum, number_difference, at_most}
use Rattle.measured_definitions.specs.declared.MeasuredBox.{MeasuredBox}
use Rattle.measured_definitions.specs.declared.BoxPair.{BoxPair}
use Rattle.measured_definitions.specs.Bodies.{SharePoint, box}
use Rattle.measured_definitions.specs.Verdicts.{Touching, Apart}
use Rattle.measured_definitions.specs.Boxes.{BoxLimits, BoxChoice, box_of, boxes, BoxesRight}
use Rattle.measured_definitions.specs.Axes.{nearest, farthest}
use Rattle.measured_definitions.specs.MeasuredBoxes.{box_in_limits, within, boxes_touch, nearest_boxes}
use Rattle.measured_definitions.specs.MeasuredBoxes.{farthest_boxes, boxes_within, measured_boxes}
use Rattle.measured_definitions.proofs.Axes.{AtLeast, Nearest, Farthest, nearest_of, farthest_of}
use Rattle.measured_definitions.proofs.Reach.{no_farther_apart, no_nearer, least_sizes, most_sizes, lowest_in}
use Rattle.measured_definitions.proofs.Reach.{highest_in, not_negative}
use Rattle.measured_definitions.proofs.Touch.{boxes_meet, boxes_share}
use Rattle.measured_definitions.proofs.Limits.{box_limits}

-- ---- the test
axis_test : (a b h k : ℤ) → whole 0 ≼ number h → whole 0 ≼ number k
    → Decides (within a b (h +ℤ k)) (Abs (number b ⊟ number a) (above (number h) + above (number k)))
unfolding within
axis_test a b h k h_nn k_nn =
    let up = number_difference b a in
    let down = number_difference a b in
    let s = number_sum h k in
    decides_same (λ e. let u = e.0 in let v = e.1 in (omega arith, omega arith))
    (λ e. let u = e.0 in let v = e.1 in (omega arith, omega arith))
    (decides_both _ _ (at_most (b -ℤ a) (h +ℤ k)) (at_most (a -ℤ b) (h +ℤ k)))

pub touch_test : (w : BoxPair) → whole 0 ≼ number w.a.hx → whole 0 ≼ number w.a.hy
    → whole 0 ≼ number w.b.hx → whole 0 ≼ number w.b.hy
    → Decides (boxes_touch w) (SharePoint (box (box_of w.a)) (box (box_of w.b)))
unfolding boxes_touch
touch_test w hxa hya hxb hyb =
    decides_same (boxes_share (box_of w.a) (box_of w.b)) (boxes_meet (box_of w.a) (box_of w.b))
    (decides_both _ _ (axis_test w.a.x w.b.x w.a.hx w.b.hx hxa hxb)
    (axis_test w.a.y w.b.y w.a.hy w.b.hy hya hyb))

-- ---- one axis, in units m times as small
reach : (m f n k : ℕ) (v : Z) → Abs v (m * f) → f ≤ n → m * n ≤ k → Abs v k
reach m f n k v h fn nk = let s : m * f ≤ m * n = mul-le-mul_left m fn in (omega arith, omega arith)

at_least_abs : (v : Z) (n k : ℕ) → AtLeast v n → Abs v k → n ≤ k
at_least_abs v n k (inl h) a = omega arith
at_least_abs v n k (inr (inl h)) a = omega arith
at_least_abs v n k (inr (inr h)) a = omega arith

-- from a way within k to the choice's distance within n
no_more : (m f n k : ℕ) (v : Z) → 0 < m → AtLeast v (m * f) → k ≤ m * n → Abs v k → f ≤ n
no_more m f n k v m_pos h kn near = cancel (at_least_abs v (m * f) k h near)
  where
    cancel : m * f ≤ k → f ≤ n
    cancel le = by_test (leb f n) (leb-true f n)
        (λ no. let s : m * (n + 1) ≤ m * f = mul-le-mul_left m (let l = leb-false f n no in omega arith) in
        absurd (omega arith))

-- ---- within the limits
module _ (a b : MeasuredBox) (la : BoxLimits a) (lb : BoxLimits b) where
  abbrev far_x : Farthest a.x b.x (farthest a.x b.x)
  far_x = farthest_of a.x b.x la.x lb.x

  abbrev far_y : Farthest a.y b.y (farthest a.y b.y)
  far_y = farthest_of a.y b.y la.y lb.y

  abbrev near_x : Nearest a.x b.x (nearest a.x b.x)
  near_x = nearest_of a.x b.x la.x lb.x

  abbrev near_y : Nearest a.y b.y (nearest a.y b.y)
  near_y = nearest_of a.y b.y la.y lb.y

  abbrev Touches : BoxPair → Type 0
  Touches w = SharePoint (box (box_of w.a)) (box (box_of w.b))

  all_touch : Touches (farthest_boxes a b) → Touching boxes (λ m. 0 < m) a b
  unfolding farthest_boxes
  all_touch share m c d m_pos c_in d_in =
      let meet = boxes_meet (box_of (farthest_boxes a b).a) (box_of (farthest_boxes a b).b) share in
      boxes_share c d (
        reach m far_x.chosen.steps _ (c.hx + d.hx) (d.centre.x ⊟ c.centre.x)
            (no_farther_apart a.x b.x _ m c.centre.x d.centre.x c_in.x d_in.x far_x)
            (at_least_abs _ _ _ far_x.chosen.reached meet.0)
            (least_sizes a.hx b.hx la.hx lb.hx m c.hx d.hx c_in.hx d_in.hx),
        reach m far_y.chosen.steps _ (c.hy + d.hy) (d.centre.y ⊟ c.centre.y)
            (no_farther_apart a.y b.y _ m c.centre.y d.centre.y c_in.y d_in.y far_y)
            (at_least_abs _ _ _ far_y.chosen.reached meet.1)
            (least_sizes a.hy b.hy la.hy lb.hy m c.hy d.hy c_in.hy d_in.hy),
      )

  all_apart : ¬ Touches (nearest_boxes a b) → Apart boxes (λ m. 0 < m) a b
  unfolding nearest_boxes
  all_apart apart m c d m_pos c_in d_in share =
      let meet = boxes_meet c d share in
      apart (boxes_share (box_of (nearest_boxes a b).a) (box_of (nearest_boxes a b).b) (
        abs_widen _ near_x.chosen.steps _ near_x.chosen.within
            (no_more m near_x.chosen.steps _ (c.hx + d.hx) (d.centre.x ⊟ c.centre.x) m_pos
            (no_nearer a.x b.x _ m c.centre.x d.centre.x c_in.x d_in.x near_x)
            (most_sizes a.hx b.hx la.hx lb.hx m c.hx d.hx c_in.hx d_in.hx) meet.0),
        abs_widen _ near_y.chosen.steps _ near_y.chosen.within
            (no_more m near_y.chosen.steps _ (c.hy + d.hy) (d.centre.y ⊟ c.centre.y) m_pos
            (no_nearer a.y b.y _ m c.centre.y d.centre.y c_in.y d_in.y near_y)
            (most_sizes a.hy b.hy la.hy lb.hy m c.hy d.hy c_in.hy d_in.hy) meet.1),
      ))

  -- the two choices
  pub near_choices : BoxChoice a (nearest_boxes a b).a × BoxChoice b (nearest_boxes a b).b
  unfolding nearest_boxes
  near_choices = (
    record {
      x = near_x.chosen.in_a;
      y = near_y.chosen.in_a;
      hx = highest_in a.hx la.hx.ordered;
      hy = highest_in a.hy la.hy.ordered;
    },
    record {
      x = near_x.chosen.in_b;
      y = near_y.chosen.in_b;
      hx = highest_in b.hx lb.hx.ordered;
      hy = highest_in b.hy lb.hy.ordered;
    },
  )

  pub far_choices : BoxChoice a (farthest_boxes a b).a × BoxChoice b (farthest_boxes a b).b
  unfolding farthest_boxes
  far_choices = (
    record {
      x = far_x.chosen.in_a;
      y = far_y.chosen.in_a;
      hx = lowest_in a.hx la.hx.ordered;
      hy = lowest_in a.hy la.hy.ordered;
    },
    record {
      x = far_x.chosen.in_b;
      y = far_y.chosen.in_b;
      hx = lowest_in b.hx lb.hx.ordered;
      hy = lowest_in b.hy lb.hy.ordered;
    },
  )

  test_of : (w : BoxPair) → BoxChoice a w.a → BoxChoice b w.b → Decides (boxes_touch w) (Touches w)
  test_of w wa wb =
      touch_test w (not_negative _ _ la.hx wa.hx) (not_negative _ _ la.hy wa.hy)
      (not_negative _ _ lb.hx wb.hx) (not_negative _ _ lb.hy wb.hy)

  within_right : BoxesRight a b (Ok (boxes_within a b))
  unfolding boxes_within
  within_right =
      by_test (boxes_touch (farthest_boxes a b))
      (λ yes. rw yes ((la, lb), all_touch (far.holds yes)))
      (λ no. rw no (by_test (boxes_touch (nearest_boxes a b))
      (λ yes. rw yes (
        (la, lb),
        (near_choices.0, near_choices.1, near.holds yes),
        (far_choices.0, far_choices.1, far.fails no),
      ))
      (λ never. rw never ((la, lb), all_apart (near.fails never)))))
    where
      far : Decides (boxes_touch (farthest_boxes a b)) (Touches (farthest_boxes a b))
      far = test_of (farthest_boxes a b) far_choices.0 far_choices.1

      near : Decides (boxes_touch (nearest_boxes a b)) (Touches (nearest_boxes a b))
      near = test_of (nearest_boxes a b) near_choices.0 near_choices.1

pub boxes_right : (a b : MeasuredBox) → BoxesRight a b (measured_boxes a b)
unfolding measured_boxes
boxes_right a b =
    by_test (box_in_limits a && box_in_limits b)
    (λ yes. let l = limits.holds yes in rw yes (within_right a b l.0 l.1))
    (λ no. rw no (refl, limits.fails no))
  where
    limits : Decides (box_in_limits a && box_in_limits b) (BoxLimits a × BoxLimits b)
    limits = decides_both _ _ (box_limits a) (box_limits b)
