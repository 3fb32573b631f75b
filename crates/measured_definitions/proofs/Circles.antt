-- Two measured circles: the answer is right. The farthest choice with the smallest radii touches, then every two discs
-- inside do; the nearest with the largest is apart, then every two are. Assumes nothing.
use mathlib.Core.Path.{◌≡◌, refl, ap}
use mathlib.Core.Bool.{◌&&◌}
use mathlib.Core.Logic.{inl, inr}
use Prim.Native.Nat.{ℕ, ◌+◌, ◌*◌, ◌≤◌, ◌<◌}
use native.Mathlib.Nat.{mul-le-mul, mul-le-mul_left, mul-pos}
use native.Mathlib.Omega.{arith}
use lib.IntN.{ℤ, ◌+ℤ◌, ◌-ℤ◌, ◌*ℤ◌}
use Rattle.std.proofs.Common.{Ok}
use Rattle.algebra.specs.Integer.{Z, whole, opp, ◌⊞◌, ◌⊟◌, ◌⊠◌, ◌⊛◌, ◌≐◌, ◌≼◌, Abs}
use Rattle.algebra.specs.Signed.{number}
use Rattle.algebra.specs.Squares.{above}
use Rattle.algebra.proofs.Booleans.{Decides, decides_same, decides_both, by_test}
use Rattle.algebra.proofs.Integer.{same_trans, multiple_cancel}
use Rattle.algebra.proofs.Magnitude.{abs_product}
use Rattle.algebra.proofs.Products.{product_same, product_not_negative, square_not_negative}
use Rattle.algebra.proofs.Signed.{number_sum, number_difference, number_product, at_most}
use Rattle.measured_definitions.specs.declared.MeasuredCircle.{MeasuredCircle}
use Rattle.measured_definitions.specs.declared.CirclePair.{CirclePair}
use Rattle.measured_definitions.specs.Bodies.{SharePoint, disc}
use Rattle.measured_definitions.specs.Spans.{low, high}
use Rattle.measured_definitions.specs.Verdicts.{Touching, Apart}
use Rattle.measured_definitions.specs.Circles.{CircleLimits, CircleChoice, disc_of, circles, CirclesRight}
use Rattle.measured_definitions.specs.Axes.{nearest, farthest}
use Rattle.measured_definitions.specs.MeasuredCircles.{circle_in_limits, circles_touch, nearest_circles}
use Rattle.measured_definitions.specs.MeasuredCircles.{farthest_circles, circles_within, measured_circles}
use Rattle.measured_definitions.proofs.Axes.{AtLeast, Nearest, Farthest, nearest_of, farthest_of}
use Rattle.measured_definitions.proofs.Reach.{no_farther_apart, no_nearer, least_sizes, most_sizes, lowest_in}
use Rattle.measured_definitions.proofs.Reach.{highest_in, not_negative}
use Rattle.measured_definitions.proofs.Touch.{discs_meet, discs_share}
use Rattle.measured_definitions.proofs.Limits.{circle_limits}

-- ---- the test
square_is : (d : ℤ) (v : Z) → number d ≐ v → number (d *ℤ d) ≐ v ⊠ v
square_is d v e = same_trans _ _ _ (number_product d d) (product_same (number d) v (number d) v e e)

pub touch_test : (w : CirclePair) → whole 0 ≼ number w.a.radius → whole 0 ≼ number w.b.radius
    → Decides (circles_touch w) (SharePoint (disc (disc_of w.a)) (disc (disc_of w.b)))
unfolding circles_touch
touch_test w ra_nn rb_nn =
    let c = disc_of w.a in
    let d = disc_of w.b in
    let dx = w.b.x -ℤ w.a.x in
    let dy = w.b.y -ℤ w.a.y in
    let reach = w.a.radius +ℤ w.b.radius in
    let s = number_sum (dx *ℤ dx) (dy *ℤ dy) in
    let x = square_is dx (d.centre.x ⊟ c.centre.x) (number_difference w.b.x w.a.x) in
    let y = square_is dy (d.centre.y ⊟ c.centre.y) (number_difference w.b.y w.a.y) in
    let e = number_sum w.a.radius w.b.radius in
    let r = square_is reach (whole (c.radius + d.radius)) (omega arith) in
    decides_same (λ h. discs_share c d (omega arith)) (λ h. let meet = discs_meet c d h in omega arith)
    (at_most (dx *ℤ dx +ℤ dy *ℤ dy) (reach *ℤ reach))

-- ---- sums of two squares, in units m times as small
square_least : (v : Z) (n : ℕ) → AtLeast v n → whole (n * n) ≼ v ⊠ v
square_least v n (inl h) =
    let p = product_not_negative (v ⊟ whole n) (v ⊞ whole n) (omega arith) (omega arith) in omega arith
square_least v n (inr (inl h)) =
    let p = product_not_negative (opp v ⊟ whole n) (opp v ⊞ whole n) (omega arith) (omega arith) in omega arith
square_least v n (inr (inr e)) =
    let s = square_not_negative v in
    let z : n * n ≡ 0 * 0 = ap (λ (k : ℕ). k * k) e in
    omega arith

square_most : (v : Z) (n : ℕ) → Abs v n → v ⊠ v ≼ whole (n * n)
square_most v n h = let p = abs_product v v n n h h in omega arith

sum_at_most : (m fx fy n k : ℕ) (vx vy : Z) → Abs vx (m * fx) → Abs vy (m * fy) → fx * fx + fy * fy ≤ n * n
    → m * n ≤ k → vx ⊠ vx ⊞ vy ⊠ vy ≼ whole (k * k)
sum_at_most m fx fy n k vx vy hx hy squares reach =
    let x = square_most vx (m * fx) hx in
    let y = square_most vy (m * fy) hy in
    let s : m * m * (fx * fx + fy * fy) ≤ m * m * (n * n) = mul-le-mul_left (m * m) squares in
    let r : (m * n) * (m * n) ≤ k * k = mul-le-mul reach reach in
    closed (vx ⊠ vx) (vy ⊠ vy) x y s r
  where
    closed : (x y : Z) → x ≼ whole ((m * fx) * (m * fx)) → y ≼ whole ((m * fy) * (m * fy))
        → m * m * (fx * fx + fy * fy) ≤ m * m * (n * n) → (m * n) * (m * n) ≤ k * k → x ⊞ y ≼ whole (k * k)
    closed x y hx hy s r = omega arith

sum_within : (m nx ny n k : ℕ) (vx vy : Z) → 0 < m → AtLeast vx (m * nx) → AtLeast vy (m * ny)
    → vx ⊠ vx ⊞ vy ⊠ vy ≼ whole (k * k) → k ≤ m * n → nx * nx + ny * ny ≤ n * n
sum_within m nx ny n k vx vy m_pos hx hy meet reach =
    let x = square_least vx (m * nx) hx in
    let y = square_least vy (m * ny) hy in
    let r : k * k ≤ (m * n) * (m * n) = mul-le-mul reach reach in
    let le = multiple_cancel (m * m) (whole (nx * nx + ny * ny)) (whole (n * n)) (mul-pos m_pos m_pos)
    (closed (vx ⊠ vx) (vy ⊠ vy) x y meet r) in
    omega (arith, le)
  where
    closed : (x y : Z) → whole ((m * nx) * (m * nx)) ≼ x → whole ((m * ny) * (m * ny)) ≼ y → x ⊞ y ≼ whole (k * k)
        → k * k ≤ (m * n) * (m * n) → (m * m) ⊛ whole (nx * nx + ny * ny) ≼ (m * m) ⊛ whole (n * n)
    closed x y hx hy meet r = omega arith

-- in whole steps
squares_least : (nx ny n : ℕ) (vx vy : Z) → AtLeast vx nx → AtLeast vy ny → vx ⊠ vx ⊞ vy ⊠ vy ≼ whole (n * n)
    → nx * nx + ny * ny ≤ n * n
squares_least nx ny n vx vy hx hy meet =
    let x = square_least vx nx hx in
    let y = square_least vy ny hy in
    omega arith

squares_most : (nx ny n : ℕ) (vx vy : Z) → Abs vx nx → Abs vy ny → nx * nx + ny * ny ≤ n * n
    → vx ⊠ vx ⊞ vy ⊠ vy ≼ whole (n * n)
squares_most nx ny n vx vy hx hy squares =
    let x = square_most vx nx hx in
    let y = square_most vy ny hy in
    omega arith

-- ---- within the limits
module _ (a b : MeasuredCircle) (la : CircleLimits a) (lb : CircleLimits b) where
  abbrev far_x : Farthest a.x b.x (farthest a.x b.x)
  far_x = farthest_of a.x b.x la.x lb.x

  abbrev far_y : Farthest a.y b.y (farthest a.y b.y)
  far_y = farthest_of a.y b.y la.y lb.y

  abbrev near_x : Nearest a.x b.x (nearest a.x b.x)
  near_x = nearest_of a.x b.x la.x lb.x

  abbrev near_y : Nearest a.y b.y (nearest a.y b.y)
  near_y = nearest_of a.y b.y la.y lb.y

  abbrev Touches : CirclePair → Type 0
  Touches w = SharePoint (disc (disc_of w.a)) (disc (disc_of w.b))

  all_touch : Touches (farthest_circles a b) → Touching circles (λ m. 0 < m) a b
  unfolding farthest_circles
  all_touch share m c d m_pos c_in d_in =
      discs_share c d
      (sum_at_most m far_x.chosen.steps far_y.chosen.steps (above (low a.radius) + above (low b.radius))
      (c.radius + d.radius) (d.centre.x ⊟ c.centre.x) (d.centre.y ⊟ c.centre.y)
      (no_farther_apart a.x b.x _ m c.centre.x d.centre.x c_in.x d_in.x far_x)
      (no_farther_apart a.y b.y _ m c.centre.y d.centre.y c_in.y d_in.y far_y)
      (squares_least _ _ _ _ _ far_x.chosen.reached far_y.chosen.reached
      (discs_meet (disc_of (farthest_circles a b).a) (disc_of (farthest_circles a b).b) share))
      (least_sizes a.radius b.radius la.radius lb.radius m c.radius d.radius c_in.radius
      d_in.radius))

  all_apart : ¬ Touches (nearest_circles a b) → Apart circles (λ m. 0 < m) a b
  unfolding nearest_circles
  all_apart apart m c d m_pos c_in d_in share =
      apart (discs_share (disc_of (nearest_circles a b).a) (disc_of (nearest_circles a b).b)
      (squares_most _ _ _ _ _ near_x.chosen.within near_y.chosen.within
      (sum_within m near_x.chosen.steps near_y.chosen.steps
      (above (high a.radius) + above (high b.radius)) (c.radius + d.radius) (d.centre.x ⊟ c.centre.x)
      (d.centre.y ⊟ c.centre.y) m_pos
      (no_nearer a.x b.x _ m c.centre.x d.centre.x c_in.x d_in.x near_x)
      (no_nearer a.y b.y _ m c.centre.y d.centre.y c_in.y d_in.y near_y)
      (discs_meet c d share)
      (most_sizes a.radius b.radius la.radius lb.radius m c.radius d.radius c_in.radius
      d_in.radius))))

  -- the two choices
  pub near_choices : CircleChoice a (nearest_circles a b).a × CircleChoice b (nearest_circles a b).b
  unfolding nearest_circles
  near_choices = (
    record {
      x = near_x.chosen.in_a;
      y = near_y.chosen.in_a;
      radius = highest_in a.radius la.radius.ordered;
    },
    record {
      x = near_x.chosen.in_b;
      y = near_y.chosen.in_b;
      radius = highest_in b.radius lb.radius.ordered;
    },
  )

  pub far_choices : CircleChoice a (farthest_circles a b).a × CircleChoice b (farthest_circles a b).b
  unfolding farthest_circles
  far_choices = (
    record {
      x = far_x.chosen.in_a;
      y = far_y.chosen.in_a;
      radius = lowest_in a.radius la.radius.ordered;
    },
    record {
      x = far_x.chosen.in_b;
      y = far_y.chosen.in_b;
      radius = lowest_in b.radius lb.radius.ordered;
    },
  )

  test_of : (w : CirclePair) → CircleChoice a w.a → CircleChoice b w.b → Decides (circles_touch w) (Touches w)
  test_of w wa wb =
      touch_test w (not_negative _ _ la.radius wa.radius) (not_negative _ _ lb.radius wb.radius)

  within_right : CirclesRight a b (Ok (circles_within a b))
  unfolding circles_within
  within_right =
      by_test (circles_touch (farthest_circles a b))
      (λ yes. rw yes ((la, lb), all_touch (far.holds yes)))
      (λ no. rw no (by_test (circles_touch (nearest_circles a b))
      (λ yes. rw yes (
        (la, lb),
        (near_choices.0, near_choices.1, near.holds yes),
        (far_choices.0, far_choices.1, far.fails no),
      ))
      (λ never. rw never ((la, lb), all_apart (near.fails never)))))
    where
      far : Decides (circles_touch (farthest_circles a b)) (Touches (farthest_circles a b))
      far = test_of (farthest_circles a b) far_choices.0 far_choices.1

      near : Decides (circles_touch (nearest_circles a b)) (Touches (nearest_circles a b))
      near = test_of (nearest_circles a b) near_choices.0 near_choices.1

pub circles_right : (a b : MeasuredCircle) → CirclesRight a b (measured_circles a b)
unfolding measured_circles
circles_right a b =
    by_test (circle_in_limits a && circle_in_limits b)
    (λ yes. let l = limits.holds yes in rw yes (within_right a b l.0 l.1))
    (λ no. rw no (refl, limits.fails no))
  where
    limits : Decides (circle_in_limits a && circle_in_limits b) (CircleLimits a × CircleLimits b)
    limits = decides_both _ _ (circle_limits a) (circle_limits b)
