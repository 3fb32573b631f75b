-- From the nearest and the farthest choice on an axis to every two numbers inside the spans, in units of 1/(256 m) m,
-- and from the smallest and the largest sizes to all. Assumes nothing.
use mathlib.Core.Path.{◌≡◌, ap}
use mathlib.Core.Logic.{◌⊎◌, inl, inr}
use Prim.Native.Nat.{ℕ, ◌+◌, ◌*◌, ◌≤◌}
use native.Mathlib.Omega.{arith}
use Rattle.algebra.specs.Integer.{Z, whole, ◌⊞◌, ◌⊟◌, ◌≼◌, Abs}
use Rattle.algebra.specs.Squares.{above}
use Rattle.algebra.proofs.Integer.{multiple_mono, multiple_same}
use Rattle.measured_definitions.specs.declared.Span.{Span}
use Rattle.measured_definitions.specs.declared.AxisChoice.{AxisChoice}
use Rattle.measured_definitions.specs.Spans.{low, high, Size, Inside}
use Rattle.measured_definitions.proofs.Axes.{AtLeast, Nearest, Farthest}

-- ---- one axis: y - x is the way from a number of A to one of B
module _ (a b : Span) (r : AxisChoice) (m : ℕ) (x y : Z) (x_in : Inside m a x) (y_in : Inside m b y) where
  pub no_farther_apart : (far : Farthest a b r) → Abs (y ⊟ x) (m * far.chosen.steps)
  no_farther_apart far =
      let s = far.chosen.steps in
      let p = multiple_mono m (high a) (low b ⊞ whole s) far.most_a in
      let q = multiple_mono m (high b) (low a ⊞ whole s) far.most_b in
      (omega arith, omega arith)

  pub no_nearer : (near : Nearest a b r) → AtLeast (y ⊟ x) (m * near.chosen.steps)
  no_nearer near = by near.chosen.steps near.least
    where
      by : (s : ℕ) → (high a ⊞ whole s ≼ low b) ⊎ ((high b ⊞ whole s ≼ low a) ⊎ (s ≡ 0)) → AtLeast (y ⊟ x) (m * s)
      by s (inl h) = let p = multiple_mono m (high a ⊞ whole s) (low b) h in inl (omega arith)
      by s (inr (inl h)) = let p = multiple_mono m (high b ⊞ whole s) (low a) h in inr (inl (omega arith))
      by s (inr (inr h)) = let e : m * s ≡ m * 0 = ap (λ (k : ℕ). m * k) h in inr (inr (omega arith))

-- ---- sizes: the sum of two is between that of the smallest and that of the largest
module _ (s t : Span) (size_s : Size s) (size_t : Size t) (m p q : ℕ) (p_in : Inside m s (whole p))
    (q_in : Inside m t (whole q)) where
  pub least_sizes : m * (above (low s) + above (low t)) ≤ p + q
  least_sizes =
      let p_from = size_s.from in
      let q_from = size_t.from in
      let e = multiple_same m (low s) (whole (above (low s))) (omega arith) in
      let f = multiple_same m (low t) (whole (above (low t))) (omega arith) in
      omega arith

  pub most_sizes : p + q ≤ m * (above (high s) + above (high t))
  most_sizes =
      let p_from = size_s.from in
      let q_from = size_t.from in
      let p_order = size_s.ordered in
      let q_order = size_t.ordered in
      let e = multiple_same m (high s) (whole (above (high s))) (omega arith) in
      let f = multiple_same m (high t) (whole (above (high t))) (omega arith) in
      omega arith

-- ---- the ends of a span are inside
pub lowest_in : (s : Span) → low s ≼ high s → Inside 1 s (low s)
lowest_in s h = (omega arith, omega arith)

pub highest_in : (s : Span) → low s ≼ high s → Inside 1 s (high s)
highest_in s h = (omega arith, omega arith)

-- a chosen size is not negative
pub not_negative : (s : Span) (v : Z) → Size s → Inside 1 s v → whole 0 ≼ v
not_negative s v l h = let from = l.from in let in_from = h.0 in omega arith
