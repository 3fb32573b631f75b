-- The nearest and the farthest choice on one axis, of spans in order: they are choices, and no two ends are nearer or
-- farther apart. Assumes nothing.
use mathlib.Core.Path.{◌≡◌, refl}
use mathlib.Core.Bool.{cond}
use mathlib.Core.Logic.{◌⊎◌, inl, inr}
use Prim.Native.Nat.{ℕ}
use native.Mathlib.Omega.{arith}
use lib.IntN.{ℤ, ◌+ℤ◌}
use lib.Signed.{lt_z, le_z}
use Rattle.algebra.specs.Integer.{Z, whole, opp, ◌⊞◌, ◌⊟◌, ◌≼◌, Abs}
use Rattle.algebra.specs.Signed.{number}
use Rattle.algebra.specs.Squares.{above}
use Rattle.algebra.proofs.Booleans.{by_test}
use Rattle.algebra.proofs.Signed.{number_sum, less, not_less, at_most, more}
use Rattle.measured_definitions.specs.declared.Span.{Span}
use Rattle.measured_definitions.specs.declared.AxisChoice.{AxisChoice}
use Rattle.measured_definitions.specs.Spans.{low, high, Coordinate, Inside}
use Rattle.measured_definitions.specs.Axes.{choice, nearest, farthest}

-- |v| is at least n
abbrev pub AtLeast : Z → ℕ → Type 0
AtLeast v n = (whole n ≼ v) ⊎ ((whole n ≼ opp v) ⊎ (n ≡ 0))

-- the way from the number of A to that of B
abbrev pub way : AxisChoice → Z
way r = number r.b ⊟ number r.a

-- a choice, and its distance
pub record Chosen (a b : Span) (r : AxisChoice) : Type 0 where
  pub in_a : Inside 1 a (number r.a)
  pub in_b : Inside 1 b (number r.b)
  pub steps : ℕ
  pub within : Abs (way r) steps
  pub reached : AtLeast (way r) steps

-- no two are nearer
pub record Nearest (a b : Span) (r : AxisChoice) : Type 0 where
  pub chosen : Chosen a b r
  pub least : (high a ⊞ whole chosen.steps ≼ low b)
      ⊎ ((high b ⊞ whole chosen.steps ≼ low a) ⊎ (chosen.steps ≡ 0))

-- no two are farther apart
pub record Farthest (a b : Span) (r : AxisChoice) : Type 0 where
  pub chosen : Chosen a b r
  pub most_a : high a ≼ low b ⊞ whole chosen.steps
  pub most_b : high b ≼ low a ⊞ whole chosen.steps

-- the two ways to look
upward : (a b : Span) (x y : ℤ) → Inside 1 a (number x) → Inside 1 b (number y) → number x ≼ number y
    → Chosen a b (choice x y)
upward a b x y x_in y_in h = record {
  in_a = x_in;
  in_b = y_in;
  steps = above (number y ⊟ number x);
  within = (omega arith, omega arith);
  reached = inl (omega arith);
}

downward : (a b : Span) (x y : ℤ) → Inside 1 a (number x) → Inside 1 b (number y) → number y ≼ number x
    → Chosen a b (choice x y)
downward a b x y x_in y_in h = record {
  in_a = x_in;
  in_b = y_in;
  steps = above (number x ⊟ number y);
  within = (omega arith, omega arith);
  reached = inr (inl (omega arith));
}

module _ (a b : Span) (ordered_a : low a ≼ high a) (ordered_b : low b ≼ high b) where
  -- ---- nearest
  facing_up : high a ≼ low b → Nearest a b (choice a.highest b.lowest)
  unfolding upward
  facing_up h = record {
    chosen = upward a b a.highest b.lowest (omega arith, omega arith) (omega arith, omega arith) h;
    least = inl (omega arith);
  }

  facing_down : high b ≼ low a → Nearest a b (choice a.lowest b.highest)
  unfolding downward
  facing_down h = record {
    chosen = downward a b a.lowest b.highest (omega arith, omega arith) (omega arith, omega arith) h;
    least = inr (inl (omega arith));
  }

  shared : (x : ℤ) → Inside 1 a (number x) → Inside 1 b (number x) → Nearest a b (choice x x)
  shared x in_a in_b = record {
    chosen = record {
      in_a = in_a;
      in_b = in_b;
      steps = 0;
      within = (omega arith, omega arith);
      reached = inr (inr refl);
    };
    least = inr (inr refl);
  }

  lowest_shared : low b ≼ high a → low a ≼ high b
      → Nearest a b
      (cond (lt_z a.lowest b.lowest) (choice b.lowest b.lowest) (choice a.lowest a.lowest))
  lowest_shared h k =
      by_test (lt_z a.lowest b.lowest)
      (λ yes. let l = (less a.lowest b.lowest).holds yes in
      rw yes (shared b.lowest (omega arith, omega arith) (omega arith, omega arith)))
      (λ no. let l = not_less a.lowest b.lowest no in
      rw no (shared a.lowest (omega arith, omega arith) (omega arith, omega arith)))

  is_nearest : Nearest a b (nearest a b)
  unfolding nearest
  is_nearest =
      by_test (lt_z a.highest b.lowest)
      (λ up. let l = (less a.highest b.lowest).holds up in rw up (facing_up (omega arith)))
      (λ not_up. let l = not_less a.highest b.lowest not_up in rw not_up
      (by_test (lt_z b.highest a.lowest)
      (λ down. let k = (less b.highest a.lowest).holds down in rw down (facing_down (omega arith)))
      (λ not_down. rw not_down (lowest_shared l (not_less b.highest a.lowest not_down)))))

  -- ---- farthest
  away_up : low a ⊞ high a ≼ low b ⊞ high b → Farthest a b (choice a.lowest b.highest)
  unfolding upward
  away_up h = record {
    chosen = upward a b a.lowest b.highest (omega arith, omega arith) (omega arith, omega arith) (omega arith);
    most_a = omega arith;
    most_b = omega arith;
  }

  away_down : low b ⊞ high b ≼ low a ⊞ high a → Farthest a b (choice a.highest b.lowest)
  unfolding downward
  away_down h = record {
    chosen = downward a b a.highest b.lowest (omega arith, omega arith) (omega arith, omega arith) (omega arith);
    most_a = omega arith;
    most_b = omega arith;
  }

  is_farthest : Farthest a b (farthest a b)
  unfolding farthest
  is_farthest =
      let middle_a = a.lowest +ℤ a.highest in
      let middle_b = b.lowest +ℤ b.highest in
      let sum_a = number_sum a.lowest a.highest in
      let sum_b = number_sum b.lowest b.highest in
      by_test (le_z middle_a middle_b)
      (λ up. let h = (at_most middle_a middle_b).holds up in rw up (away_up (omega arith)))
      (λ down. let h = more middle_a middle_b down in rw down (away_down (omega arith)))

-- of coordinates within the limits
pub nearest_of : (a b : Span) → Coordinate a → Coordinate b → Nearest a b (nearest a b)
nearest_of a b la lb = is_nearest a b la.ordered lb.ordered

pub farthest_of : (a b : Span) → Coordinate a → Coordinate b → Farthest a b (farthest a b)
farthest_of a b la lb = is_farthest a b la.ordered lb.ordered
