-- The counting rule is the rulebook's (`counted_by_rulebook`): a touch begins exactly where a pair that had no point
-- gets one. A test with as many points as the one before counts nothing; the count is held; and from the touches begun,
-- as far as 32 bits hold them, the rule gives the next such number. Assumes nothing.
use Prim.Native.Nat.{ℕ, zero, suc, ◌+◌, ◌≤◌, ◌<◌, min}
use mathlib.Core.Path.{◌≡◌, refl}
use mathlib.Core.Bool.{Bool, true, false, cond, and-false}
use native.Mathlib.Omega.{arith}
use lib.Dec.{eqb, ltb}
use borrow.Author.Tests.{eq-eqb, ne_eqb, lt-ltb, le-ltb, eqb-true, ltb-true}
use Rattle.algebra.proofs.Booleans.{both, by_test}
use Rattle.record_definitions.specs.World.{largest_count, one_more}
use Rattle.record_definitions.specs.Touch.{touch_begins, touches_after}
use Rattle.record_definitions.specs.Rulebook.{Rulebook}

had_points : (before now : ℕ) → 0 < before → touch_begins before now ≡ false
had_points before now some = simp (ne_eqb before 0 (λ none. omega arith))

has_none : (before now : ℕ) → now ≡ 0 → touch_begins before now ≡ false
has_none before now none = rw (le-ltb 0 now (omega arith)) (and-false (eqb before 0))

module _ (touches before now : ℕ) where
  one_begins : before ≡ 0 → 0 < now → touches_after touches before now ≡ one_more touches
  unfolding touches_after
  one_begins none some = simp (eq-eqb before 0 none, lt-ltb 0 now some)

  no_more : touch_begins before now ≡ false → touches_after touches before now ≡ touches
  unfolding touches_after
  no_more not_there = rw not_there refl

  rises_there : touches < touches_after touches before now → (before ≡ 0) × (0 < now)
  rises_there rises =
      by_test (touch_begins before now)
      (λ there. let each = both (eqb before 0) (ltb 0 now) there in
      (eqb-true before 0 each.0, ltb-true 0 now each.1))
      (λ not_there. absurd (omega (arith, no_more not_there)))

  pub counted_by_rulebook : Rulebook before now touches (touches_after touches before now)
  counted_by_rulebook = record {
    begins = one_begins;
    goes_on = λ some. no_more (had_points before now some);
    apart = λ none. no_more (has_none before now none);
    only_there = rises_there;
  }

-- ---- a contact that stays counts nothing more
pub stays : (touches points : ℕ) → touches_after touches points points ≡ touches
stays touches zero = no_more touches 0 0 (has_none 0 0 refl)
stays touches (suc n) = no_more touches (suc n) (suc n) (had_points (suc n) (suc n) (omega arith))

-- ---- the count is held
held_by : (t : Bool) (touches limit : ℕ) → touches ≤ limit → cond t (min (touches + 1) limit) touches ≤ limit
held_by true touches limit held = omega arith
held_by false touches limit held = held

pub held : (touches before now : ℕ) → touches ≤ largest_count → touches_after touches before now ≤ largest_count
unfolding touches_after
held touches before now = held_by (touch_begins before now) touches largest_count

-- ---- and is that of the touches begun
begun_by : (t : Bool) (begun limit : ℕ)
    → cond t (min (min begun limit + 1) limit) (min begun limit) ≡ min (cond t (suc begun) begun) limit
begun_by true begun limit = omega arith
begun_by false begun limit = refl

pub held_begun : (begun before now : ℕ)
    → touches_after (min begun largest_count) before now
    ≡ min (cond (touch_begins before now) (suc begun) begun) largest_count
unfolding touches_after
held_begun begun before now = begun_by (touch_begins before now) begun largest_count
