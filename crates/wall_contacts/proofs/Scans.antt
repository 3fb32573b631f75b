-- A scan over what a function gives at the places from one on, and the scan for the least value. Assumes nothing.
use mathlib.Core.Path.{◌≡◌, ◌∙◌, ap}
use mathlib.Core.List.{map}
use mathlib.Core.Bool.{Bool}
use Prim.Native.Nat.{ℕ, ◌+◌, ◌-◌, ◌<◌}
use lib.Ieee.{Float}
use Rattle.algebra.specs.Loops.{places, scan}
use Rattle.floats.specs.B2Common.{b2_max_float}
use Rattle.floats.specs.B2Math.{b2_min}
use Rattle.contact_definitions.specs.Searches.{below_value, least}
use Rattle.contact_definitions.proofs.Searches.{scan_starts, scanned}

-- what the scan keeps from place j on
abbrev pub scanned_from : {A : Type 0} → (A → A → Bool) → (ℕ → A) → A → ℕ → ℕ → A
scanned_from test f kept j n = scan test kept (map f (places j (n - j)))

-- ---- the least value
pub least_begun : (f : ℕ → Float) (n : ℕ) → scanned_from below_value f b2_max_float 0 n ≡ least f n
unfolding least
least_begun f n = scan_starts below_value f b2_max_float n

-- x is the value at place j
pub least_next : (f : ℕ → Float) (kept new x answer : Float) (j n : ℕ) → j < n → x ≡ f j
    → new ≡ b2_min x kept
    → scanned_from below_value f kept j n ≡ answer → scanned_from below_value f new (j + 1) n ≡ answer
unfolding b2_min
least_next f kept new x answer j n within x_is New_is so_far =
    let here = New_is ∙ ap (λ (y : Float). b2_min y kept) x_is in
    scanned below_value f kept answer j n so_far new within here
