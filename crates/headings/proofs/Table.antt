-- The table as a row: its length, and that a place of it holds the entry. Assumes nothing.
use mathlib.Core.Path.{◌≡◌, refl, ap, ◌∙◌}
use mathlib.Core.List.{List}
use Prim.Native.Nat.{ℕ, ◌≤◌}
use native.Mathlib.Omega.{arith}
use lib.ListN.{length, get_or, length-map, get_or-map}
use lib.Ieee.{Float, binary32, of_bits}
use Rattle.algebra.proofs.Lists.{getD_within}
use Rattle.headings.specs.Sines.{sines}
use Rattle.headings.specs.Headings.{quarter_wave, quarter_waves}

pub sines_length : length sines ≡ 1025
unfolding sines
sines_length = refl

pub table_length : length quarter_waves ≡ 1025
unfolding quarter_waves
table_length = length-map sines (of_bits binary32) ∙ sines_length

pub lent_length : (row : List Float) → row ≡ quarter_waves → length row ≡ 1025
lent_length row row_is = ap length row_is ∙ table_length

-- whatever is said to stand past the end
pub table_entry : (row : List Float) (k : ℕ) (d : Float) → row ≡ quarter_waves → k ≤ 1024
    → get_or row k d ≡ quarter_wave k
unfolding quarter_wave quarter_waves
table_entry row k d row_is k_in =
    ap (λ (l : List Float). get_or l k d) row_is
    ∙ getD_within quarter_waves k d (of_bits binary32 0) (rw table_length (omega arith))
    ∙ get_or-map (of_bits binary32) sines k 0
