-- Closed cases of the three steps, computed by antt: what each operand's step is and gives. The roots are those of
-- `Controls`, from outside, and that of twice the smallest subnormal number. So no step is empty. Assumes nothing.
use Rattle.std.proofs.Common.{◌≡◌, ℕ, refl, subst}
use lib.Ieee.{Float, binary32, size, units, of_bits}
use lib.Ieee.Bits.{of_bits-fits}
use Rattle.sqrt.specs.declared.root.Rooted.{Rooted}
use Rattle.sqrt.specs.declared.root.Rooted.TheVariants.{Special, Exact, Rounded}
use Rattle.sqrt.specs.Sqrt.{root_digits, whole_root, root_by_steps}
use Rattle.sqrt.specs.Steps as steps
use Rattle.sqrt.specs.Steps.{Told}
use Rattle.sqrt.proofs.ThreeSteps.{three_steps}

abbrev float : ℕ → Float
float b = of_bits binary32 b

abbrev stepped : ℕ → Rooted
stepped b = root_by_steps binary32 (of_bits binary32 b)

-- ---- special
pub record SpecialCases : Type 0 where
  pub zero : stepped 0x0000_0000 ≡ Special (float 0x0000_0000)
  pub minus_zero : stepped 0x8000_0000 ≡ Special (float 0x8000_0000)
  pub infinity : stepped 0x7f80_0000 ≡ Special (float 0x7f80_0000)
  pub minus_infinity : stepped 0xff80_0000 ≡ Special (float 0x7fc0_0000)
  pub nan : stepped 0x7fc0_0000 ≡ Special (float 0x7fc0_0000)
  pub minus_one : stepped 0xbf80_0000 ≡ Special (float 0x7fc0_0000)
  pub negative_subnormal : stepped 0x8000_0001 ≡ Special (float 0x7fc0_0000)

pub special_cases : SpecialCases
unfolding root_by_steps whole_root root_digits size units of_bits
special_cases = record {
  zero = refl;
  minus_zero = refl;
  infinity = refl;
  minus_infinity = refl;
  nan = refl;
  minus_one = refl;
  negative_subnormal = refl;
}

-- ---- exact
pub record ExactCases : Type 0 where
  pub four : stepped 0x4080_0000 ≡ Exact (float 0x4000_0000)
  pub nine_quarters : stepped 0x4010_0000 ≡ Exact (float 0x3fc0_0000)
  pub smallest_normal : stepped 0x0080_0000 ≡ Exact (float 0x2000_0000)
  pub twice_smallest_subnormal : stepped 0x0000_0002 ≡ Exact (float 0x1a80_0000)

pub exact_cases : ExactCases
unfolding root_by_steps whole_root root_digits size units of_bits
exact_cases = record {
  four = refl;
  nine_quarters = refl;
  smallest_normal = refl;
  twice_smallest_subnormal = refl;
}

-- ---- rounded
pub record RoundedCases : Type 0 where
  pub two : stepped 0x4000_0000 ≡ Rounded (float 0x3fb5_04f3)
  pub next_above_one : stepped 0x3f80_0001 ≡ Rounded (float 0x3f80_0000)
  pub next_below_one : stepped 0x3f7f_ffff ≡ Rounded (float 0x3f7f_ffff)
  pub largest : stepped 0x7f7f_ffff ≡ Rounded (float 0x5f7f_ffff)
  pub smallest_subnormal : stepped 0x0000_0001 ≡ Rounded (float 0x1a35_04f3)
  pub largest_subnormal : stepped 0x007f_ffff ≡ Rounded (float 0x1fff_ffff)

pub rounded_cases : RoundedCases
unfolding root_by_steps whole_root root_digits size units of_bits
rounded_cases = record {
  two = refl;
  next_above_one = refl;
  next_below_one = refl;
  largest = refl;
  smallest_subnormal = refl;
  largest_subnormal = refl;
}

-- ---- so some operand is exact and some is rounded
four_exact : steps.Exact (float 0x4080_0000)
four_exact =
    subst (Told (float 0x4080_0000)) exact_cases.four
    (three_steps (float 0x4080_0000) (of_bits-fits binary32 0x4080_0000)).told

two_rounded : steps.Rounded (float 0x4000_0000)
two_rounded =
    subst (Told (float 0x4000_0000)) rounded_cases.two
    (three_steps (float 0x4000_0000) (of_bits-fits binary32 0x4000_0000)).told
