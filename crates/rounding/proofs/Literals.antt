-- The numbers of literal bit patterns: in the format and finite where the exponent's field is below 255, with their
-- values in units by computation, and m / 2^t m where the units say so; 0, 1/2 and 1. Assumes nothing.
use mathlib.Core.Path.{◌≡◌, refl, sym, ap, ◌∙◌, subst}
use Prim.Native.Nat.{ℕ, zero, suc, ◌+◌, ◌*◌, ◌/◌, ◌%◌, ◌^◌, ◌<◌}
use native.Mathlib.Nat.{lt_irrefl, mul-one}
use native.Mathlib.Omega.{arith}
use mathlib.Core.Bool.{Bool, true, false, cond}
use lib.Dec.{T, leb, ltb, eqb, ltb→lt, eqb→eq}
use lib.Ieee.{nan, inf, binary32, odd, of_fields, of_bits}
use lib.Ieee.Bits.{of_bits-fits}
use lib.Ieee.Exact.{HasValue, odd_sign}
use Rattle.algebra.specs.Integer.{whole, signed, ◌⊛◌, ◌≐◌}
use Rattle.rounding.specs.Value.{metre, F32, mag, val}
use Rattle.rounding.specs.Literals.{zero32, half32, one32}
use Rattle.rounding.proofs.Value.{metre_is, f32_of_value, val_of_value, mag_of_value}
use Rattle.rounding.proofs.Dyadic.{Dyadic}

-- ---- a pattern's sign, exponent's field, and size in units
abbrev pub bits_sign : ℕ → Bool
bits_sign b = leb (2 ^ 31) b

abbrev pub bits_field : ℕ → ℕ
bits_field b = b % 2 ^ 31 / 2 ^ 23

abbrev field_units : ℕ → ℕ → ℕ
field_units zero t = t
field_units (suc x) t = (2 ^ 23 + t) * 2 ^ x

abbrev pub bits_units : ℕ → ℕ
bits_units b = field_units (bits_field b) (b % 2 ^ 23)

fields_value : (s : Bool) (x t : ℕ) → x < 255 → HasValue (of_fields binary32 s x t) s (field_units x t) (2 ^ 149)
unfolding of_fields
fields_value s zero t h =
    subst (λ (n : ℕ). HasValue (odd 24 s t 0 149) s n (2 ^ 149)) (mul-one t) (odd_sign 24 s t 0 149)
fields_value s (suc x) t h = by_test (eqb (suc x) 255) (eqb→eq (suc x) 255)
  where
    by_test : (b : Bool) → (T b → suc x ≡ 255)
        → HasValue (cond b (cond (eqb t 0) (inf s) nan) (odd 24 s (2 ^ 23 + t) x 149)) s ((2 ^ 23 + t) * 2 ^ x)
        (2 ^ 149)
    by_test true top = absurd (lt_irrefl 255 (subst (λ (n : ℕ). n < 255) (top tt) h))
    by_test false top = odd_sign 24 s (2 ^ 23 + t) x 149

bits_value : (b : ℕ) → T (ltb (bits_field b) 255) → HasValue (of_bits binary32 b) (bits_sign b) (bits_units b) metre
unfolding of_bits
bits_value b h = rw metre_is (fields_value (bits_sign b) (bits_field b) (b % 2 ^ 23) (ltb→lt (bits_field b) 255 h))

pub bits_f32 : (b : ℕ) → T (ltb (bits_field b) 255) → F32 (of_bits binary32 b)
bits_f32 b h = f32_of_value (of_bits binary32 b) (bits_sign b) (bits_units b) (of_bits-fits binary32 b) (bits_value b h)

pub bits_val : (b : ℕ) → T (ltb (bits_field b) 255) → val (of_bits binary32 b) ≡ signed (bits_sign b) (bits_units b)
bits_val b h = val_of_value (of_bits binary32 b) (bits_sign b) (bits_units b) (bits_value b h)

pub bits_mag : (b : ℕ) → T (ltb (bits_field b) 255) → mag (of_bits binary32 b) ≡ bits_units b
bits_mag b h = mag_of_value (of_bits binary32 b) (bits_sign b) (bits_units b) (bits_value b h)

-- the literal m / 2^t; the two tests compute
pub bits_dyadic : (b m t : ℕ) → T (ltb (bits_field b) 255) → T (eqb (2 ^ t * bits_units b) (2 ^ 149 * m))
    → Dyadic (of_bits binary32 b) (signed (bits_sign b) m) t
bits_dyadic b m t finite is = record {
  own = bits_f32 b finite;
  is = rw (bits_val b finite) (by_sign (bits_sign b) (2 ^ t) (bits_units b)
      (eqb→eq (2 ^ t * bits_units b) (2 ^ 149 * m) is ∙ ap (λ (n : ℕ). n * m) (sym metre_is)));
}
  where
    by_sign : (s : Bool) (k g : ℕ) → k * g ≡ metre * m → k ⊛ signed s g ≐ metre ⊛ signed s m
    by_sign true k g e = omega arith
    by_sign false k g e = omega arith

-- ---- 0, 1/2 and 1
pub zero_f32 : F32 zero32
zero_f32 = bits_f32 0 tt

pub zero_val : val zero32 ≡ whole 0
zero_val = bits_val 0 tt

pub half_f32 : F32 half32
half_f32 = bits_f32 0x3f00_0000 tt

pub half_val : 2 ⊛ val half32 ≐ whole metre
half_val = rw (bits_val 0x3f00_0000 tt, metre_is) refl

pub one_f32 : F32 one32
one_f32 = bits_f32 0x3f80_0000 tt

pub one_val : val one32 ≡ whole metre
one_val = bits_val 0x3f80_0000 tt ∙ ap whole (sym metre_is)

pub one_mag : mag one32 ≡ metre
one_mag = bits_mag 0x3f80_0000 tt ∙ sym metre_is

-- as multiples of a power of two
pub zero_dyadic : (t : ℕ) → Dyadic zero32 (whole 0) t
zero_dyadic t = record { own = zero_f32; is = rw zero_val (omega arith) }

pub half_dyadic : Dyadic half32 (whole 1) 1
half_dyadic = bits_dyadic 0x3f00_0000 1 1 tt tt
