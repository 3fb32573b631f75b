-- What the range tests of document 01 give: a number within a finite limit is finite, of the format where its parameter
-- is, and at most the limit in size; a NaN and the infinities are within none. And back. The limits are 2, 8, 2^20 and
-- 2^30 m. Assumes nothing.
use mathlib.Core.Path.{◌≡◌, sym, ap, ◌∙◌}
use Prim.Native.Nat.{ℕ, ◌*◌, ◌^◌}
use native.Mathlib.Nat.{mul-le-mul_right}
use native.Mathlib.Omega.{arith}
use mathlib.Core.Bool.{Bool, true, false, not}
use lib.Dec.{T, ltb, leb, eqb, leb→le, eqb→eq}
use lib.Ieee.{Float, nan, inf, fin, binary32, neg, le, fits, of_bits}
use lib.Ieee.Bits.{is_false}
use lib.Ieee.Fits.{and_i, and_l, and_r}
use lib.Ieee.Scale.{finite}
use Rattle.algebra.specs.Integer.{Z, whole, signed, opp, ◌≼◌, Abs}
use Rattle.algebra.proofs.Magnitude.{abs_widen}
use Rattle.rounding.specs.Value.{metre, F32, mag, val}
use Rattle.floats.specs.declared.b2_math.B2vec2.{B2vec2}
use Rattle.rounding.specs.Literals.{zero32, one32}
use Rattle.floats.specs.Ranges.{within, vec2_within, normal_limit, local_normal_limit, shape_limit, contact_limit}
use Rattle.floats.specs.Ranges.{radius_in_range}
use Rattle.rounding.proofs.Value.{metre_is, abs_mag, val_neg, neg_f32, AsFin, as_fin, f32_as_fin}
use Rattle.rounding.proofs.Caps.{Capped}
use Rattle.rounding.proofs.Comparison.{le_val, val_le}
use Rattle.rounding.proofs.Literals.{bits_sign, bits_field, bits_units, bits_f32, bits_mag, bits_val, zero_f32}
use Rattle.rounding.proofs.Literals.{zero_val}

-- ---- no NaN and no infinity
within_finite : {limit : Float} (x : Float) → AsFin limit → T (within limit x) → T (finite x)
unfolding le neg
within_finite nan (as_fin s m e is) h = h
within_finite (inf true) (as_fin s m e is) h = h
within_finite (inf false) (as_fin s m e is) h = h
within_finite (fin s m e) limit_is h = tt

-- ---- the value
-- x is of the format and at most n units in size
pub record Bounded (x : Float) (n : ℕ) : Type 0 where
  pub own : F32 x
  pub abs : Abs (val x) n

pub within_value : {limit x : Float} → F32 limit → T (fits binary32 x) → T (within limit x) → Bounded x (mag limit)
within_value {limit} {x} limit_f32 x_Fits h =
    let own : F32 x = record { in_format = x_Fits; is_finite = within_finite x (f32_as_fin limit_f32) h } in
    let low = rw val_neg at (le_val (neg_f32 limit_f32) own (and_l (le (neg limit) x) (le x limit) h)) in
    let high = le_val own limit_f32 (and_r (le (neg limit) x) (le x limit) h) in
    let size = abs_mag limit in
    record { own = own; abs = between (val x) (val limit) (mag limit) low high size }
  where
    between : (v l : Z) (n : ℕ) → opp l ≼ v → v ≼ l → Abs l n → Abs v n
    between v l n low high size = omega arith

-- for a limit that is not negative
value_within : {limit x : Float} → F32 limit → val limit ≡ whole (mag limit) → F32 x → Abs (val x) (mag limit)
    → T (within limit x)
value_within {limit} {x} limit_f32 limit_is x_f32 x_abs =
    and_i (le (neg limit) x) (le x limit)
    (val_le (neg_f32 limit_f32) x_f32 (rw (val_neg limit, limit_is) (low (val x) x_abs)))
    (val_le x_f32 limit_f32 (rw limit_is (high (val x) x_abs)))
  where
    low : (v : Z) → Abs v (mag limit) → opp (whole (mag limit)) ≼ v
    low v h = omega arith

    high : (v : Z) → Abs v (mag limit) → v ≼ whole (mag limit)
    high v h = omega arith

-- ---- the limits, in metres: the tests compute
pub record Limit (limit : Float) (h : ℕ) : Type 0 where
  pub own : F32 limit
  pub size : mag limit ≡ h * metre
  pub is : val limit ≡ whole (mag limit)

limit_of_bits : (b h : ℕ) → T (ltb (bits_field b) 255) → T (eqb (bits_units b) (h * 2 ^ 149)) → T (not (bits_sign b))
    → Limit (of_bits binary32 b) h
limit_of_bits b h low units plus = record {
  own = bits_f32 b low;
  size = bits_mag b low ∙ eqb→eq (bits_units b) (h * 2 ^ 149) units ∙ ap (λ (m : ℕ). h * m) (sym metre_is);
  is = bits_val b low
      ∙ ap (λ (s : Bool). signed s (bits_units b)) (is_false (bits_sign b) plus) ∙ ap whole (sym (bits_mag b low));
}

pub one_limit_is : Limit one32 1
one_limit_is = limit_of_bits 0x3f80_0000 1 tt tt tt

pub normal_limit_is : Limit normal_limit 2
normal_limit_is = limit_of_bits 0x4000_0000 2 tt tt tt

pub local_normal_limit_is : Limit local_normal_limit 8
local_normal_limit_is = limit_of_bits 0x4100_0000 8 tt tt tt

pub shape_limit_is : Limit shape_limit (2 ^ 20)
shape_limit_is = limit_of_bits 0x4980_0000 (2 ^ 20) tt tt tt

pub contact_limit_is : Limit contact_limit (2 ^ 30)
contact_limit_is = limit_of_bits 0x4e80_0000 (2 ^ 30) tt tt tt

-- within h metres, and back
pub limit_value : {limit x : Float} {h : ℕ} → Limit limit h → T (fits binary32 x) → T (within limit x)
    → Bounded x (h * metre)
limit_value l x_Fits h = let v = within_value l.own x_Fits h in
    record { own = v.own; abs = rw (← l.size) v.abs }

pub value_limit : {limit x : Float} {h : ℕ} → Limit limit h → F32 x → Abs (val x) (h * metre) → T (within limit x)
value_limit l x_f32 x_abs = value_within l.own l.is x_f32 (rw l.size x_abs)

-- both coordinates of a vector
pub limit_vec2 : {limit : Float} {v : B2vec2} {h : ℕ} → Limit limit h → T (fits binary32 v.x)
    → T (fits binary32 v.y)
    → T (vec2_within limit v) → Bounded v.x (h * metre) × Bounded v.y (h * metre)
limit_vec2 {limit} {v} l x_Fits y_fits h = (
  limit_value l x_Fits (and_l (within limit v.x) (within limit v.y) h),
  limit_value l y_fits (and_r (within limit v.x) (within limit v.y) h),
)

pub vec2_limit : {limit : Float} {v : B2vec2} {h : ℕ} → Limit limit h → F32 v.x → F32 v.y
    → Abs (val v.x) (h * metre) → Abs (val v.y) (h * metre) → T (vec2_within limit v)
vec2_limit {limit} {v} l x_f32 y_f32 x_abs y_abs =
    and_i (within limit v.x) (within limit v.y) (value_limit l x_f32 x_abs) (value_limit l y_f32 y_abs)

-- a vector of at most h m, where the limit is no less
pub capped_vec2 : {limit : Float} {v : B2vec2} {most : ℕ} (h : ℕ) → Limit limit most → T (leb h most)
    → Capped v.x h → Capped v.y h → T (vec2_within limit v)
capped_vec2 {limit} {v} {most} h l low x_cap y_cap =
    let wider = mul-le-mul_right metre (leb→le h most low) in
    vec2_limit l x_cap.own y_cap.own (abs_widen (val v.x) (h * metre) (most * metre) x_cap.cap wider)
    (abs_widen (val v.y) (h * metre) (most * metre) y_cap.cap wider)

-- ---- a radius: from 0, either zero, to 2^20 m
pub record Radius (r : Float) : Type 0 where
  pub own : F32 r
  pub low : whole 0 ≼ val r
  pub high : val r ≼ whole (2 ^ 20 * metre)

radius_finite : {limit : Float} (r : Float) → AsFin limit → T (le zero32 r) → T (le r limit) → T (finite r)
unfolding le of_bits
radius_finite nan (as_fin s m e is) low high = high
radius_finite (inf true) limit_is low high = low
radius_finite (inf false) (as_fin s m e is) low high = high
radius_finite (fin s m e) limit_is low high = tt

pub radius_value : {r : Float} → T (fits binary32 r) → T (radius_in_range r) → Radius r
unfolding radius_in_range
radius_value {r} r_fits h =
    let l = shape_limit_is in
    let at_least_lem = and_l (le zero32 r) (le r shape_limit) h in
    let at_most = and_r (le zero32 r) (le r shape_limit) h in
    let own : F32 r = record {
      in_format = r_fits;
      is_finite = radius_finite r (f32_as_fin l.own) at_least_lem
          at_most;
    } in
    record {
      own = own;
      low = rw zero_val at (le_val zero_f32 own at_least_lem);
      high = rw (l.is ∙ ap whole l.size) at
          (le_val own l.own at_most);
    }
