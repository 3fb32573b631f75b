-- Vectors that are long enough: the root of a squared length above 2^-46 is not below 2^-23, so that normalising acts
-- (`long_is`); of the turned edge too, since turning keeps the squared length, bit for bit (`normal_is`).
-- Assumes nothing.
use mathlib.Core.Path.{◌≡◌, refl, sym, ap, ap₂, ◌∙◌, subst}
use mathlib.Core.Bool.{Bool, true, false, not, cond}
use Prim.Native.Nat.{ℕ, ◌*◌, ◌^◌, ◌≤◌}
use native.Mathlib.Omega.{arith}
use lib.Dec.{T}
use lib.Ieee.{Float, nan, inf, fin, binary32, fits, add, mul, lt, le, of_bits}
use lib.Ieee.Bits.{is_false}
use lib.Ieee.Fits.{add-fits}
use Rattle.algebra.specs.Integer.{Z, whole, ◌⊛◌, ◌≐◌, ◌≼◌, ◌≺◌}
use Rattle.floats.specs.declared.b2_math.B2vec2.{B2vec2}
use Rattle.floats.specs.declared.b2_math.Normalized.{Normalized}
use Rattle.rounding.specs.Literals.{zero32, one32}
use Rattle.floats.specs.B2Common.{b2_epsilon, epsilon_squared}
use Rattle.floats.specs.B2Math.{b2_sqrt, b2_cross_vec_by_scalar, b2_length_squared, b2_length, times_reciprocal}
use Rattle.floats.specs.B2Math.{b2_normalize, unit_or_same}
use Rattle.sqrt.specs.Sqrt.{root_by_steps, sqrt}
use Rattle.rounding.specs.Value.{metre, F32, mag, val}
use Rattle.rounding.proofs.Value.{metre_pos, positive_sign}
use Rattle.rounding.proofs.Comparison.{lt_val, val_not_lt}
use Rattle.rounding.proofs.Commutes.{add_commutes}
use Rattle.rounding.proofs.Squares.{times_one_squared, times_minus_one_squared}
use Rattle.floats.proofs.Constants.{epsilon_is, epsilon_squared_is}
use Rattle.sqrt.proofs.SqrtLaw.{sqrt_law}
use Rattle.sqrt.proofs.SqrtOrder.{sqrt_low}

-- ---- turning keeps the squared length
turned_squared : (e : B2vec2) → T (fits binary32 e.x) → T (fits binary32 e.y)
    → b2_length_squared (b2_cross_vec_by_scalar e one32) ≡ b2_length_squared e
unfolding b2_length_squared b2_cross_vec_by_scalar
turned_squared e x_Fits y_fits =
    ap₂ (add binary32) (times_one_squared e.y y_fits) (times_minus_one_squared e.x x_Fits)
    ∙ add_commutes (mul binary32 e.y e.y) (mul binary32 e.x e.x)

-- ---- the root of a squared length above 2^-46
module _ (l : Float) (l_f32 : F32 l) (long : T (lt epsilon_squared l)) where
  record Large (v : Z) : Type 0 where
    positive : whole 0 ≺ v
    low : whole metre ≼ 2 ^ 46 ⊛ v

  large : Large (val l)
  large = go (val epsilon_squared) (val l) epsilon_squared_is.is (lt_val epsilon_squared_is.own l_f32 long)
    where
      go : (u v : Z) → 2 ^ 46 ⊛ u ≐ metre ⊛ whole 1 → u ≺ v → Large v
      go u v u_is less = let m = metre_pos in record { positive = omega arith; low = omega arith }

  square_low : metre ≤ 2 ^ 46 * mag l
  square_low = go (mag l) (rw (positive_sign l large.positive).is at large.low)
    where
      go : (m : ℕ) → whole metre ≼ 2 ^ 46 ⊛ whole m → metre ≤ 2 ^ 46 * m
      go m h = omega arith

  root_long : T (not (lt (sqrt binary32 l) b2_epsilon))
  root_long =
      let law = sqrt_law l_f32 large.positive in
      val_not_lt law.own epsilon_is.own
      (go (val b2_epsilon) (val (sqrt binary32 l)) (mag (sqrt binary32 l)) epsilon_is.is law.is
      (sqrt_low 23 l_f32 large.positive tt square_low))
    where
      go : (u v : Z) (m : ℕ) → 2 ^ 23 ⊛ u ≐ metre ⊛ whole 1 → v ≡ whole m → metre ≤ 2 ^ 23 * m → u ≼ v
      go u v m u_is v_is low = rw v_is (omega arith)

long_root : (l : Float) → T (fits binary32 l) → lt epsilon_squared l ≡ true → lt (sqrt binary32 l) b2_epsilon ≡ false
unfolding lt sqrt root_by_steps of_bits
long_root nan in_format long = refl
long_root (inf true) in_format long = refl
long_root (inf false) in_format long = refl
long_root (fin s m e) in_format long =
    is_false _ (root_long (fin s m e) (record { in_format = in_format; is_finite = tt }) (subst T (sym long) tt))

-- ---- so a vector of such a squared length is made unit by the reciprocal of the root
module _ (v : B2vec2) (squared : Float) (squared_is : squared ≡ b2_length_squared v)
    (long : lt epsilon_squared squared ≡ true) where
  length_is : b2_length v ≡ b2_sqrt squared
  unfolding b2_length
  length_is = ap b2_sqrt (sym squared_is)

  squared_fits : T (fits binary32 squared)
  unfolding b2_length_squared
  squared_fits = subst (λ (l : Float). T (fits binary32 l)) (sym squared_is) (add-fits binary32 _ _)

  acts : lt (b2_length v) b2_epsilon ≡ false
  unfolding b2_sqrt
  acts = ap (λ (l : Float). lt l b2_epsilon) length_is ∙ long_root squared squared_fits long

  pub long_is : (root : Float) → root ≡ b2_sqrt squared → times_reciprocal v root ≡ unit_or_same (b2_normalize v)
  unfolding b2_normalize
  long_is root root_is =
      ap (times_reciprocal v) (root_is ∙ sym length_is)
      ∙ sym (ap (λ (t : Bool). (cond {A = Normalized} t (record { had_length = had; length = zero32; v = v })
      (record { had_length = had; length = b2_length v; v = times_reciprocal v (b2_length v) })).v) acts)
    where
      had : Bool
      had = le b2_epsilon (b2_length v)

-- ---- and so is the turned edge
pub turned_long : (e : B2vec2) → T (fits binary32 e.x) → T (fits binary32 e.y)
    → lt epsilon_squared (b2_length_squared e) ≡ true
    → lt (b2_length (b2_cross_vec_by_scalar e one32)) b2_epsilon ≡ false
turned_long e x_Fits y_fits long =
    acts (b2_cross_vec_by_scalar e one32) (b2_length_squared e) (sym (turned_squared e x_Fits y_fits)) long

pub normal_is : (e : B2vec2) (squared : Float) → T (fits binary32 e.x) → T (fits binary32 e.y)
    → squared ≡ b2_length_squared e → lt epsilon_squared squared ≡ true
    → (turned : B2vec2) (root : Float) → turned ≡ b2_cross_vec_by_scalar e one32 → root ≡ b2_sqrt squared
    → times_reciprocal turned root ≡ unit_or_same (b2_normalize (b2_cross_vec_by_scalar e one32))
normal_is e squared x_Fits y_fits squared_is long turned root turned_is root_is =
    ap (λ (v : B2vec2). times_reciprocal v root) turned_is
    ∙ long_is (b2_cross_vec_by_scalar e one32) squared (squared_is ∙ sym (turned_squared e x_Fits y_fits)) long root
    root_is
