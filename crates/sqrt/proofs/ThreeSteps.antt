-- Request 04: each operand takes exactly one of the three steps, and what that step gives. Assumes nothing.
use Rattle.std.proofs.Common.{◌≡◌, ℕ, ◌*◌, ◌^◌, ◌<◌, ◌≤◌, Bool, true, false, T, eqb, ◌⊎◌, sym, refl, ap, ◌∙◌, subst, ap₂, inl, inr, true≢false, lt_trans, le_of_eq, lt_irrefl, le_antisymm, lt_of_not-le, eqb→eq}
use native.Mathlib.Nat.{mul-mul-mul_comm}
use native.Mathlib.Decide.{dec_le}
use lib.Ieee.{Float, binary32, fits}
use lib.Ieee.Bits.{is_true}
use lib.Ieee.Fits.{eq→eqb}
use Rattle.algebra.specs.Integer.{whole, ◌≺◌}
use Rattle.rounding.specs.Value.{metre, F32, mag, val}
use Rattle.rounding.proofs.Patterns.{Units, same_units_equal}
use Rattle.sqrt.specs.declared.root.Rooted.TheVariants as rooted
use Rattle.sqrt.specs.Sqrt.{root_by_steps, sqrt}
use Rattle.sqrt.specs.Steps.{SquareIs, Special, Exact, Rounded, Told, SpecialGives, ExactGives, Nearest}
use Rattle.sqrt.specs.Steps.{RoundedGives, ThreeSteps}
use Rattle.sqrt.proofs.WholeRoot.{four_pow, four_pow_pos}
use Rattle.sqrt.proofs.SqrtLaw.{units_are, steps_are, sqrt_is, sqrt_law, root_mag}
use Rattle.sqrt.proofs.SqrtOrder.{sqrt_above, sqrt_below}
use Rattle.sqrt.proofs.ExactStep.{eqb_scaled, is_exact, step, step_is, exact_is}
use Rattle.sqrt.proofs.Neighbours.{root, square, nearest, root_above_middle, root_below_middle}
use Rattle.sqrt.proofs.SpecialOperands.{test_of_special, Above, above_not_special, kind}
use Rattle.sqrt.proofs.SpecialOperands.{special_root, special_step}

-- ---- two f32 above 0 of one size are one
same_size : {x y : Float} → F32 x → whole 0 ≺ val x → F32 y → whole 0 ≺ val y → mag x ≡ mag y → x ≡ y
same_size {x} {y} x_own x_pos y_own y_pos is =
    same_units_equal x y (mag y) x_own.in_format y_own.in_format
    (subst (λ (g : ℕ). Units x g) is (units_are x_own x_pos)) (units_are y_own y_pos)

-- ---- two numbers that are both nearest to √x are of one size
not_two_nearest : {x r s : Float} → Nearest x r → Nearest x s → mag r < mag s → ⊥
not_two_nearest {x} {r} {s} of_r of_s less =
    lt_irrefl (4 * (mag x * metre))
    (lt_trans (of_r.below s of_s.own less) (of_s.above r of_r.own less))

nearest_only : {x r s : Float} → Nearest x r → Nearest x s → s ≡ r
nearest_only {x} {r} {s} of_r of_s =
    same_size of_s.own of_s.positive of_r.own of_r.positive
    (le_antisymm (not_more of_r of_s) (not_more of_s of_r))
  where
    not_more : {a b : Float} → Nearest x a → Nearest x b → mag b ≤ mag a
    not_more {a} {b} of_a of_b = elim (dec_le (mag b) (mag a)) [
      | yes le ↦ le
      | no over ↦ absurd (not_two_nearest of_a of_b (lt_of_not-le over))
    ]

-- ---- above 0 the root's square tells the step
squares_back : Float → Float → Bool
squares_back x r = eqb (mag r * mag r) (mag x * metre)

module _ {x : Float} (positive : Above x) where
  exact_test : is_exact (mag x * metre) ≡ squares_back x (sqrt binary32 x)
  unfolding squares_back
  exact_test =
      let x_root = root positive.own positive.positive in
      let y = square positive.own positive.positive in
      let d = x_root.digits in
      let k = x_root.scale in
      let back : d * d * 4 ^ k ≡ mag (sqrt binary32 x) * mag (sqrt binary32 x) =
      ap (λ (m : ℕ). d * d * m) (four_pow k) ∙ mul-mul-mul_comm d d (2 ^ k) (2 ^ k)
      ∙ ap (λ (m : ℕ). m * m) (sym (root_mag x_root)) in
      ap is_exact y.is
      ∙ exact_is y.n d k y.low y.high (nearest positive.own positive.positive)
      ∙ sym (eqb_scaled (d * d) y.n (4 ^ k) (four_pow_pos k))
      ∙ ap₂ eqb back (sym y.is)

  step_by_square : (t : Bool) → squares_back x (sqrt binary32 x) ≡ t
      → root_by_steps binary32 x ≡ step t (sqrt binary32 x) (sqrt binary32 x)
  step_by_square t is =
      steps_are positive.own positive.positive
      ∙ sym (step_is (mag x * metre) (sqrt binary32 x) (sqrt_is positive.own positive.positive))
      ∙ ap (λ (u : Bool). step u (sqrt binary32 x) (sqrt binary32 x)) (exact_test ∙ is)

  -- an f32 whose square is x has the root's size
  root_size : (r : Float) → F32 r → SquareIs x r → mag (sqrt binary32 x) ≡ mag r
  root_size r r_own is =
      le_antisymm (sqrt_below positive.own positive.positive r_own (le_of_eq (sym is)))
      (sqrt_above positive.own positive.positive r_own (le_of_eq is))

  root_squares : (r : Float) → F32 r → SquareIs x r → SquareIs x (sqrt binary32 x)
  root_squares r r_own is = ap (λ (m : ℕ). m * m) (root_size r r_own is) ∙ is

  exact_root : SquareIs x (sqrt binary32 x) → ExactGives x (sqrt binary32 x)
  exact_root is =
      let law = sqrt_law positive.own positive.positive in
      record {
        own = law.own;
        positive = law.positive;
        is = is;
        only = λ y y_own y_pos y_is.
            same_size y_own y_pos law.own law.positive (sym (root_size y y_own y_is));
      }

  nearest_root : Nearest x (sqrt binary32 x)
  nearest_root =
      let law = sqrt_law positive.own positive.positive in
      record {
        own = law.own;
        positive = law.positive;
        above = λ y y_own. root_above_middle positive.own positive.positive y_own;
        below = λ y y_own. root_below_middle positive.own positive.positive y_own;
      }

  back_test : SquareIs x (sqrt binary32 x) → squares_back x (sqrt binary32 x) ≡ true
  unfolding squares_back
  back_test is = is_true (eqb (mag (sqrt binary32 x) * mag (sqrt binary32 x)) (mag x * metre)) (eq→eqb is)

  exact_of_test : (Special x → ⊥) → squares_back x (sqrt binary32 x) ≡ true → Exact x
  unfolding squares_back
  exact_of_test other is = record {
    not_special = other;
    root = sqrt binary32 x;
    root_own = (sqrt_law positive.own positive.positive).own;
    root_is = eqb→eq (mag (sqrt binary32 x) * mag (sqrt binary32 x)) (mag x * metre) (subst T (sym is) tt);
  }

  rounded_of_test : (Special x → ⊥) → squares_back x (sqrt binary32 x) ≡ false → Rounded x
  rounded_of_test other is = record {
    not_special = other;
    not_exact = λ exact.
        true≢false (sym (back_test (root_squares exact.root exact.root_own exact.root_is)) ∙ is);
  }

-- ---- exactly one of three
not_special_is_above : (x : Float) → T (fits binary32 x) → (Special x → ⊥) → Above x
not_special_is_above x x_Fits other = elim (kind x x_Fits) [
  | inl is ↦ absurd (other is)
  | inr above ↦ above
]

one_of_three : (x : Float) → T (fits binary32 x) → Special x ⊎ (Exact x ⊎ Rounded x)
one_of_three x x_Fits = elim (kind x x_Fits) [
  | inl is ↦ inl is
  | inr above ↦ inr (by_square above (squares_back x (sqrt binary32 x)) refl)
]
  where
    by_square : Above x → (t : Bool) → squares_back x (sqrt binary32 x) ≡ t → Exact x ⊎ Rounded x
    by_square above true is = inl (exact_of_test above (above_not_special above) is)
    by_square above false is = inr (rounded_of_test above (above_not_special above) is)

module _ (x : Float) (x_Fits : T (fits binary32 x)) where
  special_gives : Special x
      → (root_by_steps binary32 x ≡ rooted.Special (sqrt binary32 x)) × SpecialGives x (sqrt binary32 x)
  special_gives is = (special_step x (test_of_special is), special_root x)

  exact_gives : Exact x
      → (root_by_steps binary32 x ≡ rooted.Exact (sqrt binary32 x)) × ExactGives x (sqrt binary32 x)
  exact_gives exact =
      let above = not_special_is_above x x_Fits exact.not_special in
      let is = root_squares above exact.root exact.root_own exact.root_is in
      (step_by_square above true (back_test above is), exact_root above is)

  no_back : Above x → Rounded x → squares_back x (sqrt binary32 x) ≡ false
  no_back above rounded = by_test (squares_back x (sqrt binary32 x)) refl
    where
      by_test : (t : Bool) → squares_back x (sqrt binary32 x) ≡ t → squares_back x (sqrt binary32 x) ≡ false
      by_test true is = absurd (rounded.not_exact (exact_of_test above rounded.not_special is))
      by_test false is = is

  rounded_gives : Rounded x
      → (root_by_steps binary32 x ≡ rooted.Rounded (sqrt binary32 x)) × RoundedGives x (sqrt binary32 x)
  rounded_gives rounded =
      let above = not_special_is_above x x_Fits rounded.not_special in
      let near = nearest_root above in
      (step_by_square above false (no_back above rounded), record { nearest = near; only = λ y. nearest_only near })

  told : Told x (root_by_steps binary32 x)
  told = elim (one_of_three x x_Fits) [
    | inl is ↦ subst (Told x) (sym (special_gives is).0) is
    | inr other ↦ elim other [
      | inl is ↦ subst (Told x) (sym (exact_gives is).0) is
      | inr is ↦ subst (Told x) (sym (rounded_gives is).0) is
    ]
  ]

  pub three_steps : ThreeSteps x
  three_steps = record {
    one = one_of_three x x_Fits;
    special_not_exact = λ is exact. exact.not_special is;
    special_not_rounded = λ is rounded. rounded.not_special is;
    exact_not_rounded = λ exact rounded. rounded.not_exact exact;
    told = told;
    special_gives = special_gives;
    exact_gives = exact_gives;
    rounded_gives = rounded_gives;
  }
