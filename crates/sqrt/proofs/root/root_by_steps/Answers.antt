-- `root_by_steps` takes the step of its definition. Assumes nothing.
use Rattle.std.proofs.Common.{◌≡◌, true, T, sym, ap, ◌∙◌, subst, arith}
use lib.Ieee.{Float, binary32, fits}
use lib.Ieee.Bits.{to_bits-lt}
use Rattle.sqrt.specs.declared.root.Rooted.TheVariants.{Special}
use Rattle.sqrt.proofs.StepCases.{special_by_pattern, steps_by_pattern}
use Rattle.sqrt.proofs.StepTests.{not_nan, nan_test, zero_pattern_test, step_of_special}
use Rattle.sqrt.proofs.root.root_by_steps.Goals as goal
use Rattle.sqrt.proofs.root.root_by_steps.Goals.{then-x+then-b-ge-LEADING+else-b-lt-INFINITE, then-x+else-b-ge-LEADING+else-b-gt0, else-x}

is_f32 : (x : Float) → fits binary32 x ≡ true → T (fits binary32 x)
is_f32 x is = subst T (sym is) tt

pub overflow_cast-b : goal.overflow_cast-b
overflow_cast-b c = omega (arith, to_bits-lt binary32 c.args.x (is_f32 _ c.well_formed.0.1))

pub returns-then-b-lt-INFINITE : goal.returns-then-b-lt-INFINITE
returns-then-b-lt-INFINITE c =
    steps_by_pattern c.args.x _ (is_f32 _ c.well_formed.0.1)
    (c.exact_or_rounded.ensures ∙ sym c.normal_digits.ensures.steps)

pub returns-then-b-gt0 : goal.returns-then-b-gt0
returns-then-b-gt0 c =
    steps_by_pattern c.args.x _ (is_f32 _ c.well_formed.0.1)
    (c.exact_or_rounded-then-b-gt0.ensures ∙ sym c.subnormal_digits.ensures.steps)

pub special_root-requires : goal.special_root-requires
special_root-requires c =
    elim c.if-x.branch [
      | then-x+then-b-ge-LEADING+else-b-lt-INFINITE w ↦ special_by_pattern _ (is_f32 _ c.well_formed.0.1) (not_nan _ w.if-x.true) w.if-b-lt-INFINITE.false
      | then-x+else-b-ge-LEADING+else-b-gt0 w ↦ zero_pattern_test _ (is_f32 _ c.well_formed.0.1) w.if-b-gt0.false
      | else-x w ↦ nan_test _ w.if-x.false
    ]

pub returns : goal.returns
returns c =
    ap Special c.special_root.ensures ∙ step_of_special _ (
    elim c.if-x.branch [
      | then-x+then-b-ge-LEADING+else-b-lt-INFINITE w ↦ special_by_pattern _ (is_f32 _ c.well_formed.0.1) (not_nan _ w.if-x.true) w.if-b-lt-INFINITE.false
      | then-x+else-b-ge-LEADING+else-b-gt0 w ↦ zero_pattern_test _ (is_f32 _ c.well_formed.0.1) w.if-b-gt0.false
      | else-x w ↦ nan_test _ w.if-x.false
    ])
