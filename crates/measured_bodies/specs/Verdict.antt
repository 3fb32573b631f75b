-- The verdict on two measured bodies of any shape, by the shape's limits, choices and test. Definitions only.
use Rattle.std.specs.Prelude.{Bool, Result, Ok, Err, cond, ◌&&◌}
use Rattle.shape_definitions.specs.declared.refusal.Refusal.{Refusal}
use Rattle.shape_definitions.specs.declared.refusal.Refusal.TheVariants.{MeasureOutOfLimits}
use Rattle.measured_definitions.specs.declared.Verdict.{Verdict}
use Rattle.measured_definitions.specs.declared.Verdict.TheVariants.{SurelyTouching, SurelyApart, Either}

abbrev pub verdict_by : {M P : Type 0} → (M → Bool) → (M → M → P) → (M → M → P) → (P → Bool) → M → M
    → Result (Verdict P) Refusal
verdict_by in_limits nearest farthest touch a b =
    let near = nearest a b in
    let far = farthest a b in
    cond (in_limits a && in_limits b)
    (Ok (cond (touch far) SurelyTouching (cond (touch near) (Either near far) SurelyApart))) (Err MeasureOutOfLimits)
