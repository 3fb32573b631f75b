-- The numbers of the verdicts, as hosts get them. Definitions only.
use Rattle.std.specs.Prelude.{ℕ}
use Rattle.measured_definitions.specs.declared.Verdict.{Verdict}
use Rattle.measured_definitions.specs.declared.Verdict.TheVariants.{SurelyTouching, SurelyApart, Either}

-- the call was refused
abbrev pub no_verdict_number : ℕ
no_verdict_number = 0

abbrev pub surely_touching_number : ℕ
surely_touching_number = 1

abbrev pub surely_apart_number : ℕ
surely_apart_number = 2

abbrev pub either_number : ℕ
either_number = 3

-- the number of each
abbrev pub verdict_number : {P : Type 0} → Verdict P → ℕ
verdict_number SurelyTouching = surely_touching_number
verdict_number SurelyApart = surely_apart_number
verdict_number (Either t s) = either_number
