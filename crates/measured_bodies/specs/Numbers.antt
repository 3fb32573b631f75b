-- A verdict on two measured bodies of any shape for a host: two numbers and two pairs, zeros and `none` where there is
-- no verdict or no pair. Definitions only.
use Rattle.std.specs.Prelude.{ℕ, Result, Ok, Err}
use Rattle.shape_definitions.specs.declared.refusal.Refusal.{Refusal}
use Rattle.shape_definitions.specs.Refusal.{accepted, number_of}
use Rattle.measured_definitions.specs.declared.Verdict.{Verdict}
use Rattle.measured_definitions.specs.declared.Verdict.TheVariants.{SurelyTouching, SurelyApart, Either}
use Rattle.measured_definitions.specs.Numbers.{no_verdict_number, verdict_number}

abbrev pub numbers_of : {P : Type 0} → Result (Verdict P) Refusal → ℕ × ℕ
numbers_of (Ok verdict) = (accepted, verdict_number verdict)
numbers_of (Err why) = (number_of why, no_verdict_number)

abbrev pub pairs_of : {P : Type 0} → P → Result (Verdict P) Refusal → P × P
pairs_of none (Err why) = (none, none)
pairs_of none (Ok SurelyTouching) = (none, none)
pairs_of none (Ok SurelyApart) = (none, none)
pairs_of none (Ok (Either touching apart)) = (touching, apart)
