-- A refusal's number is never 0. Assumes nothing.
use mathlib.Core.Path.{◌≡◌}
use native.Mathlib.Omega.{arith}
use Rattle.shape_definitions.specs.declared.refusal.Refusal.{Refusal}
use Rattle.shape_definitions.specs.declared.refusal.Refusal.TheVariants.{WrongNumberOfPoints, ShapeOutOfRange, TooFewAfterWelding}
use Rattle.shape_definitions.specs.declared.refusal.Refusal.TheVariants.{WalkNotClosed, EdgeOrAreaTooSmall, PlacementOutOfRange}
use Rattle.shape_definitions.specs.declared.refusal.Refusal.TheVariants.{CountOutOfRange, WallTooShort, ContactOutOfRange}
use Rattle.shape_definitions.specs.declared.refusal.Refusal.TheVariants.{MalformedFrame, UnknownId, NoShape}
use Rattle.shape_definitions.specs.declared.refusal.Refusal.TheVariants.{PairNotListed, UnknownTurn, ChainTooFew}
use Rattle.shape_definitions.specs.declared.refusal.Refusal.TheVariants.{ChainTooNear, MeasureOutOfLimits}
use Rattle.shape_definitions.specs.Refusal.{accepted, number_of}

pub no_acceptance : (why : Refusal) → number_of why ≡ accepted → ⊥
no_acceptance WrongNumberOfPoints is = omega (arith, is)
no_acceptance ShapeOutOfRange is = omega (arith, is)
no_acceptance TooFewAfterWelding is = omega (arith, is)
no_acceptance WalkNotClosed is = omega (arith, is)
no_acceptance EdgeOrAreaTooSmall is = omega (arith, is)
no_acceptance PlacementOutOfRange is = omega (arith, is)
no_acceptance CountOutOfRange is = omega (arith, is)
no_acceptance WallTooShort is = omega (arith, is)
no_acceptance ContactOutOfRange is = omega (arith, is)
no_acceptance MalformedFrame is = omega (arith, is)
no_acceptance UnknownId is = omega (arith, is)
no_acceptance NoShape is = omega (arith, is)
no_acceptance PairNotListed is = omega (arith, is)
no_acceptance UnknownTurn is = omega (arith, is)
no_acceptance ChainTooFew is = omega (arith, is)
no_acceptance ChainTooNear is = omega (arith, is)
no_acceptance MeasureOutOfLimits is = omega (arith, is)
