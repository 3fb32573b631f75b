-- Measured circles. Definitions only.
use Rattle.std.specs.Prelude.{ℕ, Result, Ok, Err}
use Rattle.algebra.specs.Integer.{whole}
use Rattle.algebra.specs.Signed.{number}
use Rattle.algebra.specs.Squares.{above}
use Rattle.shape_definitions.specs.declared.refusal.Refusal.{Refusal}
use Rattle.shape_definitions.specs.Refusal.{number_of}
use Rattle.measured_definitions.specs.declared.MeasuredCircle.{MeasuredCircle}
use Rattle.measured_definitions.specs.declared.WholeCircle.{WholeCircle}
use Rattle.measured_definitions.specs.declared.CirclePair.{CirclePair}
use Rattle.measured_definitions.specs.declared.Verdict as Said
use Rattle.measured_definitions.specs.declared.Verdict.TheVariants.{SurelyTouching, SurelyApart, Either}
use Rattle.measured_definitions.specs.Bodies.{Disc, disc}
use Rattle.measured_definitions.specs.Spans.{Coordinate, Size, Inside}
use Rattle.measured_definitions.specs.Verdicts.{Kind, Verdict, refused, surely_touching, surely_apart, either}
use Rattle.measured_definitions.specs.Verdicts.{Right}

pub record CircleLimits (a : MeasuredCircle) : Type 0 where
  pub x : Coordinate a.x
  pub y : Coordinate a.y
  pub radius : Size a.radius

-- every disc inside the ranges
pub record CircleInside (a : MeasuredCircle) (m : ℕ) (c : Disc) : Type 0 where
  pub x : Inside m a.x c.centre.x
  pub y : Inside m a.y c.centre.y
  pub radius : Inside m a.radius (whole c.radius)

-- a choice of whole numbers inside them, and its disc
pub record CircleChoice (a : MeasuredCircle) (w : WholeCircle) : Type 0 where
  pub x : Inside 1 a.x (number w.x)
  pub y : Inside 1 a.y (number w.y)
  pub radius : Inside 1 a.radius (number w.radius)

abbrev pub disc_of : WholeCircle → Disc
disc_of w = record {
  centre = record { x = number w.x; y = number w.y };
  radius = above (number w.radius);
}

abbrev pub circles : Kind
circles = record {
  Measured = MeasuredCircle;
  Exact = Disc;
  Whole = WholeCircle;
  Limits = CircleLimits;
  Inside = CircleInside;
  Choice = CircleChoice;
  exact = disc_of;
  points = disc;
}

abbrev pub circles_verdict : Result (Said.Verdict CirclePair) Refusal → Verdict WholeCircle
circles_verdict (Err why) = refused (number_of why)
circles_verdict (Ok SurelyTouching) = surely_touching
circles_verdict (Ok SurelyApart) = surely_apart
circles_verdict (Ok (Either t s)) = either t.a t.b s.a s.b

abbrev pub CirclesRight : MeasuredCircle → MeasuredCircle → Result (Said.Verdict CirclePair) Refusal → Type 0
CirclesRight a b v = Right circles a b (circles_verdict v)
