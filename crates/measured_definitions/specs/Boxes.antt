-- Measured boxes, unturned. Definitions only.
use Rattle.std.specs.Prelude.{ℕ, Result, Ok, Err}
use Rattle.algebra.specs.Integer.{whole}
use Rattle.algebra.specs.Signed.{number}
use Rattle.algebra.specs.Squares.{above}
use Rattle.shape_definitions.specs.declared.refusal.Refusal.{Refusal}
use Rattle.shape_definitions.specs.Refusal.{number_of}
use Rattle.measured_definitions.specs.declared.MeasuredBox.{MeasuredBox}
use Rattle.measured_definitions.specs.declared.WholeBox.{WholeBox}
use Rattle.measured_definitions.specs.declared.BoxPair.{BoxPair}
use Rattle.measured_definitions.specs.declared.Verdict as Said
use Rattle.measured_definitions.specs.declared.Verdict.TheVariants.{SurelyTouching, SurelyApart, Either}
use Rattle.measured_definitions.specs.Bodies.{Box, box}
use Rattle.measured_definitions.specs.Spans.{Coordinate, Size, Inside}
use Rattle.measured_definitions.specs.Verdicts.{Kind, Verdict, refused, surely_touching, surely_apart, either}
use Rattle.measured_definitions.specs.Verdicts.{Right}

pub record BoxLimits (a : MeasuredBox) : Type 0 where
  pub x : Coordinate a.x
  pub y : Coordinate a.y
  pub hx : Size a.hx
  pub hy : Size a.hy

-- every box inside the ranges
pub record BoxInside (a : MeasuredBox) (m : ℕ) (c : Box) : Type 0 where
  pub x : Inside m a.x c.centre.x
  pub y : Inside m a.y c.centre.y
  pub hx : Inside m a.hx (whole c.hx)
  pub hy : Inside m a.hy (whole c.hy)

-- a choice of whole numbers inside them, and its box
pub record BoxChoice (a : MeasuredBox) (w : WholeBox) : Type 0 where
  pub x : Inside 1 a.x (number w.x)
  pub y : Inside 1 a.y (number w.y)
  pub hx : Inside 1 a.hx (number w.hx)
  pub hy : Inside 1 a.hy (number w.hy)

abbrev pub box_of : WholeBox → Box
box_of w = record {
  centre = record { x = number w.x; y = number w.y };
  hx = above (number w.hx);
  hy = above (number w.hy);
}

abbrev pub boxes : Kind
boxes = record {
  Measured = MeasuredBox;
  Exact = Box;
  Whole = WholeBox;
  Limits = BoxLimits;
  Inside = BoxInside;
  Choice = BoxChoice;
  exact = box_of;
  points = box;
}

abbrev pub boxes_verdict : Result (Said.Verdict BoxPair) Refusal → Verdict WholeBox
boxes_verdict (Err why) = refused (number_of why)
boxes_verdict (Ok SurelyTouching) = surely_touching
boxes_verdict (Ok SurelyApart) = surely_apart
boxes_verdict (Ok (Either t s)) = either t.a t.b s.a s.b

abbrev pub BoxesRight : MeasuredBox → MeasuredBox → Result (Said.Verdict BoxPair) Refusal → Type 0
BoxesRight a b v = Right boxes a b (boxes_verdict v)
