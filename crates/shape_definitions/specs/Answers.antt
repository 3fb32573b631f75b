-- What a call that makes or tests a shape answers: 0 and the new shape, or the number of the refusal and the shape that
-- it was given. The code has a Result; each of the last three definitions says what that means. Definitions only.
use Rattle.std.specs.Prelude.{ℕ, Bool, false, Result}
use Rattle.shape_definitions.specs.declared.b2_edge_shape.B2edgeShape.{B2edgeShape}
use Rattle.shape_definitions.specs.declared.b2_polygon_shape.B2polygonShape.{B2polygonShape}
use Rattle.shape_definitions.specs.declared.b2_polygon_shape.PolygonAnswer.{PolygonAnswer}
use Rattle.shape_definitions.specs.declared.refusal.Refusal.{Refusal}
use Rattle.shape_definitions.specs.Refusal.{refusal_number, made_or}

-- of a wall
pub record EdgeAnswer : Type 0 where
  pub refusal : ℕ
  pub shape : B2edgeShape

-- of the convexity test: no, where it is refused
pub record ValidateAnswer : Type 0 where
  pub refusal : ℕ
  pub valid : Bool

abbrev pub polygon_answered : B2polygonShape → Result B2polygonShape Refusal → PolygonAnswer
polygon_answered old result = record { refusal = refusal_number result; shape = made_or old result }

abbrev pub edge_answered : B2edgeShape → Result B2edgeShape Refusal → EdgeAnswer
edge_answered old result = record { refusal = refusal_number result; shape = made_or old result }

abbrev pub validate_answered : Result Bool Refusal → ValidateAnswer
validate_answered result = record { refusal = refusal_number result; valid = made_or false result }
