-- Document 02, request 07, in the referee's words: a push points somewhere. Definitions only.
use Rattle.std.specs.Prelude.{ℕ, ◌<◌, ◌≡◌, List}
use Rattle.rounding.specs.Value.{mag}
use Rattle.floats.specs.declared.b2_math.B2vec2.{B2vec2}
use Rattle.floats.specs.NearUnit.{TurnedUnit}
use Rattle.headings.specs.Headings.{Heading}
use Rattle.record_definitions.specs.declared.world.World.{World}
use Rattle.record_definitions.specs.declared.touch.Touch.{Touch}
use Rattle.record_definitions.specs.declared.frame.Answer.TheVariants.{Tested}
use Rattle.record_definitions.specs.World.{circle_kind, outline_kind, body_at}
use Rattle.record_definitions.specs.OneFrame.{first_place, second_place, said_of_frame}

-- a printed normal points somewhere: it is not zero, and its squared length is 1 within 2^-18
pub record PointsSomewhere (w : B2vec2) : Type 0 where
  pub not_zero : mag w.x ≡ 0 → mag w.y ≡ 0 → ⊥
  pub near_unit : TurnedUnit w

-- what a frame's test prints in a world, of an outline and a circle, where there is a point: the outline is turned as a
-- heading turns, or not at all, which is heading 0
pub record OutlinePushes (w : World) (bytes : List ℕ) : Type 0 where
  pub pushes : (t : Touch) → (said_of_frame w bytes).answer ≡ Tested t
      → (body_at w (first_place bytes)).kind ≡ outline_kind → (body_at w (second_place bytes)).kind ≡ circle_kind
      → Heading (body_at w (first_place bytes)).xf.q → 0 < t.count → PointsSomewhere t.normal
