-- What a frame makes, as a change: of a body, where it is no test, and the pair stays; of a pair, where it tests a body,
-- and the body stays. A refusal changes nothing. Definitions only.
use Rattle.std.specs.Prelude.{◌≡◌, Result, Ok, Err, false}
use Rattle.shape_definitions.specs.declared.refusal.Refusal.{Refusal}
use Rattle.shape_definitions.specs.Refusal.{accepted, number_of}
use Rattle.record_definitions.specs.declared.world.Body.{Body}
use Rattle.record_definitions.specs.declared.world.Pair.{Pair}
use Rattle.record_definitions.specs.declared.touch.TestAnswer.{TestAnswer}
use Rattle.record_definitions.specs.declared.frame.Answer.TheVariants.{Tested}
use Rattle.record_definitions.specs.declared.frame.Change.{Change}
use Rattle.record_definitions.specs.Answer.{said_alone}
use Rattle.record_definitions.specs.Frame.{refused, defined, moved}
use Rattle.frames.specs.declared.changes.BodyChange.{BodyChange}
use Rattle.frames.specs.declared.changes.BodyChange.TheVariants.{Defined, Moved}
use Rattle.frames.specs.declared.changes.ChainMade.{ChainMade}
use Rattle.frames.specs.declared.changes.TestMade.{TestMade}
use Rattle.frames.specs.declared.test_frame.PieceMade.{PieceMade}
use Rattle.frames.specs.declared.test_frame.PieceRefused.{PieceRefused}

abbrev pub of_body : Body → Result BodyChange Refusal → Pair → Change
of_body body (Ok (Defined new)) pair = defined new pair
of_body body (Ok (Moved new)) pair = moved new pair
of_body body (Err why) pair = refused (number_of why) body pair

-- of a body that is no chain
abbrev pub of_test : Result TestMade Refusal → Body → Pair → Change
of_test (Ok made) body pair =
    record { said = said_alone (Tested made.touch); body = body; pair = made.pair; forget = false }
of_test (Err why) body pair = refused (number_of why) body pair

abbrev pub of_chain_test : Result ChainMade Refusal → Body → Pair → Change
of_chain_test (Ok made) body pair = record { said = made.said; body = body; pair = made.pair; forget = false }
of_chain_test (Err why) body pair = refused (number_of why) body pair

-- the result of a test of a piece and what is kept of it, as an answer has them
abbrev pub MadeAs : PieceMade → TestAnswer → Type 0
MadeAs made answer = (made.touch ≡ answer.touch) × (made.kept ≡ answer.kept)

-- what the test of a piece answers: 0 or the number of its refusal, and what it makes, on a refusal too
abbrev pub AnsweredAs : Result PieceMade PieceRefused → TestAnswer → Type 0
AnsweredAs (Ok made) answer = (answer.refusal ≡ accepted) × MadeAs made answer
AnsweredAs (Err refused) answer = (answer.refusal ≡ number_of refused.why) × MadeAs refused.made answer
