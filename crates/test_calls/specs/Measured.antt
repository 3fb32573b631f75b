-- What `measured_calls` answers: the first word of a request is the number, 20 for measured circles and 21 for boxes, and
-- the answer is that of the entry. The answer to a malformed request or another number is no word at all. Definitions
-- only.
use Rattle.std.specs.Prelude.{ℕ, cond, List, [], ltb, eqb, length}
use Rattle.test_entries.specs.Measured.{measured_circles_answer, measured_boxes_answer}
use Rattle.wire.specs.Words.{word_at}

unfoldable pub measured_entry : ℕ → List ℕ → List ℕ
measured_entry entry request =
    cond (eqb entry 20) (measured_circles_answer request) (cond (eqb entry 21) (measured_boxes_answer request) [])

unfoldable pub measured_answer : List ℕ → List ℕ
measured_answer request = cond (ltb (length request) 4) [] (measured_entry (word_at request 0) request)
