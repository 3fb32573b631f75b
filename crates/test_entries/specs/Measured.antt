-- What the entries of measured bodies answer: the refusal (0 for accepted), the verdict, and two pairs; to a malformed
-- request, no word at all. Definitions only.
use Rattle.std.specs.Prelude.{ℕ, true, List}
use Rattle.measured_definitions.specs.MeasuredCircles.{measured_circles, circles_answer}
use Rattle.measured_definitions.specs.MeasuredBoxes.{measured_boxes, boxes_answer}
use Rattle.wire.specs.Requests.{well_formed}
use Rattle.wire.specs.MeasuredRecords.{measured_circle_at, measured_box_at, circles_answer_words, boxes_answer_words}

-- 20, circle A, circle B
unfoldable pub measured_circles_answer : List ℕ → List ℕ
measured_circles_answer request =
    well_formed 13 true request (circles_answer_words (circles_answer
    (measured_circles (measured_circle_at request 1) (measured_circle_at request 7))))

-- 21, box A, box B
unfoldable pub measured_boxes_answer : List ℕ → List ℕ
measured_boxes_answer request =
    well_formed 17 true request (boxes_answer_words (boxes_answer
    (measured_boxes (measured_box_at request 1) (measured_box_at request 9))))
