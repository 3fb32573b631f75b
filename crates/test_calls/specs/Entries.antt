-- What `calls` answers: the entry's number is the first word of a request, floats are their bits, and the answer is the
-- refusal (0 for accepted) and then the complete record after the call. The answer to a malformed request is no word at
-- all. Definitions only.
use Rattle.std.specs.Prelude.{ℕ, cond, List, [], ltb, eqb, length}
use Rattle.test_entries.specs.Numbers.{root_answer, normalize_answer, heading_answer, root_step_answer}
use Rattle.test_entries.specs.ByNumber.{shape_answer, contact_answer}
use Rattle.wire.specs.Words.{word_at}

-- the entry is the first word: 1 to 6 make and test shapes, 7 to 14 are contact calls
unfoldable pub entry_answer : ℕ → List ℕ → List ℕ
entry_answer entry request =
    cond (eqb entry 15) (root_answer request)
    (cond (eqb entry 16) (normalize_answer request)
    (cond (eqb entry 17) (heading_answer request)
    (cond (eqb entry 18) (root_step_answer request)
    (cond (ltb entry 7) (shape_answer entry request) (contact_answer entry request)))))

unfoldable pub answer : List ℕ → List ℕ
answer request = cond (ltb (length request) 4) [] (entry_answer (word_at request 0) request)
