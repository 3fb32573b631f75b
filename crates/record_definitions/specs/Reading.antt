-- Input that comes in pieces, a character at a time: the server, and of the line so far the first characters, one more
-- than the longest line has, which tell that a line is overlong. proofs/Theorem shows that the pieces do not matter.
-- Definitions only.
use Rattle.std.specs.Prelude.{ℕ, ◌+◌, ◌-◌, ◌≤◌, ◌<◌, ◌≡◌, cond, List, [], ◌∷◌, ◌++◌, eqb, ltb, length, take}
use Rattle.algebra.specs.Buffer.{over}
use Rattle.lines.specs.Hex.{line_limit, line_feed}
use Rattle.record_definitions.specs.declared.server.Server.{Server}
use Rattle.record_definitions.specs.declared.reader.Reader.{Reader}
use Rattle.record_definitions.specs.declared.reader.Fed.{Fed}
use Rattle.record_definitions.specs.Server.{fresh_server, after_line, Reply, reply_to}

pub record Reading : Type 0 where
  pub server : Server
  pub line : List ℕ

abbrev pub kept_length : ℕ
kept_length = line_limit + 1

-- ---- one character
abbrev pub with_character : List ℕ → ℕ → List ℕ
with_character line x = cond (ltb (length line) kept_length) (line ++ (x ∷ [])) line

unfoldable pub after_character : Reading → ℕ → Reading
after_character r x =
    cond (eqb x line_feed) (record { server = after_line r.server r.line; line = [] })
    (record { server = r.server; line = with_character r.line x })

-- ---- some input
unfoldable pub after : Reading → List ℕ → Reading
after r [] = r
after r (x ∷ input) = after (after_character r x) input

abbrev pub begin : Reading
begin = record { server = fresh_server; line = [] }

module _ (print : Reply → List ℕ) where
  unfoldable pub printed_character : Reading → ℕ → List ℕ
  printed_character r x = cond (eqb x line_feed) (print (reply_to r.server r.line)) []

  unfoldable pub printed : Reading → List ℕ → List ℕ
  printed r [] = []
  printed r (x ∷ input) = printed_character r x ++ printed (after_character r x) input

  -- at the end of the input a line without a line feed is a line
  abbrev pub last_line : Reading → List ℕ
  last_line r = cond (eqb (length r.line) 0) [] (print (reply_to r.server r.line))

  -- what each piece prints, and at the end the last line
  unfoldable pub fed_pieces : Reading → List (List ℕ) → List ℕ
  fed_pieces r [] = last_line r
  fed_pieces r (piece ∷ pieces) = printed r piece ++ fed_pieces (after r piece) pieces

abbrev pub joined : List (List ℕ) → List ℕ
joined [] = []
joined (piece ∷ pieces) = piece ++ joined pieces

-- ---- the code's record of a reading
abbrev pub reading : Reader → Reading
reading s = record { server = s.server; line = take s.len s.line }

-- what feeding a piece of input leaves, for any way of printing and the length of the longest line that it prints: the
-- front of the piece was taken, all of it where the output had room for one more line, and some of it where the output
-- had room at all; at the front of the output stands what those characters print
pub record FedAs (print : Reply → List ℕ) (longest : ℕ) (s : Reader) (chunk out : List ℕ) (r : Fed) (left : List ℕ) :
    Type 0 where
  pub within : r.taken ≤ length chunk
  pub all : longest ≤ length out - r.written → r.taken ≡ length chunk
  pub some : longest ≤ length out → 0 < length chunk → 0 < r.taken
  pub state : reading r.reader ≡ after (reading s) (take r.taken chunk)
  pub count : r.written ≡ length (printed print (reading s) (take r.taken chunk))
  pub output : left ≡ over (printed print (reading s) (take r.taken chunk)) out
