-- Document 01, "The touch record": the program `touches`, from all of its input to all of its output, for any way of
-- printing the reply to a line. Definitions only.
use Rattle.std.specs.Prelude.{ℕ, cond, List, [], ◌∷◌, ◌++◌, eqb}
use Rattle.lines.specs.Hex.{line_feed}
use Rattle.record_definitions.specs.declared.server.Server.{Server}
use Rattle.record_definitions.specs.Server.{fresh_server, after_line, Reply, reply_to, reply_line}

-- the lines of the input behind the beginning of one: a line ends at a line feed, the last may lack it, and nothing
-- after a last line feed is a line
unfoldable pub lines_from : List ℕ → List ℕ → List (List ℕ)
lines_from [] [] = []
lines_from (c ∷ line) [] = (c ∷ line) ∷ []
lines_from line (x ∷ input) =
    cond (eqb x line_feed) (line ∷ lines_from [] input) (lines_from (line ++ (x ∷ [])) input)

-- what lines print, one after the other
unfoldable pub printed_lines : (Reply → List ℕ) → Server → List (List ℕ) → List ℕ
printed_lines print s [] = []
printed_lines print s (line ∷ lines) = print (reply_to s line) ++ printed_lines print (after_line s line) lines

unfoldable pub touches : List ℕ → List ℕ
touches input = printed_lines reply_line fresh_server (lines_from [] input)
