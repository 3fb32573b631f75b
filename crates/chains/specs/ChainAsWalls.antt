-- Document 02, request 03: "each line equals that of frame 03 with the same four points under the same id, where all
-- other frames are the same". Two inputs: in the one a line makes a chain, in the other the wall of its piece i, frame
-- 03, stands in its place; all other lines are the same, empty ones among them. What is said of each line of the one,
-- what of the other, until a new shape comes under that id. Definitions only.
use Rattle.std.specs.Prelude.{ℕ, ◌+◌, ◌*◌, ◌-◌, ◌<◌, ◌≡◌, Bool, true, false, cond, ◌&&◌, List, [], ◌∷◌, ◌++◌, map, eqb, length, take, drop}
use Rattle.lines.specs.Fields.{byte_at}
use Rattle.lines.specs.Hex.{frame_of, hex, line_of}
use Rattle.shape_definitions.specs.Refusal.{accepted}
use Rattle.record_definitions.specs.declared.touch.Touch.{Touch}
use Rattle.record_definitions.specs.declared.frame.Answer.{Answer}
use Rattle.record_definitions.specs.declared.frame.Answer.TheVariants.{Accepted, Refused, Tested}
use Rattle.record_definitions.specs.declared.frame.Said.{Said}
use Rattle.record_definitions.specs.declared.server.Server.{Server}
use Rattle.record_definitions.specs.Answer.{touch_bytes, said_alone, said_of_touches, touches_said, result_of}
use Rattle.record_definitions.specs.Export.{refusal_in}
use Rattle.record_definitions.specs.Server.{fresh_server, after_line, Reply, Framed, Stepped, reply_to, reply_line}
use Rattle.record_definitions.specs.Server.{after_lines, reached}
use Rattle.record_definitions.specs.Heat.{defines_shape}
use Rattle.record_definitions.specs.Touches.{lines_from, printed_lines, touches}
use Rattle.record_definitions.specs.Reading.{joined}

-- ---- the wall that stands for piece i of the chain of a line
-- 03, the chain's id, 01, and the four points of the piece: the point before the chain begins at byte 3
abbrev pub wall_frame : List ℕ → ℕ → List ℕ
wall_frame chain i = 3 ∷ byte_at chain 1 ∷ 1 ∷ take 32 (drop (3 + 8 * i) chain)

abbrev pub wall_line : List ℕ → ℕ → List ℕ
wall_line line i = hex (wall_frame (frame_of line) i)

-- a line that makes a chain with a piece i here: kind 07, answered 00, more than i pieces
pub record MakesPiece (s : Server) (line : List ℕ) (i : ℕ) : Type 0 where
  pub kind : byte_at (frame_of line) 0 ≡ 7
  pub taken : reply_to s line ≡ Framed (said_alone Accepted)
  pub piece : i < byte_at (frame_of line) 2 - 1

-- ---- where only piece i is there, a test says that piece's result alone; a refusal and 00 are said as they are, and so
-- is the number of a step
abbrev pub piece_of_answer : ℕ → Answer → Said → Said
piece_of_answer i Accepted said = said
piece_of_answer i (Refused number) said = said
piece_of_answer i (Tested t) said = said_of_touches (result_of said i) []

unfoldable pub piece_alone : ℕ → Said → Said
piece_alone i said = piece_of_answer i said.answer said

abbrev pub piece_reply : ℕ → Reply → Reply
piece_reply i (Framed said) = Framed (piece_alone i said)
piece_reply i (Stepped steps) = Stepped steps

-- a test whose first id is this one
abbrev pub tests_first : ℕ → List ℕ → Bool
tests_first id line = eqb (byte_at (frame_of line) 0) 5 && eqb (byte_at (frame_of line) 1) id

-- the reply to a line, of the chain under this id its piece i alone
unfoldable pub seen : ℕ → ℕ → Server → List ℕ → Reply
seen id i s line = cond (tests_first id line) (piece_reply i (reply_to s line)) (reply_to s line)

-- ---- a line that makes a new shape under this id
abbrev pub taken : Reply → Bool
taken (Framed said) = eqb (refusal_in said) accepted
taken (Stepped steps) = false

unfoldable pub renews : ℕ → Server → List ℕ → Bool
renews id s line = (defines_shape (frame_of line) && eqb (byte_at (frame_of line) 1) id) && taken (reply_to s line)

-- ---- the replies to some lines, one after the other; and of the chain under this id its piece i alone, until a new
-- shape comes there
unfoldable pub replies : Server → List (List ℕ) → List Reply
replies s [] = []
replies s (line ∷ lines) = reply_to s line ∷ replies (after_line s line) lines

unfoldable pub seen_replies : ℕ → ℕ → Server → List (List ℕ) → List Reply
seen_replies id i s [] = []
seen_replies id i s (line ∷ lines) =
    cond (renews id s line) (replies s (line ∷ lines)) (seen id i s line ∷ seen_replies id i (after_line s line) lines)

-- none of some lines makes a new shape under this id
unfoldable pub NeverRenewed : ℕ → Server → List (List ℕ) → Type 0
NeverRenewed id s [] = Unit {0}
NeverRenewed id s (line ∷ lines) = (renews id s line ≡ false) × NeverRenewed id (after_line s line) lines

-- ---- what is to be shown: whatever lines come before, whichever of its pieces
module _ (before : List (List ℕ)) (chain : List ℕ) (i : ℕ) where
  abbrev pub chain_id : ℕ
  chain_id = byte_at (frame_of chain) 1

  -- the state that the chain comes to; and the states after it, or the wall, and then some lines
  abbrev pub there : Server
  there = reached before

  abbrev pub with_chain : List (List ℕ) → Server
  with_chain lines = after_lines (after_line there chain) lines

  abbrev pub with_wall : List (List ℕ) → Server
  with_wall lines = after_lines (after_line there (wall_line chain i)) lines

  pub record EachLineAsItsWall : Type 0 where
    -- the wall prints 00, as the chain does
    pub both_taken : reply_to there (wall_line chain i) ≡ reply_to there chain
    -- until a new shape comes under the id, each test of the chain that answers has a line i, and that is the line that
    -- the wall prints
    pub line_there : (between : List (List ℕ)) → NeverRenewed chain_id (with_chain []) between
        → (test : List ℕ) (said : Said) (t : Touch) → tests_first chain_id test ≡ true
        → reply_to (with_chain between) test ≡ Framed said → said.answer ≡ Tested t → i < length (touches_said said)
    pub each_line : (between : List (List ℕ)) → NeverRenewed chain_id (with_chain []) between
        → (test : List ℕ) (said : Said) (t : Touch) → tests_first chain_id test ≡ true
        → reply_to (with_chain between) test ≡ Framed said → said.answer ≡ Tested t
        → reply_line (reply_to (with_wall between) test) ≡ line_of (touch_bytes (result_of said i))
    -- a refused line is refused so, and every other line is answered so, empty ones among them
    pub each_refusal : (between : List (List ℕ)) → NeverRenewed chain_id (with_chain []) between
        → (line : List ℕ) (said : Said) (n : ℕ) → reply_to (with_chain between) line ≡ Framed said
        → said.answer ≡ Refused n → reply_to (with_wall between) line ≡ reply_to (with_chain between) line
    pub each_other : (between : List (List ℕ)) → NeverRenewed chain_id (with_chain []) between → (line : List ℕ)
        → tests_first chain_id line ≡ false → reply_to (with_wall between) line ≡ reply_to (with_chain between) line
    -- after a new shape under the id nothing tells the two apart
    pub same_after : (between : List (List ℕ)) → NeverRenewed chain_id (with_chain []) between → (line : List ℕ)
        → renews chain_id (with_chain between) line ≡ true
        → after_line (with_wall between) line ≡ after_line (with_chain between) line
    -- all replies, in one equation: to the lines before, 00, and to the rest what is seen of piece i
    pub all_lines : (rest : List (List ℕ))
        → replies fresh_server (before ++ wall_line chain i ∷ rest)
        ≡ replies fresh_server before ++ reply_to there chain ∷ seen_replies chain_id i (with_chain []) rest
    -- and all that the program prints
    pub all_printed : (rest : List (List ℕ)) (input : List ℕ)
        → lines_from [] input ≡ before ++ wall_line chain i ∷ rest
        → touches input
        ≡ printed_lines reply_line fresh_server before
        ++ (reply_line (reply_to there chain)
        ++ joined (map reply_line (seen_replies chain_id i (with_chain []) rest)))
