-- The whole input and its pieces: what is printed is what the lines of the input print, however the reads split it, and
-- for any way of printing. Of a line the first characters, one more than the longest line has, say all that the line
-- says (`frame_kept`). Assumes nothing.
use Prim.Native.Nat.{ℕ, ◌≤◌}
use mathlib.Core.Path.{◌≡◌, refl, sym, ◌∙◌, ap}
use mathlib.Core.Bool.{Bool, true, false, cond}
use mathlib.Core.List.{List, [], ◌∷◌, ◌++◌, append_assoc, append-nil}
use mathlib.Core.Logic.{⊎_elim}
use native.Mathlib.Omega.{arith}
use lib.Dec.{eqb, ltb}
use lib.ListN.{length, take, length-append}
use lib.Seq.{take_all, take-append-le, length-take-le}
use borrow.Author.Tests.{lt-ltb, le-ltb, ne_eqb}
use Rattle.algebra.proofs.Booleans.{less_or_not}
use Rattle.lines.specs.Hex.{line_limit, frame_of, line_feed}
use Rattle.record_definitions.specs.declared.server.Server.{Server}
use Rattle.record_definitions.specs.Server.{fresh_server, after_line, Reply, reply_to}
use Rattle.record_definitions.specs.Touches.{lines_from, printed_lines}
use Rattle.record_definitions.specs.Reading.{Reading, kept_length, after_character, after, begin}
use Rattle.record_definitions.specs.Reading.{printed_character, printed, last_line, fed_pieces, joined}
use Rattle.record_definitions.proofs.Replies.{after_framed, reply_framed}

-- ---- the characters that are kept
kept_step : (k : ℕ) (line : List ℕ) (x : ℕ)
    → cond (ltb (length (take k line)) k) (take k line ++ (x ∷ [])) (take k line) ≡ take k (line ++ (x ∷ []))
kept_step k line x =
    ⊎_elim
    (λ short. let whole : take k line ≡ line = take_all k line (omega arith) in
    let more : length (line ++ (x ∷ [])) ≤ k = omega (arith, length-append line (x ∷ [])) in
    rw (whole, lt-ltb (length line) k short) (sym (take_all k (line ++ (x ∷ [])) more)))
    (λ long. let size : length (take k line) ≡ k = length-take-le k line long in
    rw (le-ltb (length (take k line)) k (omega arith)) (sym (take-append-le k line (x ∷ []) long)))
    (less_or_not (length line) k)

frame_kept : (line : List ℕ) → frame_of (take kept_length line) ≡ frame_of line
unfolding frame_of
frame_kept line =
    ⊎_elim
    (λ short. rw (take_all kept_length line (omega arith)) refl)
    (λ long. let size : length (take kept_length line) ≡ kept_length = length-take-le kept_length line long in
    let over : ltb line_limit (length (take kept_length line)) ≡ true =
    lt-ltb line_limit (length (take kept_length line)) (omega arith) in
    simp (over, lt-ltb line_limit (length line) (omega arith)))
    (less_or_not (length line) kept_length)

-- so an empty line is kept as one, and no other line
after_kept : (s : Server) (line : List ℕ) → after_line s (take kept_length line) ≡ after_line s line
after_kept s [] = refl
after_kept s (c ∷ line) =
    after_framed s (take kept_length (c ∷ line)) (λ none. omega arith) ∙ rw (frame_kept (c ∷ line)) refl

reply_kept : (s : Server) (line : List ℕ) → reply_to s (take kept_length line) ≡ reply_to s line
reply_kept s [] = refl
reply_kept s (c ∷ line) =
    reply_framed s (take kept_length (c ∷ line)) (λ none. omega arith) ∙ rw (frame_kept (c ∷ line)) refl

-- ---- two pieces
pub after_append : (r : Reading) (a b : List ℕ) → after r (a ++ b) ≡ after (after r a) b
unfolding after
after_append r [] b = refl
after_append r (x ∷ a) b = after_append (after_character r x) a b

as_reading : Server → List ℕ → Reading
as_reading s line = record { server = s; line = take kept_length line }

module _ (print : Reply → List ℕ) where
  pub printed_append : (r : Reading) (a b : List ℕ)
      → printed print r (a ++ b) ≡ printed print r a ++ printed print (after r a) b
  unfolding after printed
  printed_append r [] b = refl
  printed_append r (x ∷ a) b =
      let now = printed_character print r x in
      let next = after_character r x in
      ap (◌++◌ now) (printed_append next a b)
      ∙ sym (append_assoc now (printed print next a) (printed print (after next a) b))

  -- ---- lines, and a character at a time
  -- all that a reading prints on the rest of the input
  to_print : Reading → List ℕ → List ℕ
  to_print r input = printed print r input ++ last_line print (after r input)

  first_character : (r : Reading) (x : ℕ) (input : List ℕ)
      → to_print r (x ∷ input) ≡ printed_character print r x ++ to_print (after_character r x) input
  unfolding to_print after printed
  first_character r x input =
      let next = after_character r x in
      append_assoc (printed_character print r x) (printed print next input) (last_line print (after next input))

  -- what the lines print of the input behind the beginning of one
  of_lines : Server → List ℕ → List ℕ → List ℕ
  of_lines s line input = printed_lines print s (lines_from line input)

  -- one character, from what the rest prints after it
  module _ (s : Server) (line input : List ℕ) (x : ℕ) where
    line_ended : eqb x line_feed ≡ true
        → of_lines (after_line s line) [] input ≡ to_print (as_reading (after_line s line) []) input
        → of_lines s line (x ∷ input) ≡ to_print (as_reading s line) (x ∷ input)
    unfolding of_lines lines_from printed_lines as_reading after_character printed_character
    line_ended is rest =
        let reply = print (reply_to s line) in
        let answered : printed_character print (as_reading s line) x ≡ reply =
        rw is (ap print (reply_kept s line)) in
        let next : after_character (as_reading s line) x ≡ as_reading (after_line s line) [] =
        rw is (ap (λ (v : Server). as_reading v []) (after_kept s line)) in
        let right : to_print (as_reading s line) (x ∷ input)
        ≡ reply ++ to_print (as_reading (after_line s line) []) input =
        first_character (as_reading s line) x input
        ∙ ap (λ (l : List ℕ). l ++ to_print (after_character (as_reading s line) x) input) answered
        ∙ ap (λ (r : Reading). reply ++ to_print r input) next in
        rw (is, right) (ap (◌++◌ reply) rest)

    line_goes_on : eqb x line_feed ≡ false
        → of_lines s (line ++ (x ∷ [])) input ≡ to_print (as_reading s (line ++ (x ∷ []))) input
        → of_lines s line (x ∷ input) ≡ to_print (as_reading s line) (x ∷ input)
    unfolding of_lines lines_from as_reading after_character printed_character
    line_goes_on is rest =
        let nothing : printed_character print (as_reading s line) x ≡ [] = rw is refl in
        let next : after_character (as_reading s line) x ≡ as_reading s (line ++ (x ∷ [])) =
        rw is (ap (λ (l : List ℕ). record { server = s; line = l }) (kept_step kept_length line x)) in
        let right : to_print (as_reading s line) (x ∷ input) ≡ to_print (as_reading s (line ++ (x ∷ []))) input =
        first_character (as_reading s line) x input
        ∙ ap (λ (l : List ℕ). l ++ to_print (after_character (as_reading s line) x) input) nothing
        ∙ ap (λ (r : Reading). to_print r input) next in
        rw (is, right) rest

    one_character : (t : Bool) → eqb x line_feed ≡ t
        → of_lines (after_line s line) [] input ≡ to_print (as_reading (after_line s line) []) input
        → of_lines s (line ++ (x ∷ [])) input ≡ to_print (as_reading s (line ++ (x ∷ []))) input
        → of_lines s line (x ∷ input) ≡ to_print (as_reading s line) (x ∷ input)
    one_character true is ended on = line_ended is ended
    one_character false is ended on = line_goes_on is on

  by_characters : (s : Server) (line input : List ℕ) → of_lines s line input ≡ to_print (as_reading s line) input
  unfolding of_lines lines_from printed_lines after printed to_print as_reading
  by_characters s [] [] = refl
  by_characters s (c ∷ line) [] =
      append-nil (print (reply_to s (c ∷ line))) ∙ sym (ap print (reply_kept s (c ∷ line)))
      ∙ simp (ne_eqb (length (take kept_length (c ∷ line))) 0 (λ none. omega arith))
  by_characters s line (x ∷ input) =
      one_character s line input x (eqb x line_feed) refl (by_characters (after_line s line) [] input)
      (by_characters s (line ++ (x ∷ [])) input)

  -- a program that keeps so many characters of a line prints what the lines print
  whole : (input : List ℕ)
      → printed print begin input ++ last_line print (after begin input)
      ≡ printed_lines print fresh_server (lines_from [] input)
  unfolding of_lines to_print as_reading
  whole input = sym (by_characters fresh_server [] input)

  -- ---- pieces
  pieces_whole : (r : Reading) (pieces : List (List ℕ))
      → fed_pieces print r pieces ≡ printed print r (joined pieces) ++ last_line print (after r (joined pieces))
  unfolding fed_pieces after printed
  pieces_whole r [] = refl
  pieces_whole r (piece ∷ pieces) =
      let now = printed print r piece in
      let next = after r piece in
      ap (◌++◌ now) (pieces_whole next pieces)
      ∙ sym (append_assoc now (printed print next (joined pieces)) (last_line print (after next (joined pieces))))
      ∙ rw (printed_append r piece (joined pieces), after_append r piece (joined pieces)) refl

  -- however the input is split, and however it is printed
  pub split_anyhow : (pieces : List (List ℕ))
      → fed_pieces print begin pieces ≡ printed_lines print fresh_server (lines_from [] (joined pieces))
  split_anyhow pieces = pieces_whole begin pieces ∙ whole (joined pieces)
