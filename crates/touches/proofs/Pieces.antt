-- A piece of input that is fed until all of it is taken, for any way of printing: what the loop of `piece` knows after
-- some of it, what one call of `feed` adds, and what is handed to the output then; and the last line, ended for it.
-- Assumes nothing.
use Rattle.std.proofs.Common.{◌≡◌, ℕ, ◌+◌, ◌-◌, ◌<◌, ◌≤◌, List, [], ◌∷◌, length, take, drop, sym, refl, ap, ◌∙◌, append-nil, arith, length-append, length-drop, take_all, take_at, take-add, ne_eqb}
use Rattle.lines.specs.Hex.{line_feed}
use Rattle.record_definitions.specs.declared.reader.Reader.{Reader}
use Rattle.record_definitions.specs.declared.reader.Fed.{Fed}
use Rattle.record_definitions.specs.Server.{Reply, reply_to}
use Rattle.record_definitions.specs.Reading.{Reading, after, printed_character, printed, last_line, reading, FedAs}
use Rattle.record_definitions.proofs.Pieces.{after_append}

module _ (print : Reply → List ℕ) (longest : ℕ) where
  -- after the first characters of a piece; the output was as long as old before it
  pub record PieceSoFar (s : Reader) (chunk old out : List ℕ) (reader : Reader) (from : ℕ) : Type 0 where
    pub within : from ≤ length chunk
    pub room : longest ≤ length old
    pub same_length : length out ≡ length old
    pub state : reading reader ≡ after (reading s) (take from chunk)

  pub none_fed : (s : Reader) (chunk out : List ℕ) → longest ≤ length out → PieceSoFar s chunk out out s 0
  unfolding after
  none_fed s chunk out room = record { within = omega arith; room = room; same_length = refl; state = refl }

  module _ (s : Reader) (chunk old out : List ℕ) (reader : Reader) (from : ℕ)
      (so_far : PieceSoFar s chunk old out reader from) (r : Fed) (left : List ℕ) (kept : length left ≡ length out)
      (fed : FedAs print longest reader (take (length chunk - from) (drop from chunk)) out r left) where
    rest : take (length chunk - from) (drop from chunk) ≡ drop from chunk
    rest = take_all (length chunk - from) (drop from chunk) (omega (arith, length-drop from chunk))

    rest_length : length (take (length chunk - from) (drop from chunk)) ≡ length chunk - from
    rest_length = ap length rest ∙ length-drop from chunk

    pub end_within : from + r.taken ≤ length chunk
    end_within = omega (arith, fed.within, rest_length, so_far.within)

    -- the output has room for a line, so that some of the piece is taken
    pub some_taken : from < length chunk → 0 < r.taken
    some_taken more =
        fed.some (omega (arith, so_far.room, so_far.same_length)) (omega (arith, rest_length, so_far.within))

    -- what is taken: from there to the new place
    taken_part : take r.taken (take (length chunk - from) (drop from chunk))
        ≡ take (from + r.taken - from) (drop from chunk)
    taken_part =
        let size : r.taken ≡ from + r.taken - from = omega arith in
        ap (take r.taken) rest ∙ ap (λ (n : ℕ). take n (drop from chunk)) size

    pub written_within : r.written ≤ length left
    written_within =
        let new = printed print (reading reader) (take r.taken (take (length chunk - from) (drop from chunk))) in
        omega (arith, fed.count, ap length fed.output ∙ length-append new (drop (length new) out))

    -- what is handed to the output is what was taken prints
    pub handed : take r.written left
        ≡ printed print (reading reader) (take (from + r.taken - from) (drop from chunk))
    handed =
        let new = printed print (reading reader) (take r.taken (take (length chunk - from) (drop from chunk))) in
        ap (take r.written) fed.output
        ∙ take_at new (drop (length new) out) r.written (sym fed.count)
        ∙ ap (printed print (reading reader)) taken_part

    pub more_fed : PieceSoFar s chunk old left r.reader (from + r.taken)
    more_fed = record {
      within = end_within;
      room = so_far.room;
      same_length = kept ∙ so_far.same_length;
      state =
          fed.state
          ∙ ap (λ (l : List ℕ). after (reading reader) (take r.taken l)) rest
          ∙ ap (λ (t : Reading). after t (take r.taken (drop from chunk))) so_far.state
          ∙ sym (after_append (reading s) (take from chunk) (take r.taken (drop from chunk)))
          ∙ ap (after (reading s)) (sym (take-add from r.taken chunk));
    }

  pub all_fed : (s : Reader) (chunk old out : List ℕ) (reader : Reader) (from : ℕ) → length chunk ≤ from
      → PieceSoFar s chunk old out reader from → reading reader ≡ after (reading s) chunk
  all_fed s chunk old out reader from done so_far =
      so_far.state ∙ ap (after (reading s)) (take_all from chunk done)

  -- a line feed behind the last line prints what its end does
  pub last_line_fed : (r : Reading) → (length r.line ≡ 0 → ⊥)
      → printed print r (line_feed ∷ []) ≡ last_line print r
  unfolding printed printed_character
  last_line_fed r some =
      append-nil (print (reply_to r.server r.line)) ∙ simp (ne_eqb (length r.line) 0 some)
