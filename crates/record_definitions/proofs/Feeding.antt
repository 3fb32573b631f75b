-- Feeding a piece of input a character at a time, for any way of printing: what the loop of `feed` knows after i
-- characters (`SoFar`), one character more, a line feed or another, and what it knows at the end. Assumes nothing.
use Prim.Native.Nat.{ℕ, zero, suc, ◌+◌, ◌-◌, ◌≤◌, ◌<◌}
use mathlib.Core.Path.{◌≡◌, refl, sym, ◌∙◌, ap}
use mathlib.Core.List.{List, [], ◌∷◌, ◌++◌, append-nil}
use native.Mathlib.Omega.{arith}
use native.Mathlib.Numerals.{add-one}
use lib.ListN.{length, get_or, take, drop, length-append, length-drop}
use lib.Seq.{take-suc, length-take-le}
use borrow.Author.Tests.{eq-eqb, ne_eqb}
use borrow.Rule.Slice.PartMut.{put_mid, mid_of}
use Rattle.algebra.specs.Buffer.{over}
use Rattle.algebra.proofs.Buffer.{over_next, length_over}
use Rattle.lines.specs.Buffers.{Put}
use Rattle.lines.specs.Hex.{line_feed}
use Rattle.record_definitions.specs.declared.server.Server.{Server}
use Rattle.record_definitions.specs.declared.reader.Reader.{Reader}
use Rattle.record_definitions.specs.Server.{after_line, Reply, reply_to}
use Rattle.record_definitions.specs.Reading.{Reading, kept_length, with_character, after_character, after}
use Rattle.record_definitions.specs.Reading.{printed_character, printed, reading, FedAs}
use Rattle.record_definitions.proofs.Pieces.{after_append, printed_append}

one_more : (chunk : List ℕ) (i x : ℕ) → i < length chunk → x ≡ get_or chunk i 0
    → take (i + 1) chunk ≡ take i chunk ++ (x ∷ [])
one_more chunk i x within is =
    ap (λ (n : ℕ). take n chunk) (add-one i) ∙ take-suc chunk i 0 within
    ∙ ap (λ (y : ℕ). take i chunk ++ (y ∷ [])) (sym is)

-- the part from a place on that is lent has what is left of the length
pub length_lent : (at : ℕ) (l : List ℕ) → at ≤ length l → length (mid_of at (length l - at) l) ≡ length l - at
length_lent at l within = length-take-le (length l - at) (drop at l) (omega (arith, length-drop at l))

-- what was written to such a part fits behind the place
put_fits : (at n : ℕ) (out new part : List ℕ) → at ≤ length out
    → length part ≡ length (mid_of at (length out - at) out)
    → Put new (mid_of at (length out - at) out) n part → at + n ≤ length out
put_fits at n out new part within size put =
    omega (
      arith,
      put.count,
      ap length put.left ∙ length-append new (drop (length new) (mid_of at (length out - at) out)),
      size,
      length_lent at out within,
    )

module _ (print : Reply → List ℕ) where
  -- ---- what is known after i characters: the reading r before them, the output old before them, and all that the loop
  -- changes
  pub record SoFar (chunk old : List ℕ) (r : Reading) (out : List ℕ) (server : Server) (line : List ℕ) (len at i : ℕ) :
      Type 0 where
    pub within : i ≤ length chunk
    pub kept : len ≤ kept_length
    pub line_size : length line ≡ kept_length
    pub bodies_size : length server.world.bodies ≡ 8
    pub pairs_size : length server.world.pairs ≡ 64
    pub out_size : length out ≡ length old
    pub at_within : at ≤ length old
    pub count : at ≡ length (printed print r (take i chunk))
    pub output : out ≡ over (printed print r (take i chunk)) old
    pub state : ◌≡◌ {A = Reading} (record { server = server; line = take len line }) (after r (take i chunk))

  -- ---- room: the place is inside the output, a part lent from there on has what is left, and what is put there fits
  module _ {chunk old out line : List ℕ} {r : Reading} {server : Server} {len at i : ℕ}
      (so_far : SoFar chunk old r out server line len at i) where
    pub at_inside : at ≤ length out
    at_inside = omega (arith, so_far.at_within, so_far.out_size)

    pub room_lent : (n : ℕ) → n ≤ length out - at → n ≤ length (mid_of at (length out - at) out)
    room_lent n room = omega (arith, length_lent at out at_inside)

    pub put_inside : (n : ℕ) (new part : List ℕ) → length part ≡ length (mid_of at (length out - at) out)
        → Put new (mid_of at (length out - at) out) n part → at + n ≤ length old
    put_inside n new part size put = omega (arith, put_fits at n out new part at_inside size put, so_far.out_size)

  pub nothing_yet : (chunk old : List ℕ) (server : Server) (line : List ℕ) (len : ℕ) → len ≤ kept_length
      → length line ≡ kept_length → length server.world.bodies ≡ 8 → length server.world.pairs ≡ 64
      → SoFar chunk old (record { server = server; line = take len line }) old server line len 0 0
  unfolding after printed
  nothing_yet chunk old server line len short size bodies pairs = record {
    within = omega arith;
    kept = short;
    line_size = size;
    bodies_size = bodies;
    pairs_size = pairs;
    out_size = refl;
    at_within = omega arith;
    count = refl;
    output = refl;
    state = refl;
  }

  module _ (chunk old : List ℕ) (r : Reading) (out : List ℕ) (server : Server) (line : List ℕ) (len at i x : ℕ)
      (so_far : SoFar chunk old r out server line len at i) (more : i < length chunk) (x_is : x ≡ get_or chunk i 0) where
    next_after : after r (take (i + 1) chunk) ≡ after_character (record { server = server; line = take len line }) x
    unfolding after
    next_after =
        ap (after r) (one_more chunk i x more x_is) ∙ after_append r (take i chunk) (x ∷ [])
        ∙ ap (λ (s : Reading). after_character s x) (sym so_far.state)

    next_printed : printed print r (take (i + 1) chunk)
        ≡ printed print r (take i chunk) ++ printed_character print (record { server = server; line = take len line }) x
    unfolding printed
    next_printed =
        let done = printed print r (take i chunk) in
        ap (printed print r) (one_more chunk i x more x_is) ∙ printed_append print r (take i chunk) (x ∷ [])
        ∙ ap (◌++◌ done) (append-nil (printed_character print (after r (take i chunk)) x))
        ∙ ap (λ (s : Reading). done ++ printed_character print s x) (sym so_far.state)

    -- another character is kept
    pub next_character : (line' : List ℕ) (len' : ℕ) → (x ≡ line_feed → ⊥)
        → take len' line' ≡ with_character (take len line) x → len' ≤ kept_length → length line' ≡ kept_length
        → SoFar chunk old r out server line' len' at (i + 1)
    unfolding after_character printed_character
    next_character line' len' other kept_is short size =
        let done = printed print r (take i chunk) in
        let same : printed print r (take (i + 1) chunk) ≡ done =
        next_printed ∙ rw (ne_eqb x line_feed other) (append-nil done) in
        record {
          within = omega arith;
          kept = short;
          line_size = size;
          bodies_size = so_far.bodies_size;
          pairs_size = so_far.pairs_size;
          out_size = so_far.out_size;
          at_within = so_far.at_within;
          count = so_far.count ∙ ap length (sym same);
          output = so_far.output ∙ ap (λ (l : List ℕ). over l old) (sym same);
          state =
              ap (λ (l : List ℕ). record { server = server; line = l }) kept_is
              ∙ rw next_after (simp (ne_eqb x line_feed other));
        }

    -- a line feed: the line is answered, and the next begins
    pub next_line : (server' : Server) (reply : Reply) (part : List ℕ) (n : ℕ) → x ≡ line_feed
        → server' ≡ after_line server (take len line) → reply ≡ reply_to server (take len line)
        → length server'.world.bodies ≡ 8
        → length server'.world.pairs ≡ 64 → length part ≡ length (mid_of at (length out - at) out)
        → Put (print reply) (mid_of at (length out - at) out) n part
        → SoFar chunk old r (put_mid at (length out - at) out part) server' line 0 (at + n) (i + 1)
    unfolding after_character printed_character
    next_line server' reply part n feed server'_is reply_is bodies pairs part_size put =
        let new = print reply in
        let done = printed print r (take i chunk) in
        let grown : printed print r (take (i + 1) chunk) ≡ done ++ new =
        next_printed ∙ rw (eq-eqb x line_feed feed, reply_is) refl in
        let room : at + n ≤ length old = put_inside so_far n new part part_size put in
        let total : length (done ++ new) ≡ at + n = omega (arith, length-append done new, so_far.count, put.count) in
        let left : put_mid at (length out - at) out part ≡ over (done ++ new) old =
        over_next done new old out part at (sym so_far.count) so_far.output put.left in
        record {
          within = omega arith;
          kept = omega arith;
          line_size = so_far.line_size;
          bodies_size = bodies;
          pairs_size = pairs;
          out_size = ap length left ∙ length_over (done ++ new) old (omega arith);
          at_within = room;
          count = sym total ∙ ap length (sym grown);
          output = left ∙ ap (λ (l : List ℕ). over l old) (sym grown);
          state =
              ap (λ (v : Server). record { server = v; line = [] }) server'_is
              ∙ rw next_after (simp (eq-eqb x line_feed feed));
        }

  -- ---- at the end: all was taken, or the output has no room for one more line
  module _ (longest : ℕ) (s : Reader) (chunk old out : List ℕ) (server : Server) (line : List ℕ) (len at i : ℕ)
      (so_far : SoFar chunk old (reading s) out server line len at i)
      (end : longest ≤ length old - at → i ≡ length chunk) where
    -- with room for a line some of a piece was taken
    some_taken : (k : ℕ) → k ≡ i → longest ≤ length old → 0 < length chunk → 0 < k
    unfolding printed
    some_taken zero is room more =
        let start : at ≡ 0 =
        so_far.count ∙ ap (λ (n : ℕ). length (printed print (reading s) (take n chunk))) (sym is) in
        absurd (omega (arith, is, end (omega (arith, start))))
    some_taken (suc k) is room more = omega arith

    pub fed_at_end : FedAs print longest s chunk old
        (record { reader = record { server = server; line = line; len = len }; taken = i; written = at }) out
    fed_at_end = record {
      within = so_far.within;
      all = end;
      some = some_taken i refl;
      state = so_far.state;
      count = so_far.count;
      output = so_far.output;
    }
