-- Writing bytes as digits, one byte behind the other, and a line feed behind them. Assumes nothing.
use Prim.Native.Nat.{ℕ, ◌+◌, ◌*◌, ◌-◌, ◌≤◌, ◌<◌}
use mathlib.Core.Path.{◌≡◌, refl, sym, ◌∙◌, ap}
use mathlib.Core.List.{List, [], ◌∷◌, ◌++◌}
use native.Mathlib.Numerals.{add-one}
use native.Mathlib.Omega.{arith}
use lib.ListN.{length, get_or, take, set, length-append}
use lib.Seq.{take-suc, take-length, length-take-le}
use borrow.Rule.Slice.PartMut.{put_mid, mid_of}
use Rattle.algebra.specs.Buffer.{over}
use Rattle.algebra.proofs.Buffer.{over_next, over_store, length_over}
use Rattle.lines.specs.Buffers.{Put}
use Rattle.lines.specs.Hex.{byte_digits, hex, line_feed, line_of}

pub length_hex : (bytes : List ℕ) → length (hex bytes) ≡ 2 * length bytes
unfolding hex
length_hex [] = refl
length_hex (b ∷ bytes) = omega (arith, length_hex bytes)

hex_append : (first next : List ℕ) → hex (first ++ next) ≡ hex first ++ hex next
unfolding hex
hex_append [] next = refl
hex_append (b ∷ first) next = rw (hex_append first next)

-- the digits of the first i bytes, and of one more
hex_next : (bytes : List ℕ) (i : ℕ) → i < length bytes
    → hex (take (i + 1) bytes) ≡ hex (take i bytes) ++ byte_digits (get_or bytes i 0)
unfolding hex
hex_next bytes i within =
    ap (λ (n : ℕ). hex (take n bytes)) (add-one i)
    ∙ ap hex (take-suc bytes i 0 within)
    ∙ hex_append (take i bytes) (get_or bytes i 0 ∷ [])

-- after i turns of the loop that writes n bytes to a line, which held old
pub record WrittenSoFar (bytes old : List ℕ) (n : ℕ) (line : List ℕ) (i : ℕ) : Type 0 where
  pub within : i ≤ n
  pub all : n ≡ length bytes
  pub room : 2 * n + 1 ≤ length old
  pub same_length : length line ≡ length old
  pub written : line ≡ over (hex (take i bytes)) old

pub written_none_yet : (bytes old : List ℕ) → 2 * length bytes + 1 ≤ length old
    → WrittenSoFar bytes old (length bytes) old 0
unfolding hex
written_none_yet bytes old room =
    record { within = omega arith; all = refl; room = room; same_length = refl; written = refl }

-- one turn of the loop: one more byte is written behind the first i
pub byte_written : (bytes old : List ℕ) (n : ℕ) (line : List ℕ) (i : ℕ) (part : List ℕ) → i < n
    → part ≡ over (byte_digits (get_or bytes i 0)) (mid_of (2 * i) (length line - 2 * i) line)
    → WrittenSoFar bytes old n line i
    → WrittenSoFar bytes old n (put_mid (2 * i) (length line - 2 * i) line part) (i + 1)
byte_written bytes old n line i part more part_written so_far = record {
  within = omega arith;
  all = so_far.all;
  room = so_far.room;
  same_length = ap length next ∙ length_over (hex (take (i + 1) bytes)) old fits;
  written = next;
}
  where
    size : (k : ℕ) → k ≤ length bytes → length (hex (take k bytes)) ≡ 2 * k
    size k within = length_hex (take k bytes) ∙ ap (λ (m : ℕ). 2 * m) (length-take-le k bytes within)

    next : put_mid (2 * i) (length line - 2 * i) line part ≡ over (hex (take (i + 1) bytes)) old
    next =
        over_next (hex (take i bytes)) (byte_digits (get_or bytes i 0)) old line part (2 * i) (size i (omega arith))
        so_far.written part_written
        ∙ ap (λ (digits : List ℕ). over digits old) (sym (hex_next bytes i (omega arith)))

    fits : length (hex (take (i + 1) bytes)) ≤ length old
    fits = omega (arith, size (i + 1) (omega arith))

-- after the last turn, the line feed
pub line_written : (bytes old : List ℕ) (n : ℕ) (line : List ℕ) (i : ℕ) → n ≤ i → WrittenSoFar bytes old n line i
    → Put (line_of bytes) old (2 * n + 1) (set line (2 * n) line_feed)
line_written bytes old n line i last so_far = record {
  count = omega (arith, length-append (hex bytes) (line_feed ∷ []), size);
  left = over_store _ (hex bytes) old line_feed (2 * n) whole size (omega arith);
}
  where
    all : i ≡ length bytes
    all = omega arith

    size : length (hex bytes) ≡ 2 * n
    size = length_hex bytes ∙ ap (λ (k : ℕ). 2 * k) (sym so_far.all)

    whole : line ≡ over (hex bytes) old
    whole =
        so_far.written ∙ ap (λ (l : List ℕ). over (hex l) old) (ap (λ (k : ℕ). take k bytes) all ∙ take-length bytes)
