-- Lines, one behind the other: an answer's line has at most 91 characters, the lines of the first results of a chain
-- grow by one (`LinesSoFar`), and behind the answer's line they make all that is said. Assumes nothing.
use Prim.Native.Nat.{ℕ, ◌+◌, ◌*◌, ◌-◌, ◌≤◌, ◌<◌}
use mathlib.Core.Path.{◌≡◌, refl, sym, ◌∙◌, ap}
use mathlib.Core.List.{List, [], ◌∷◌, ◌++◌, append_assoc, append-nil}
use native.Mathlib.Numerals.{add-one}
use native.Mathlib.Omega.{arith}
use lib.ListN.{length, get_or, take, length-append}
use lib.Seq.{take-suc}
use borrow.Rule.Slice.PartMut.{put_mid, mid_of}
use Rattle.algebra.proofs.Buffer.{over_next, length_over}
use Rattle.lines.specs.Buffers.{Put}
use Rattle.lines.specs.Hex.{line_of}
use Rattle.record_definitions.specs.declared.touch.Touch.{Touch}
use Rattle.record_definitions.specs.declared.frame.Answer.{Answer}
use Rattle.record_definitions.specs.declared.frame.Said.{Said}
use Rattle.record_definitions.specs.Answer.{touch_bytes, answer_bytes, touch_lines, said_line, longest_line, most_further}
use Rattle.record_definitions.proofs.AnswerLengths.{answer_within, one_within}

-- what is put behind something that was put
pub put_next : (first next old buffer part : List ℕ) (at r : ℕ) → Put first old at buffer
    → Put next (mid_of at (length buffer - at) buffer) r part
    → Put (first ++ next) old (at + r) (put_mid at (length buffer - at) buffer part)
put_next first next old buffer part at r done put = record {
  count = omega (arith, done.count, put.count, length-append first next);
  left = over_next first next old buffer part at (sym done.count) done.left put.left;
}

pub line_fits : (answer : Answer) (old : List ℕ) (r : ℕ) (left : List ℕ)
    → Put (line_of (answer_bytes answer)) old r left → r ≤ longest_line
line_fits answer old r left put = omega (arith, put.count, one_within (answer_bytes answer) (answer_within answer))

-- ---- the lines of the first results, and of one more
lines_append : (first next : List Touch) → touch_lines (first ++ next) ≡ touch_lines first ++ touch_lines next
unfolding touch_lines
lines_append [] next = refl
lines_append (t ∷ first) next = rw (lines_append first next) (sym (append_assoc (line_of (touch_bytes t)) _ _))

lines_next : (touches : List Touch) (i : ℕ) (past : Touch) → i < length touches
    → touch_lines (take (i + 1) touches)
    ≡ touch_lines (take i touches) ++ line_of (touch_bytes (get_or touches i past))
unfolding touch_lines
lines_next touches i past within =
    ap (λ (n : ℕ). touch_lines (take n touches)) (add-one i)
    ∙ ap touch_lines (take-suc touches i past within)
    ∙ lines_append (take i touches) (get_or touches i past ∷ [])
    ∙ ap (◌++◌ (touch_lines (take i touches))) (append-nil (line_of (touch_bytes (get_or touches i past))))

-- after i turns of the loop that writes the lines of the first results to a buffer, which held old
pub record LinesSoFar (touches : List Touch) (old : List ℕ) (last : ℕ) (out : List ℕ) (at i : ℕ) : Type 0 where
  pub within : i ≤ last
  pub row : last ≤ length touches
  pub few : last ≤ most_further
  pub room : most_further * longest_line ≤ length old
  pub same_length : length out ≡ length old
  pub used : at ≤ i * longest_line
  pub put : Put (touch_lines (take i touches)) old at out

pub no_line_yet : (touches : List Touch) (old : List ℕ) (last : ℕ) → last ≤ length touches → last ≤ most_further
    → most_further * longest_line ≤ length old → LinesSoFar touches old last old 0 0
unfolding touch_lines
no_line_yet touches old last row few room = record {
  within = omega arith;
  row = row;
  few = few;
  room = room;
  same_length = refl;
  used = omega arith;
  put = record { count = refl; left = refl };
}

-- one turn of the loop
pub line_more : (touches : List Touch) (old : List ℕ) (last : ℕ) (out : List ℕ) (at i r : ℕ) (part : List ℕ)
    (past : Touch)
    → i < last → Put (line_of (touch_bytes (get_or touches i past))) (mid_of at (length out - at) out) r part
    → r ≤ longest_line → LinesSoFar touches old last out at i
    → LinesSoFar touches old last (put_mid at (length out - at) out part) (at + r) (i + 1)
line_more touches old last out at i r part past more line short so_far =
    let lines = touch_lines (take (i + 1) touches) in
    let next : Put lines old (at + r) (put_mid at (length out - at) out part) =
    rw (lines_next touches i past (omega arith)) (put_next _ _ old out part at r so_far.put line) in
    record {
      within = omega arith;
      row = so_far.row;
      few = so_far.few;
      room = so_far.room;
      same_length = ap length next.left ∙ length_over lines old (omega (arith, next.count));
      used = omega arith;
      put = next;
    }

-- after the last turn
pub lines_put : (touches : List Touch) (old : List ℕ) (last : ℕ) (out : List ℕ) (at i n : ℕ) → last ≤ i
    → take last touches ≡ take n touches → LinesSoFar touches old last out at i
    → Put (touch_lines (take n touches)) old at out
lines_put touches old last out at i n done same so_far =
    let all : i ≡ last = omega arith in
    rw (← same, ← all) so_far.put

-- ---- all that is said
pub said_alone_put : (said : Said) (old : List ℕ) (r : ℕ) (left : List ℕ) → said.further ≡ 0
    → Put (line_of (answer_bytes said.answer)) old r left → Put (said_line said) old r left
unfolding touch_lines
said_alone_put said old r left none put = rw (none, append-nil) put
