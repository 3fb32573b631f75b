-- One line as the code reads it: the world after it and what is said of it, from the bodies and the pair that it names;
-- and the characters of it that are kept. Assumes nothing.
use Prim.Native.Nat.{ℕ, zero, suc, ◌+◌, ◌*◌, ◌%◌, ◌≤◌, ◌<◌}
use mathlib.Core.Path.{◌≡◌, refl, sym, ◌∙◌, ap}
use mathlib.Core.Bool.{true, false}
use mathlib.Core.List.{List}
use native.Mathlib.Omega.{arith}
use native.Mathlib.Numerals.{add-one}
use lib.ListN.{length, get_or, take, set, length-set}
use lib.Seq.{take_all, take-suc-set, length-take-le}
use borrow.Author.Tests.{lt-ltb, le-ltb}
use Rattle.algebra.proofs.Lists.{getD_within}
use Rattle.lines.specs.Fields.{byte_at}
use Rattle.lines.specs.Hex.{frame_of}
use Rattle.record_definitions.specs.declared.world.Body.{Body}
use Rattle.record_definitions.specs.declared.world.Pair.{Pair}
use Rattle.record_definitions.specs.declared.world.World.{World}
use Rattle.record_definitions.specs.declared.frame.Change.{Change}
use Rattle.record_definitions.specs.World.{blank_body, fresh_pair, forget, forget_below}
use Rattle.record_definitions.specs.Frame.{change}
use Rattle.record_definitions.specs.OneFrame.{changed, change_in, after_frame, said_of_frame}
use Rattle.record_definitions.specs.Reading.{kept_length, with_character}

-- ---- the world after a line, from what the code reads in it
module _ (w : World) (line frame : List ℕ) (frame_is : frame ≡ frame_of line) (a b : ℕ) (a_is : a ≡ byte_at frame 1 % 8)
    (b_is : b ≡ byte_at frame 2 % 8) (bodies_size : length w.bodies ≡ 8) (pairs_size : length w.pairs ≡ 64)
    (past_a past_b : Body) (past_pair : Pair) (c : Change)
    (c_is : c ≡ change (get_or w.bodies a past_a) (get_or w.bodies b past_b) (get_or w.pairs (8 * a + b) past_pair)
    frame) where
  change_is : c ≡ change_in w (frame_of line)
  unfolding change_in
  change_is =
      c_is
      ∙ rw (
        getD_within w.bodies a past_a blank_body (omega arith),
        getD_within w.bodies b past_b blank_body (omega arith),
        getD_within w.pairs (8 * a + b) past_pair fresh_pair (omega arith),
        a_is,
        b_is,
        frame_is,
      ) refl

  pub said_is : c.said ≡ said_of_frame w (frame_of line)
  unfolding said_of_frame
  said_is = ap (λ (d : Change). d.said) change_is

  world_changed : changed w a b c ≡ after_frame w (frame_of line)
  unfolding after_frame
  world_changed = rw (← frame_is, ← a_is, ← b_is) (ap (changed w a b) (change_is ∙ rw (← frame_is) refl))

  -- a new shape: its pairs are forgotten
  pub world_forgets : (fresh : List Pair) → c.forget ≡ true → fresh ≡ forget a w.pairs
      → record { bodies = set w.bodies a c.body; pairs = fresh } ≡ after_frame w (frame_of line)
  unfolding changed
  world_forgets fresh forgets is = rw is (simp forgets at world_changed)

  -- any other frame: the pair is written
  pub world_keeps : c.forget ≡ false
      → record { bodies = set w.bodies a c.body; pairs = set w.pairs (8 * a + b) c.pair }
      ≡ after_frame w (frame_of line)
  unfolding changed
  world_keeps keeps = simp keeps at world_changed

pub length_forget : (id : ℕ) (pairs : List Pair) (n : ℕ) → length (forget_below id pairs n) ≡ length pairs
unfolding forget_below
length_forget id pairs zero = refl
length_forget id pairs (suc n) = simp length-set (length_forget id pairs n)

-- ---- keeping a character
pub character_kept : (line : List ℕ) (len x : ℕ) → len < kept_length → length line ≡ kept_length
    → take (len + 1) (set line len x) ≡ with_character (take len line) x
character_kept line len x short size =
    ap (λ (n : ℕ). take n (set line len x)) (add-one len) ∙ take-suc-set line len x (omega arith)
    ∙ simp (lt-ltb (length (take len line)) kept_length (omega (arith, length-take-le len line (omega arith))))

pub character_dropped : (line : List ℕ) (len x : ℕ) → kept_length ≤ len → len ≤ kept_length
    → length line ≡ kept_length → take len line ≡ with_character (take len line) x
character_dropped line len x full short size =
    simp (le-ltb (length (take len line)) kept_length (omega (arith, length-take-le len line (omega arith))))

-- a count past the row that is kept says the whole row
pub count_held : (line : List ℕ) (len : ℕ) → kept_length ≤ len → length line ≡ kept_length
    → take kept_length line ≡ take len line
count_held line len full size =
    take_all kept_length line (omega arith) ∙ sym (take_all len line (omega arith))
