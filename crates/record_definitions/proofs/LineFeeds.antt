-- Lines and line feeds: the lines of an input have none, a line without one is read again up to the line feed behind it,
-- and so are the digits of bytes. Assumes nothing.
use Prim.Native.Nat.{ℕ, ◌+◌, ◌-◌, ◌/◌, ◌%◌}
use mathlib.Core.Path.{◌≡◌, refl, sym, ◌∙◌, ap}
use mathlib.Core.Bool.{false}
use mathlib.Core.List.{List, [], ◌∷◌, ◌++◌, map, append_assoc, append-nil}
use native.Mathlib.Omega.{arith}
use lib.Dec.{eqb, ltb}
use borrow.Author.Tests.{ne_eqb}
use Rattle.contact_definitions.proofs.Counts.{either}
use Rattle.lines.specs.Hex.{digit, hex, line_of, line_feed}
use Rattle.record_definitions.specs.Touches.{lines_from}
use Rattle.record_definitions.specs.Reading.{joined}
use Rattle.record_definitions.specs.StepLaws.{as_input}
use Rattle.record_definitions.proofs.Changes.{by_choice}

-- no character of a line is a line feed, and none of some lines
abbrev pub Free : List ℕ → Type 0
Free [] = Unit {0}
Free (x ∷ line) = (eqb x line_feed ≡ false) × Free line

abbrev pub AllFree : List (List ℕ) → Type 0
AllFree [] = Unit {0}
AllFree (line ∷ lines) = Free line × AllFree lines

free_next : (line : List ℕ) (x : ℕ) → Free line → eqb x line_feed ≡ false → Free (line ++ (x ∷ []))
free_next [] x free other = (other, tt)
free_next (y ∷ line) x free other = (free.0, free_next line x free.1 other)

pub lines_free : (line input : List ℕ) → Free line → AllFree (lines_from line input)
unfolding lines_from
lines_free [] [] free = tt
lines_free (c ∷ line) [] free = (free, tt)
lines_free line (x ∷ input) free =
    by_choice AllFree (eqb x line_feed) _ _ (λ feed. (free, lines_free [] input tt))
    (λ other. lines_free (line ++ (x ∷ [])) input (free_next line x free other))

-- ---- a line up to its line feed, and lines
line_again : (begun line rest : List ℕ) → Free line
    → lines_from begun (line ++ (line_feed ∷ rest)) ≡ (begun ++ line) ∷ lines_from [] rest
unfolding lines_from
line_again begun [] rest free = ap (λ (l : List ℕ). l ∷ lines_from [] rest) (sym (append-nil begun))
line_again begun (x ∷ line) rest free =
    rw free.0 (line_again (begun ++ (x ∷ [])) line rest free.1
    ∙ ap (λ (l : List ℕ). l ∷ lines_from [] rest) (append_assoc begun (x ∷ []) line))

pub lines_again : (lines : List (List ℕ)) → AllFree lines → lines_from [] (as_input lines) ≡ lines
unfolding lines_from
lines_again [] free = refl
lines_again (line ∷ lines) free =
    line_again [] line (as_input lines) free.0 ∙ ap (◌∷◌ line) (lines_again lines free.1)

-- ---- digits
no_line_feed : (n : ℕ) → eqb (digit n) line_feed ≡ false
no_line_feed n =
    either (λ (x : ℕ). eqb x line_feed ≡ false) (ltb n 10) (48 + n) (97 + (n - 10))
    (ne_eqb (48 + n) line_feed (λ e. omega arith)) (ne_eqb (97 + (n - 10)) line_feed (λ e. omega arith))

hex_free : (bytes : List ℕ) → Free (hex bytes)
unfolding hex
hex_free [] = tt
hex_free (b ∷ bytes) = (no_line_feed (b / 16), (no_line_feed (b % 16), hex_free bytes))

pub line_read : (bytes rest : List ℕ) → lines_from [] (line_of bytes ++ rest) ≡ hex bytes ∷ lines_from [] rest
line_read bytes rest =
    ap (lines_from []) (append_assoc (hex bytes) (line_feed ∷ []) rest) ∙ line_again [] (hex bytes) rest (hex_free bytes)

pub lines_read : (frames : List (List ℕ)) → lines_from [] (joined (map line_of frames)) ≡ map hex frames
unfolding lines_from
lines_read [] = refl
lines_read (frame ∷ frames) =
    line_read frame (joined (map line_of frames)) ∙ ap (λ (l : List (List ℕ)). hex frame ∷ l) (lines_read frames)
