-- Requests and answers as words of four bytes, highest first. Definitions only.
use Rattle.std.specs.Prelude.{ℕ, ◌-◌, ◌*◌, ◌≡◌, cond, List, [], ◌∷◌, ◌++◌, leb, ltb, ℤ, pos, negsuc, length}
use Rattle.algebra.specs.Buffer.{over}
use Rattle.lines.specs.Fields.{number_at, number_bytes}

-- the word at place i
abbrev pub word_at : List ℕ → ℕ → ℕ
word_at bytes i = number_at bytes (4 * i)

-- a word as a signed number, in two's complement, and back
unfoldable pub signed : ℕ → ℤ
signed w = cond (ltb w 2147483648) (pos w) (negsuc (4294967295 - w))

abbrev pub unsigned : ℤ → ℕ
unsigned (pos n) = n
unsigned (negsuc n) = 4294967295 - n

unfoldable pub bytes_of : List ℕ → List ℕ
bytes_of [] = []
bytes_of (w ∷ ws) = number_bytes w ++ bytes_of ws

-- Words written to the front of an output with room for all of them; else nothing is written. And how many were.
unfoldable pub written : List ℕ → List ℕ → List ℕ
written words out = cond (leb (4 * length words) (length out)) (over (bytes_of words) out) out

unfoldable pub written_count : List ℕ → List ℕ → ℕ
written_count words out = cond (leb (4 * length words) (length out)) (length words) 0

-- a call that writes these words to out returned r and left after
pub record Written (words out : List ℕ) (r : ℕ) (after : List ℕ) : Type 0 where
  pub count : r ≡ written_count words out
  pub left : after ≡ written words out
