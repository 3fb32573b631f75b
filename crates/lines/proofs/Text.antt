-- Quoted text as the numbers of its characters, for closed cases. Definitions only.
use Prim.Native.Nat.{ℕ, zero, suc}
use Prim.Native.Char.{code}
use Prim.Native.String.{String, len, char_at}
use mathlib.Core.List.{List, [], ◌∷◌}

-- n characters, each of one byte, from place i on
abbrev characters : String → ℕ → ℕ → List ℕ
characters s i zero = []
characters s i (suc n) = code (char_at s i) ∷ characters s (suc i) n

abbrev pub text : String → List ℕ
text s = characters s 0 (len s)
