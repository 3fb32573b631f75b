-- What is read is what was written: the line of a frame's digits says the frame; and a line that says bytes has two
-- characters for each. Assumes nothing.
use Prim.Native.Nat.{ℕ, suc, ◌+◌, ◌*◌, ◌/◌, ◌%◌, ◌-◌, ◌≤◌, ◌<◌}
use mathlib.Core.Path.{◌≡◌, refl, sym, ◌∙◌, ap}
use mathlib.Core.Bool.{Bool, true, false, cond, ◌&&◌}
use mathlib.Core.List.{List, [], ◌∷◌, Memᴰ}
use mathlib.Core.Logic.{◌⊎◌, inl, inr}
use mathlib.Core.Option.{Option, none, some, map}
use native.Mathlib.Omega.{arith}
use lib.Dec.{ltb}
use lib.ListN.{length}
use borrow.Author.Tests.{lt-ltb, le-ltb, le-leb, lt-leb}
use Rattle.algebra.proofs.Booleans.{less_or_not}
use Rattle.lines.specs.Hex.{nibble, with_byte, unhex, largest_frame, line_limit, frame_of, digit, hex}
use Rattle.lines.proofs.Writing.{length_hex}

-- ---- one digit
nibble_of_digit : (n : ℕ) → n < 16 → nibble (digit n) ≡ n
nibble_of_digit n below = go (less_or_not n 10)
  where
    go : (n < 10) ⊎ (10 ≤ n) → nibble (digit n) ≡ n
    go (inl small) =
        let value : 48 + n - 48 ≡ n = omega arith in
        simp (lt-ltb n 10 small, le-leb 48 (48 + n) (omega arith), le-leb (48 + n) 57 (omega arith)) value
    go (inr large) =
        let x = 97 + (n - 10) in
        let value : 10 + (x - 97) ≡ n = omega arith in
        let no_digit = lt-leb x 57 (omega arith) in
        let a_letter = le-leb x 102 (omega arith) in
        simp (le-ltb n 10 large, le-leb 48 x (omega arith), no_digit, le-leb 97 x (omega arith), a_letter) value

-- ---- all the digits of a line
said : (b : ℕ) (bytes : List ℕ) (high low : ℕ) → high ≡ b / 16 → low ≡ b % 16 → b < 256
    → with_byte high low (some bytes) ≡ some (b ∷ bytes)
said b bytes high low high_is low_is below =
    let value : high * 16 + low ≡ b = omega arith in
    simp (lt-ltb high 16 (omega arith), lt-ltb low 16 (omega arith)) (ap (λ (x : ℕ). some (x ∷ bytes)) value)

unhex_of_hex : (bytes : List ℕ) → ((b : ℕ) → Memᴰ b bytes → b < 256) → unhex (hex bytes) ≡ some bytes
unfolding unhex hex
unhex_of_hex [] below = refl
unhex_of_hex (b ∷ bytes) below =
    let small : b < 256 = below b (Memᴰ.head refl) in
    ap (with_byte (nibble (digit (b / 16))) (nibble (digit (b % 16))))
    (unhex_of_hex bytes (λ x m. below x (Memᴰ.tail m)))
    ∙ said b bytes (nibble (digit (b / 16))) (nibble (digit (b % 16))) (nibble_of_digit (b / 16) (omega arith))
    (nibble_of_digit (b % 16) (omega arith)) small

pub frame_of_hex : (bytes : List ℕ) → length bytes ≤ largest_frame → ((b : ℕ) → Memᴰ b bytes → b < 256)
    → frame_of (hex bytes) ≡ bytes
unfolding frame_of
frame_of_hex bytes short below =
    let limit : length (hex bytes) ≤ line_limit = omega (arith, length_hex bytes) in
    simp (le-ltb line_limit (length (hex bytes)) limit, unhex_of_hex bytes below)

-- ---- two characters for each byte
pub unhex_length : (line bytes : List ℕ) → unhex line ≡ some bytes → length line ≡ 2 * length bytes
unfolding unhex
unhex_length [] bytes e = let nothing : [] ≡ bytes = cc in ap (λ (l : List ℕ). 2 * length l) nothing
unhex_length (x ∷ []) bytes e = absurd (let z : ◌≡◌ {A = ℕ} 0 1 = cc in omega arith)
unhex_length (x ∷ y ∷ line) bytes e =
    by_tests (ltb (nibble x) 16 && ltb (nibble y) 16) (unhex line) (unhex_length line) refl e
  where
    by_tests : (t : Bool) (rest : Option (List ℕ))
        → ((later : List ℕ) → unhex line ≡ some later → length line ≡ 2 * length later) → unhex line ≡ rest
        → cond t (map (◌∷◌ (nibble x * 16 + nibble y)) rest) none ≡ some bytes
        → length (x ∷ y ∷ line) ≡ 2 * length bytes
    by_tests true (some later) earlier rest_is e =
        let bytes_are : (nibble x * 16 + nibble y) ∷ later ≡ bytes = cc in
        let size = earlier later rest_is in
        let more : length bytes ≡ suc (length later) = sym (ap length bytes_are) in
        omega (arith, size, more)
    by_tests true none earlier rest_is e = absurd (let z : ◌≡◌ {A = ℕ} 0 1 = cc in omega arith)
    by_tests false rest earlier rest_is e = absurd (let z : ◌≡◌ {A = ℕ} 0 1 = cc in omega arith)
