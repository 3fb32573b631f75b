-- Reading a line two characters at a time: the bytes read so far, and what the rest of the line says, make what the
-- whole line says, unless another character was met. Assumes nothing.
use Prim.Native.Nat.{ℕ, suc, ◌+◌, ◌*◌, ◌%◌, ◌≤◌, ◌<◌}
use mathlib.Core.Path.{◌≡◌, refl, sym, ◌∙◌, ap}
use mathlib.Core.Bool.{Bool, true, false, cond, ◌&&◌}
use mathlib.Core.List.{List, [], ◌∷◌, ◌++◌, append-nil}
use mathlib.Core.Option.{Option, none, some, map}
use native.Mathlib.Nat.{mod-eq_of_lt}
use native.Mathlib.Numerals.{add-one}
use native.Mathlib.Omega.{arith}
use lib.Dec.{ltb}
use lib.ListN.{length, get_or, take, drop, set, length-set}
use lib.Seq.{drop-cons, drop-length, take-suc-set}
use borrow.Author.Tests.{ltb-true, lt-ltb, le-ltb}
use Rattle.std.specs.Prelude.{Option as Answer}
use Rattle.std.specs.Option.{unwrap_or, is_some}
use Rattle.std.specs.Bool.{then_some}
use Rattle.algebra.proofs.Loops.{walk_starts, map_one_more}
use Rattle.lines.specs.Hex.{nibble, with_byte, unhex, largest_frame, line_limit, frame_of, is_line, Decoded}

-- ---- what was read so far
-- whether only digits were met, the bytes done, and what the rest of the line says
abbrev pub joined : Bool → List ℕ → Option (List ℕ) → Option (List ℕ)
joined digits done rest = cond digits (map (◌++◌ done) rest) none

-- after i turns of the loop that reads n bytes from a line into a buffer, which held old
pub record ReadSoFar (line old : List ℕ) (n : ℕ) (bytes : List ℕ) (digits : Bool) (i : ℕ) : Type 0 where
  pub within : i ≤ n
  pub even : 2 * n ≡ length line
  pub short : length line ≤ line_limit
  pub same_length : length bytes ≡ length old
  pub room : largest_frame ≤ length old
  pub read : joined digits (take i bytes) (unhex (drop (2 * i) line)) ≡ unhex line

pub read_none_yet : (line old : List ℕ) (n : ℕ) → 2 * n ≡ length line → length line ≤ line_limit
    → largest_frame ≤ length old → ReadSoFar line old n old true 0
read_none_yet line old n even short room =
    let read = walk_starts (unhex line) in
    record { within = omega arith; even = even; short = short; same_length = refl; room = room; read = read }

-- two more characters
joined_pair : (digits : Bool) (done : List ℕ) (high low : ℕ) (rest : Option (List ℕ))
    → joined digits done (with_byte high low rest)
    ≡ joined (digits && ltb high 16 && ltb low 16) (done ++ ((high % 16 * 16 + low % 16) ∷ [])) rest
joined_pair false done high low rest = refl
joined_pair true done high low rest = go (ltb high 16) (ltb low 16) refl refl
  where
    go : (t u : Bool) → ltb high 16 ≡ t → ltb low 16 ≡ u
        → map (◌++◌ done) (cond (t && u) (map (◌∷◌ (high * 16 + low)) rest) none)
        ≡ cond (t && u) (map (◌++◌ (done ++ ((high % 16 * 16 + low % 16) ∷ []))) rest) none
    go true true high_is low_is =
        rw (mod-eq_of_lt (ltb-true high 16 high_is), mod-eq_of_lt (ltb-true low 16 low_is))
        (sym (map_one_more done (high * 16 + low) rest))
    go true false high_is low_is = refl
    go false u high_is low_is = refl

-- the two characters at place 2 i
two_characters : (line : List ℕ) (i : ℕ) → 2 * i + 1 < length line
    → unhex (drop (2 * i) line)
    ≡ with_byte (nibble (get_or line (2 * i) 0)) (nibble (get_or line (2 * i + 1) 0)) (unhex (drop (2 * (i + 1)) line))
unfolding unhex
two_characters line i within =
    let second : drop (suc (2 * i)) line ≡ get_or line (suc (2 * i)) 0 ∷ drop (suc (suc (2 * i))) line =
    drop-cons line (suc (2 * i)) 0 (omega arith) in
    let next : suc (suc (2 * i)) ≡ 2 * (i + 1) = omega arith in
    ap unhex (drop-cons line (2 * i) 0 (omega arith) ∙ ap (◌∷◌ (get_or line (2 * i) 0)) second)
    ∙ rw (next, ← add-one (2 * i)) refl

-- one turn of the loop
pub byte_read : (line old : List ℕ) (n : ℕ) (bytes : List ℕ) (digits : Bool) (i high low : ℕ) → i < n
    → high ≡ nibble (get_or line (2 * i) 0) → low ≡ nibble (get_or line (2 * i + 1) 0) → ReadSoFar line old n bytes digits i
    → ReadSoFar line old n (set bytes i (high % 16 * 16 + low % 16)) (digits && ltb high 16 && ltb low 16) (i + 1)
byte_read line old n bytes digits i high low more high_is low_is so_far = record {
  within = omega arith;
  even = so_far.even;
  short = so_far.short;
  same_length = length-set bytes i b ∙ so_far.same_length;
  room = so_far.room;
  read =
      ap (λ (done : List ℕ). joined (digits && ltb high 16 && ltb low 16) done rest) stored
      ∙ sym (joined_pair digits (take i bytes) high low rest)
      ∙ rw (high_is, low_is, ← two_characters line i (omega arith)) so_far.read;
}
  where
    b : ℕ
    b = high % 16 * 16 + low % 16

    rest : Option (List ℕ)
    rest = unhex (drop (2 * (i + 1)) line)

    stored : take (i + 1) (set bytes i b) ≡ take i bytes ++ (b ∷ [])
    stored = rw add-one (take-suc-set bytes i b (omega arith))

-- ---- the bytes of a line
pub overlong : (line bytes : List ℕ) → line_limit < length line → Decoded line 0 bytes × (false ≡ is_line line)
unfolding frame_of
overlong line bytes long =
    (record { fits = omega arith; bytes = simp (lt-ltb _ _ long) }, simp (lt-ltb _ _ long))

malformed : (line bytes : List ℕ) → length line ≤ line_limit → unhex line ≡ none
    → Decoded line 0 bytes × (false ≡ is_line line)
unfolding frame_of
malformed line bytes short none_said =
    let short' = le-ltb _ _ short in
    (record { fits = omega arith; bytes = simp (short', none_said) }, simp (short', none_said))

-- two characters are left out of an odd number: one is left in the end
unhex_odd : (line : List ℕ) → length line % 2 ≡ 1 → unhex line ≡ none
unfolding unhex
unhex_odd [] is_odd = absurd (omega arith)
unhex_odd (x ∷ []) is_odd = refl
unhex_odd (x ∷ y ∷ line) is_odd =
    rw (unhex_odd line (omega arith)) (no_byte (ltb (nibble x) 16 && ltb (nibble y) 16) (nibble x * 16 + nibble y))
  where
    no_byte : (t : Bool) (b : ℕ) → cond t (map (◌∷◌ b) none) none ≡ none
    no_byte true b = refl
    no_byte false b = refl

pub odd : (line bytes : List ℕ) → length line ≤ line_limit → length line % 2 ≡ 1
    → Decoded line 0 bytes × (false ≡ is_line line)
odd line bytes short is_odd = malformed line bytes short (unhex_odd line is_odd)

-- after the last turn of the loop
module _ (line old : List ℕ) (n : ℕ) (bytes : List ℕ) (digits : Bool) (i : ℕ) (last : n ≤ i)
    (so_far : ReadSoFar line old n bytes digits i) where
  other_character : digits ≡ false → Decoded line 0 bytes × (false ≡ is_line line)
  other_character met = malformed line bytes so_far.short (sym (rw met at so_far.read))

  only_digits : digits ≡ true → Decoded line n bytes × (true ≡ is_line line)
  unfolding frame_of unhex
  only_digits met =
      let all : i ≡ n = omega arith in
      let nothing_left : drop (2 * n) line ≡ [] = ap (λ (k : ℕ). drop k line) so_far.even ∙ drop-length line in
      let whole : unhex line ≡ some (take n bytes) =
      sym (rw (met, all) at so_far.read) ∙ rw nothing_left (ap some (append-nil (take n bytes))) in
      let short' = le-ltb _ _ so_far.short in
      (record { fits = omega arith; bytes = simp (short', whole) }, simp (short', whole))

  pub all_read : (answer : Answer ℕ) → answer ≡ then_some digits n
      → Decoded line (unwrap_or answer 0) bytes × (is_some answer ≡ is_line line)
  all_read answer answer_is = rw answer_is (go digits refl)
    where
      go : (t : Bool) → digits ≡ t
          → Decoded line (unwrap_or (then_some t n) 0) bytes × (is_some (then_some t n) ≡ is_line line)
      go true met = only_digits met
      go false met = other_character met
