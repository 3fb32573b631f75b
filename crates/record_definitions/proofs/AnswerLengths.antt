-- The bytes of an answer: 1, 2, 13, 37 or 53; the characters of its lines; and where a test's answer has its number of
-- points, its touches and its ages. Assumes nothing.
use Prim.Native.Nat.{ℕ, ◌*◌, ◌≤◌}
use mathlib.Core.Path.{◌≡◌, refl}
use mathlib.Core.Bool.{Bool, true, false, cond}
use mathlib.Core.List.{List, [], ◌∷◌, ◌++◌}
use native.Mathlib.Omega.{arith}
use lib.Dec.{eqb}
use lib.ListN.{length, take, drop, length-append, length-take}
use borrow.Author.Tests.{ne_eqb}
use Rattle.lines.specs.Fields.{byte_at, number_bytes}
use Rattle.lines.specs.Hex.{hex, line_feed, line_of}
use Rattle.lines.proofs.Writing.{length_hex}
use Rattle.contact_definitions.proofs.Counts.{either}
use Rattle.record_definitions.specs.declared.touch.Touch.{Touch}
use Rattle.record_definitions.specs.declared.frame.Answer.{Answer}
use Rattle.record_definitions.specs.declared.frame.Answer.TheVariants.{Accepted, Refused, Tested}
use Rattle.record_definitions.specs.declared.frame.Said.{Said}
use Rattle.record_definitions.specs.Answer.{head_bytes, point_bytes, touch_bytes, answer_bytes, longest_answer}
use Rattle.record_definitions.specs.Answer.{said_bytes, said_line, longest_line, longest_said, touch_lines}
use Rattle.record_definitions.specs.Answer.{most_further}

length_of : (none one : Bool) (x y z : List ℕ) (k l m : ℕ) → length x ≡ k → length y ≡ l → length z ≡ m
    → length (cond none x (cond one y z)) ≡ cond none k (cond one l m)
length_of true one x y z k l m x_size y_size z_size = x_size
length_of false true x y z k l m x_size y_size z_size = y_size
length_of false false x y z k l m x_size y_size z_size = z_size

pub touch_size : (t : Touch) → length (touch_bytes t) ≡ cond (eqb t.count 0) 13 (cond (eqb t.count 1) 37 53)
unfolding touch_bytes head_bytes point_bytes
touch_size t = length_of (eqb t.count 0) (eqb t.count 1) _ _ _ 13 37 53 refl refl refl

size_within : (none one : Bool) → cond none 13 (cond one 37 53) ≤ longest_answer
size_within true one = omega arith
size_within false true = omega arith
size_within false false = omega arith

pub answer_within : (answer : Answer) → length (answer_bytes answer) ≤ longest_answer
answer_within Accepted = omega arith
answer_within (Refused number) = omega arith
answer_within (Tested t) =
    omega (arith, touch_size t, size_within (eqb t.count 0) (eqb t.count 1))

pub said_within : (said : Said) → length (said_bytes said) ≤ longest_answer
said_within said = answer_within said.answer

pub one_within : (bytes : List ℕ) → length bytes ≤ longest_answer → length (line_of bytes) ≤ longest_line
one_within bytes few = omega (arith, length-append (hex bytes) (line_feed ∷ []), length_hex bytes)

lines_within : (touches : List Touch) → length (touch_lines touches) ≤ length touches * longest_line
unfolding touch_lines
lines_within [] = omega arith
lines_within (t ∷ touches) =
    omega (
      arith,
      length-append (line_of (touch_bytes t)) (touch_lines touches),
      one_within (touch_bytes t) (answer_within (Tested t)),
      lines_within touches,
    )

-- a line for each result, of which there are at most seven
pub line_within : (said : Said) → length said.more ≤ most_further → length (said_line said) ≤ longest_said
line_within said few =
    let more = take said.further said.more in
    omega (
      arith,
      length-append (line_of (said_bytes said)) (touch_lines more),
      one_within (said_bytes said) (said_within said),
      lines_within more,
      length-take said.further said.more,
    )

-- ---- a test's answer, whatever stands behind it
module _ (t : Touch) (rest : List ℕ) where
  pub points_byte : byte_at (touch_bytes t ++ rest) 3 ≡ t.count
  unfolding touch_bytes head_bytes
  points_byte = either Good (eqb t.count 0) _ _ refl (either Good (eqb t.count 1) _ _ refl refl)
    where
      Good : List ℕ → Type 0
      Good l = byte_at (l ++ rest) 3 ≡ t.count

  pub touches_bytes : take 4 (drop 9 (touch_bytes t ++ rest)) ≡ number_bytes t.touches
  unfolding touch_bytes head_bytes
  touches_bytes = either Good (eqb t.count 0) _ _ refl (either Good (eqb t.count 1) _ _ refl refl)
    where
      Good : List ℕ → Type 0
      Good l = take 4 (drop 9 (l ++ rest)) ≡ number_bytes t.touches

  module _ (some : t.count ≡ 0 → ⊥) where
    pub first_age_bytes : take 4 (drop 33 (touch_bytes t ++ rest)) ≡ number_bytes t.first.age
    unfolding touch_bytes head_bytes point_bytes
    first_age_bytes = rw (ne_eqb t.count 0 some) (either Good (eqb t.count 1) _ _ refl refl)
      where
        Good : List ℕ → Type 0
        Good l = take 4 (drop 33 (l ++ rest)) ≡ number_bytes t.first.age

    pub second_age_bytes : (t.count ≡ 1 → ⊥)
        → take 4 (drop 49 (touch_bytes t ++ rest)) ≡ number_bytes t.second.age
    unfolding touch_bytes head_bytes point_bytes
    second_age_bytes more = rw (ne_eqb t.count 0 some, ne_eqb t.count 1 more) refl
