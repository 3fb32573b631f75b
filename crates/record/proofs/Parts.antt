-- Answers written part by part: where each part of a test's result ends, and that the parts written make the answer,
-- by its point count and by its case. Assumes nothing.
use Prim.Native.Nat.{ℕ, ◌≤◌}
use mathlib.Core.Path.{◌≡◌, refl, sym, ◌∙◌, ap}
use mathlib.Core.List.{List, [], ◌∷◌, ◌++◌}
use native.Mathlib.Omega.{arith}
use lib.ListN.{length, take, drop, set}
use lib.Seq.{take_at}
use borrow.Author.Tests.{eq-eqb, ne_eqb}
use Rattle.algebra.specs.Buffer.{over}
use Rattle.algebra.proofs.Buffer.{over_stores}
use Rattle.lines.specs.Buffers.{Put}
use Rattle.lines.specs.Fields.{vector_bytes}
use Rattle.lines.specs.Hex.{line_of}
use Rattle.record_definitions.specs.declared.touch.Touch.{Touch}
use Rattle.record_definitions.specs.declared.frame.Answer.{Answer}
use Rattle.record_definitions.specs.declared.frame.Answer.TheVariants.{Accepted, Refused, Tested}
use Rattle.record_definitions.specs.Answer.{point_bytes, head_bytes, touch_bytes, answer_bytes, longest_answer}

-- ---- the parts of a test's result
module _ (t : Touch) where
  abbrev pub with_normal : List ℕ
  with_normal = head_bytes t ++ vector_bytes t.normal

  abbrev pub with_first : List ℕ
  with_first = head_bytes t ++ vector_bytes t.normal ++ point_bytes t.first

  abbrev with_second : List ℕ
  with_second = head_bytes t ++ vector_bytes t.normal ++ point_bytes t.first ++ point_bytes t.second

  pub head_length : length (head_bytes t) ≡ 13
  unfolding head_bytes
  head_length = refl

  pub with_normal_length : length with_normal ≡ 21
  unfolding head_bytes
  with_normal_length = refl

  pub with_first_length : length with_first ≡ 37
  unfolding head_bytes point_bytes
  with_first_length = refl

  with_second_length : length with_second ≡ longest_answer
  unfolding head_bytes point_bytes
  with_second_length = refl

-- ---- the result by its point count
module _ (t : Touch) (old after : List ℕ) where
  pub no_point_put : t.count ≡ 0 → after ≡ over (head_bytes t) old → Put (touch_bytes t) old 13 after
  unfolding touch_bytes
  no_point_put none written =
      record { count = simp (eq-eqb _ _ none) (sym (head_length t)); left = simp (eq-eqb _ _ none) written }

  pub one_point_put : (t.count ≡ 0 → ⊥) → t.count ≡ 1 → after ≡ over (with_first t) old
      → Put (touch_bytes t) old 37 after
  unfolding touch_bytes
  one_point_put some one written = record {
    count = simp (ne_eqb _ _ some, eq-eqb _ _ one) (sym (with_first_length t));
    left = simp (ne_eqb _ _ some, eq-eqb _ _ one) written;
  }

  pub two_points_put : (t.count ≡ 0 → ⊥) → (t.count ≡ 1 → ⊥) → after ≡ over (with_second t) old
      → Put (touch_bytes t) old longest_answer after
  unfolding touch_bytes
  two_points_put some more written = record {
    count = simp (ne_eqb _ _ some, ne_eqb _ _ more) (sym (with_second_length t));
    left = simp (ne_eqb _ _ some, ne_eqb _ _ more) written;
  }

-- ---- the answer by its case
module _ (answer : Answer) (old : List ℕ) (room : longest_answer ≤ length old) where
  pub accepted_put : answer ≡ Accepted → Put (answer_bytes answer) old 1 (set old 0 0)
  accepted_put is = rw is (record { count = refl; left = over_stores (0 ∷ []) old (omega arith) })

  pub refused_put : (number : ℕ) → answer ≡ Refused number
      → Put (answer_bytes answer) old 2 (set (set old 0 255) 1 number)
  refused_put number is =
      rw is (record { count = refl; left = over_stores (255 ∷ number ∷ []) old (omega arith) })

  pub tested_put : (t : Touch) (r : ℕ) (after : List ℕ) → answer ≡ Tested t → Put (touch_bytes t) old r after
      → Put (answer_bytes answer) old r after
  tested_put t r after is put = rw is put

-- ---- what was written is read back, and its digits are the line
read_back : (new old after : List ℕ) (r : ℕ) → Put new old r after → take r after ≡ new
read_back new old after r put = ap (take r) put.left ∙ take_at new (drop (length new) old) r (sym put.count)

pub line_put : (new old after out left : List ℕ) (r n : ℕ) → Put new old r after
    → Put (line_of (take r after)) out n left → Put (line_of new) out n left
line_put new old after out left r n bytes line = rw (read_back new old after r bytes) at line
