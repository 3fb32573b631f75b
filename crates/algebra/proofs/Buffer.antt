-- The one law of all field writers: a part written into `&mut buffer[at..]`, after the at elements that were written
-- before, leaves the buffer with both at its front (`over_next`); so does one element stored at the first place that is
-- not yet written (`over_store`), and a run of stores from place 0 on (`over_stores`). Assumes nothing.
use Prim.Native.Nat.{ℕ, suc, ◌+◌, ◌-◌, ◌≤◌, ◌<◌}
use mathlib.Core.Path.{◌≡◌, sym, ◌∙◌, ap}
use mathlib.Core.List.{List, [], ◌∷◌, ◌++◌, append_assoc, append-nil}
use native.Mathlib.Omega.{arith}
use lib.ListN.{length, get_or, take, drop, set, length-append, length-drop}
use lib.Seq.{take_all, take_at, drop_at, drop-cons, drop-drop, drop-length, set_at, sets, sets-eq}
use borrow.Rule.Slice.PartMut.{put_mid, mid_of}
use Rattle.algebra.specs.Buffer.{over}

module _ {A : Type 0} where
  -- `&mut buffer[at..]` lends what stands from at on
  tail_lent : (at : ℕ) (buffer : List A) → mid_of at (length buffer - at) buffer ≡ drop at buffer
  tail_lent at buffer = take_all (length buffer - at) (drop at buffer) (omega (arith, length-drop at buffer))

  -- and comes back behind the first at elements
  tail_back : (at : ℕ) (buffer part : List A) → put_mid at (length buffer - at) buffer part ≡ take at buffer ++ part
  tail_back at buffer part =
      let nothing_after : drop (length buffer - at) (drop at buffer) ≡ [] =
      ap (λ (n : ℕ). drop n (drop at buffer)) (sym (length-drop at buffer)) ∙ drop-length (drop at buffer) in
      ap (λ (rest : List A). take at buffer ++ (part ++ rest)) nothing_after
      ∙ ap (λ (rest : List A). take at buffer ++ rest) (append-nil part)

  pub over_next : (first next old buffer part : List A) (at : ℕ) → length first ≡ at → buffer ≡ over first old
      → part ≡ over next (mid_of at (length buffer - at) buffer)
      → put_mid at (length buffer - at) buffer part ≡ over (first ++ next) old
  over_next first next old buffer part at first_length written next_written =
      let rest : drop at buffer ≡ drop at old =
      ap (drop at) written ∙ drop_at first (drop (length first) old) at first_length
      ∙ ap (λ (k : ℕ). drop k old) first_length in
      let new_part : part ≡ next ++ drop (at + length next) old =
      next_written ∙ ap (over next) (tail_lent at buffer ∙ rest)
      ∙ ap (λ (l : List A). next ++ l) (drop-drop (length next) at old) in
      let total : at + length next ≡ length (first ++ next) = omega (arith, length-append first next, first_length) in
      tail_back at buffer part
      ∙ ap (λ (l : List A). l ++ part) (ap (take at) written ∙ take_at first (drop (length first) old) at first_length)
      ∙ ap (λ (l : List A). first ++ l) new_part
      ∙ sym (append_assoc first next (drop (at + length next) old))
      ∙ ap (λ (k : ℕ). (first ++ next) ++ drop k old) total

  pub over_store : (array new old : List A) (a : A) (n : ℕ) → array ≡ over new old → length new ≡ n → n < length old
      → set array n a ≡ over (new ++ (a ∷ [])) old
  over_store array new old a n array_is n_is room =
      let rest : drop (length new) old ≡ get_or old n a ∷ drop (suc n) old =
      ap (λ (k : ℕ). drop k old) n_is ∙ drop-cons old n a room in
      let total : suc n ≡ length (new ++ (a ∷ [])) = omega (arith, length-append new (a ∷ []), n_is) in
      ap (λ (l : List A). set l n a) (array_is ∙ ap (λ (l : List A). new ++ l) rest)
      ∙ set_at new (get_or old n a) (drop (suc n) old) a n n_is
      ∙ sym (append_assoc new (a ∷ []) (drop (suc n) old))
      ∙ ap (λ (k : ℕ). (new ++ (a ∷ [])) ++ drop k old) total

  -- on a list that is written out, `sets` is the stores themselves, one after the other
  pub over_stores : (new old : List A) → length new ≤ length old → sets old 0 new ≡ over new old
  over_stores new old room = sets-eq new old 0 (omega arith) ∙ ap (λ (k : ℕ). new ++ drop k old) same
    where
      same : 0 + length new ≡ length new
      same = omega arith

  pub length_over : (new old : List A) → length new ≤ length old → length (over new old) ≡ length old
  length_over new old fits = omega (arith, length-append new (drop (length new) old), length-drop (length new) old)
