-- A row of which the first elements are held: a count past the row says the whole row. Assumes nothing.
use Prim.Native.Nat.{ℕ, ◌≤◌, ◌<◌, min}
use mathlib.Core.Path.{◌≡◌, refl, sym, ◌∙◌, ap}
use mathlib.Core.Bool.{Bool, true, false}
use mathlib.Core.List.{List}
use native.Mathlib.Omega.{arith}
use lib.Dec.{leb}
use lib.ListN.{length, take}
use lib.Seq.{take_all}
use borrow.Author.Tests.{leb-true, leb-false}

pub row_held : {A : Type 0} (row : List A) (size n r : ℕ) → length row ≡ size → r ≡ min n size
    → take r row ≡ take n row
row_held {A} row size n r size_is r_is = go (leb size n) refl
  where
    go : (t : Bool) → leb size n ≡ t → take r row ≡ take n row
    go true t_is =
        let full : size ≤ n = leb-true size n t_is in
        take_all r row (omega arith) ∙ sym (take_all n row (omega arith))
    go false t_is =
        let short : n < size = leb-false size n t_is in
        let same : r ≡ n = omega arith in
        ap (λ (k : ℕ). take k row) same
