-- Lists without repeats, and a test of all elements of a list. Definitions only.
use Rattle.std.specs.Prelude.{Bool, true, ◌&&◌}
use mathlib.Core.List.{List, [], ◌∷◌, Memᴰ}

-- no element twice
abbrev pub Once : {A : Type 0} → List A → Type 0
Once [] = Unit {0}
Once (a ∷ l) = (¬ Memᴰ a l) × Once l

-- every element passes the test
abbrev pub all_of : {A : Type 0} → (A → Bool) → List A → Bool
all_of test [] = true
all_of test (a ∷ l) = test a && all_of test l
