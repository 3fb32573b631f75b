-- What tests of four places say of the first n of eight; and a test of all places, in the library's word. Assumes
-- nothing.
use mathlib.Core.Path.{◌≡◌, refl, sym, ◌∙◌, ap, ap₂}
use mathlib.Core.Bool.{Bool, true, false, ◌&&◌, and_assoc}
use mathlib.Core.List.{List, [], ◌∷◌, ◌++◌}
use Prim.Native.Nat.{ℕ, zero, suc, ◌≤◌}
use native.Mathlib.Omega.{arith}
use lib.ListN.{length, take, drop}
use lib.Seq.{take-add, take_all, take-take}
use Rattle.std.specs.List.{list_all}
use Rattle.floats.specs.declared.b2_math.B2vec2.{B2vec2}
use Rattle.shape_definitions.specs.Polygon.{all_points}

both_after : (x y z : Bool) → (y ≡ true → z ≡ true) → x && y ≡ true → x && z ≡ true
both_after true y z then holds = then holds
both_after false y z then holds = holds

module _ (test : B2vec2 → Bool) where
  all_append : (l m : List B2vec2) → all_points test (l ++ m) ≡ all_points test l && all_points test m
  all_append [] m = refl
  all_append (a ∷ l) m =
      ap (λ (t : Bool). test a && t) (all_append l m) ∙ sym (and_assoc (test a) (all_points test l) (all_points test m))

  -- what holds of all holds of the first n
  all_first : (l : List B2vec2) (n : ℕ) → all_points test l ≡ true → all_points test (take n l) ≡ true
  all_first l zero holds = refl
  all_first [] (suc n) holds = refl
  all_first (a ∷ l) (suc n) holds =
      both_after (test a) (all_points test l) (all_points test (take n l)) (all_first l n) holds

  -- the first four of at least n
  pub first_four : (ps : List B2vec2) (n : ℕ) → n ≤ 4 → all_points test (take 4 ps) ≡ true
      → true ≡ all_points test (take n ps)
  first_four ps n few holds = sym (ap (all_points test) (sym (take-take n 4 ps few)) ∙ all_first (take 4 ps) n holds)

  -- the first four and the last four of eight
  pub both_fours : (ps : List B2vec2) (n : ℕ) → length ps ≡ 8 → all_points test (take 4 ps) ≡ true
      → all_points test (take 4 (drop 4 ps)) ≡ true → true ≡ all_points test (take n ps)
  both_fours ps n eight first last =
      let whole : ps ≡ take 4 ps ++ take 4 (drop 4 ps) = sym (take_all 8 ps (omega arith)) ∙ take-add 4 4 ps in
      let all : all_points test ps ≡ true =
      ap (all_points test) whole ∙ all_append (take 4 ps) (take 4 (drop 4 ps)) ∙ ap₂ ◌&&◌ first last in
      sym (all_first ps n all)

  pub list_all_points : (l : List B2vec2) → list_all test l ≡ all_points test l
  list_all_points [] = refl
  list_all_points (a ∷ l) = ap (λ (t : Bool). test a && t) (list_all_points l)
