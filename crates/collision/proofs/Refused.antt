-- The contact calls by their ranges: 7 before them, then accepted where shapes and placements are in range, else 2
-- where a shape is not, and else 6. Assumes nothing.
use mathlib.Core.Path.{◌≡◌, refl, sym, ◌∙◌, ap, ap₂}
use mathlib.Core.Bool.{Bool, true, false, not, cond, ◌&&◌, ◌||◌}
use Prim.Native.Nat.{ℕ, ◌≤◌, ◌<◌}
use native.Mathlib.Omega.{arith}
use lib.Dec.{ltb}
use borrow.Author.Tests.{ltb-false}
use Rattle.floats.specs.declared.b2_math.B2Transform.{B2Transform}
use Rattle.floats.specs.Ranges.{transform_in_range}
use Rattle.shape_definitions.specs.declared.refusal.Refusal.{Refusal}
use Rattle.shape_definitions.specs.declared.refusal.Refusal.TheVariants.{ShapeOutOfRange, PlacementOutOfRange}
use Rattle.shape_definitions.specs.Refusal.{number_of, shape_out_of_range, placement_out_of_range, count_out_of_range}
use Rattle.contact_definitions.specs.declared.b2_collision.B2manifold.{B2manifold}
use Rattle.contact_definitions.specs.Answers.{ManifoldAnswer}
use Rattle.contact_definitions.specs.Manifold.{manifold_refused, manifold_accepted, where_in_range, miscounted}
use Rattle.contact_definitions.specs.Manifold.{unless_miscounted}

never : {P : Type 0} → true ≡ false → P
never h = let z : ◌≡◌ {A = ℕ} 0 1 = cc in absurd (omega arith)

-- s and p are what the code found of the shapes and of the placements
module _ (old : B2manifold) (shapes : Bool) (xfA xfB : B2Transform) (answer : ManifoldAnswer) where
  abbrev by : Bool → Bool → ManifoldAnswer
  by s p =
      cond (not s) (manifold_refused shape_out_of_range old)
      (cond (not p) (manifold_refused placement_out_of_range old) answer)

  in_range : (s p : Bool) → (s && p) ≡ true → answer ≡ by s p
  in_range true true both = refl
  in_range true false both = never (sym both)
  in_range false p both = never (sym both)

  out : (s p : Bool) → (s && p) ≡ false
      → manifold_refused (number_of (cond s PlacementOutOfRange ShapeOutOfRange)) old ≡ by s p
  out true true neither = never neither
  out true false neither = refl
  out false p neither = refl

  module _ (s p : Bool) (s_is : s ≡ shapes) (p_is : p ≡ (transform_in_range xfA && transform_in_range xfB)) where
    as_found : by s p ≡ where_in_range shapes xfA xfB old answer
    as_found = ap₂ by s_is p_is

    pub all_in_range : (r : ManifoldAnswer) → (s && p) ≡ true → r ≡ answer
        → r ≡ where_in_range shapes xfA xfB old answer
    all_in_range r both r_is = r_is ∙ in_range s p both ∙ as_found

    -- the manifold that was made, where it is that of the answer
    pub made_in_range : (made m : B2manifold) → answer ≡ manifold_accepted m → (s && p) ≡ true → made ≡ m
        → manifold_accepted made ≡ where_in_range shapes xfA xfB old answer
    made_in_range made m answer_is both made_is =
        all_in_range (manifold_accepted made) both (ap manifold_accepted made_is ∙ sym answer_is)

    pub not_in_range : (why : Refusal) → (s && p) ≡ false → why ≡ cond s PlacementOutOfRange ShapeOutOfRange
        → manifold_refused (number_of why) old ≡ where_in_range shapes xfA xfB old answer
    not_in_range why neither why_is =
        ap (λ (w : Refusal). manifold_refused (number_of w) old) why_is ∙ out s p neither ∙ as_found

-- ---- 7 before the ranges
module _ (old : B2manifold) (wrong : Bool) (answer : ManifoldAnswer) where
  pub count_refused : wrong ≡ true → manifold_refused count_out_of_range old ≡ unless_miscounted wrong old answer
  count_refused h = simp h refl

  pub count_taken : (r : ManifoldAnswer) → wrong ≡ false → r ≡ answer → r ≡ unless_miscounted wrong old answer
  count_taken r h r_is = simp h r_is

pub counted_well : (n : ℕ) → miscounted n ≡ false → (2 < n) × (n ≤ 8)
counted_well n h = by_few (ltb n 3) refl (ltb 8 n) refl h
  where
    by_few : (few : Bool) → ltb n 3 ≡ few → (many : Bool) → ltb 8 n ≡ many → (few || many) ≡ false → (2 < n) × (n ≤ 8)
    by_few true few_is many many_is both = never both
    by_few false few_is true many_is both = never both
    by_few false few_is false many_is both = let three = ltb-false n 3 few_is in (omega arith, ltb-false 8 n many_is)

pub more_than_none : (n : ℕ) → 2 < n → 0 < n
more_than_none n h = omega arith

pub both_counted_well : (a b : ℕ) → (miscounted a || miscounted b) ≡ false → (0 < a) × (a ≤ 8) × (0 < b) × (b ≤ 8)
both_counted_well a b h = go (miscounted a) refl h
  where
    go : (t : Bool) → miscounted a ≡ t → (t || miscounted b) ≡ false → (0 < a) × (a ≤ 8) × (0 < b) × (b ≤ 8)
    go true a_is both = never both
    go false a_is both =
        let a_well = counted_well a a_is in let b_well = counted_well b both in
        (more_than_none a a_well.0, a_well.1, more_than_none b b_well.0, b_well.1)
