-- The ranges of a manifold with one or two points and of two radii, from the tests that the code makes: first all but
-- the second point, then that one. Assumes nothing.
use mathlib.Core.Path.{◌≡◌, refl, sym, ap, ap₂, ◌∙◌}
use mathlib.Core.Bool.{Bool, true, false, ◌&&◌, false≢true, and-true}
use mathlib.Core.List.{List}
use Prim.Native.Nat.{ℕ, zero, suc, ◌≤◌, ◌<◌}
use native.Mathlib.Omega.{arith}
use lib.ListN.{length, get_or, take}
use lib.Ieee.{Float}
use Rattle.floats.specs.Ranges.{radius_in_range, local_normal_in_range, contact_point_in_range}
use Rattle.contact_definitions.specs.declared.b2_collision.B2manifoldPoint.{B2manifoldPoint}
use Rattle.contact_definitions.specs.declared.b2_collision.B2manifold.{B2manifold}
use Rattle.contact_definitions.specs.Manifold.{counted_points}
use Rattle.contact_definitions.specs.WorldManifold.{points_in_range, manifold_in_range}
use Rattle.algebra.proofs.Two.{Two, two, two_of}

-- ---- conjunctions
one_fails : (normal point first a b rest : Bool) → (normal && point && first && a && b) ≡ false
    → false ≡ (normal && point && (first && rest) && a && b)
one_fails false point first a b rest h = refl
one_fails true false first a b rest h = refl
one_fails true true false a b rest h = refl
one_fails true true true a b true h = sym h
one_fails true true true a b false h = refl

all_hold : (normal point first a b rest : Bool) → (normal && point && first && a && b) ≡ true
    → rest ≡ (normal && point && (first && rest) && a && b)
all_hold false point first a b rest h = absurd (false≢true h)
all_hold true false first a b rest h = absurd (false≢true h)
all_hold true true false a b rest h = absurd (false≢true h)
all_hold true true true a b true h = sym h
all_hold true true true a b false h = refl

-- ---- the counted points
of_one : (count : ℕ) (ps : List B2manifoldPoint) (d : B2manifoldPoint) → length ps ≡ 2 → count ≡ 1
    → points_in_range (take count ps) ≡ (contact_point_in_range (get_or ps 0 d).local_point && true)
unfolding points_in_range
of_one count ps d size one = ap (λ (n : ℕ). points_in_range (take n ps)) one ∙ go (two_of ps size)
  where
    go : {l : List B2manifoldPoint} → Two l
        → points_in_range (take 1 l) ≡ (contact_point_in_range (get_or l 0 d).local_point && true)
    go (two p q) = refl

of_two : (count : ℕ) (ps : List B2manifoldPoint) (d e : B2manifoldPoint) → length ps ≡ 2 → count ≡ 2
    → points_in_range (take count ps)
    ≡ (contact_point_in_range (get_or ps 0 d).local_point
    && (contact_point_in_range (get_or ps 1 e).local_point && true))
unfolding points_in_range
of_two count ps d e size both = ap (λ (n : ℕ). points_in_range (take n ps)) both ∙ go (two_of ps size)
  where
    go : {l : List B2manifoldPoint} → Two l
        → points_in_range (take 2 l)
        ≡ (contact_point_in_range (get_or l 0 d).local_point
        && (contact_point_in_range (get_or l 1 e).local_point && true))
    go (two p q) = refl

-- ---- what the code finds of the normal, the point, the first point and the radii
module _ (m : B2manifold) (d : B2manifoldPoint) (size : length m.points ≡ 2) (some : 0 < m.point_count)
    (few : m.point_count ≤ 2) (radiusA radiusB : Float) (normal point first a b : Bool)
    (normal_is : normal ≡ local_normal_in_range m.local_normal)
    (point_is : point ≡ contact_point_in_range m.local_point)
    (first_is : first ≡ contact_point_in_range (get_or m.points 0 d).local_point)
    (a_is : a ≡ radius_in_range radiusA) (b_is : b ≡ radius_in_range radiusB) where
  abbrev most : Bool
  most = normal && point && first && a && b

  abbrev Asked : Bool
  Asked = manifold_in_range m && radius_in_range radiusA && radius_in_range radiusB

  as_found : (rest : Bool) → points_in_range (counted_points m)
      ≡ (contact_point_in_range (get_or m.points 0 d).local_point && rest)
      → (normal && point && (first && rest) && a && b) ≡ Asked
  unfolding manifold_in_range
  as_found rest points_are =
      ap₂ ◌&&◌ (ap₂ ◌&&◌ (ap₂ ◌&&◌ (ap₂ ◌&&◌ normal_is point_is)
      (ap (λ (t : Bool). t && rest) first_is ∙ sym points_are)) a_is) b_is

  one_counted : m.point_count ≡ 1
      → points_in_range (counted_points m)
      ≡ (contact_point_in_range (get_or m.points 0 d).local_point && true)
  unfolding counted_points
  one_counted one = of_one m.point_count m.points d size one

  two_counted : (e : B2manifoldPoint) → (m.point_count ≡ 1 → ⊥)
      → points_in_range (counted_points m)
      ≡ (contact_point_in_range (get_or m.points 0 d).local_point
      && (contact_point_in_range (get_or m.points 1 e).local_point && true))
  unfolding counted_points
  two_counted e more = of_two m.point_count m.points d e size (omega arith)

  pub numbers_out : most ≡ false → false ≡ Asked
  numbers_out h = by_count m.point_count refl
    where
      by_count : (n : ℕ) → m.point_count ≡ n → false ≡ Asked
      by_count zero n_is = absurd (omega arith)
      by_count (suc zero) n_is = one_fails normal point first a b true h ∙ as_found true (one_counted n_is)
      by_count (suc (suc n)) n_is =
          one_fails normal point first a b _ h ∙ as_found _ (two_counted d (λ one. omega arith))

  pub one_in : most ≡ true → m.point_count ≡ 1 → true ≡ Asked
  one_in h one = all_hold normal point first a b true h ∙ as_found true (one_counted one)

  pub second_decides : (e : B2manifoldPoint) (second : Bool) → most ≡ true → (m.point_count ≡ 1 → ⊥)
      → second ≡ contact_point_in_range (get_or m.points 1 e).local_point → second ≡ Asked
  second_decides e second h more second_is =
      second_is ∙ sym (and-true _) ∙ all_hold normal point first a b _ h ∙ as_found _ (two_counted e more)
