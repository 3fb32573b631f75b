-- The walk around a list of two or more points, none twice: it comes back with two corners where the list lies on one
-- line, and otherwise with the exact hull. Assumes nothing.
use mathlib.Core.Path.{◌≡◌, refl, sym, ◌∙◌, subst}
use mathlib.Core.List.{List, [], ◌∷◌, Memᴰ}
use mathlib.Core.Logic.{◌⊎◌, inl, inr}
use mathlib.Core.Option.{some}
use Prim.Native.Nat.{ℕ, ◌≤◌}
use native.Mathlib.Omega.{arith}
use lib.ListN.{length}
use Rattle.algebra.specs.Plane.{Point}
use Rattle.algebra.specs.Lists.{Once}
use Rattle.hull.specs.Hull.{AllReduced, Edge, Linked, IsHull, OnLine}
use Rattle.hull.specs.Outline.{same_point, next_corner, start, wrap}
use Rattle.hull.proofs.Points.{same_point_eq, not_same_point, point_discrete}
use Rattle.hull.proofs.Walk.{Walked, walk_returns}
use Rattle.hull.proofs.Corners.{Corner, Side, corner_of_first, corner_of_side, side_in}
use Rattle.hull.proofs.Next.{next_side}
use Rattle.hull.proofs.Start.{start_mem, start_first}
use Rattle.hull.proofs.Line.{there_and_back, no_third_corner}

linked_edges : (s row : List Point) (end p : Point) → Linked (Side s) end p row → Linked (Edge s) end p row
linked_edges s [] end p side = side.edge
linked_edges s (q ∷ row) end p sides = (sides.0.edge, linked_edges s row end q sides.1)

pub record Wrapped (fuel : ℕ) (e₀ : Point) (js : List Point) : Type 0 where
  pub first : Point
  pub rest : List Point
  pub is : wrap fuel e₀ js ≡ some (first ∷ rest)
  pub hull : IsHull (e₀ ∷ js) first rest

pub record Folded (fuel : ℕ) (e₀ : Point) (js : List Point) : Type 0 where
  pub one : Point
  pub other : Point
  pub is : wrap fuel e₀ js ≡ some (one ∷ other ∷ [])

module _ (e₀ e₁ : Point) (js : List Point) (reduced : AllReduced (e₀ ∷ e₁ ∷ js)) (once : Once (e₀ ∷ e₁ ∷ js)) where
  abbrev s : List Point
  s = e₀ ∷ e₁ ∷ js

  abbrev p₀ : Point
  p₀ = start e₀ (e₁ ∷ js)

  first_corner : Corner s p₀
  first_corner = corner_of_first s p₀ (start_mem e₀ (e₁ ∷ js) reduced) (start_first e₀ (e₁ ∷ js) reduced)

  -- one of the first two points is another than p
  side_from : (p : Point) → Corner s p → Side s p (next_corner e₀ (e₁ ∷ js) p)
  side_from p c = go (point_discrete e₀ p)
    where
      go : Dec (e₀ ≡ p) → Side s p (next_corner e₀ (e₁ ∷ js) p)
      go (yes h) = next_side e₀ (e₁ ∷ js) reduced p c e₁ (Memᴰ.tail (Memᴰ.head refl))
          (λ k. once.0 (Memᴰ.head (h ∙ sym k)))
      go (no h) = next_side e₀ (e₁ ∷ js) reduced p c e₀ (Memᴰ.head refl) h

  module _ (fuel : ℕ) (enough : length (e₀ ∷ e₁ ∷ js) ≤ fuel) where
    row : Walked same_point (next_corner e₀ (e₁ ∷ js)) p₀ (Corner s) (Side s) fuel p₀ []
    row =
        walk_returns same_point (next_corner e₀ (e₁ ∷ js)) p₀ (Corner s) (Side s) s side_from
        (λ p c. corner_of_side s p (next_corner e₀ (e₁ ∷ js) p) c (side_from p c))
        (λ p c. c.mem)
        (λ p q c d e. side_in s p q (next_corner e₀ (e₁ ∷ js) q) c.mem d.mem
        (subst (Side s p) e (side_from p c)) (side_from q d))
        (λ p q c d t. same_point_eq p q (reduced p c.mem) (reduced q d.mem) t)
        not_same_point first_corner fuel enough

    pub wrap_outcome : (OnLine (e₀ ∷ e₁ ∷ js) × Folded fuel e₀ (e₁ ∷ js))
        ⊎ ((¬ OnLine (e₀ ∷ e₁ ∷ js)) × Wrapped fuel e₀ (e₁ ∷ js))
    wrap_outcome = go row.rest row.is row.linked row.once (λ q m. (row.corners q m).mem)
      where
        go : (rest : List Point) → wrap fuel e₀ (e₁ ∷ js) ≡ some (p₀ ∷ rest) → Linked (Side s) p₀ p₀ rest
            → Once (p₀ ∷ rest)
            → ((q : Point) → Memᴰ q (p₀ ∷ rest) → Memᴰ q s) → (OnLine s × Folded fuel e₀ (e₁ ∷ js))
            ⊎ ((¬ OnLine s) × Wrapped fuel e₀ (e₁ ∷ js))
        go [] is sides none_twice within = absurd (sides.apart refl)
        go (q ∷ []) is sides none_twice within =
            inl (there_and_back s p₀ q first_corner sides.0 sides.1, record { one = p₀; other = q; is = is })
        go (q ∷ r ∷ rest) is sides none_twice within = inr (
          (λ line. no_third_corner s p₀ q r line first_corner.mem sides.0 sides.1.0
              (λ r_is. none_twice.0 (Memᴰ.tail (Memᴰ.head (sym r_is))))),
          record {
            first = p₀;
            rest = q ∷ r ∷ rest;
            is = is;
            hull = record {
              within = within;
              once = none_twice;
              three = omega arith;
              first = start_first e₀ (e₁ ∷ js) reduced;
              edges = linked_edges s (q ∷ r ∷ rest) p₀ p₀ sides;
            };
          },
        )
