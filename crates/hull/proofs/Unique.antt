-- A list has at most one exact hull: its first corner is one point, and each corner has one next. Assumes nothing.
use mathlib.Core.Path.{◌≡◌, refl, sym, subst, ap₂}
use mathlib.Core.List.{List, [], ◌∷◌, Memᴰ}
use mathlib.Core.Logic.{◌⊎◌, inl, inr}
use Prim.Native.Nat.{◌≤◌}
use native.Mathlib.Omega.{arith}
use lib.ListN.{length}
use Rattle.algebra.specs.Integer.{◌≐◌, ◌≺◌}
use Rattle.algebra.specs.Plane.{Point}
use Rattle.algebra.specs.Lists.{Once}
use Rattle.hull.specs.Hull.{Edge, First, Linked, IsHull}
use Rattle.hull.proofs.Corners.{Side, side_out}

-- ---- the edges of a row without repeats are sides
linked_sides : (s : List Point) (end : Point) → Memᴰ end s → (row : List Point) (p : Point)
    → ((q : Point) → Memᴰ q row → Memᴰ q s)
    → Once (p ∷ row) → ¬ Memᴰ end (p ∷ row) → Linked (Edge s) end p row → Linked (Side s) end p row
linked_sides s end end_in [] p within once new edge = record {
  mem = end_in;
  apart = λ e. new (Memᴰ.head e);
  edge = edge;
}
linked_sides s end end_in (q ∷ row) p within once new edges = (
  record { mem = within q (Memᴰ.head refl); apart = λ e. once.0 (Memᴰ.head (sym e)); edge = edges.0 },
  linked_sides s end end_in row q (λ a m. within a (Memᴰ.tail m)) once.1 (λ m. new (Memᴰ.tail m))
      edges.1,
)

pub hull_sides : (s : List Point) (p : Point) (rest : List Point) → IsHull s p rest → Linked (Side s) p p rest
hull_sides s p rest hull = go rest hull.three hull.once hull.within hull.edges
  where
    go : (rest : List Point) → 3 ≤ length (p ∷ rest) → Once (p ∷ rest)
        → ((q : Point) → Memᴰ q (p ∷ rest) → Memᴰ q s)
        → Linked (Edge s) p p rest → Linked (Side s) p p rest
    go [] three once within edges = absurd (omega arith)
    go (q ∷ rest) three once within edges = (
      record {
        mem = within q (Memᴰ.tail (Memᴰ.head refl));
        apart = λ e. once.0 (Memᴰ.head (sym e));
        edge = edges.0;
      },
      linked_sides s p (within p (Memᴰ.head refl)) rest q
          (λ a m. within a (Memᴰ.tail (Memᴰ.tail m))) once.1 once.0 edges.1,
    )

-- ---- two rows from one point to one end are one
same_row : (s : List Point) (end : Point) (row row' : List Point) (p p' : Point) → p ≡ p' → Linked (Side s) end p row
    → Linked (Side s) end p' row'
    → ¬ Memᴰ end row → ¬ Memᴰ end row' → row ≡ row'
same_row s end [] [] p p' e sides sides' new new' = refl
same_row s end [] (q ∷ row') p p' e side sides' new new' =
    absurd (new' (Memᴰ.head (side_out s p end q side (subst (λ (a : Point). Side s a q) (sym e) sides'.0))))
same_row s end (q ∷ row) [] p p' e sides side' new new' =
    absurd (new (Memᴰ.head (side_out s p end q (subst (λ (a : Point). Side s a end) (sym e) side') sides.0)))
same_row s end (q ∷ row) (q' ∷ row') p p' e sides sides' new new' =
    let same : q ≡ q' = side_out s p q q' sides.0 (subst (λ (a : Point). Side s a q') (sym e) sides'.0) in
    ap₂ ◌∷◌ same
    (same_row s end row row' q q' same sides.1 sides'.1 (λ m. new (Memᴰ.tail m))
    (λ m. new' (Memᴰ.tail m)))

one_first : (s : List Point) (p q : Point) → Memᴰ p s → Memᴰ q s → First s p → First s q → p ≡ q
one_first s p q p_in q_in first_p first_q = go (first_p q q_in) (first_q p p_in)
  where
    go : (q ≡ p) ⊎ ((q.x ≺ p.x) ⊎ ((q.x ≐ p.x) × (p.y ≺ q.y))) → (p ≡ q)
        ⊎ ((p.x ≺ q.x) ⊎ ((p.x ≐ q.x) × (q.y ≺ p.y))) → p ≡ q
    go (inl h) k = sym h
    go (inr h) (inl k) = k
    go (inr (inl h)) (inr (inl k)) = absurd (omega arith)
    go (inr (inl h)) (inr (inr k)) = absurd (omega arith)
    go (inr (inr h)) (inr (inl k)) = absurd (omega arith)
    go (inr (inr h)) (inr (inr k)) = absurd (omega arith)

pub hull_unique : (s : List Point) (p p' : Point) (rest rest' : List Point) → IsHull s p rest → IsHull s p' rest'
    → p ∷ rest ≡ p' ∷ rest'
hull_unique s p p' rest rest' hull hull' =
    let first : p ≡ p' =
    one_first s p p' (hull.within p (Memᴰ.head refl)) (hull'.within p' (Memᴰ.head refl)) hull.first
    hull'.first in
    ap₂ ◌∷◌ first
    (same_row s p' rest rest' p p' first (subst (λ (a : Point). Linked (Side s) a p rest) first
    (hull_sides s p rest hull)) (hull_sides s p' rest' hull')
    (subst (λ (a : Point). ¬ Memᴰ a rest) first hull.once.0) hull'.once.0)
