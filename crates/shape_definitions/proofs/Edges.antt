-- The edges of a row of corners by their places: one for each corner, from it to the corner at the place after; and
-- that place is another place of the row. Assumes nothing.
use mathlib.Core.Path.{◌≡◌, refl, sym, ap, ◌∙◌}
use mathlib.Core.Bool.{Bool, true, false, cond}
use mathlib.Core.List.{List, [], ◌∷◌, ◌++◌}
use Prim.Native.Nat.{ℕ, zero, suc, ◌+◌, ◌≤◌, ◌<◌}
use native.Mathlib.Numerals.{add-one}
use native.Mathlib.Omega.{arith}
use lib.Dec.{T, ltb, ltb→lt, lt→ltb}
use lib.ListN.{length, get_or, get_or-append}
use lib.Seq.{get_or-append_seam}
use Rattle.algebra.proofs.Booleans.{not_lt}
use Rattle.floats.specs.declared.b2_math.B2vec2.{B2vec2}
use Rattle.floats.specs.B2Math.{b2_sub}
use Rattle.shape_definitions.specs.Outline.{origin, point_at, place_after, edges_from, edges}

-- ---- the edge at a place
edges_from_length : (first p : B2vec2) (qs : List B2vec2) → length (edges_from first p qs) ≡ suc (length qs)
edges_from_length first p [] = refl
edges_from_length first p (q ∷ qs) = ap suc (edges_from_length first q qs)

pub edges_length : (cs : List B2vec2) → length (edges cs) ≡ length cs
unfolding edges
edges_length [] = refl
edges_length (p ∷ ps) = edges_from_length p p ps

edge_from_at : (first p d : B2vec2) (qs : List B2vec2) (i : ℕ) → i < suc (length qs)
    → get_or (edges_from first p qs) i d ≡ b2_sub (get_or (qs ++ (first ∷ [])) i d) (get_or (p ∷ qs) i d)
edge_from_at first p d [] zero h = refl
edge_from_at first p d [] (suc i) h = absurd (omega arith)
edge_from_at first p d (q ∷ qs) zero h = refl
edge_from_at first p d (q ∷ qs) (suc i) h = edge_from_at first q d qs i (omega arith)

-- the corner after a place
next_at : (first d : B2vec2) (qs : List B2vec2) (i : ℕ) → i < suc (length qs)
    → get_or (qs ++ (first ∷ [])) i d ≡ get_or (first ∷ qs) (place_after (suc (length qs)) i) d
next_at first d qs i h =
    go (ltb (i + 1) (suc (length qs))) (ltb→lt (i + 1) (suc (length qs))) (lt→ltb (i + 1) (suc (length qs)))
  where
    go : (t : Bool) → (T t → i + 1 < suc (length qs)) → (i + 1 < suc (length qs) → T t)
        → get_or (qs ++ (first ∷ [])) i d ≡ get_or (first ∷ qs) (cond t (i + 1) 0) d
    go true below above =
        let l = below tt in get_or-append qs (first ∷ []) d i (omega arith) ∙ ap (λ (n : ℕ). get_or (first ∷ qs) n d)
        (sym (add-one i))
    go false below above =
        ap (λ (n : ℕ). get_or (qs ++ (first ∷ [])) n d) (last (λ l. above l)) ∙ get_or-append_seam qs first [] d
      where
        last : (i + 1 < suc (length qs) → ⊥) → i ≡ length qs
        last not_below = let l = not_lt (i + 1) (suc (length qs)) not_below in omega arith

-- the place after one of two or more is another place
pub after_in : (n i : ℕ) → i < n → place_after n i < n
after_in n i h = go (ltb (i + 1) n) (ltb→lt (i + 1) n)
  where
    go : (t : Bool) → (T t → i + 1 < n) → cond t (i + 1) 0 < n
    go true below = below tt
    go false below = omega arith

pub after_other : (n i : ℕ) → 2 ≤ n → i < n → place_after n i ≡ i → ⊥
after_other n i two h = go (ltb (i + 1) n) (lt→ltb (i + 1) n)
  where
    go : (t : Bool) → (i + 1 < n → T t) → cond t (i + 1) 0 ≡ i → ⊥
    go true above e = omega arith
    go false above e = above (omega arith)

pub edge_at : (cs : List B2vec2) (i : ℕ) → i < length cs
    → point_at (edges cs) i ≡ b2_sub (point_at cs (place_after (length cs) i)) (point_at cs i)
unfolding edges
edge_at [] i h = absurd (omega arith)
edge_at (c ∷ cs) i h =
    edge_from_at c c origin cs i h ∙ ap (λ (v : B2vec2). b2_sub v (get_or (c ∷ cs) i origin)) (next_at c origin cs i h)
