-- Rows that are filled a place at a time, and what is read from them. Assumes nothing.
use mathlib.Core.Path.{◌≡◌, refl, ◌∙◌, ap, ap₂}
use mathlib.Core.List.{List, [], ◌∷◌}
use mathlib.Core.Logic.{inl, inr}
use Prim.Native.Nat.{ℕ, zero, suc, ◌+◌, ◌<◌, ◌≤◌}
use native.Mathlib.Omega.{arith}
use lib.Ieee.{Float}
use lib.ListN.{length, get_or, set, length-set}
use lib.Seq.{get_or-set_same, get_or-set_other}
use Rattle.algebra.proofs.Booleans.{less_or_not}
use Rattle.floats.specs.declared.b2_math.B2vec2.{B2vec2}
use Rattle.floats.specs.B2Math.{vec2, b2_sub}
use Rattle.shape_definitions.specs.Outline.{point_at}
use Rattle.wall_contacts.specs.PlacedRows.{Row, PointRows, face_distance}

-- ---- one row
pub row_fewer : {f : ℕ → Float} {m n : ℕ} {xs : List Float} → m ≤ n → Row f n xs → Row f m xs
row_fewer fewer row = record { size = row.size; at = λ i d below. row.at i d (omega arith) }

-- a store at the first place that is not filled yet
pub row_next : {f : ℕ → Float} {i : ℕ} {xs : List Float} (v : Float) → i < 8 → Row f i xs → v ≡ f i
    → Row f (i + 1) (set xs i v)
row_next {f} {i} {xs} v room row v_is = record { size = length-set xs i v ∙ row.size; at = filled }
  where
    filled : (k : ℕ) (d : Float) → k < i + 1 → get_or (set xs i v) k d ≡ f k
    filled k d below = elim (less_or_not k i) [
      | inl earlier ↦ get_or-set_other xs i k v d (λ same. omega arith) ∙ row.at k d earlier
      | inr last ↦
          let same : k ≡ i = omega arith in
          let size = row.size in
          ap (λ (j : ℕ). get_or (set xs i v) j d) same ∙ get_or-set_same xs i v d (omega arith) ∙ v_is ∙ ap f (omega arith)
    ]

-- ---- the coordinates of points
pub points_fewer : {f : ℕ → B2vec2} {m n : ℕ} {xs ys : List Float} → m ≤ n → PointRows f n xs ys → PointRows f m xs ys
points_fewer fewer rows = record { x = row_fewer fewer rows.x; y = row_fewer fewer rows.y }

pub points_next : {f : ℕ → B2vec2} {i : ℕ} {xs ys : List Float} (v : B2vec2) → i < 8 → PointRows f i xs ys → v ≡ f i
    → PointRows f (i + 1) (set xs i v.x) (set ys i v.y)
points_next v room rows v_is = record {
  x = row_next v.x room rows.x (ap (λ (p : B2vec2). p.x) v_is);
  y = row_next v.y room rows.y (ap (λ (p : B2vec2). p.y) v_is);
}

-- a point read from its two rows
pub point_read : {f : ℕ → B2vec2} {n : ℕ} {xs ys : List Float} (i : ℕ) (d e : Float) → i < n → PointRows f n xs ys
    → vec2 (get_or xs i d) (get_or ys i e) ≡ f i
point_read i d e below rows = ap₂ vec2 (rows.x.at i d below) (rows.y.at i e below)

pub difference_read : {f : ℕ → B2vec2} {n : ℕ} {xs ys : List Float} (i : ℕ) (d e : Float) (v r : B2vec2) → i < n
    → PointRows f n xs ys
    → r ≡ b2_sub (vec2 (get_or xs i d) (get_or ys i e)) v → r ≡ b2_sub (f i) v
difference_read i d e v r below rows r_is = r_is ∙ ap (λ (p : B2vec2). b2_sub p v) (point_read i d e below rows)

-- a point read from an array, whatever is said to stand past its end
pub at_place : (l : List B2vec2) (i : ℕ) (d : B2vec2) → i < length l → get_or l i d ≡ point_at l i
at_place [] i d within = absurd (omega arith)
at_place (x ∷ l) zero d within = refl
at_place (x ∷ l) (suc i) d within = at_place l i d (omega arith)

-- the distance of a face whose corner is read from rows
pub face_read : {f : ℕ → B2vec2} {n : ℕ} {xs ys : List Float} (i : ℕ) (d e : Float) (m normal v1 v2 : B2vec2)
    (r : Float) → i < n
    → PointRows f n xs ys → m ≡ normal → r ≡ face_distance m (vec2 (get_or xs i d) (get_or ys i e)) v1 v2
    → r ≡ face_distance normal (f i) v1 v2
face_read i d e m normal v1 v2 r below rows m_is r_is =
    r_is ∙ ap₂ (λ (a b : B2vec2). face_distance a b v1 v2) m_is (point_read i d e below rows)
