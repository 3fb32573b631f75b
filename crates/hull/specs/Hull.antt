-- The exact hull of a list of points, repeats counted, in the words of document 01, "Words of demand 3". Points are
-- compared by `≡`. The theorems ask that each coordinate is `Reduced`, one part of its pair 0, as the values of floats
-- are: then `≡` is equality by value, and "a point of the list", "none twice" and "equal to neither" are the plain
-- notions of lists. Definitions only.
use Rattle.std.specs.Prelude.{◌≡◌, ◌⊎◌, ◌≤◌, length}
use mathlib.Core.List.{List, [], ◌∷◌, Memᴰ}
use Rattle.algebra.specs.Integer.{Z, whole, ◌⊞◌, ◌≐◌, ◌≺◌, Reduced}
use Rattle.algebra.specs.Plane.{Point, from_to, dot, orient}
use Rattle.algebra.specs.Lists.{Once}

abbrev pub ReducedPoint : Point → Type 0
ReducedPoint p = Reduced p.x × Reduced p.y

abbrev pub AllReduced : List Point → Type 0
AllReduced s = (p : Point) → Memᴰ p s → ReducedPoint p

-- r lies strictly left of the line from p to q; on it between p and q
abbrev pub Left : Point → Point → Point → Type 0
Left p q r = whole 0 ≺ orient p q r

abbrev pub Between : Point → Point → Point → Type 0
Between p q r = (orient p q r ≐ whole 0) × (dot (from_to r p) (from_to r q) ≺ whole 0)

-- every point of the list equal to neither lies strictly left of the line from p to q, or on it between them
abbrev pub Edge : List Point → Point → Point → Type 0
Edge s p q = (r : Point) → Memᴰ r s → (r ≡ p) ⊎ ((r ≡ q) ⊎ (Left p q r ⊎ Between p q r))

-- p has the largest x, and the smallest y among equals
abbrev pub First : List Point → Point → Type 0
First s p = (r : Point) → Memᴰ r s → (r ≡ p) ⊎ ((r.x ≺ p.x) ⊎ ((r.x ≐ p.x) × (p.y ≺ r.y)))

-- R holds of each element of the row p ∷ rest and the next, and of the last and `end`
abbrev pub Linked : {A : Type 0} → (A → A → Type 0) → A → A → List A → Type 0
Linked R end p [] = R p end
Linked R end p (q ∷ rest) = R p q × Linked R end q rest

-- the row p ∷ rest is the exact hull of s
pub record IsHull (s : List Point) (p : Point) (rest : List Point) : Type 0 where
  pub within : (q : Point) → Memᴰ q (p ∷ rest) → Memᴰ q s
  pub once : Once (p ∷ rest)
  pub three : 3 ≤ length (p ∷ rest)
  pub first : First s p
  pub edges : Linked (Edge s) p p rest

-- ---- lists that have no hull
-- all on one line
abbrev pub OnLine : List Point → Type 0
OnLine s = (a b c : Point) → Memᴰ a s → Memᴰ b s → Memᴰ c s → orient a b c ≐ whole 0

-- three different points
pub record ThreeDifferent (s : List Point) : Type 0 where
  pub a : Point
  pub b : Point
  pub c : Point
  pub a_in : Memᴰ a s
  pub b_in : Memᴰ b s
  pub c_in : Memᴰ c s
  pub a_not_b : ¬ (a ≡ b)
  pub a_not_c : ¬ (a ≡ c)
  pub b_not_c : ¬ (b ≡ c)

-- ---- the triangles from p to each point of a row and the next: their doubled areas added up, and each of them above 0
abbrev pub fan_area : Point → List Point → Z
fan_area p [] = whole 0
fan_area p (q ∷ []) = whole 0
fan_area p (q ∷ r ∷ row) = orient p q r ⊞ fan_area p (r ∷ row)

abbrev pub FanPositive : Point → List Point → Type 0
FanPositive p [] = Unit {0}
FanPositive p (q ∷ []) = Unit {0}
FanPositive p (q ∷ r ∷ row) = (whole 0 ≺ orient p q r) × FanPositive p (r ∷ row)
