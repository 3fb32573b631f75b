-- Rows of eight floats whose first places hold a value of each place, and pairs of them that hold the coordinates of
-- points. Definitions only.
use Rattle.std.specs.Prelude.{◌≡◌, List, ℕ, ◌<◌, Float, length, get_or}
use Rattle.floats.specs.declared.b2_math.B2vec2.{B2vec2}
use Rattle.floats.specs.B2Math.{b2_min, b2_sub, b2_neg, b2_dot}

-- the first n places of a row hold the values of f; d is whatever is said to stand past the end
pub record Row (f : ℕ → Float) (n : ℕ) (xs : List Float) : Type 0 where
  pub size : length xs ≡ 8
  pub at : (i : ℕ) (d : Float) → i < n → get_or xs i d ≡ f i

-- two rows hold the coordinates of the points of f
pub record PointRows (f : ℕ → B2vec2) (n : ℕ) (xs ys : List Float) : Type 0 where
  pub x : Row (λ i. (f i).x) n xs
  pub y : Row (λ i. (f i).y) n ys

-- how far a face through v with the normal n keeps both ends of a wall off
unfoldable pub face_distance : B2vec2 → B2vec2 → B2vec2 → B2vec2 → Float
face_distance n v v1 v2 = b2_min (b2_dot (b2_neg n) (b2_sub v v1)) (b2_dot (b2_neg n) (b2_sub v v2))
