-- Rows of eight numbers: one coordinate of the normal, or of the first corner, of each face of an outline in the frame
-- of the other. Places from a count on are worked out and never read. Definitions only.
use Rattle.std.specs.Prelude.{◌≡◌, List, map, ℕ, ◌<◌, length, get_or, Float}
use Rattle.std.specs.Float.{nan}
use Rattle.algebra.specs.Loops.{places, scan}
use Rattle.floats.specs.declared.b2_math.B2vec2.{B2vec2}
use Rattle.floats.specs.declared.b2_math.B2Transform.{B2Transform}
use Rattle.floats.specs.B2Math.{vec2, b2_sub, b2_dot, b2_mul_rot_by_vec2, b2_mul_transform_by_vec2}
use Rattle.shape_definitions.specs.Outline.{point_at}
use Rattle.contact_definitions.specs.declared.axis.Best.{Best}
use Rattle.contact_definitions.specs.Searches.{below_value}
use Rattle.outline_contacts.specs.declared.rows.FarthestFace.{FarthestFace}

abbrev pub Eight : List Float → Type 0
Eight row = length row ≡ 8

-- the number at a place
abbrev pub at : List Float → ℕ → Float
at row i = get_or row i nan

-- the vector at a place of two rows
abbrev pub vector_at : List Float → List Float → ℕ → B2vec2
vector_at xs ys i = vec2 (at xs i) (at ys i)

-- the first n faces of an outline, carried by xf
pub record FaceRows (xf : B2Transform) (vs ns : List B2vec2) (n : ℕ) (nxs nys xs ys : List Float) : Type 0 where
  pub nxs_size : Eight nxs
  pub nys_size : Eight nys
  pub xs_size : Eight xs
  pub ys_size : Eight ys
  pub normals : (i : ℕ) → i < n → vector_at nxs nys i ≡ b2_mul_rot_by_vec2 xf.q (point_at ns i)
  pub corners : (i : ℕ) → i < n → vector_at xs ys i ≡ b2_mul_transform_by_vec2 xf (point_at vs i)

-- ---- the least distance
-- how far v lies in front of the face at place i
abbrev pub distance_at : List Float → List Float → List Float → List Float → B2vec2 → ℕ → Float
distance_at nxs nys xs ys v i = b2_dot (vector_at nxs nys i) (b2_sub v (vector_at xs ys i))

-- the least of m and the values at the places below count
unfoldable pub least_from : Float → (ℕ → Float) → ℕ → Float
least_from m f count = scan below_value m (map f (places 0 count))

-- every one of the first n faces has its least distance from the corners v2s, begun at what stood in its place
pub record LeastRow (nxs nys xs ys : List Float) (v2s : List B2vec2) (count2 n : ℕ) (old row : List Float) : Type 0
  where
    pub size : Eight row
    pub least_at : (i : ℕ) → i < n
        → at row i ≡ least_from (at old i) (λ j. distance_at nxs nys xs ys (point_at v2s j) i) count2

-- ---- the greatest separation, with the normal there
abbrev pub faced : List B2vec2 → Best → FarthestFace
faced ns best = record { place = best.place; value = best.value; normal = point_at ns best.place }
