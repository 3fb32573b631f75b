-- Rows of points, written one after the other: one more point behind the first k, and all the words of an outline.
-- Assumes nothing.
use Prim.Native.Nat.{ℕ, suc, ◌+◌, ◌*◌, ◌<◌}
use mathlib.Core.Path.{◌≡◌, refl, sym, ◌∙◌, ap}
use mathlib.Core.List.{List, [], ◌∷◌, ◌++◌, append_assoc}
use native.Mathlib.Omega.{arith}
use native.Mathlib.Numerals.{add-one}
use lib.ListN.{length, take, set, get_or, length-set}
use lib.Seq.{take-suc, take-suc-set}
use Rattle.algebra.proofs.Lists.{whole_row}
use Rattle.floats.specs.declared.b2_math.B2vec2.{B2vec2}
use Rattle.shape_definitions.specs.declared.b2_polygon_shape.B2polygonShape.{B2polygonShape}
use Rattle.wire.specs.Answers.{bits, low_word, points_words, polygon_words}

words_next : (ps : List B2vec2) (p : B2vec2) → points_words (ps ++ (p ∷ []))
    ≡ points_words ps ++ (bits p.x ∷ bits p.y ∷ [])
unfolding points_words
words_next [] p = refl
words_next (q ∷ ps) p = rw (words_next ps p)

two_stores : (l : List ℕ) (at a b : ℕ) → at + 1 < length l
    → take (suc (suc at)) (set (set l at a) (suc at) b) ≡ take at l ++ (a ∷ b ∷ [])
two_stores l at a b within =
    take-suc-set (set l at a) (suc at) b (simp length-set (omega arith))
    ∙ ap (λ (x : List ℕ). x ++ (b ∷ [])) (take-suc-set l at a (omega arith))
    ∙ append_assoc (take at l) (a ∷ []) (b ∷ [])

pub point_written : (i k : ℕ) (ps : List B2vec2) (d : B2vec2) (old all : List ℕ) (a b : ℕ) → k < length ps
    → i + 2 * k + 1 < length all
    → a ≡ bits (get_or ps k d).x → b ≡ bits (get_or ps k d).y
    → take (i + 2 * k) all ≡ take i old ++ points_words (take k ps)
    → take (i + 2 * (k + 1)) (set (set all (i + 2 * k) a) (i + 2 * k + 1) b)
    ≡ take i old ++ points_words (take (k + 1) ps)
point_written i k ps d old all a b within room a_is b_is so_far =
    let p = get_or ps k d in
    let at : i + 2 * (k + 1) ≡ suc (suc (i + 2 * k)) = omega arith in
    ap (λ (n : ℕ). take n (set (set all (i + 2 * k) a) (i + 2 * k + 1) b)) at
    ∙ ap (λ (n : ℕ). take (suc (suc (i + 2 * k))) (set (set all (i + 2 * k) a) n b)) (add-one (i + 2 * k))
    ∙ two_stores all (i + 2 * k) a b room
    ∙ rw (so_far, a_is, b_is) (append_assoc (take i old) (points_words (take k ps)) (bits p.x ∷ bits p.y ∷ []))
    ∙ ap (λ (l : List ℕ). take i old ++ l) (sym (words_next (take k ps) p))
    ∙ ap (λ (l : List B2vec2). take i old ++ points_words l) (sym (take-suc ps k d within))
    ∙ ap (λ (n : ℕ). take i old ++ points_words (take n ps)) (sym (add-one k))

-- an outline's words: five, the vertices, the normals
pub outline_written : (refusal : ℕ) (s : B2polygonShape) (half whole : List ℕ) (first radius x y count : ℕ)
    → first ≡ refusal → radius ≡ bits s.m_radius → x ≡ bits s.m_centroid.x → y ≡ bits s.m_centroid.y
    → count ≡ low_word s.m_count
    → half ≡ (first ∷ radius ∷ x ∷ y ∷ count ∷ []) ++ points_words s.m_vertices
    → take 37 whole ≡ half ++ points_words s.m_normals → length whole ≡ 37 → whole ≡ refusal ∷ polygon_words s
unfolding polygon_words
outline_written refusal s half whole first radius x y count first_is radius_is x_is y_is count_is half_is whole_is
    size =
    whole_row 37 whole _ whole_is size ∙ simp (half_is, first_is, radius_is, x_is, y_is, count_is)
