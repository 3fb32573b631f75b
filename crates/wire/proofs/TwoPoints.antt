-- The words of records that hold two points, from the words of these: a place of a pair is the same whatever stands
-- behind its end. Assumes nothing.
use Prim.Native.Nat.{ℕ}
use mathlib.Core.Path.{◌≡◌}
use mathlib.Core.List.{List, [], ◌∷◌, ◌++◌}
use lib.Ieee.{Float}
use lib.ListN.{length, get_or}
use Rattle.rounding.specs.Literals.{zero32}
use Rattle.floats.specs.declared.b2_math.B2vec2.{B2vec2}
use Rattle.shape_definitions.specs.Outline.{origin}
use Rattle.contact_definitions.specs.declared.b2_collision.B2manifoldPoint.{B2manifoldPoint}
use Rattle.contact_definitions.specs.declared.b2_collision.B2clipVertex.{B2clipVertex}
use Rattle.contact_definitions.specs.declared.b2_collision.B2manifold.{B2manifold}
use Rattle.contact_definitions.specs.declared.b2_collision.B2worldManifold.{B2worldManifold}
use Rattle.contact_definitions.specs.declared.b2_collision.Clip.{Clip}
use Rattle.contact_definitions.specs.Manifold.{default_point, kind_number}
use Rattle.algebra.proofs.Two.{first_place, second_place}
use Rattle.wire.specs.Answers.{bits, low_word}
use Rattle.wire.specs.ContactAnswers.{id_word, manifold_point_words, manifold_words}
use Rattle.wire.specs.ContactAnswers.{no_vertex, clip_vertex_words}
use Rattle.wire.specs.ContactAnswers.{world_manifold_words}

-- ---- manifolds: the words of a point, and of the record
pub point_words : (p : B2manifoldPoint) (x y normal tangent id : ℕ) → x ≡ bits p.local_point.x
    → y ≡ bits p.local_point.y → normal ≡ bits p.normal_impulse → tangent ≡ bits p.tangent_impulse
    → id ≡ id_word p.id
    → x ∷ y ∷ normal ∷ tangent ∷ id ∷ [] ≡ manifold_point_words p
unfolding manifold_point_words
point_words p x y normal tangent id x_is y_is normal_is tangent_is id_is =
    simp (x_is, y_is, normal_is, tangent_is, id_is)

pub manifold_written : (m : B2manifold) (d : B2manifoldPoint) (kind count nx ny px py : ℕ)
    (words0 words1 : List ℕ) → length m.points ≡ 2
    → kind ≡ kind_number m.manifold_type → count ≡ low_word m.point_count
    → nx ≡ bits m.local_normal.x → ny ≡ bits m.local_normal.y
    → px ≡ bits m.local_point.x → py ≡ bits m.local_point.y
    → words0 ≡ manifold_point_words (get_or m.points 0 d)
    → words1 ≡ manifold_point_words (get_or m.points 1 d)
    → kind ∷ count ∷ nx ∷ ny ∷ px ∷ py ∷ words0 ++ words1 ≡ manifold_words m
unfolding manifold_words
manifold_written m d kind count nx ny px py words0 words1 two kind_is count_is nx_is ny_is px_is py_is words0_is
    words1_is =
    simp (
      kind_is,
      count_is,
      nx_is,
      ny_is,
      px_is,
      py_is,
      words0_is,
      words1_is,
      first_place m.points d default_point two,
      second_place m.points d default_point two,
    )

-- ---- clips
-- those of an answer, but for the refusal
abbrev pub clip_words : Clip → List ℕ
clip_words left =
    low_word left.count ∷ clip_vertex_words (get_or left.out 0 no_vertex)
    ++ clip_vertex_words (get_or left.out 1 no_vertex)

pub clip_written : (left : Clip) (d : B2clipVertex) (count x0 y0 id0 x1 y1 id1 : ℕ) → length left.out ≡ 2
    → count ≡ low_word left.count
    → x0 ≡ bits (get_or left.out 0 d).v.x → y0 ≡ bits (get_or left.out 0 d).v.y
    → id0 ≡ id_word (get_or left.out 0 d).id
    → x1 ≡ bits (get_or left.out 1 d).v.x → y1 ≡ bits (get_or left.out 1 d).v.y
    → id1 ≡ id_word (get_or left.out 1 d).id
    → count ∷ x0 ∷ y0 ∷ id0 ∷ x1 ∷ y1 ∷ id1 ∷ [] ≡ clip_words left
unfolding clip_vertex_words
clip_written left d count x0 y0 id0 x1 y1 id1 two count_is x0_is y0_is id0_is x1_is y1_is id1_is =
    simp (
      count_is,
      x0_is,
      y0_is,
      id0_is,
      x1_is,
      y1_is,
      id1_is,
      first_place left.out d no_vertex two,
      second_place left.out d no_vertex two,
    )

-- ---- world manifolds
pub world_written : (w : B2worldManifold) (d : B2vec2) (e : Float) (nx ny x0 y0 x1 y1 s0 s1 : ℕ)
    → length w.points ≡ 2 → length w.separations ≡ 2
    → nx ≡ bits w.normal.x → ny ≡ bits w.normal.y
    → x0 ≡ bits (get_or w.points 0 d).x → y0 ≡ bits (get_or w.points 0 d).y
    → x1 ≡ bits (get_or w.points 1 d).x → y1 ≡ bits (get_or w.points 1 d).y
    → s0 ≡ bits (get_or w.separations 0 e) → s1 ≡ bits (get_or w.separations 1 e)
    → nx ∷ ny ∷ x0 ∷ y0 ∷ x1 ∷ y1 ∷ s0 ∷ s1 ∷ [] ≡ world_manifold_words w
unfolding world_manifold_words
world_written w d e nx ny x0 y0 x1 y1 s0 s1 two two_separations nx_is ny_is x0_is y0_is x1_is y1_is s0_is s1_is =
    simp (
      nx_is,
      ny_is,
      x0_is,
      y0_is,
      x1_is,
      y1_is,
      s0_is,
      s1_is,
      first_place w.points d origin two,
      second_place w.points d origin two,
      first_place w.separations e zero32 two_separations,
      second_place w.separations e zero32 two_separations,
    )
