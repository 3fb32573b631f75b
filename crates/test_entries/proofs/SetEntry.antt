-- The entry of the outline builder: how many points it takes is a word of the request, and with them the request's
-- length. Assumes nothing.
use Prim.Native.Nat.{ℕ, ◌+◌, ◌*◌, ◌≤◌, ◌<◌}
use mathlib.Core.Path.{◌≡◌, refl, sym, ◌∙◌, ap}
use mathlib.Core.Bool.{true}
use mathlib.Core.List.{List}
use native.Mathlib.Omega.{arith}
use lib.ListN.{length, take}
use Rattle.floats.specs.declared.b2_math.B2vec2.{B2vec2}
use Rattle.shape_definitions.specs.declared.b2_polygon_shape.B2polygonShape.{B2polygonShape}
use Rattle.shape_definitions.specs.declared.b2_polygon_shape.PolygonAnswer.{PolygonAnswer}
use Rattle.shape_definitions.specs.Polygon.{b2_polygon_shape_set, b2_polygon_shape_set_counted}
use Rattle.shape_definitions.proofs.Counted.{counted_whole}
use Rattle.lines.proofs.Points.{length_points}
use Rattle.wire.specs.Words.{word_at, Written}
use Rattle.wire.specs.Records.{points_at, polygon_at}
use Rattle.wire.proofs.Requests.{other_length, answered}
use Rattle.test_entries.specs.Outlines.{outline_words, set_answer}

module _ (request out : List ℕ) where
  pub set_short : length request < 152 → Written (set_answer request) out 0 out
  unfolding set_answer
  set_short short =
      other_length (38 + 2 * word_at request 37) true request _ out
      (λ (e : length request ≡ 4 * (38 + 2 * word_at request 37)). omega arith)

  module _ (n : ℕ) (n_is : n ≡ word_at request 37) where
    size_is : 4 * (38 + 2 * n) ≡ 4 * (38 + 2 * word_at request 37)
    size_is = ap (λ (k : ℕ). 4 * (38 + 2 * k)) n_is

    pub set_malformed : (length request ≡ 4 * (38 + 2 * n) → ⊥) → Written (set_answer request) out 0 out
    unfolding set_answer
    set_malformed size = other_length (38 + 2 * word_at request 37) true request _ out (λ e. size (e ∙ sym size_is))

    pub set_answered : (m : ℕ) (old : B2polygonShape) (array : List B2vec2) (answer : PolygonAnswer) (r : ℕ)
        (after : List ℕ) → length request ≡ 4 * (38 + 2 * n)
        → old ≡ polygon_at request 1 → take m array ≡ points_at request 38 m → (n ≤ 8 → m ≡ n)
        → answer ≡ b2_polygon_shape_set_counted old array n → Written (outline_words answer) out r after
        → Written (set_answer request) out r after
    unfolding set_answer
    set_answered m old array answer r after size old_is first all answer_is =
        let whole : answer ≡ b2_polygon_shape_set old (points_at request 38 n) =
        answer_is ∙ counted_whole old array (points_at request 38 n) n (length_points request (4 * 38) n)
        (λ few. rw (all few) at first) in
        answered (38 + 2 * word_at request 37) true request _ out true (size ∙ size_is) refl _ after r refl
        (simp (whole, old_is, n_is))
