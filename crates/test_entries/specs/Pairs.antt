-- What the entries of the contact calls of two shapes answer: the refusal (0 for accepted), and then the manifold after
-- the call; to a malformed request, no word at all. Definitions only.
use Rattle.std.specs.Prelude.{ℕ, ◌+◌, ◌*◌, Bool, cond, ◌&&◌, List, Option, Some, None, eqb, length}
use Rattle.contact_definitions.specs.B2CollideCircle.{b2_collide_circles, b2_collide_polygon_and_circle}
use Rattle.contact_definitions.specs.B2CollidePolygon.{b2_collide_polygons}
use Rattle.contact_definitions.specs.B2CollideEdge.{b2_collide_edge_and_circle, b2_collide_edge_and_polygon}
use Rattle.wire.specs.Requests.{well_formed}
use Rattle.wire.specs.Records.{polygon_at, edge_at, edge_known}
use Rattle.wire.specs.ContactRecords.{circle_at, transform_at, manifold_at, kind_known}
use Rattle.wire.specs.ContactAnswers.{manifold_answer_words}
use Rattle.test_entries.specs.declared.pairs.Pair.{Pair}

-- What a request holds, where it is well formed: a manifold, shape A, its placement, shape B, its placement. Of each
-- shape are given its number of words, when it is known, and what it is at a word.
unfoldable pub pair_at : {A B : Type 0} → ℕ → (List ℕ → ℕ → Bool) → (List ℕ → ℕ → A) → ℕ → (List ℕ → ℕ → Bool)
    → (List ℕ → ℕ → B) → List ℕ → Option (Pair A B)
pair_at words_a known_a at_a words_b known_b at_b request =
    cond (eqb (length request) (4 * (25 + words_a + words_b))
    && (kind_known request 1 && (known_a request 17 && known_b request (21 + words_a))))
    (Some (record {
      old = manifold_at request 1;
      a = at_a request 17;
      xfa = transform_at request (17 + words_a);
      b = at_b request (21 + words_a);
      xfb = transform_at request (21 + words_a + words_b);
    })) None

-- 7, a manifold, circle A, placement A, circle B, placement B
unfoldable pub circles_answer : List ℕ → List ℕ
circles_answer request =
    well_formed 31 (kind_known request 1) request
    (manifold_answer_words (b2_collide_circles (manifold_at request 1) (circle_at request 17) (transform_at request 20)
    (circle_at request 24) (transform_at request 27)))

-- 8, a manifold, an outline A, placement A, a circle B, placement B
unfoldable pub polygon_and_circle_answer : List ℕ → List ℕ
polygon_and_circle_answer request =
    well_formed 64 (kind_known request 1) request
    (manifold_answer_words
    (b2_collide_polygon_and_circle (manifold_at request 1) (polygon_at request 17) (transform_at request 53)
    (circle_at request 57) (transform_at request 60)))

-- 9, a manifold, outline A, placement A, outline B, placement B
unfoldable pub polygons_answer : List ℕ → List ℕ
polygons_answer request =
    well_formed 97 (kind_known request 1) request
    (manifold_answer_words
    (b2_collide_polygons (manifold_at request 1) (polygon_at request 17) (transform_at request 53)
    (polygon_at request 57) (transform_at request 93)))

-- 10, a manifold, a wall A, placement A, a circle B, placement B
unfoldable pub edge_and_circle_answer : List ℕ → List ℕ
edge_and_circle_answer request =
    well_formed 38 (kind_known request 1 && edge_known request 17) request
    (manifold_answer_words
    (b2_collide_edge_and_circle (manifold_at request 1) (edge_at request 17) (transform_at request 27)
    (circle_at request 31) (transform_at request 34)))

-- 11, a manifold, a wall A, placement A, an outline B, placement B
unfoldable pub edge_and_polygon_answer : List ℕ → List ℕ
edge_and_polygon_answer request =
    well_formed 71 (kind_known request 1 && edge_known request 17) request
    (manifold_answer_words
    (b2_collide_edge_and_polygon (manifold_at request 1) (edge_at request 17) (transform_at request 27)
    (polygon_at request 31) (transform_at request 67)))
