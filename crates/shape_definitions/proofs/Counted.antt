-- The builder over an array and a count is the builder over the list of all points, of any length. Assumes nothing.
use Prim.Native.Nat.{ℕ, ◌≤◌}
use mathlib.Core.Path.{◌≡◌}
use mathlib.Core.List.{List}
use native.Mathlib.Omega.{arith}
use lib.Dec.{ltb}
use lib.ListN.{length, take}
use borrow.Author.Tests.{ltb-true, ltb-false, le-ltb}
use Rattle.algebra.proofs.Booleans.{by_test}
use Rattle.floats.specs.declared.b2_math.B2vec2.{B2vec2}
use Rattle.shape_definitions.specs.declared.b2_polygon_shape.B2polygonShape.{B2polygonShape}
use Rattle.shape_definitions.specs.Polygon.{b2_polygon_shape_set, b2_polygon_shape_set_counted}

pub counted_whole : (old : B2polygonShape) (array points : List B2vec2) (n : ℕ) → length points ≡ n
    → (n ≤ 8 → take n array ≡ points)
    → b2_polygon_shape_set_counted old array n ≡ b2_polygon_shape_set old points
unfolding b2_polygon_shape_set b2_polygon_shape_set_counted
counted_whole old array points n size same =
    by_test (ltb 8 n)
    (λ many. let enough : 3 ≤ n = omega (arith, ltb-true 8 n many) in simp (size, le-ltb _ _ enough, many))
    (λ not_many. by_test (ltb n 3)
    (λ few. simp (size, few))
    (λ enough. simp (same (ltb-false 8 n not_many), size, enough, not_many)))
