-- The walk by places in the array of welded points e ∷ js, as the code has it: a candidate is a place, and "the corner
-- itself" is the same place. proofs/Places shows that it gives the points of `wrap`. Definitions only.
use Rattle.std.specs.Prelude.{List, ◌∷◌, Bool, ◌||◌, ℕ, eqb, length, get_or}
use Rattle.std.proofs.Math.Option.{Option}
use Rattle.algebra.specs.Plane.{Point}
use Rattle.algebra.specs.Loops.{places, scan, walk}
use Rattle.hull.specs.Outline.{starts_before, wraps_closer}

abbrev pub point_at : Point → List Point → ℕ → Point
point_at e js i = get_or (e ∷ js) i e

abbrev pub replaces_place : Point → List Point → ℕ → ℕ → ℕ → Bool
replaces_place e js h i j = eqb i h || wraps_closer (point_at e js h) (point_at e js i) (point_at e js j)

abbrev pub next_place : Point → List Point → ℕ → ℕ
next_place e js h = scan (replaces_place e js h) 0 (places 1 (length js))

abbrev pub start_place : Point → List Point → ℕ
start_place e js = scan (λ i j. starts_before (point_at e js i) (point_at e js j)) 0 (places 1 (length js))

abbrev pub wrap_places : ℕ → Point → List Point → Option (List ℕ)
wrap_places fuel e js = walk eqb (next_place e js) (start_place e js) fuel (start_place e js)
