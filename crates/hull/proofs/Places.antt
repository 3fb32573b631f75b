-- The walk by places gives the places of the points that `wrap` gives, on a list of reduced points, none twice.
-- Assumes nothing.
use mathlib.Core.Path.{◌≡◌, refl, sym, ap, ◌∙◌, subst}
use mathlib.Core.List.{List, ◌∷◌, map}
use mathlib.Core.Bool.{Bool, ◌||◌}
use mathlib.Core.Option
use Prim.Native.Nat.{ℕ, suc, ◌+◌, ◌<◌}
use native.Mathlib.Omega.{arith}
use lib.Dec.{T, eqb, eqb→eq, eqb_refl}
use lib.ListN.{length}
use Rattle.algebra.specs.Plane.{Point}
use Rattle.algebra.specs.Lists.{Once}
use Rattle.algebra.proofs.Lists.{getD_mem, once_place}
use Rattle.hull.specs.Hull.{AllReduced}
use Rattle.algebra.specs.Loops.{places, scan, walk}
use Rattle.hull.specs.Outline.{same_point, starts_before, wraps_closer, replaces, next_corner, start, wrap}
use Rattle.hull.specs.Places.{point_at, replaces_place, next_place, start_place, wrap_places}
use Rattle.hull.proofs.Points.{same_point_eq, same_point_own}
use Rattle.algebra.proofs.Booleans.{bool_iff}
use Rattle.algebra.proofs.Places.{places_map, later_place, scan_place}
use Rattle.algebra.proofs.Naming.{scan_map, walk_map}

module _ (e₀ : Point) (js : List Point) (reduced : AllReduced (e₀ ∷ js)) (once : Once (e₀ ∷ js)) where
  abbrev In : ℕ → Type 0
  In i = i < suc (length js)

  -- the point is the same where the place is
  same_place : (i j : ℕ) → In i → In j → same_point (point_at e₀ js i) (point_at e₀ js j) ≡ eqb i j
  same_place i j i_in j_in =
      bool_iff (same_point (point_at e₀ js i) (point_at e₀ js j)) (eqb i j)
      (λ t. subst (λ (k : ℕ). T (eqb i k))
      (once_place (e₀ ∷ js) e₀ once i j i_in j_in
      (same_point_eq (point_at e₀ js i) (point_at e₀ js j) (reduced (point_at e₀ js i) (getD_mem (e₀ ∷ js) i e₀ i_in))
      (reduced (point_at e₀ js j) (getD_mem (e₀ ∷ js) j e₀ j_in)) t))
      (eqb_refl i))
      (λ t. subst (λ (k : ℕ). T (same_point (point_at e₀ js i) (point_at e₀ js k))) (eqb→eq i j t)
      (same_point_own (point_at e₀ js i)))

  rest_map : map (point_at e₀ js) (places 1 (length js)) ≡ js
  rest_map = places_map (point_at e₀ js) js e₀ 1 (λ j. ap (point_at e₀ js) (one_more j))
    where
      one_more : (j : ℕ) → 1 + j ≡ suc j
      one_more j = omega arith

  start_is : start e₀ js ≡ point_at e₀ js (start_place e₀ js)
  start_is =
      ap (scan starts_before e₀) (sym rest_map)
      ∙ scan_map (point_at e₀ js) In (λ i j. starts_before (point_at e₀ js i) (point_at e₀ js j)) starts_before
      (λ i j i_in j_in. refl)
      (places 1 (length js)) 0 (omega arith) (later_place (length js))

  next_is : (h : ℕ) → In h → next_corner e₀ js (point_at e₀ js h) ≡ point_at e₀ js (next_place e₀ js h)
  next_is h h_in =
      ap (scan (replaces (point_at e₀ js h)) e₀) (sym rest_map)
      ∙ scan_map (point_at e₀ js) In (replaces_place e₀ js h) (replaces (point_at e₀ js h))
      (λ i j i_in j_in. ap (λ (t : Bool). t || wraps_closer (point_at e₀ js h) (point_at e₀ js i) (point_at e₀ js j))
      (same_place i h i_in h_in))
      (places 1 (length js)) 0 (omega arith) (later_place (length js))

  pub wrap_by_places : (fuel : ℕ) → wrap fuel e₀ js ≡ Option.map (map (point_at e₀ js)) (wrap_places fuel e₀ js)
  wrap_by_places fuel =
      ap (λ (p : Point). walk same_point (next_corner e₀ js) p fuel p) start_is
      ∙ walk_map (point_at e₀ js) In eqb same_point same_place (next_place e₀ js) (next_corner e₀ js) next_is
      (λ h h_in. scan_place (replaces_place e₀ js h) (length js)) (start_place e₀ js) start_in fuel
      (start_place e₀ js) start_in
    where
      start_in : In (start_place e₀ js)
      start_in = scan_place (λ i j. starts_before (point_at e₀ js i) (point_at e₀ js j)) (length js)
