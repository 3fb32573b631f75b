-- The scan for the next corner: at a corner p it finds a point q such that p q is a side. Assumes nothing.
use mathlib.Core.Path.{◌≡◌, refl, sym, ◌∙◌, subst}
use mathlib.Core.List.Memᴰ
use mathlib.Core.List.{List, ◌∷◌, Memᴰ}
use mathlib.Core.Logic.{◌⊎◌, inl, inr}
use mathlib.Core.Bool.{not, ◌&&◌}
use native.Mathlib.Omega.{arith}
use lib.Dec.{T, T_not}
use mir.Facts.{or_yes, or_no, and_yes, yes_and}
use Rattle.algebra.specs.Integer.{Z, whole, ◌≐◌, ◌≼◌, ◌≺◌, ◌≐?◌, ◌≺?◌}
use Rattle.algebra.specs.Plane.{Point, from_to, cross, dot, orient}
use Rattle.algebra.proofs.Integer.{same_of_test, test_of_same, lt_of_test, test_of_lt}
use Rattle.algebra.proofs.Signs.{positive_of_opposite, opposite_negative, zero_of_opposite, opposite_zero}
use Rattle.algebra.proofs.Signs.{same_of_same_difference}
use Rattle.algebra.proofs.Plane.{orientation_reversed, orient_first_twice}
use Rattle.hull.specs.Hull.{AllReduced, Left, Between}
use Rattle.hull.specs.Outline.{same_point, farther, wraps_closer, replaces, next_corner}
use Rattle.hull.proofs.Points.{value_eq, same_point_eq, not_same_point}
use Rattle.hull.proofs.Directions.{Beats, Beside, beats_trans, beats_total, beats_beside}
use Rattle.algebra.specs.Plane.{SameVector}
use Rattle.algebra.proofs.Plane.{length_not_negative}
use Rattle.hull.proofs.Sides.{words_of_beside}
use Rattle.algebra.proofs.Scan.{scan_mem, scan_best}
use Rattle.hull.proofs.Corners.{Corner, Side}

-- ---- the test says that j beats e, as seen from p
module _ (p e j : Point) where
  abbrev to_e : Point
  to_e = from_to p e

  abbrev to_j : Point
  to_j = from_to p j

  beats_of_test : T (wraps_closer p e j) → Beats to_j to_e
  beats_of_test t = go (or_yes (orient p e j ≺? whole 0) ((orient p e j ≐? whole 0) && farther p e j) t)
    where
      go : T (orient p e j ≺? whole 0) ⊎ T ((orient p e j ≐? whole 0) && farther p e j) → Beats to_j to_e
      go (inl h) =
          inl (positive_of_opposite (orient p e j) (orient p j e) (orientation_reversed p e j)
          (lt_of_test (orient p e j) (whole 0) h))
      go (inr h) =
          let parts = and_yes (orient p e j ≐? whole 0) (farther p e j) h in
          inr (
            zero_of_opposite (orient p e j) (orient p j e) (orientation_reversed p e j)
                (same_of_test (orient p e j) (whole 0) parts.0),
            lt_of_test (dot to_e to_e) (dot to_j to_j) parts.1,
          )

  not_beats_of_test : T (not (wraps_closer p e j)) → ¬ Beats to_j to_e
  not_beats_of_test t b = go (or_no (orient p e j ≺? whole 0) ((orient p e j ≐? whole 0) && farther p e j) t) b
    where
      go : T (not (orient p e j ≺? whole 0)) × T (not ((orient p e j ≐? whole 0) && farther p e j)) → ¬ Beats to_j to_e
      go fails (inl h) =
          T_not (orient p e j ≺? whole 0) fails.0
          (test_of_lt (orient p e j) (whole 0)
          (opposite_negative (orient p e j) (orient p j e) (orientation_reversed p e j) h))
      go fails (inr h) =
          T_not ((orient p e j ≐? whole 0) && farther p e j) fails.1
          (yes_and (orient p e j ≐? whole 0) (farther p e j)
          (test_of_same (orient p e j) (whole 0)
          (opposite_zero (orient p e j) (orient p j e) (orientation_reversed p e j) h.0))
          (test_of_lt (dot to_e to_e) (dot to_j to_j) h.1))

-- p itself beats nothing
own_length : (p : Point) → dot (from_to p p) (from_to p p) ≐ whole 0
own_length p = omega arith

no_beat : (c l m : Z) → c ≐ whole 0 → l ≐ whole 0 → whole 0 ≼ m → (whole 0 ≺ c) ⊎ ((c ≐ whole 0) × (m ≺ l)) → ⊥
no_beat c l m c_zero l_zero m_nn (inl h) = omega arith
no_beat c l m c_zero l_zero m_nn (inr h) = omega arith

not_beaten_by_own : (p e : Point) → ¬ Beats (from_to p p) (from_to p e)
not_beaten_by_own p e b =
    no_beat (cross (from_to p p) (from_to p e)) (dot (from_to p p) (from_to p p)) (dot (from_to p e) (from_to p e))
    (orient_first_twice p e) (own_length p) (length_not_negative (from_to p e)) b

-- ---- the scan at a corner
module _ (e₀ : Point) (js : List Point) (reduced : AllReduced (e₀ ∷ js)) (p : Point) (c : Corner (e₀ ∷ js) p) where
  abbrev Good : Point → Type 0
  Good r = Memᴰ r (e₀ ∷ js)

  abbrev Better : Point → Point → Type 0
  Better e r = (r ≡ p) ⊎ ((r ≡ e) ⊎ ((¬ (e ≡ p)) × Beats (from_to p e) (from_to p r)))

  abbrev InHalf : Point → Type 0
  InHalf r = whole 0 ≺ dot c.direction (from_to p r)

  one_point : (a b : Point) → Good a → Good b → SameVector (from_to p a) (from_to p b) → a ≡ b
  one_point a b a_in b_in h =
      value_eq a b (reduced a a_in) (reduced b b_in) (same_of_same_difference a.x b.x p.x h.0)
      (same_of_same_difference a.y b.y p.y h.1)

  kept : (e j : Point) → Good e → Good j → T (not (replaces p e j)) → Better e j
  kept e j e_in j_in t = go (or_no (same_point e p) (wraps_closer p e j) t) (c.ahead e e_in) (c.ahead j j_in)
    where
      decide : ¬ (e ≡ p) → ¬ Beats (from_to p j) (from_to p e)
          → Beats (from_to p j) (from_to p e) ⊎ (Beats (from_to p e) (from_to p j) ⊎ SameVector (from_to p j)
          (from_to p e)) → Better e j
      decide e_not_p not_beaten (inl b) = absurd (not_beaten b)
      decide e_not_p not_beaten (inr (inl b)) = inr (inr (e_not_p, b))
      decide e_not_p not_beaten (inr (inr same)) = inr (inl (one_point j e j_in e_in same))

      go : T (not (same_point e p)) × T (not (wraps_closer p e j)) → (e ≡ p) ⊎ InHalf e → (j ≡ p) ⊎ InHalf j
          → Better e j
      go fails e_half (inl j_is) = inl j_is
      go fails (inl e_is) (inr j_half) = absurd (not_same_point e p fails.0 e_is)
      go fails (inr e_half) (inr j_half) =
          decide (not_same_point e p fails.0) (not_beats_of_test p e j fails.1)
          (beats_total c.direction (from_to p j) (from_to p e) j_half e_half)

  replaced : (e j r : Point) → Good e → Good j → Good r → T (replaces p e j) → Better e r → Better j r
  replaced e j r e_in j_in r_in t better = go (or_yes (same_point e p) (wraps_closer p e j) t) better
    where
      unseen : e ≡ p → Better e r → Better j r
      unseen e_is (inl h) = inl h
      unseen e_is (inr (inl h)) = inl (h ∙ e_is)
      unseen e_is (inr (inr h)) = absurd (h.0 e_is)

      beaten : Beats (from_to p j) (from_to p e) → ¬ (j ≡ p) → (e ≡ p) ⊎ InHalf e → (j ≡ p) ⊎ InHalf j
          → (r ≡ p) ⊎ InHalf r → Better e r → Better j r
      beaten b j_not e_half j_half (inl r_is) h = inl r_is
      beaten b j_not e_half j_half (inr r_half) (inl h) = inl h
      beaten b j_not e_half j_half (inr r_half) (inr (inl h)) =
          inr (inr (j_not, subst (λ (a : Point). Beats (from_to p j) (from_to p a)) (sym h) b))
      beaten b j_not (inl e_is) j_half (inr r_half) (inr (inr h)) = absurd (h.0 e_is)
      beaten b j_not (inr e_half) (inl j_is) (inr r_half) (inr (inr h)) = absurd (j_not j_is)
      beaten b j_not (inr e_half) (inr j_half) (inr r_half) (inr (inr h)) =
          inr (inr (
            j_not,
            beats_trans c.direction (from_to p j) (from_to p e) (from_to p r) j_half e_half r_half b
                h.1,
          ))

      not_p : Beats (from_to p j) (from_to p e) → ¬ (j ≡ p)
      not_p b j_is = not_beaten_by_own p e (subst (λ (a : Point). Beats (from_to p a) (from_to p e)) j_is b)

      go : T (same_point e p) ⊎ T (wraps_closer p e j) → Better e r → Better j r
      go (inl h) = unseen (same_point_eq e p (reduced e e_in) (reduced p c.mem) h)
      go (inr h) =
          let b = beats_of_test p e j h in
          beaten b (not_p b) (c.ahead e e_in) (c.ahead j j_in) (c.ahead r r_in)

  abbrev q : Point
  q = next_corner e₀ js p

  best : (r : Point) → Good r → Better q r
  best r r_in =
      scan_best (replaces p) Good Better (λ a. inr (inl refl)) kept replaced js e₀ r
      (Memᴰ.head refl) (λ j m. Memᴰ.tail m) r_in (go (Memᴰ.cases_cons r_in))
    where
      go : (r ≡ e₀) ⊎ Memᴰ r js → Better e₀ r ⊎ Memᴰ r js
      go (inl h) = inl (inr (inl h))
      go (inr h) = inr h

  -- where there is another point than p
  pub next_side : (o : Point) → Memᴰ o (e₀ ∷ js) → ¬ (o ≡ p) → Side (e₀ ∷ js) p (next_corner e₀ js p)
  next_side o o_in o_not_p =
      record {
        mem = scan_mem (replaces p) js e₀;
        apart = apart;
        edge = λ r r_in. edge r (best r r_in)
            (c.ahead r r_in);
      }
    where
      apart : ¬ (q ≡ p)
      apart q_is = go (best o o_in)
        where
          go : Better q o → ⊥
          go (inl h) = o_not_p h
          go (inr (inl h)) = o_not_p (h ∙ q_is)
          go (inr (inr h)) = h.0 q_is

      edge : (r : Point) → Better q r → (r ≡ p) ⊎ InHalf r → (r ≡ p) ⊎ ((r ≡ q) ⊎ (Left p q r ⊎ Between p q r))
      edge r (inl h) k = inl h
      edge r (inr (inl h)) k = inr (inl h)
      edge r (inr (inr h)) (inl k) = inl k
      edge r (inr (inr h)) (inr r_half) =
          inr (inr (words_of_beside p q r (go (c.ahead q (scan_mem (replaces p) js e₀)))))
        where
          go : (q ≡ p) ⊎ InHalf q → Beside (from_to p q) (from_to p r)
          go (inl q_is) = absurd (h.0 q_is)
          go (inr q_half) = beats_beside c.direction (from_to p q) (from_to p r) q_half r_half h.1
