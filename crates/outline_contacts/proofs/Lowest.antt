-- Every face's least distance, a corner at a time. Assumes nothing.
use mathlib.Core.Path.{◌≡◌, ap, ◌∙◌}
use mathlib.Core.List.{List, map}
use Prim.Native.Nat.{ℕ, ◌+◌, ◌-◌, ◌<◌}
use lib.ListN.{length, get_or}
use lib.Ieee.{Float}
use Rattle.algebra.specs.Loops.{places, scan}
use Rattle.algebra.proofs.Lists.{getD_within}
use Rattle.floats.specs.declared.b2_math.B2vec2.{B2vec2}
use Rattle.floats.specs.B2Math.{b2_min}
use Rattle.shape_definitions.specs.Outline.{point_at}
use Rattle.contact_definitions.specs.Searches.{below_value}
use Rattle.contact_definitions.proofs.Searches.{scan_starts, scanned}
use Rattle.outline_contacts.specs.FaceRows.{at, distance_at, least_from}

pub record Lowest (nxs nys xs ys : List Float) (v2s : List B2vec2) (count2 : ℕ) (old : List Float) (n j : ℕ)
    (row : List Float) : Type 0 where
  pub at_each : (i : ℕ) → i < n
      → scan below_value (at row i)
      (map (λ k. distance_at nxs nys xs ys (point_at v2s k) i) (places j (count2 - j)))
      ≡ least_from (at old i) (λ k. distance_at nxs nys xs ys (point_at v2s k) i) count2

module _ (nxs nys xs ys : List Float) (v2s : List B2vec2) (count2 : ℕ) (old : List Float) (n : ℕ) where
  pub lowest_starts : Lowest nxs nys xs ys v2s count2 old n 0 old
  unfolding least_from
  lowest_starts = record {
    at_each = λ i below. scan_starts below_value (λ k. distance_at nxs nys xs ys (point_at v2s k) i) (at old i) count2;
  }

  module _ (j : ℕ) (row : List Float) (so_far : Lowest nxs nys xs ys v2s count2 old n j row) where
    pub lowest_next : (new : List Float) (d : B2vec2) → j < count2 → j < length v2s
        → ((i : ℕ) → i < n → at new i ≡ b2_min (distance_at nxs nys xs ys (get_or v2s j d) i) (at row i))
        → Lowest nxs nys xs ys v2s count2 old n (j + 1) new
    unfolding b2_min
    lowest_next new d more within New_is = record {
      at_each = λ i below.
          scanned below_value (λ k. distance_at nxs nys xs ys (point_at v2s k) i) (at row i) _ j count2
          (so_far.at_each i below) (at new i) more
          (New_is i below
          ∙ ap (λ (v : B2vec2). b2_min (distance_at nxs nys xs ys v i) (at row i)) (getD_within v2s j d _ within));
    }
