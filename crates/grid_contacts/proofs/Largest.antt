-- What it means to be within 1/1024 m of the largest separation, without the level that NearLargest names: whatever
-- length the separation of the face is at most, that of every face of both outlines is at most 1/1024 m more. Assumes
-- nothing.
use mathlib.Core.List.{List}
use Prim.Native.Nat.{ℕ, ◌<◌}
use native.Mathlib.Omega.{arith}
use lib.Dec.{lit≤}
use Rattle.algebra.specs.Integer.{Z, ◌⊛◌, ◌≼◌}
use Rattle.algebra.specs.Plane.{Point}
use Rattle.algebra.proofs.Squares.{over_root_order}
use Rattle.grid_contacts.specs.Lengths.{Length, exactly, ◌plus◌, choice_tolerance}
use Rattle.grid_contacts.specs.Faces.{Face, corner_at, face_at, off_line, squared_length, EveryFace}
use Rattle.grid_contacts.specs.Faces.{SeparationAtMost}
use Rattle.grid_contacts.specs.SecondSentence.{NearLargest}
use Rattle.grid_contacts.proofs.Distances.{LengthLe, at_most_longer}

module _ {reference other : List Point} {f : Face} (near : NearLargest reference other f) (long : 0 < squared_length f)
    (a : Length) (at_most : SeparationAtMost f other a) where
  -- the level is at most a: the corner that is at most a off is at least the level off
  level_low : a.under ⊛ near.level ≼ a.over
  level_low =
      let j = at_most.0 in
      over_root_order (off_line f (corner_at other j)) near.level a.over (squared_length f) a.under long
      (near.reached j at_most.1) at_most.2

  raised : (rows others : List Point)
      → EveryFace rows (λ g. SeparationAtMost g others (exactly near.level plus choice_tolerance))
      → EveryFace rows (λ g. SeparationAtMost g others (a plus choice_tolerance))
  raised rows others every i inside =
      let h = every i inside in (
        h.0,
        h.1,
        at_most_longer (face_at rows i) (corner_at others h.0) (exactly near.level plus choice_tolerance)
            (a plus choice_tolerance) (lit≤ tt) (longer near.level a.over a.under level_low) h.2,
      )
    where
      longer : (v w : Z) (u : ℕ) → u ⊛ v ≼ w
          → LengthLe (exactly v plus choice_tolerance) (record { over = w; under = u } plus choice_tolerance)
      longer v w u h = omega arith

  pub every_of_reference : EveryFace reference (λ g. SeparationAtMost g other (a plus choice_tolerance))
  every_of_reference = raised reference other near.by_reference

  pub every_of_other : EveryFace other (λ g. SeparationAtMost g reference (a plus choice_tolerance))
  every_of_other = raised other reference near.by_other
