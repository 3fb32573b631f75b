-- What the two axis searches give: where neither found more than two skins, no face keeps the other outline more than
-- 0.02 + 1/4096 m off; and the face of the reference outline is within 1/1024 m of the largest separation. Assumes
-- nothing.
use mathlib.Core.List.{List}
use native.Mathlib.Omega.{arith}
use lib.Dec.{lit≤}
use Rattle.algebra.specs.Integer.{Z, whole, ◌⊞◌, ◌⊟◌, ◌≼◌}
use Rattle.algebra.specs.Plane.{Point}
use Rattle.rounding.specs.Value.{val}
use Rattle.rounding.proofs.Value.{metre_ticks}
use Rattle.contact_definitions.specs.declared.axis.Best.{Best}
use Rattle.grid_contacts.specs.Lengths.{exactly, ◌plus◌, choice_tolerance}
use Rattle.grid_contacts.specs.Faces.{corner_at, face_at, EveryFace, SeparationAtMost}
use Rattle.grid_contacts.specs.SecondSentence.{reach, KeepsOff, NearLargest}
use Rattle.grid_contacts.proofs.Distances.{LengthLe, at_most_longer}
use Rattle.grid_contacts.proofs.FaceDistance.{distance_error}
use Rattle.grid_contacts.proofs.MaxSeparation.{MaxFace}
use Rattle.grid_contacts.proofs.Skins.{WithinSkins, choice_error}

module _ {reference other : List Point} {r : Best} (found : MaxFace reference other r) where
  abbrev s : Z
  s = val r.value

  -- within the skins, each face has a corner of the other outline within 0.02 + 1/4096 m
  pub not_kept_off : WithinSkins s → KeepsOff reference other → ⊥
  not_kept_off within off =
      let near = found.every off.0 off.1 in
      off.2 near.0 near.1
      (at_most_longer (face_at reference off.0) (corner_at other near.0) (exactly (s ⊞ whole distance_error))
      reach (lit≤ tt) (room s within) near.2)
    where
      room : (s : Z) → WithinSkins s → LengthLe (exactly (s ⊞ whole distance_error)) reach
      room s h = let t = metre_ticks in omega arith

  -- each face's separation is at most 1/1024 m above a level that is the error of a distance below w
  level_most : (w : Z) → s ≼ w ⊞ whole choice_error
      → EveryFace reference (λ f. SeparationAtMost f other (exactly (w ⊟ whole distance_error) plus choice_tolerance))
  level_most w h i inside =
      let near = found.every i inside in (
        near.0,
        near.1,
        at_most_longer (face_at reference i) (corner_at other near.0) (exactly (s ⊞ whole distance_error))
            (exactly (w ⊟ whole distance_error) plus choice_tolerance) (lit≤ tt) (room s w h) near.2,
      )
    where
      room : (s w : Z) → s ≼ w ⊞ whole choice_error
          → LengthLe (exactly (s ⊞ whole distance_error)) (exactly (w ⊟ whole distance_error) plus choice_tolerance)
      room s w h = let t = metre_ticks in omega arith

-- the face found for the reference outline, where the other search found no more than that and the choice's error
module _ {reference other : List Point} {r r' : Best} (found : MaxFace reference other r)
    (found' : MaxFace other reference r') where
  pub near_largest : val r'.value ≼ val r.value ⊞ whole choice_error
      → NearLargest reference other (face_at reference r.place)
  near_largest h = record {
    level = val r.value ⊟ whole distance_error;
    reached = found.reached;
    by_reference = level_most found (val r.value) (self (val r.value));
    by_other = level_most found' (val r.value) h;
  }
    where
      self : (s : Z) → s ≼ s ⊞ whole choice_error
      self s = omega arith
