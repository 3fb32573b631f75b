-- A frame by what its bytes alone are refused for, and then by its kind. Assumes nothing.
use Prim.Native.Nat.{ℕ}
use mathlib.Core.Path.{◌≡◌, refl, sym, ◌∙◌, ap₂}
use mathlib.Core.Bool.{true}
use mathlib.Core.List.{List}
use borrow.Author.Tests.{eq-eqb, ne_eqb}
use Rattle.lines.specs.Fields.{byte_at}
use Rattle.shape_definitions.specs.Refusal.{accepted}
use Rattle.record_definitions.specs.declared.world.Body.{Body}
use Rattle.record_definitions.specs.declared.world.Pair.{Pair}
use Rattle.record_definitions.specs.Frame.{well_formed, frame_refusal, refused, circle_change, outline_change}
use Rattle.record_definitions.specs.Frame.{wall_change, place_change, turn_change, chain_change, test_change}
use Rattle.record_definitions.specs.Frame.{change_of_kind, change}
use Rattle.record_definitions.proofs.FrameRefusals.{formed}

-- ---- by the kind
module _ (a b : Body) (pair : Pair) (bytes : List ℕ) (kind : ℕ) where
  kind_1 : kind ≡ 1 → circle_change a pair bytes ≡ change_of_kind kind a b pair bytes
  unfolding change_of_kind
  kind_1 is = rw is refl

  kind_2 : kind ≡ 2 → outline_change a pair bytes ≡ change_of_kind kind a b pair bytes
  unfolding change_of_kind
  kind_2 is = rw is refl

  kind_3 : kind ≡ 3 → wall_change a pair bytes ≡ change_of_kind kind a b pair bytes
  unfolding change_of_kind
  kind_3 is = rw is refl

  kind_4 : kind ≡ 4 → place_change a pair bytes ≡ change_of_kind kind a b pair bytes
  unfolding change_of_kind
  kind_4 is = rw is refl

  kind_6 : kind ≡ 6 → turn_change a pair bytes ≡ change_of_kind kind a b pair bytes
  unfolding change_of_kind
  kind_6 is = rw is refl

  kind_7 : kind ≡ 7 → chain_change a pair bytes ≡ change_of_kind kind a b pair bytes
  unfolding change_of_kind
  kind_7 is = rw is refl

  kind_5 : kind ≡ 5 → test_change (byte_at bytes 1) (byte_at bytes 2) a b pair ≡ change_of_kind kind a b pair bytes
  unfolding change_of_kind
  kind_5 is = rw is refl

-- ---- the frame
pub well : (bytes : List ℕ) → accepted ≡ frame_refusal bytes → well_formed bytes ≡ true
well bytes none = formed bytes (sym none)

module _ (a b : Body) (pair : Pair) (bytes : List ℕ) where
  pub refused_frame : (number : ℕ) → number ≡ frame_refusal bytes → (number ≡ accepted → ⊥)
      → refused number a pair ≡ change a b pair bytes
  unfolding change
  refused_frame number number_is some = rw (← number_is) (simp (ne_eqb number accepted some))

  module _ (none : accepted ≡ frame_refusal bytes) (kind : ℕ) (kind_is : kind ≡ byte_at bytes 0) where
    of_kind : change_of_kind kind a b pair bytes ≡ change a b pair bytes
    unfolding change
    of_kind = rw kind_is (simp (eq-eqb (frame_refusal bytes) accepted (sym none)))

    pub circle_is : kind ≡ 1 → circle_change a pair bytes ≡ change a b pair bytes
    circle_is is = kind_1 a b pair bytes kind is ∙ of_kind

    pub outline_is : kind ≡ 2 → outline_change a pair bytes ≡ change a b pair bytes
    outline_is is = kind_2 a b pair bytes kind is ∙ of_kind

    pub wall_is : kind ≡ 3 → wall_change a pair bytes ≡ change a b pair bytes
    wall_is is = kind_3 a b pair bytes kind is ∙ of_kind

    pub place_is : kind ≡ 4 → place_change a pair bytes ≡ change a b pair bytes
    place_is is = kind_4 a b pair bytes kind is ∙ of_kind

    pub turn_is : kind ≡ 6 → turn_change a pair bytes ≡ change a b pair bytes
    turn_is is = kind_6 a b pair bytes kind is ∙ of_kind

    pub chain_is : kind ≡ 7 → chain_change a pair bytes ≡ change a b pair bytes
    chain_is is = kind_7 a b pair bytes kind is ∙ of_kind

    pub test_is : (ida idb : ℕ) → ida ≡ byte_at bytes 1 → idb ≡ byte_at bytes 2 → kind ≡ 5
        → test_change ida idb a b pair ≡ change a b pair bytes
    test_is ida idb ida_is idb_is is =
        ap₂ (λ (i j : ℕ). test_change i j a b pair) ida_is idb_is
        ∙ kind_5 a b pair bytes kind is
        ∙ of_kind
