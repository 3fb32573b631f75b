-- The first test of a pair after new shapes: accepted frames before it are no tests, so the pair stays fresh
-- (`accepted_keeps_fresh`), and the test counts one touch where there are points, else none, and its points are 0 old
-- (`first_test`). Assumes nothing.
use Prim.Native.Nat.{ℕ, ◌≤◌, ◌<◌}
use mathlib.Core.Path.{◌≡◌, refl, sym, ◌∙◌, ap, subst}
use mathlib.Core.Bool.{Bool, true, false, cond, ◌&&◌, ◌||◌}
use mathlib.Core.List.{List, []}
use native.Mathlib.Omega.{arith}
use lib.Dec.{eqb}
use borrow.Author.Tests.{eqb-true, eqb-false}
use Rattle.algebra.proofs.Booleans.{by_test}
use Rattle.lines.specs.Fields.{byte_at}
use Rattle.contact_definitions.specs.declared.b2_collision.B2manifold.{B2manifold}
use Rattle.record_definitions.specs.declared.world.World.{World}
use Rattle.record_definitions.specs.declared.touch.Touch.{Touch}
use Rattle.record_definitions.specs.declared.frame.Answer.TheVariants.{Accepted, Tested}
use Rattle.record_definitions.specs.declared.frame.Said.{Said}
use Rattle.record_definitions.specs.World.{pieces_of, body_at}
use Rattle.record_definitions.specs.Frame.{largest_id}
use Rattle.record_definitions.specs.Answer.{result_of}
use Rattle.record_definitions.specs.OneFrame.{after_frame, said_of_frame}
use Rattle.record_definitions.specs.Rulebook.{Rulebook}
use Rattle.record_definitions.specs.Heat.{defines_shape, touches_begun}
use Rattle.record_definitions.proofs.Sound.{some_piece}
use Rattle.record_definitions.proofs.HeatTests.{Remembers, test_printed}
use Rattle.record_definitions.proofs.HeatSteps.{frame_remembered}
use Rattle.record_definitions.proofs.TestTheorem.{points_printed}

-- either way none
none_left : (t : Bool) → ◌≡◌ {A = List B2manifold} (cond t [] []) []
none_left true = refl
none_left false = refl

module _ (a b i : ℕ) (a_small : a ≤ largest_id) (b_small : b ≤ largest_id) (w : World) (fresh : Remembers a b i w [])
    (frame : List ℕ) where
  pub accepted_keeps_fresh : (said_of_frame w frame).answer ≡ Accepted → Remembers a b i (after_frame w frame) []
  accepted_keeps_fresh taken =
      subst (Remembers a b i (after_frame w frame))
      (none_left (defines_shape frame && (eqb (byte_at frame 1) a || eqb (byte_at frame 1) b)))
      (frame_remembered a b i a_small b_small w frame [] fresh Accepted taken)

one_or_none : (now counted : ℕ) → Rulebook 0 now 0 counted → counted ≡ cond (eqb now 0) 0 1
one_or_none now counted rulebook =
    by_test (eqb now 0)
    (λ none. rw none (rulebook.apart (eqb-true now 0 none)))
    (λ some. rw some (rulebook.begins refl (let not_None = eqb-false now 0 some in omega arith)))

-- what a first test prints
pub record FirstResult (t : Touch) : Type 0 where
  pub counted : t.touches ≡ cond (eqb t.count 0) 0 1
  pub first_age : t.first.age ≡ 0
  pub second_age : t.second.age ≡ 0

-- for each piece that the first body has
first_of_piece : (w : World) (frame : List ℕ) (t : Touch) → (said_of_frame w frame).answer ≡ Tested t → (i : ℕ)
    → i < pieces_of (body_at w (byte_at frame 1)) → Remembers (byte_at frame 1) (byte_at frame 2) i w []
    → FirstResult (result_of (said_of_frame w frame) i)
unfolding touches_begun
first_of_piece w frame t is i within fresh =
    let next = test_printed (byte_at frame 1) (byte_at frame 2) i w [] fresh frame t is refl refl within in
    record {
      counted = one_or_none _ (result_of (said_of_frame w frame) i).touches next.rulebook
          ∙ ap (λ (n : ℕ). cond (eqb n 0) 0 1) (sym (points_printed w frame t is i within).0);
      first_age = omega (arith, next.first_age.at_most);
      second_age = omega (arith, next.second_age.at_most);
    }

-- and so for a body that is its own only piece
first_result : (said : Said) (t : Touch) → said.answer ≡ Tested t → result_of said 0 ≡ t
first_result said t is = rw is refl

pub first_test : (w : World) (frame : List ℕ) (t : Touch) → (said_of_frame w frame).answer ≡ Tested t
    → Remembers (byte_at frame 1) (byte_at frame 2) 0 w [] → FirstResult t
first_test w frame t is fresh =
    let some = (some_piece (body_at w (byte_at frame 1)) (fresh.sound.each (byte_at frame 1))).0 in
    subst FirstResult (first_result (said_of_frame w frame) t is) (first_of_piece w frame t is 0 some fresh)
