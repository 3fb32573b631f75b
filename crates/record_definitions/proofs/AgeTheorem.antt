-- The ages of a test that answers, of a piece of its first body, in any world (document 02, request 06): an added point
-- has age 0, one that persists is one older than the first old point with its id, and what is printed is kept. Over a
-- heat see `HeatLaw`. Bodies only cite. Assumes nothing.
use Prim.Native.Nat.{ℕ, ◌<◌}
use mathlib.Core.Path.{◌≡◌, refl, sym, ◌∙◌, ap, subst}
use mathlib.Core.List.{List}
use lib.ListN.{length}
use Rattle.lines.specs.Fields.{byte_at}
use Rattle.contact_definitions.specs.declared.b2_collision.B2manifold.{B2manifold}
use Rattle.contact_definitions.specs.Manifold.{manifold_point}
use Rattle.contact_definitions.specs.PointStates.{ids_of}
use Rattle.record_definitions.specs.declared.world.Ages.{Ages}
use Rattle.record_definitions.specs.declared.world.Body.{Body}
use Rattle.record_definitions.specs.declared.world.Kept.{Kept}
use Rattle.record_definitions.specs.declared.world.World.{World}
use Rattle.record_definitions.specs.declared.touch.Touch.{Touch}
use Rattle.record_definitions.specs.declared.frame.Answer.TheVariants.{Tested}
use Rattle.record_definitions.specs.World.{pieces_of, piece_of, kept_of, body_at, pair_at}
use Rattle.record_definitions.specs.Ages.{ages_of}
use Rattle.record_definitions.specs.Touch.{meet}
use Rattle.record_definitions.specs.Answer.{result_of}
use Rattle.record_definitions.specs.OneFrame.{after_frame, said_of_frame}
use Rattle.record_definitions.specs.AgeLaws.{PointAge}
use Rattle.record_definitions.proofs.Ages.{age_by_request}
use Rattle.record_definitions.proofs.Counting.{ages_printed, ages_kept}
use Rattle.record_definitions.proofs.TestTheorem.{tested_by_itself, kept_by_itself, first_point_state}
use Rattle.record_definitions.proofs.TestTheorem.{second_point_state}

module _ (w : World) (frame : List ℕ) (t : Touch) (is : (said_of_frame w frame).answer ≡ Tested t) where
  abbrev a : ℕ
  a = byte_at frame 1

  abbrev b : ℕ
  b = byte_at frame 2

  module _ (i : ℕ) (within : i < pieces_of (body_at w a)) where
    abbrev piece : Body
    piece = piece_of (body_at w a) i

    -- what the pair kept of it, and its contact
    abbrev old : Kept
    old = kept_of (pair_at w a b) i

    abbrev contact : B2manifold
    contact = (meet piece (body_at w b)).manifold

    -- the result that is said of it
    abbrev shown : Touch
    shown = result_of (said_of_frame w frame) i

    abbrev ages : Ages
    ages = ages_of old (ids_of contact)

    ages_shown : (shown.first.age ≡ ages.first) × (shown.second.age ≡ ages.second)
    ages_shown =
        let printed = ages_printed piece (body_at w b) a b old in
        let so = tested_by_itself w frame t is i within in
        (ap (λ (s : Touch). s.first.age) so ∙ printed.0, ap (λ (s : Touch). s.second.age) so ∙ printed.1)

    pub first_point_age : 0 < contact.point_count
        → PointAge old (manifold_point contact 0).id shown.states.new0 shown.first.age
    unfolding ages_of ids_of
    first_point_age some =
        subst (PointAge old (manifold_point contact 0).id shown.states.new0) (sym ages_shown.0)
        (age_by_request old (manifold_point contact 0).id shown.states.new0
        (first_point_state w frame t is i within some))

    pub second_point_age : 1 < contact.point_count
        → PointAge old (manifold_point contact 1).id shown.states.new1 shown.second.age
    unfolding ages_of ids_of
    second_point_age some =
        subst (PointAge old (manifold_point contact 1).id shown.states.new1) (sym ages_shown.1)
        (age_by_request old (manifold_point contact 1).id shown.states.new1
        (second_point_state w frame t is i within some))

    -- the ages that are printed are kept
    pub test_keeps_ages : length w.pairs ≡ 64
        → (kept_of (pair_at (after_frame w frame) a b) i).ages
        ≡ record { first = shown.first.age; second = shown.second.age }
    test_keeps_ages size =
        let kept : (kept_of (pair_at (after_frame w frame) a b) i).ages ≡ ages =
        ap (λ (k : Kept). k.ages) (kept_by_itself w frame t is i within size)
        ∙ ages_kept piece (body_at w b) a b old in
        rw (kept, ages_shown.0, ages_shown.1) refl
