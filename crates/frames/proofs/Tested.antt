-- The test of a listed pair: refused by the contact, then by the world points; or answered. In each case with what is
-- made of the contact and the world points, of the default ones where there are none. Assumes nothing.
use mathlib.Core.Path.{◌≡◌, refl, sym, ap}
use Prim.Native.Nat.{ℕ}
use borrow.Author.Tests.{ne_eqb}
use Rattle.std.specs.Prelude.{Ok, Err}
use Rattle.shape_definitions.specs.declared.refusal.Refusal.{Refusal}
use Rattle.shape_definitions.specs.Refusal.{accepted, number_of}
use Rattle.shape_definitions.proofs.Numbers.{no_acceptance}
use Rattle.contact_definitions.specs.declared.b2_collision.B2manifold.{B2manifold}
use Rattle.contact_definitions.specs.declared.b2_collision.B2worldManifold.{B2worldManifold}
use Rattle.contact_definitions.specs.Answers.{manifold_answered, world_answered}
use Rattle.contact_definitions.specs.Manifold.{default_manifold, manifold_accepted}
use Rattle.contact_definitions.specs.WorldManifold.{default_world_manifold, world_accepted}
use Rattle.contact_definitions.specs.WorldManifold.{b2_world_manifold_initialize}
use Rattle.record_definitions.specs.declared.world.Body.{Body}
use Rattle.record_definitions.specs.declared.world.Kept.{Kept}
use Rattle.record_definitions.specs.Touch.{meet, world_points, tested, tested_as}
use Rattle.frames.specs.declared.test_frame.PieceMade.{PieceMade}
use Rattle.frames.specs.declared.test_frame.PieceRefused.{PieceRefused}
use Rattle.frames.specs.Made.{MadeAs, AnsweredAs}

module _ (ida idb : ℕ) (a b : Body) (kept : Kept) where
  -- of a contact and its world points, whatever they answered
  abbrev pub made_of : PieceMade → B2manifold → B2worldManifold → Type 0
  made_of made m w = MadeAs made (tested_as ida idb kept (manifold_accepted m) (world_accepted w))

  pub answered : (made : PieceMade) (m : B2manifold) (w : B2worldManifold)
      → manifold_answered default_manifold (Ok m) ≡ meet a b
      → world_answered default_world_manifold (Ok w) ≡ world_points a b m → made_of made m w
      → AnsweredAs (Ok made) (tested ida idb a b kept)
  unfolding tested tested_as
  answered made m w met points made_is = rw (← met, ← points) (refl, made_is)

  module _ (refused : PieceRefused) (why : Refusal) (why_is : refused.why ≡ why) where
    -- a default manifold has no points, so that its world points are the default ones too
    pub contact_refused : (m : B2manifold) → m ≡ default_manifold
        → manifold_answered default_manifold (Err why) ≡ meet a b → made_of refused.made m default_world_manifold
        → AnsweredAs (Err refused) (tested ida idb a b kept)
    unfolding tested tested_as world_points b2_world_manifold_initialize
    contact_refused m m_is met made_is =
        rw (← met)
        (simp (ne_eqb (number_of why) accepted (no_acceptance why)) (ap number_of (sym why_is)), rw m_is at made_is)

    pub points_refused : (m : B2manifold) → manifold_answered default_manifold (Ok m) ≡ meet a b
        → world_answered default_world_manifold (Err why) ≡ world_points a b m
        → made_of refused.made m default_world_manifold → AnsweredAs (Err refused) (tested ida idb a b kept)
    unfolding tested tested_as
    points_refused m met points made_is = rw (← met, ← points) (ap number_of (sym why_is), made_is)
