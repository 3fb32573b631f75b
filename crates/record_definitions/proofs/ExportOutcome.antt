-- The export's five frames from a fresh start end with a test that answers, or with the first refusal: for any law that
-- accepted frames keep of a world (`Kept`), what a test's result then has (`Result`), and any numbers that frames may
-- be refused with (`Number`). Assumes nothing.
use Prim.Native.Nat.{ℕ, ◌≤◌}
use mathlib.Core.Path.{◌≡◌, sym, ◌∙◌, ap, subst}
use mathlib.Core.Bool.{true}
use mathlib.Core.List.{List, [], ◌∷◌}
use native.Mathlib.Omega.{arith}
use lib.ListN.{length}
use Rattle.shape_definitions.specs.Refusal.{placement_out_of_range}
use Rattle.record_definitions.specs.declared.world.Body.{Body}
use Rattle.record_definitions.specs.declared.world.World.{World}
use Rattle.record_definitions.specs.declared.touch.Touch.{Touch}
use Rattle.record_definitions.specs.declared.frame.Answer.TheVariants.{Accepted, Tested}
use Rattle.record_definitions.specs.World.{outline_kind, kept_of, fresh_world, body_at, pair_at}
use Rattle.record_definitions.specs.Touch.{tested}
use Rattle.record_definitions.specs.Frame.{largest_id}
use Rattle.record_definitions.specs.OneFrame.{after_frame, said_of_frame}
use Rattle.record_definitions.specs.Export.{test_frame, first_placement, second_outline, second_placement}
use Rattle.record_definitions.specs.Export.{in_order, between}
use Rattle.record_definitions.proofs.Sound.{Sound}
use Rattle.record_definitions.proofs.ExportRuns.{Outcome, stops, ends, goes_on}
use Rattle.record_definitions.proofs.ExportFrames.{ExportFrame, frame_0, frame_1, frame_2, frame_3}
use Rattle.record_definitions.proofs.ExportSteps.{TestedOr, answers, refused_so, taken, refused, InWorld}
use Rattle.record_definitions.proofs.ExportSteps.{others_stay, outline_step, place_step, test_step}

-- the frames of an input behind the first, and the test
abbrev pub later_frames : List ℕ → List (List ℕ)
later_frames input =
    between input (first_placement input) (second_outline input)
    ∷ between input (second_outline input) (second_placement input)
    ∷ between input (second_placement input) (length input)
    ∷ test_frame
    ∷ []

module _ (Result : Touch → Type 0) (Number : ℕ → Type 0) (Kept : World → Type 0)
    (kept_sound : (w : World) → Kept w → Sound w)
    (keeps : (w : World) (frame : List ℕ) → (said_of_frame w frame).answer ≡ Accepted → Kept w
    → Kept (after_frame w frame)) (begins : Kept fresh_world)
    (of_answer : (w : World) → Kept w → (t : Touch) → (said_of_frame w test_frame).answer ≡ Tested t → Result t)
    (of_outline : (n : ℕ) → (n ≡ 0 → ⊥) → n ≤ 5 → Number n) (of_placement : Number placement_out_of_range)
    (of_test : (w : World) → Kept w → (body_at w 0).kind ≡ outline_kind → (body_at w 1).kind ≡ outline_kind
    → ((tested 0 1 (body_at w 0) (body_at w 1) (kept_of (pair_at w 0 1) 0)).refusal ≡ 0 → ⊥)
    → Number (tested 0 1 (body_at w 0) (body_at w 1) (kept_of (pair_at w 0 1) 0)).refusal) where
  -- the test
  from_test : (w : World) → Kept w → (body_at w 0).kind ≡ outline_kind → (body_at w 1).kind ≡ outline_kind
      → Outcome Result Number w test_frame []
  from_test w kept first second = by_answer (test_step w first second)
    where
      by_answer : TestedOr (tested 0 1 (body_at w 0) (body_at w 1) (kept_of (pair_at w 0 1) 0)).refusal
          (said_of_frame w test_frame)
          → Outcome Result Number w test_frame []
      by_answer (answers t is single) = ends Result Number w test_frame t is single (of_answer w kept t is)
      by_answer (refused_so is nonzero) =
          stops Result Number w test_frame [] _ is nonzero (of_test w kept first second nonzero)

  -- a frame of one of the bodies, from what comes after it
  from_frame : (P : ℕ → Type 0) (w : World) (kept : Kept w) (id : ℕ) (known : id ≤ largest_id) (frame next : List ℕ)
      (frames : List (List ℕ)) → InWorld w (kept_sound w kept) id known frame P
      → ((n : ℕ) → (n ≡ 0 → ⊥) → P n → Number n)
      → (Kept (after_frame w frame) → (body_at (after_frame w frame) id).kind ≡ outline_kind
      → Outcome Result Number (after_frame w frame) next frames)
      → Outcome Result Number w frame (next ∷ frames)
  from_frame P w kept id known frame next frames (taken is outline) number later =
      goes_on Result Number w frame next frames is (later (keeps w frame is kept) outline)
  from_frame P w kept id known frame next frames (refused n is nonzero good) number later =
      stops Result Number w frame (next ∷ frames) n is nonzero (number n nonzero good)

  module _ (f0 f1 f2 f3 : List ℕ) (given_0 : ExportFrame 2 0 f0) (given_1 : ExportFrame 4 0 f1)
      (given_2 : ExportFrame 2 1 f2) (given_3 : ExportFrame 4 1 f3) where
    -- the outline under 0 stays while the other is defined and placed
    still : (w : World) → Kept w → (frame : List ℕ) (kind : ℕ) → ExportFrame kind 1 frame
        → (body_at w 0).kind ≡ outline_kind → (body_at (after_frame w frame) 0).kind ≡ outline_kind
    still w kept frame kind given is =
        ap (λ (body : Body). body.kind)
        (others_stay w (kept_sound w kept) 1 (omega arith) frame kind given 0 (λ e. omega arith))
        ∙ is

    from_3 : (w : World) → Kept w → (body_at w 0).kind ≡ outline_kind → (body_at w 1).kind ≡ outline_kind
        → Outcome Result Number w f3 (test_frame ∷ [])
    from_3 w kept first second =
        from_frame (λ (n : ℕ). n ≡ placement_out_of_range) w kept 1 (omega arith) f3 test_frame []
        (place_step w (kept_sound w kept) 1 (omega arith) f3 second given_3)
        (λ n nonzero is. subst Number (sym is) of_placement)
        (λ next. from_test (after_frame w f3) next (still w kept f3 4 given_3 first))

    from_2 : (w : World) → Kept w → (body_at w 0).kind ≡ outline_kind → Outcome Result Number w f2 (f3 ∷ test_frame ∷ [])
    from_2 w kept first =
        from_frame (λ (n : ℕ). n ≤ 5) w kept 1 (omega arith) f2 f3 (test_frame ∷ [])
        (outline_step w (kept_sound w kept) 1 (omega arith) f2 given_2) of_outline
        (λ next. from_3 (after_frame w f2) next (still w kept f2 2 given_2 first))

    from_1 : (w : World) → Kept w → (body_at w 0).kind ≡ outline_kind
        → Outcome Result Number w f1 (f2 ∷ f3 ∷ test_frame ∷ [])
    from_1 w kept first =
        from_frame (λ (n : ℕ). n ≡ placement_out_of_range) w kept 0 (omega arith) f1 f2 (f3 ∷ test_frame ∷ [])
        (place_step w (kept_sound w kept) 0 (omega arith) f1 first given_1)
        (λ n nonzero is. subst Number (sym is) of_placement)
        (from_2 (after_frame w f1))

    from_0 : Outcome Result Number fresh_world f0 (f1 ∷ f2 ∷ f3 ∷ test_frame ∷ [])
    from_0 =
        from_frame (λ (n : ℕ). n ≤ 5) fresh_world begins 0 (omega arith) f0 f1 (f2 ∷ f3 ∷ test_frame ∷ [])
        (outline_step fresh_world (kept_sound fresh_world begins) 0 (omega arith) f0 given_0) of_outline
        (from_1 (after_frame fresh_world f0))

  pub export_outcome : (input : List ℕ) → in_order input ≡ true
      → Outcome Result Number fresh_world (between input 0 (first_placement input)) (later_frames input)
  export_outcome input ordered =
      from_0 _ _ _ _ (frame_0 input ordered) (frame_1 input ordered) (frame_2 input ordered) (frame_3 input ordered)
