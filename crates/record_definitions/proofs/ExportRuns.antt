-- How frames run one after the other (`Outcome`): each is accepted up to one that is refused, or up to a test that
-- answers in one line and is the last. `last_said` is that answer, and `00` is printed for each frame before. Assumes nothing.
use Prim.Native.Nat.{ℕ, suc}
use mathlib.Core.Path.{◌≡◌, refl, sym, ◌∙◌, ap, ap₂}
use mathlib.Core.List.{List, [], ◌∷◌, ◌++◌, append_assoc, append-nil}
use native.Mathlib.Omega.{arith}
use lib.ListN.{length}
use borrow.Author.Tests.{ne_eqb}
use Rattle.lines.specs.Hex.{line_of}
use Rattle.shape_definitions.specs.Refusal.{accepted}
use Rattle.record_definitions.specs.declared.world.World.{World}
use Rattle.record_definitions.specs.declared.touch.Touch.{Touch}
use Rattle.record_definitions.specs.declared.frame.Answer.TheVariants.{Accepted, Refused, Tested}
use Rattle.record_definitions.specs.declared.frame.Said.{Said}
use Rattle.record_definitions.specs.Answer.{said_bytes, said_line}
use Rattle.record_definitions.specs.OneFrame.{after_frame, said_of_frame}
use Rattle.record_definitions.specs.Export.{last_said}
use Rattle.record_definitions.specs.ExportLaws.{accepted_lines, FirstRefused}
use Rattle.record_definitions.proofs.SaidAlone.{one_line}

-- ---- what frames print, one after the other
unfoldable pub printed_frames : World → List (List ℕ) → List ℕ
printed_frames w [] = []
printed_frames w (frame ∷ frames) = said_line (said_of_frame w frame) ++ printed_frames (after_frame w frame) frames

-- ---- how they end, with such a result where the test answers, with a number of these where one is refused
pub data Outcome (Result : Touch → Type 0) (Number : ℕ → Type 0) (w : World) (frame : List ℕ)
    (frames : List (List ℕ)) : Type 0 where
  answered : (t : Touch) → (last_said w frame frames).answer ≡ Tested t → Result t
      → printed_frames w (frame ∷ frames) ≡ accepted_lines (length frames) ++ line_of (said_bytes (last_said w frame frames))
      → Outcome Result Number w frame frames
  turned_down : (n : ℕ) → (last_said w frame frames).answer ≡ Refused n → (n ≡ 0 → ⊥) → Number n
      → FirstRefused n (printed_frames w (frame ∷ frames)) → Outcome Result Number w frame frames

module _ (Result : Touch → Type 0) (Number : ℕ → Type 0) (w : World) (frame : List ℕ) where
  -- a frame is refused
  refused_line : (n : ℕ) → (said_of_frame w frame).answer ≡ Refused n
      → said_line (said_of_frame w frame) ≡ line_of (255 ∷ n ∷ [])
  refused_line n is = one_line w frame (Refused n) is (λ t same. let never : ◌≡◌ {A = ℕ} 0 1 = cc in omega arith)

  refused_at : (n : ℕ) (frames : List (List ℕ)) → (said_of_frame w frame).answer ≡ Refused n
      → FirstRefused n (printed_frames w (frame ∷ frames))
  unfolding printed_frames accepted_lines
  refused_at n frames is = record {
    before = 0;
    rest = printed_frames (after_frame w frame) frames;
    output_is = ap (λ (line : List ℕ). line ++ printed_frames (after_frame w frame) frames) (refused_line n is);
  }

  stopped : (next : List ℕ) (frames : List (List ℕ)) (n : ℕ) → (said_of_frame w frame).answer ≡ Refused n
      → (n ≡ 0 → ⊥) → last_said w frame (next ∷ frames) ≡ said_of_frame w frame
  unfolding last_said
  stopped next frames n is some = rw is (simp (ne_eqb n accepted some))

  pub stops : (frames : List (List ℕ)) (n : ℕ) → (said_of_frame w frame).answer ≡ Refused n → (n ≡ 0 → ⊥) → Number n
      → Outcome Result Number w frame frames
  unfolding last_said
  stops [] n is some good = turned_down n is some good (refused_at n [] is)
  stops (next ∷ frames) n is some good =
      turned_down n (ap (λ (s : Said). s.answer) (stopped next frames n is some) ∙ is) some good
      (refused_at n (next ∷ frames) is)

  -- the last is a test that answers
  pub ends : (t : Touch) → (said_of_frame w frame).answer ≡ Tested t
      → said_line (said_of_frame w frame) ≡ line_of (said_bytes (said_of_frame w frame)) → Result t
      → Outcome Result Number w frame []
  unfolding last_said printed_frames accepted_lines
  ends t is single good = answered t is good (append-nil (said_line (said_of_frame w frame)) ∙ single)

  -- a frame is accepted
  module _ (next : List ℕ) (frames : List (List ℕ)) (is : (said_of_frame w frame).answer ≡ Accepted) where
    accepted_line : said_line (said_of_frame w frame) ≡ line_of (0 ∷ [])
    accepted_line = one_line w frame Accepted is (λ t same. let never : ◌≡◌ {A = ℕ} 0 1 = cc in omega arith)

    went_on : last_said w frame (next ∷ frames) ≡ last_said (after_frame w frame) next frames
    unfolding last_said
    went_on = rw is refl

    one_more : (n : ℕ) (rest : List ℕ)
        → printed_frames (after_frame w frame) (next ∷ frames) ≡ accepted_lines n ++ rest
        → printed_frames w (frame ∷ next ∷ frames) ≡ accepted_lines (suc n) ++ rest
    unfolding accepted_lines printed_frames
    one_more n rest later =
        ap₂ (λ (a b : List ℕ). a ++ b) accepted_line later
        ∙ sym (append_assoc (line_of (0 ∷ [])) (accepted_lines n) rest)

    pub goes_on : Outcome Result Number (after_frame w frame) next frames
        → Outcome Result Number w frame (next ∷ frames)
    goes_on (answered t said good printed) =
        answered t (ap (λ (s : Said). s.answer) went_on ∙ said) good
        (one_more (length frames) (line_of (said_bytes (last_said (after_frame w frame) next frames))) printed
        ∙ ap (λ (s : Said). accepted_lines (suc (length frames)) ++ line_of (said_bytes s)) (sym went_on))
    goes_on (turned_down n said some good printed) =
        turned_down n (ap (λ (s : Said). s.answer) went_on ∙ said) some good (record {
          before = suc printed.before;
          rest = printed.rest;
          output_is = one_more printed.before (line_of (255 ∷ n ∷ []) ++ printed.rest) printed.output_is;
        })
