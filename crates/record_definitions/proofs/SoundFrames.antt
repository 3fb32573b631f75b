-- Which refusals the frame of a test can meet in a sound world: neither 7 nor 6. Assumes nothing.
use Prim.Native.Nat.{ℕ}
use mathlib.Core.Path.{◌≡◌, refl, subst}
use mathlib.Core.Bool.{Bool, true, false, not, ◌||◌}
use mathlib.Core.List.{List}
use native.Mathlib.Omega.{arith}
use lib.Dec.{eqb}
use borrow.Author.Tests.{eqb-true}
use Rattle.lines.specs.Fields.{byte_at}
use Rattle.shape_definitions.specs.Refusal.{accepted}
use Rattle.contact_definitions.proofs.Counts.{either}
use Rattle.record_definitions.specs.declared.world.Body.{Body}
use Rattle.record_definitions.specs.declared.world.Pair.{Pair}
use Rattle.record_definitions.specs.declared.touch.Touch.{Touch}
use Rattle.record_definitions.specs.declared.frame.Change.{Change}
use Rattle.record_definitions.specs.declared.frame.Answer.TheVariants.{Refused, Tested}
use Rattle.record_definitions.specs.World.{no_body}
use Rattle.record_definitions.specs.Touch.{piece_tested, first_refusal}
use Rattle.record_definitions.specs.Frame.{frame_refusal, refused, listed, test_refusal, test_change, all_tests}
use Rattle.record_definitions.specs.Frame.{change_of_kind, change}
use Rattle.record_definitions.proofs.FrameRefusals.{of_bytes_alone}
use Rattle.record_definitions.proofs.Changes.{by_choice}
use Rattle.record_definitions.proofs.Sound.{SoundBody}
use Rattle.record_definitions.proofs.SoundTests.{NotOfHost, all_fine}

number_fine : (ida idb kinda kindb : ℕ) → NotOfHost (test_refusal ida idb kinda kindb)
unfolding test_refusal
number_fine ida idb kinda kindb =
    either NotOfHost (eqb kinda no_body || eqb kindb no_body) _ _
    (λ e. absurd (omega arith), λ e. absurd (omega arith))
    (either NotOfHost (eqb ida idb || not (listed kinda kindb)) _ _
    (λ e. absurd (omega arith), λ e. absurd (omega arith)) (λ e. absurd (omega arith), λ e. absurd (omega arith)))

-- a pair that nothing speaks against is listed
pub listed_by : (ida idb kinda kindb : ℕ) (empty same known : Bool)
    → eqb kinda no_body || eqb kindb no_body ≡ empty → eqb ida idb ≡ same → listed kinda kindb ≡ known
    → test_refusal ida idb kinda kindb ≡ accepted → listed kinda kindb ≡ true
unfolding test_refusal
listed_by ida idb kinda kindb true same known is_empty is_same is_Known none =
    let never : ◌≡◌ {A = ℕ} 12 0 = simp is_empty at none in
    absurd (omega arith)
listed_by ida idb kinda kindb false true known is_empty is_same is_Known none =
    let never : ◌≡◌ {A = ℕ} 13 0 = simp (is_empty, is_same) at none in
    absurd (omega arith)
listed_by ida idb kinda kindb false false true is_empty is_same is_Known none = is_Known
listed_by ida idb kinda kindb false false false is_empty is_same is_Known none =
    let never : ◌≡◌ {A = ℕ} 13 0 = simp (is_empty, is_same, is_Known) at none in
    absurd (omega arith)

module _ (a b : Body) (pair : Pair) (bytes : List ℕ) (a_sound : SoundBody a) (b_sound : SoundBody b) where
  Says : Change → Type 0
  Says c = (n : ℕ) → c.said.answer ≡ Refused n → NotOfHost n

  refused_says : (m : ℕ) → NotOfHost m → Says (refused m a pair)
  unfolding Says
  refused_says m fine n e =
      let same : m ≡ n = cc in
      subst NotOfHost same fine

  tested_says : (c : Change) (t : Touch) → c.said.answer ≡ Tested t → Says c
  unfolding Says
  tested_says c t is n e =
      let never : ◌≡◌ {A = ℕ} 0 1 = cc in
      absurd (omega arith)

  test_says : (ida idb : ℕ) → Says (test_change ida idb a b pair)
  unfolding test_change
  test_says ida idb =
      let number = test_refusal ida idb a.kind b.kind in
      let t = piece_tested ida idb a b pair 0 in
      let refusal = first_refusal (all_tests ida idb a b pair) in
      by_choice Says (eqb number accepted) _ _
      (λ nothing_against. let is_listed = listed_by ida idb a.kind b.kind _ _ _ refl refl refl
      (eqb-true number accepted nothing_against) in
      either Says (eqb refusal accepted) _ _ (tested_says _ t.touch refl)
      (refused_says refusal (all_fine a b a_sound b_sound ida idb pair is_listed)))
      (λ against. refused_says number (number_fine ida idb a.kind b.kind))

  pub test_frame_fine : byte_at bytes 0 ≡ 5 → (n : ℕ) → (change a b pair bytes).said.answer ≡ Refused n → NotOfHost n
  unfolding change change_of_kind Says
  test_frame_fine five =
      either Says (eqb (frame_refusal bytes) accepted) _ _
      (rw five (test_says (byte_at bytes 1) (byte_at bytes 2)))
      (refused_says (frame_refusal bytes)
      (of_bytes_alone bytes NotOfHost (λ e. absurd (omega arith), λ e. absurd (omega arith))
      (λ e. absurd (omega arith), λ e. absurd (omega arith)) (λ e. absurd (omega arith), λ e. absurd (omega arith))))
