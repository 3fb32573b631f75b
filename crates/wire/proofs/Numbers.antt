-- The kind and the state of a word, by the results that TryFrom gives: each number names one, and a number past the
-- last none. Assumes nothing.
use Prim.Native.Nat.{ℕ, ◌<◌}
use mathlib.Core.Path.{◌≡◌, sym}
use native.Mathlib.Omega.{arith}
use borrow.Author.Tests.{ne_eqb}
use Rattle.std.specs.Prelude.{Result, Ok, Err, MatchResult}
use Rattle.std.specs.Result.{result_unwrap_or}
use Rattle.contact_definitions.specs.declared.b2_collision.UnknownNumber.{UnknownNumber}
use Rattle.contact_definitions.specs.declared.b2_collision.B2manifoldType.{B2manifoldType}
use Rattle.contact_definitions.specs.declared.b2_collision.B2manifoldType.TheVariants.{ECircles, EFaceA, EFaceB}
use Rattle.contact_definitions.specs.declared.b2_collision.B2pointState.{B2pointState}
use Rattle.contact_definitions.specs.declared.b2_collision.B2pointState.TheVariants.{B2NullState, B2AddState}
use Rattle.contact_definitions.specs.declared.b2_collision.B2pointState.TheVariants.{B2PersistState, B2RemoveState}
use Rattle.contact_definitions.specs.Manifold.{kind_number}
use Rattle.contact_definitions.specs.PointStates.{state_number}
use Rattle.wire.specs.ContactRecords.{kind_of, state_of}

abbrev pub KindRead : ℕ → Result B2manifoldType UnknownNumber → Type 0
KindRead w r = MatchResult r (λ kind. kind_number kind ≡ w) (λ none. (none.0 ≡ w) × (2 < w))

pub kind_read : (w : ℕ) (r : Result B2manifoldType UnknownNumber)
    → KindRead w r → result_unwrap_or r EFaceB ≡ kind_of w
unfolding kind_of
kind_read w (Ok ECircles) is = simp (sym is)
kind_read w (Ok EFaceA) is = simp (sym is)
kind_read w (Ok EFaceB) is = simp (sym is)
kind_read w (Err none) past = simp (ne_eqb w 0 (omega arith), ne_eqb w 1 (omega arith))

abbrev pub StateRead : ℕ → Result B2pointState UnknownNumber → Type 0
StateRead w r = MatchResult r (λ state. state_number state ≡ w) (λ none. (none.0 ≡ w) × (3 < w))

pub state_read : (w : ℕ) (r : Result B2pointState UnknownNumber)
    → StateRead w r → result_unwrap_or r B2RemoveState ≡ state_of w
unfolding state_of
state_read w (Ok B2NullState) is = simp (sym is)
state_read w (Ok B2AddState) is = simp (sym is)
state_read w (Ok B2PersistState) is = simp (sym is)
state_read w (Ok B2RemoveState) is = simp (sym is)
state_read w (Err none) past = simp (ne_eqb w 0 (omega arith), ne_eqb w 1 (omega arith), ne_eqb w 2 (omega arith))
