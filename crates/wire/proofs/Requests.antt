-- What is written for a request: nothing to one of another length, or with an unknown kind, flag or state; else the
-- answer's words. Assumes nothing.
use Prim.Native.Nat.{ℕ, ◌*◌}
use mathlib.Core.Path.{◌≡◌, refl, sym, ◌∙◌, ap}
use mathlib.Core.Bool.{Bool, true, false, ◌&&◌}
use mathlib.Core.List.{List}
use lib.ListN.{length}
use borrow.Author.Tests.{eq-eqb, ne_eqb}
use Rattle.std.specs.Prelude.{Some, None, cond, eqb}
use Rattle.wire.specs.Words.{Written}
use Rattle.wire.specs.Requests.{well_formed}
use Rattle.wire.proofs.Bytes.{nothing_written, written_as}

module _ (words : ℕ) (known : Bool) (request answer out : List ℕ) where
  pub other_length : (length request ≡ 4 * words → ⊥) → Written (well_formed words known request answer) out 0 out
  unfolding well_formed
  other_length size = nothing_written _ out (simp (ne_eqb _ _ size))

  -- the test that the code made of kinds, flags and states
  module _ (test : Bool) (size : length request ≡ 4 * words) (test_is : test ≡ known) where
    pub unknown : test ≡ false → Written (well_formed words known request answer) out 0 out
    unfolding well_formed
    unknown none = nothing_written _ out (simp (eq-eqb _ _ size, sym test_is ∙ none))

    pub answered : (ws after : List ℕ) (r : ℕ) → test ≡ true → ws ≡ answer → Written ws out r after
        → Written (well_formed words known request answer) out r after
    unfolding well_formed
    answered ws after r all ws_is =
        written_as ws _ out r after (ws_is ∙ simp (eq-eqb _ _ size, sym test_is ∙ all))

-- what a reader of a request says, that answers none where the request is malformed
module _ {P : Type 0} (made : P) where
  pub not_known : (known : Bool) → None ≡ cond known (Some made) None → known ≡ false
  not_known false e = refl
  not_known true e = cc

  pub is_known : (known : Bool) (p : P) → Some p ≡ cond known (Some made) None → (known ≡ true) × (p ≡ made)
  is_known false p e = cc
  is_known true p e = (refl, cc)

  -- the answer to a request that was not read, and to one that was, by a test of kinds, flags and states
  module _ (words : ℕ) (known test : Bool) (request : List ℕ) (test_is : test ≡ known) where
    pub unread : (answer out : List ℕ) → None ≡ cond (eqb (length request) (4 * words) && test) (Some made) None
        → Written (well_formed words known request answer) out 0 out
    unfolding well_formed
    unread answer out e = nothing_written _ out (rw (← test_is, not_known _ e) refl)

    pub read : (words_of : P → List ℕ) (p : P) (ws out after : List ℕ) (r : ℕ)
        → Some p ≡ cond (eqb (length request) (4 * words) && test) (Some made) None → ws ≡ words_of p
        → Written ws out r after → Written (well_formed words known request (words_of made)) out r after
    unfolding well_formed
    read words_of p ws out after r e ws_is =
        let is = is_known _ p e in
        written_as _ _ out r after (ws_is ∙ ap words_of is.1 ∙ sym (rw (← test_is, is.0) refl))
