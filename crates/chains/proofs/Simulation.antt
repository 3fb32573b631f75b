-- Two worlds, one with a chain under an id and one with its piece i, a wall, in its place (`Seen`): a frame that makes a
-- new shape there leaves them alike, and any other frame leaves them so. Assumes nothing.
use Prim.Native.Nat.{ℕ, ◌≤◌, ◌<◌}
use mathlib.Core.Path.{◌≡◌, refl, sym, ◌∙◌, ap, subst}
use mathlib.Core.Bool.{Bool, true, false, cond, ◌&&◌}
use mathlib.Core.List.{List}
use mathlib.Core.Logic.{◌⊎◌, inl, inr}
use native.Mathlib.Omega.{arith}
use lib.Dec.{eqb}
use borrow.Author.Tests.{eqb-true, eqb-false, eq-eqb, ne_eqb}
use Rattle.algebra.proofs.Booleans.{by_test}
use Rattle.lines.specs.Fields.{byte_at}
use Rattle.shape_definitions.specs.Refusal.{accepted}
use Rattle.record_definitions.specs.declared.world.Body.{Body}
use Rattle.record_definitions.specs.declared.world.Pair.{Pair}
use Rattle.record_definitions.specs.declared.world.World.{World}
use Rattle.record_definitions.specs.declared.frame.Change.{Change}
use Rattle.record_definitions.specs.World.{piece_of, fresh_pair, body_at}
use Rattle.record_definitions.specs.World.{pair_at}
use Rattle.record_definitions.specs.Frame.{largest_id, change}
use Rattle.record_definitions.specs.Export.{refusal_in}
use Rattle.record_definitions.specs.OneFrame.{first_place, second_place, change_in, after_frame, said_of_frame}
use Rattle.record_definitions.specs.Heat.{defines_shape}
use Rattle.chains.specs.ChainAsWalls.{piece_alone}
use Rattle.chains.proofs.Outcomes.{piece_pair, Renewed, StillSeen, Outcome}
use Rattle.chains.proofs.ShapeFrames.{piece_is}
use Rattle.chains.proofs.OneFrame.{change_seen}
use Rattle.chains.proofs.Lookups.{same_world}
use Rattle.chains.proofs.SeenWorlds.{Seen}
use Rattle.chains.proofs.OtherFrames.{body_after, body_after', pair_after, pair_after', bodies_after}
use Rattle.chains.proofs.OtherFrames.{pairs_after_size, sound_after, capped_after, second, changes_same}
use Rattle.chains.proofs.OtherFrames.{b_small, not_named, other_seen}

-- ---- one frame
module _ (k i : ℕ) (w w' : World) (same : Seen k i w w') (bytes : List ℕ) where
  abbrev a : ℕ
  a = first_place bytes

  abbrev b : ℕ
  b = second_place bytes

  abbrev c : Change
  c = change_in w bytes

  abbrev c' : Change
  c' = change_in w' bytes

  abbrev test : Bool
  test = eqb (byte_at bytes 0) 5 && eqb (byte_at bytes 1) k

  -- ---- a frame of the chain itself
  module _ (own : a ≡ k) where
    named_so : byte_at bytes 1 ≤ largest_id → byte_at bytes 1 ≡ k
    named_so low = omega arith

    is_test : byte_at bytes 0 ≡ 5 → byte_at bytes 1 ≤ largest_id → test ≡ true
    is_test five low = rw (eq-eqb (byte_at bytes 0) 5 five, eq-eqb (byte_at bytes 1) k (named_so low)) refl

    outcome_at : (x : ℕ) → x ≡ k
        → Outcome bytes i test (change (body_at w x) (body_at w b) (pair_at w x b) bytes)
        (change (body_at w' x) (body_at w' b) (pair_at w' x b) bytes)
    outcome_at x is =
        subst (λ (n : ℕ). Outcome bytes i test (change (body_at w n) (body_at w b) (pair_at w n b) bytes)
        (change (body_at w' n) (body_at w' b) (pair_at w' n b) bytes))
        (sym is)
        (subst (λ (pair : Pair). Outcome bytes i test (change (body_at w k) (body_at w b) (pair_at w k b) bytes)
        (change (body_at w' k) (body_at w' b) pair bytes))
        (sym (same.own b (b_small k i w w' same bytes)))
        (subst (λ (body : Body). Outcome bytes i test (change (body_at w k) (body_at w b) (pair_at w k b) bytes)
        (change body (body_at w' b) (piece_pair i (pair_at w k b)) bytes))
        (sym (same.wall ∙ piece_is (body_at w k) same.chain i same.piece fresh_pair))
        (change_seen (body_at w k) same.chain i same.piece (pair_at w k b) bytes test (body_at w b) (body_at w' b)
        (second k i w w' same bytes) (same.sound.each k) (same.sound.each b) (same.capped.each k)
        (same.capped.each b) is_test)))

    outcome : Outcome bytes i test c c'
    unfolding change_in
    outcome = outcome_at a own

    k_own : eqb k a ≡ true
    k_own = eq-eqb k a (sym own)

    other_place : (x : ℕ) → (x ≡ k → ⊥) → eqb x a ≡ false
    other_place x other = ne_eqb x a (λ is. other (is ∙ own))

    own_changed : body_at (after_frame w bytes) k ≡ c.body
    own_changed = body_after k i w w' same bytes k ∙ rw k_own refl

    -- still a chain, and its piece
    still : StillSeen bytes i test c c' → Seen k i (after_frame w bytes) (after_frame w' bytes)
    still s = record {
      small = same.small;
      sound = sound_after k i w w' same bytes;
      capped = capped_after k i w w' same bytes;
      bodies_size = (bodies_after k i w w' same bytes);
      pairs_size = (pairs_after_size k i w w' same bytes);
      chain = ap (λ (body : Body). body.kind) own_changed ∙ s.chain;
      piece = rw own_changed s.piece;
      wall =
          body_after' k i w w' same bytes k
          ∙ rw k_own (s.body ∙ ap (λ (body : Body). piece_of body i) (sym own_changed));
      others = λ x x_small other.
          body_after' k i w w' same bytes x
          ∙ rw (other_place x other)
          (same.others x x_small other ∙ sym (body_after k i w w' same bytes x ∙ rw (other_place x other) refl));
      own = own_pair;
      pairs = λ x y x_small y_small other.
          pair_after' k i w w' same bytes x y x_small y_small
          ∙ rw (s.keeps', other_place x other)
          (same.pairs x y x_small y_small other ∙ sym (now x y x_small y_small other));
    }
      where
        push : (t : Bool) (new old : Pair)
            → cond t (piece_pair i new) (piece_pair i old) ≡ piece_pair i (cond t new old)
        push true new old = refl
        push false new old = refl

        now : (x y : ℕ) → x < 8 → y < 8 → (x ≡ k → ⊥) → pair_at (after_frame w bytes) x y ≡ pair_at w x y
        now x y x_small y_small other =
            pair_after k i w w' same bytes x y x_small y_small ∙ rw (s.keeps, other_place x other) refl

        own_pair : (y : ℕ) → y < 8
            → pair_at (after_frame w' bytes) k y ≡ piece_pair i (pair_at (after_frame w bytes) k y)
        own_pair y y_small =
            let old = pair_at w k y in
            let written : pair_at (after_frame w bytes) k y ≡ cond (eqb y b) c.pair old =
            pair_after k i w w' same bytes k y same.small y_small ∙ rw (s.keeps, k_own) refl in
            let written' : pair_at (after_frame w' bytes) k y
            ≡ cond (eqb y b) (piece_pair i c.pair) (piece_pair i old) =
            pair_after' k i w w' same bytes k y same.small y_small
            ∙ rw (s.keeps', k_own, s.pair, same.own y y_small) refl in
            written' ∙ push (eqb y b) c.pair old ∙ ap (piece_pair i) (sym written)

    -- a new shape: the same world
    renewed : Renewed bytes i test c c' → after_frame w' bytes ≡ after_frame w bytes
    renewed r =
        same_world (after_frame w bytes) (after_frame w' bytes) (sound_after k i w w' same bytes).bodies_size
        (bodies_after k i w w' same bytes)
        (sound_after k i w w' same bytes).pairs_size (pairs_after_size k i w w' same bytes)
        (λ x x_small. body_after' k i w w' same bytes x
        ∙ by_test (eqb x a)
        (λ is. rw is (r.body ∙ sym (body_after k i w w' same bytes x ∙ rw is refl)))
        (λ other. rw other (same.others x x_small (λ e. eqb-false x a other (e ∙ sym own))
        ∙ sym (body_after k i w w' same bytes x ∙ rw other refl))))
        (λ x y x_small y_small. pair_after' k i w w' same bytes x y x_small y_small
        ∙ by_test (eqb x a)
        (λ is. rw (r.forgets', is) (sym (pair_after k i w w' same bytes x y x_small y_small ∙ rw (r.forgets, is) refl)))
        (λ other. rw (r.forgets', other, same.pairs x y x_small y_small (λ e. eqb-false x a other (e ∙ sym own)))
        (sym (pair_after k i w w' same bytes x y x_small y_small ∙ rw (r.forgets, other) refl))))

  -- ---- any frame
  abbrev makes_new : Bool
  makes_new = (defines_shape bytes && eqb (byte_at bytes 1) k) && eqb (refusal_in (said_of_frame w bytes)) accepted

  abbrev NewStep : Type 0
  NewStep =
      (makes_new ≡ true) × (said_of_frame w' bytes ≡ said_of_frame w bytes)
      × (after_frame w' bytes ≡ after_frame w bytes)

  abbrev SeenStep : Type 0
  SeenStep =
      (makes_new ≡ false)
      × (said_of_frame w' bytes ≡ cond test (piece_alone i (said_of_frame w bytes)) (said_of_frame w bytes))
      × Seen k i (after_frame w bytes) (after_frame w' bytes)

  second_fails : (s r : Bool) → (s && false) && r ≡ false
  second_fails true r = refl
  second_fails false r = refl

  either_fails : (s e r : Bool) → s && r ≡ false → (s && e) && r ≡ false
  either_fails true true r h = h
  either_fails true false r h = refl
  either_fails false e r h = refl

  last_fails : (s : Bool) → s && false ≡ false
  last_fails true = refl
  last_fails false = refl

  by_outcome : a ≡ k → Outcome bytes i test c c' → NewStep ⊎ SeenStep
  unfolding said_of_frame
  by_outcome own (inl r) =
      let id_is = eq-eqb (byte_at bytes 1) k (named_so own r.named) in
      inl (
        rw id_is (as_made (defines_shape bytes) (eqb (refusal_in c.said) accepted) r.new),
        r.said,
        renewed own r,
      )
    where
      as_made : (s e : Bool) → s && e ≡ true → (s && true) && e ≡ true
      as_made true e h = h
      as_made false e h = h
  by_outcome own (inr s) =
      inr (
        either_fails (defines_shape bytes) (eqb (byte_at bytes 1) k)
            (eqb (refusal_in c.said) accepted) s.not_new,
        s.said,
        still own s,
      )

  pub one_frame : NewStep ⊎ SeenStep
  unfolding said_of_frame
  one_frame =
      by_test (eqb a k)
      (λ own. let is = eqb-true a k own in by_outcome is (outcome is))
      (λ away. let other = eqb-false a k away in
      let not_id = not_named k i w w' same bytes other in
      inr (
        rw not_id (second_fails (defines_shape bytes) (eqb (refusal_in c.said) accepted)),
        rw (not_id, last_fails (eqb (byte_at bytes 0) 5))
            (ap (λ (d : Change). d.said) (changes_same k i w w' same bytes other)),
        other_seen k i w w' same bytes other,
      ))
