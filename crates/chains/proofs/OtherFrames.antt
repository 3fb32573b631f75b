-- Two worlds, one with a chain under an id and one with its piece i, a wall, in its place (`Seen`): what is found in
-- each after a frame, and that a frame of another body leaves them so. Assumes nothing.
use Prim.Native.Nat.{ℕ, ◌<◌}
use mathlib.Core.Path.{◌≡◌, refl, sym, ◌∙◌, ap}
use mathlib.Core.Bool.{Bool, true, false, cond, ◌&&◌, ◌||◌}
use mathlib.Core.List.{List}
use mathlib.Core.Logic.{◌⊎◌, inl, inr}
use native.Mathlib.Omega.{arith}
use lib.Dec.{eqb}
use lib.ListN.{length, length-set}
use borrow.Author.Tests.{eqb-true, eqb-false, ne_eqb}
use Rattle.algebra.proofs.Booleans.{by_test}
use Rattle.lines.specs.Fields.{byte_at}
use Rattle.record_definitions.specs.declared.world.Body.{Body}
use Rattle.record_definitions.specs.declared.world.Pair.{Pair}
use Rattle.record_definitions.specs.declared.world.World.{World}
use Rattle.record_definitions.specs.declared.frame.Change.{Change}
use Rattle.record_definitions.specs.World.{wall_kind, chain_kind, wall_body, placed, piece_of, fresh_pair, body_at}
use Rattle.record_definitions.specs.World.{pair_at}
use Rattle.record_definitions.specs.Frame.{change}
use Rattle.record_definitions.specs.OneFrame.{first_place, second_place, changed, change_in, after_frame}
use Rattle.record_definitions.proofs.Sound.{Sound}
use Rattle.record_definitions.proofs.SoundKept.{frame_keeps_sound}
use Rattle.record_ranges.proofs.Kept.{CappedWorld, frame_keeps_capped}
use Rattle.chains.proofs.Outcomes.{piece_pair}
use Rattle.chains.proofs.ShapeFrames.{piece_is}
use Rattle.chains.proofs.Lookups.{body_there, pair_there, pairs_length, change_other}
use Rattle.chains.proofs.SeenWorlds.{Seen, fresh_piece}

-- ---- one frame
module _ (k i : ℕ) (w w' : World) (same : Seen k i w w') (bytes : List ℕ) where
  abbrev a : ℕ
  a = first_place bytes

  abbrev b : ℕ
  b = second_place bytes

  abbrev c : Change
  c = change_in w bytes

  abbrev c' : Change
  c' = change_in w' bytes

  a_small : a < 8
  a_small = omega arith

  pub b_small : b < 8
  b_small = omega arith

  -- what is found after it
  pub body_after : (x : ℕ) → body_at (after_frame w bytes) x ≡ cond (eqb x a) c.body (body_at w x)
  unfolding after_frame changed
  body_after x = body_there w.bodies a x c.body same.sound.bodies_size a_small

  pub body_after' : (x : ℕ) → body_at (after_frame w' bytes) x ≡ cond (eqb x a) c'.body (body_at w' x)
  unfolding after_frame changed
  body_after' x = body_there w'.bodies a x c'.body same.bodies_size a_small

  abbrev then : Bool → ℕ → ℕ → Pair → Pair → Pair
  then forget x y new old = cond forget (cond (eqb x a || eqb y a) fresh_pair old) (cond (eqb x a && eqb y b) new old)

  pub pair_after : (x y : ℕ) → x < 8 → y < 8
      → pair_at (after_frame w bytes) x y ≡ then c.forget x y c.pair (pair_at w x y)
  unfolding after_frame changed
  pair_after x y x_small y_small =
      pair_there w.pairs a b x y c.pair same.sound.pairs_size a_small b_small x_small y_small c.forget

  pub pair_after' : (x y : ℕ) → x < 8 → y < 8
      → pair_at (after_frame w' bytes) x y ≡ then c'.forget x y c'.pair (pair_at w' x y)
  unfolding after_frame changed
  pair_after' x y x_small y_small =
      pair_there w'.pairs a b x y c'.pair same.pairs_size a_small b_small x_small y_small c'.forget

  pub bodies_after : length (after_frame w' bytes).bodies ≡ 8
  unfolding after_frame changed
  bodies_after = simp length-set same.bodies_size

  pub pairs_after_size : length (after_frame w' bytes).pairs ≡ 64
  unfolding after_frame changed
  pairs_after_size = pairs_length c'.forget w'.pairs a b c'.pair ∙ same.pairs_size

  pub sound_after : Sound (after_frame w bytes)
  sound_after = frame_keeps_sound w bytes same.sound

  pub capped_after : CappedWorld (after_frame w bytes)
  capped_after = frame_keeps_capped w bytes same.capped

  -- the second body: the same, or the chain and its piece
  wall_is : (body_at w' k).kind ≡ wall_kind
  unfolding placed wall_body
  wall_is =
      ap (λ (body : Body). body.kind)
      (same.wall ∙ piece_is (body_at w k) same.chain i same.piece fresh_pair)

  pub second : (body_at w' b ≡ body_at w b) ⊎ (((body_at w b).kind ≡ chain_kind) × ((body_at w' b).kind ≡ wall_kind))
  second =
      by_test (eqb b k)
      (λ own. let is = eqb-true b k own in
      inr (ap (λ (x : ℕ). (body_at w x).kind) is ∙ same.chain, ap (λ (x : ℕ). (body_at w' x).kind) is ∙ wall_is))
      (λ other. inl (same.others b b_small (eqb-false b k other)))

  -- ---- a frame of another body
  module _ (other : a ≡ k → ⊥) where
    pub changes_same : c' ≡ c
    unfolding change_in
    changes_same =
        ap (λ (body : Body). change body (body_at w' b) (pair_at w' a b) bytes) (same.others a a_small other)
        ∙ ap (λ (pair : Pair). change (body_at w a) (body_at w' b) pair bytes)
        (same.pairs a b a_small b_small other)
        ∙ change_other (body_at w a) (body_at w b) (body_at w' b) (pair_at w a b) bytes second

    pub not_named : eqb (byte_at bytes 1) k ≡ false
    not_named = ne_eqb (byte_at bytes 1) k (λ is. other (omega (arith, same.small)))

    k_other : eqb k a ≡ false
    k_other = ne_eqb k a (λ is. other (sym is))

    kept_chain : body_at (after_frame w bytes) k ≡ body_at w k
    kept_chain = body_after k ∙ rw k_other refl

    push : (t u : Bool) (old : Pair)
        → cond t (cond (false || u) fresh_pair (piece_pair i old)) (piece_pair i old)
        ≡ piece_pair i (cond t (cond (false || u) fresh_pair old) old)
    push true true old = sym (fresh_piece i)
    push true false old = refl
    push false u old = refl

    own_kept : (y : ℕ) → y < 8
        → pair_at (after_frame w' bytes) k y ≡ piece_pair i (pair_at (after_frame w bytes) k y)
    own_kept y y_small =
        let old = pair_at w k y in
        let now : pair_at (after_frame w bytes) k y
        ≡ cond c.forget (cond (false || eqb y a) fresh_pair old) old =
        pair_after k y same.small y_small ∙ rw k_other refl in
        let now' : pair_at (after_frame w' bytes) k y
        ≡ cond c.forget (cond (false || eqb y a) fresh_pair (piece_pair i old)) (piece_pair i old) =
        pair_after' k y same.small y_small ∙ rw (changes_same, k_other, same.own y y_small) refl in
        now' ∙ push c.forget (eqb y a) old ∙ ap (piece_pair i) (sym now)

    pub other_seen : Seen k i (after_frame w bytes) (after_frame w' bytes)
    other_seen = record {
      small = same.small;
      sound = sound_after;
      capped = capped_after;
      bodies_size = bodies_after;
      pairs_size = pairs_after_size;
      chain = ap (λ (body : Body). body.kind) kept_chain ∙ same.chain;
      piece = rw kept_chain same.piece;
      wall = body_after' k ∙ rw k_other (same.wall ∙ ap (λ (body : Body). piece_of body i) (sym kept_chain));
      others = λ x x_small other.
          body_after' x
          ∙ ap (λ (d : Change). cond (eqb x a) d.body (body_at w' x)) changes_same
          ∙ ap (λ (body : Body). cond (eqb x a) c.body body) (same.others x x_small other)
          ∙ sym (body_after x);
      own = own_kept;
      pairs = λ x y x_small y_small other.
          pair_after' x y x_small y_small
          ∙ ap (λ (d : Change). then d.forget x y d.pair (pair_at w' x y)) changes_same
          ∙ ap (then c.forget x y c.pair) (same.pairs x y x_small y_small other)
          ∙ sym (pair_after x y x_small y_small);
    }
