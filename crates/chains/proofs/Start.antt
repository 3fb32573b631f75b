-- A line that makes a chain, and the wall of its piece i in its place: both are taken, and the two worlds after them
-- are `Seen`. Assumes nothing.
use Prim.Native.Nat.{ℕ, ◌+◌, ◌*◌, ◌-◌, ◌%◌, ◌≤◌, ◌<◌, min}
use mathlib.Core.Path.{◌≡◌, refl, sym, ◌∙◌, ap}
use mathlib.Core.Bool.{Bool, true, false, not, cond, ◌&&◌, ◌||◌, false≢true}
use mathlib.Core.List.{List}
use native.Mathlib.Omega.{arith}
use lib.Dec.{eqb}
use lib.ListN.{length, length-set}
use borrow.Author.Tests.{eqb-true, eq-eqb, ne_eqb, le-leb, le-ltb}
use Rattle.algebra.proofs.Booleans.{by_test}
use Rattle.lines.specs.Fields.{byte_at}
use Rattle.lines.specs.Hex.{frame_of, hex}
use Rattle.shape_definitions.specs.Refusal.{accepted}
use Rattle.record_definitions.specs.declared.world.Body.{Body}
use Rattle.record_definitions.specs.declared.world.Pair.{Pair}
use Rattle.record_definitions.specs.declared.world.World.{World}
use Rattle.record_definitions.specs.declared.frame.Answer.TheVariants.{Accepted}
use Rattle.record_definitions.specs.declared.frame.Change.{Change}
use Rattle.record_definitions.specs.declared.frame.Said.{Said}
use Rattle.record_definitions.specs.declared.server.Server.{Server}
use Rattle.record_definitions.specs.World.{chain_kind, wall_body, chain_body, placed, piece_wall, pieces_of, piece_of}
use Rattle.record_definitions.specs.World.{fresh_pair, body_at, pair_at}
use Rattle.record_definitions.specs.Frame.{frame_length, well_formed, largest_id, defined, wall_change, chain_at}
use Rattle.record_definitions.specs.Frame.{chain_refusal, chain_change, frame_refusal, change_of_kind, change}
use Rattle.record_definitions.specs.Export.{answer_refusal}
use Rattle.record_definitions.specs.OneFrame.{first_place, second_place, changed, change_in, after_frame, said_of_frame}
use Rattle.record_definitions.specs.Server.{after_line, Framed, reply_to}
use Rattle.record_definitions.specs.Answer.{said_alone}
use Rattle.record_definitions.proofs.Replies.{said_framed}
use Rattle.record_definitions.proofs.FrameRefusals.{formed as well_made}
use Rattle.record_definitions.proofs.Changes.{not_refused, first_id, is_of_kind}
use Rattle.record_definitions.proofs.OneLine.{length_forget}
use Rattle.record_definitions.proofs.Sound.{Sound}
use Rattle.record_definitions.proofs.SoundKept.{frame_keeps_sound, chain_few}
use Rattle.record_ranges.proofs.Kept.{CappedWorld, frame_keeps_capped}
use Rattle.chains.specs.ChainAsWalls.{wall_frame, wall_line, MakesPiece}
use Rattle.chains.proofs.Frames.{wall_size, wall_there, line_says}
use Rattle.chains.proofs.Outcomes.{piece_pair}
use Rattle.chains.proofs.Lookups.{body_there, pair_there}
use Rattle.chains.proofs.SeenWorlds.{Seen, SeenServers, fresh_piece}

-- ---- a frame 07 that is taken
module _ (a b : Body) (pair : Pair) (bytes : List ℕ) (seven : byte_at bytes 0 ≡ 7)
    (taken : (change a b pair bytes).said.answer ≡ Accepted) where
  formed : well_formed bytes ≡ true
  formed = well_made bytes (not_refused a b pair bytes (ap answer_refusal taken))

  few : byte_at bytes 2 ≤ 8
  few = chain_few bytes formed seven

  as_chain : change a b pair bytes ≡ chain_change a pair bytes
  unfolding change_of_kind
  as_chain =
      is_of_kind a b pair bytes (ap answer_refusal taken)
      ∙ ap (λ (kind : ℕ). change_of_kind kind a b pair bytes) seven

  chain_accepts : chain_refusal bytes ≡ accepted
  unfolding chain_change
  chain_accepts =
      by_test (eqb (chain_refusal bytes) accepted) (eqb-true (chain_refusal bytes) accepted)
      (λ refuses. simp refuses at
      (sym (ap (λ (c : Change). answer_refusal c.said.answer) as_chain) ∙ ap answer_refusal taken))

  as_defined : change a b pair bytes ≡ defined (chain_body (chain_at bytes)) pair
  unfolding chain_change
  as_defined = as_chain ∙ rw (eq-eqb (chain_refusal bytes) accepted chain_accepts) refl

  size : length bytes ≡ 19 + 8 * byte_at bytes 2
  unfolding well_formed frame_length
  size =
      let long = 19 + 8 * byte_at bytes 2 in
      eqb-true (length bytes) long
      (last (not (eqb long 0)) (eqb (length bytes) long) (simp (seven, le-leb (byte_at bytes 2) 8 few) at formed))
    where
      last : (s t : Bool) → s && t ≡ true → t ≡ true
      last true t h = h
      last false t h = absurd (false≢true h)

-- ---- the frame 03 of its piece i
module _ (a b : Body) (pair : Pair) (chain : List ℕ) (i : ℕ) (named : byte_at chain 1 ≤ largest_id)
    (few_points : byte_at chain 2 ≤ 8) (chain_size : length chain ≡ 19 + 8 * byte_at chain 2)
    (accepts : chain_refusal chain ≡ accepted) (piece : i < byte_at chain 2 - 1) where
  wall_defined : change a b pair (wall_frame chain i) ≡ defined (wall_body (piece_wall (chain_at chain) i)) pair
  unfolding change change_of_kind wall_change frame_refusal well_formed frame_length
  wall_defined =
      rw (
        wall_size chain i (omega arith),
        le-ltb largest_id (byte_at chain 1) named,
        wall_there chain i few_points chain_size accepts piece,
      ) refl

-- ---- a world after a new shape under an id
module _ (w : World) (sound : Sound w) (k : ℕ) (small : k < 8) (bytes : List ℕ) (names : byte_at bytes 1 ≡ k)
    (new : Body) (New_is : change_in w bytes ≡ defined new (pair_at w (first_place bytes) (second_place bytes))) where
  at_k : first_place bytes ≡ k
  at_k = omega arith

  pub new_body : (x : ℕ) → body_at (after_frame w bytes) x ≡ cond (eqb x k) new (body_at w x)
  unfolding after_frame changed
  new_body x =
      rw (New_is, at_k) (body_there w.bodies k x new sound.bodies_size small)

  pub new_pair : (x y : ℕ) → x < 8 → y < 8
      → pair_at (after_frame w bytes) x y ≡ cond (eqb x k || eqb y k) fresh_pair (pair_at w x y)
  unfolding after_frame changed
  new_pair x y x_small y_small =
      rw (New_is, at_k) (pair_there w.pairs k 0 x y fresh_pair sound.pairs_size small (omega arith) x_small
      y_small true)

  pub new_sizes : (length (after_frame w bytes).bodies ≡ 8) × (length (after_frame w bytes).pairs ≡ 64)
  unfolding after_frame changed
  new_sizes = (
    simp length-set sound.bodies_size,
    rw New_is (length_forget (first_place bytes) w.pairs 8 ∙ sound.pairs_size),
  )

-- ---- the two worlds
module _ (s : Server) (sound : Sound s.world) (capped : CappedWorld s.world) (line : List ℕ) (i : ℕ)
    (makes : MakesPiece s line i) where
  abbrev w : World
  w = s.world

  abbrev bytes : List ℕ
  bytes = frame_of line

  abbrev k : ℕ
  k = byte_at bytes 1

  abbrev first : Body
  first = body_at w (first_place bytes)

  abbrev other : Body
  other = body_at w (second_place bytes)

  abbrev their_pair : Pair
  their_pair = pair_at w (first_place bytes) (second_place bytes)

  was_taken : (change first other their_pair bytes).said.answer ≡ Accepted
  unfolding said_of_frame change_in
  was_taken =
      sym (ap (λ (said : Said). said.answer) (said_framed s line (said_alone Accepted) makes.taken).0)

  pub named : k ≤ largest_id
  named = first_id first other their_pair bytes (ap answer_refusal was_taken)

  pub points_few : byte_at bytes 2 ≤ 8
  points_few = few first other their_pair bytes makes.kind was_taken

  bytes_size : length bytes ≡ 19 + 8 * byte_at bytes 2
  bytes_size = size first other their_pair bytes makes.kind was_taken

  accepts : chain_refusal bytes ≡ accepted
  accepts = chain_accepts first other their_pair bytes makes.kind was_taken

  chain_change_is : change_in w bytes ≡ defined (chain_body (chain_at bytes)) their_pair
  unfolding change_in
  chain_change_is = as_defined first other their_pair bytes makes.kind was_taken

  wall_said : frame_of (wall_line line i) ≡ wall_frame bytes i
  wall_said = line_says line i (omega (arith, bytes_size, makes.piece)) (omega (arith, named))

  wall_change_is : change_in w (wall_frame bytes i)
      ≡ defined (wall_body (piece_wall (chain_at bytes) i)) (pair_at w (k % 8) 1)
  unfolding change_in
  wall_change_is =
      wall_defined (body_at w (k % 8)) (body_at w 1) (pair_at w (k % 8) 1) bytes i named points_few bytes_size accepts
      makes.piece

  -- both print 00
  pub wall_taken : reply_to s (wall_line line i) ≡ reply_to s line
  unfolding said_of_frame hex
  wall_taken =
      ap Framed
      (ap (λ (frame : List ℕ). (change_in w frame).said) wall_said ∙ ap (λ (c : Change). c.said) wall_change_is)
      ∙ sym makes.taken

  abbrev chain_world : World
  chain_world = after_frame w bytes

  abbrev wall_world : World
  wall_world = after_frame w (wall_frame bytes i)

  pub k_small : k < 8
  k_small = omega (arith, named)

  chain_there : (x : ℕ) → body_at chain_world x ≡ cond (eqb x k) (chain_body (chain_at bytes)) (body_at w x)
  chain_there = new_body w sound k k_small bytes refl (chain_body (chain_at bytes)) chain_change_is

  wall_body_there : (x : ℕ)
      → body_at wall_world x ≡ cond (eqb x k) (wall_body (piece_wall (chain_at bytes) i)) (body_at w x)
  wall_body_there =
      new_body w sound k k_small (wall_frame bytes i) refl (wall_body (piece_wall (chain_at bytes) i)) wall_change_is

  pairs_there : (x y : ℕ) → x < 8 → y < 8
      → pair_at chain_world x y ≡ cond (eqb x k || eqb y k) fresh_pair (pair_at w x y)
  pairs_there = new_pair w sound k k_small bytes refl (chain_body (chain_at bytes)) chain_change_is

  pairs_there' : (x y : ℕ) → x < 8 → y < 8
      → pair_at wall_world x y ≡ cond (eqb x k || eqb y k) fresh_pair (pair_at w x y)
  pairs_there' =
      new_pair w sound k k_small (wall_frame bytes i) refl (wall_body (piece_wall (chain_at bytes) i)) wall_change_is

  pub chain_k : body_at chain_world k ≡ chain_body (chain_at bytes)
  chain_k = chain_there k ∙ rw (eq-eqb k k refl) refl

  -- the piece of a chain is the wall's body
  as_piece : wall_body (piece_wall (chain_at bytes) i) ≡ piece_of (chain_body (chain_at bytes)) i
  unfolding piece_of chain_body placed wall_body
  as_piece = refl

  is_chain : (chain_body (chain_at bytes)).kind ≡ chain_kind
  unfolding chain_body
  is_chain = refl

  has_piece : i < pieces_of (chain_body (chain_at bytes))
  unfolding chain_body chain_at
  has_piece =
      let below : i < min (byte_at bytes 2 - 1) 7 = omega (arith, makes.piece, points_few) in
      below

  worlds_seen : Seen k i chain_world wall_world
  worlds_seen =
      let sizes = new_sizes w sound k k_small (wall_frame bytes i) refl (wall_body (piece_wall (chain_at bytes) i))
      wall_change_is in
      record {
        small = k_small;
        sound = frame_keeps_sound w bytes sound;
        capped = frame_keeps_capped w bytes capped;
        bodies_size = sizes.0;
        pairs_size = sizes.1;
        chain = ap (λ (body : Body). body.kind) chain_k ∙ is_chain;
        piece = rw chain_k has_piece;
        wall =
            wall_body_there k
            ∙ rw (eq-eqb k k refl) (as_piece ∙ ap (λ (body : Body). piece_of body i) (sym chain_k));
        others = λ x x_small away.
            wall_body_there x ∙ rw (ne_eqb x k away) (sym (chain_there x ∙ rw (ne_eqb x k away) refl));
        own = λ y y_small.
            pairs_there' k y k_small y_small
            ∙ rw (eq-eqb k k refl) (sym (fresh_piece i) ∙ ap (piece_pair i) (sym (own_fresh y y_small)));
        pairs = λ x y x_small y_small away.
            pairs_there' x y x_small y_small ∙ sym (pairs_there x y x_small y_small);
      }
    where
      own_fresh : (y : ℕ) → y < 8 → pair_at chain_world k y ≡ fresh_pair
      own_fresh y y_small = pairs_there k y k_small y_small ∙ rw (eq-eqb k k refl) refl

  -- the states after them
  pub chain_after : after_line s line ≡ record { world = chain_world; steps = s.steps }
  chain_after = (said_framed s line (said_alone Accepted) makes.taken).1

  wall_after : after_line s (wall_line line i) ≡ record { world = wall_world; steps = s.steps }
  unfolding hex
  wall_after = ap (λ (frame : List ℕ). record { world = after_frame w frame; steps = s.steps }) wall_said

  pub begun : SeenServers k i (after_line s line) (after_line s (wall_line line i))
  begun = rw (chain_after, wall_after) (record { worlds = worlds_seen; steps = refl })
