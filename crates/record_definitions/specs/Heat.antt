-- Document 01, "The touch record", and document 02, requests 02, 03, 05 and 06, over a whole heat: what an ordered pair
-- of ids remembers, counts and prints, of a chain each piece by itself, hangs on the contacts of its accepted tests
-- since the last accepted new shape under either id, and on nothing else, empty lines among it. So "a resting contact
-- recorded as a fresh push" is ruled out over a heat, not a step. Definitions only.
use Rattle.std.specs.Prelude.{ℕ, suc, ◌<◌, min, ◌≡◌, Bool, true, cond, ◌&&◌, ◌||◌, List, [], ◌∷◌, eqb, ltb}
use Rattle.lines.specs.Fields.{byte_at}
use Rattle.lines.specs.Hex.{frame_of}
use Rattle.shape_definitions.specs.Refusal.{accepted}
use Rattle.contact_definitions.specs.declared.b2_collision.B2contactId.{B2contactId}
use Rattle.contact_definitions.specs.declared.b2_collision.B2manifold.{B2manifold}
use Rattle.contact_definitions.specs.declared.b2_collision.B2pointState.TheVariants.{B2PersistState}
use Rattle.contact_definitions.specs.declared.b2_collision.PointStates.{PointStates}
use Rattle.contact_definitions.specs.Manifold.{default_manifold, manifold_point}
use Rattle.contact_definitions.specs.PointStates.{counted_ids, id_among, ids_of, b2_get_point_states}
use Rattle.record_definitions.specs.declared.world.World.{World}
use Rattle.record_definitions.specs.declared.touch.Touch.{Touch}
use Rattle.record_definitions.specs.declared.frame.Answer.{Answer}
use Rattle.record_definitions.specs.declared.frame.Answer.TheVariants.{Accepted, Refused, Tested}
use Rattle.record_definitions.specs.declared.frame.Said.{Said}
use Rattle.record_definitions.specs.declared.server.Server.{Server}
use Rattle.record_definitions.specs.World.{circle_kind, outline_kind, wall_kind, chain_kind, pieces_of}
use Rattle.record_definitions.specs.World.{piece_of, largest_count, kept_of, body_at, pair_at}
use Rattle.record_definitions.specs.Ages.{next_age}
use Rattle.record_definitions.specs.Touch.{meet, touch_begins}
use Rattle.record_definitions.specs.Rulebook.{Rulebook}
use Rattle.record_definitions.specs.AgeLaws.{age_by, PressedFor}
use Rattle.record_definitions.specs.Answer.{result_of}
use Rattle.record_definitions.specs.Server.{fresh_server, after_line, Reply, Framed, Stepped, reply_to}
use Rattle.record_definitions.specs.Server.{reached}

-- ---- the contacts that count, of an ordered pair and a piece of its first body: of the accepted tests since a new
-- shape under either id, the latest first
abbrev pub defines_shape : List ℕ → Bool
defines_shape frame =
    eqb (byte_at frame 0) circle_kind || eqb (byte_at frame 0) outline_kind || eqb (byte_at frame 0) wall_kind
    || eqb (byte_at frame 0) chain_kind

module _ (a b i : ℕ) where
  -- after one more frame, by its answer: an accepted shape of either id leaves none, an accepted test of the pair adds
  -- the contact of the piece where the first body has it, and nothing else changes them
  abbrev pub with_answer : Answer → List ℕ → Bool → B2manifold → List B2manifold → List B2manifold
  with_answer Accepted frame there contact earlier =
      cond (defines_shape frame && (eqb (byte_at frame 1) a || eqb (byte_at frame 1) b)) [] earlier
  with_answer (Refused number) frame there contact earlier = earlier
  with_answer (Tested t) frame there contact earlier =
      cond (eqb t.a a && eqb t.b b && there) (contact ∷ earlier) earlier

  -- the first body as it stands has the piece
  abbrev pub piece_there : World → Bool
  piece_there w = ltb i (pieces_of (body_at w a))

  -- the contact of the piece with the second body, as they stand
  abbrev pub contact_in : World → B2manifold
  contact_in w = (meet (piece_of (body_at w a) i) (body_at w b)).manifold

  -- an empty line changes them not either
  abbrev pub with_reply : Reply → List ℕ → Bool → B2manifold → List B2manifold → List B2manifold
  with_reply (Framed said) frame there contact earlier = with_answer said.answer frame there contact earlier
  with_reply (Stepped steps) frame there contact earlier = earlier

  abbrev pub with_line : Server → List ℕ → List B2manifold → List B2manifold
  with_line s line earlier =
      with_reply (reply_to s line) (frame_of line) (piece_there s.world) (contact_in s.world) earlier

  unfoldable pub contacts_after : Server → List B2manifold → List (List ℕ) → List B2manifold
  contacts_after s earlier [] = earlier
  contacts_after s earlier (line ∷ lines) = contacts_after (after_line s line) (with_line s line earlier) lines

  abbrev pub contacts_of : List (List ℕ) → List B2manifold
  contacts_of lines = contacts_after fresh_server [] lines

-- ---- what they decide
-- the contact of the last of these tests; none is a default manifold
abbrev pub last_contact : List B2manifold → B2manifold
last_contact [] = default_manifold
last_contact (contact ∷ earlier) = contact

-- how many of these tests found points where the test before found none, or where there was no test before
unfoldable pub touches_begun : List B2manifold → ℕ
touches_begun [] = 0
touches_begun (contact ∷ earlier) =
    cond (touch_begins (last_contact earlier).point_count contact.point_count) (suc (touches_begun earlier))
    (touches_begun earlier)

-- the touches: that number, as far as 32 bits hold it
abbrev pub touches_of : List B2manifold → ℕ
touches_of contacts = min (touches_begun contacts) largest_count

-- ---- a test of the pair that met this contact and printed t, after tests that met the earlier ones
pub record NextTest (earlier : List B2manifold) (contact : B2manifold) (t : Touch) : Type 0 where
  -- its states, old and new, are those of Box2D's b2GetPointStates on the contact of the test before and on this one
  pub states : (given : PointStates)
      → b2_get_point_states given (last_contact earlier) contact ≡ record { states = t.states; refusal = accepted }
  -- where the test before had a point of its id, it persists
  pub first_rests : 0 < contact.point_count
      → id_among (manifold_point contact 0).id (counted_ids (last_contact earlier)) ≡ true
      → t.states.new0 ≡ B2PersistState
  pub second_rests : 1 < contact.point_count
      → id_among (manifold_point contact 1).id (counted_ids (last_contact earlier)) ≡ true
      → t.states.new1 ≡ B2PersistState
  -- its count is the number of touches begun, with the one that it begins
  pub count : t.touches ≡ touches_of (contact ∷ earlier)
  -- and it begins one by the rulebook: only where the test before found no point, so a resting point is no fresh push
  pub rulebook : Rulebook (last_contact earlier).point_count contact.point_count (touches_of earlier)
      t.touches
  -- the age of a point is the number of tests in a row, up to the one before, that had a point of its id; past the
  -- points that are counted none is printed
  pub first_age : PressedFor (manifold_point contact 0).id earlier t.first.age
  pub second_age : PressedFor (manifold_point contact 1).id earlier t.second.age

-- ---- the law of a heat, for an ordered pair of ids, a piece of the first and any lines from a fresh start
pub record HeatLaw (a b i : ℕ) (lines : List (List ℕ)) : Type 0 where
  -- of the piece the pair remembers the last of these contacts, the touches begun, and the age that a point of any id
  -- will have at the next test
  pub remembered : (kept_of (pair_at (reached lines).world a b) i).ids ≡ ids_of (last_contact (contacts_of a b i lines))
  pub counted : (kept_of (pair_at (reached lines).world a b) i).touches ≡ touches_of (contacts_of a b i lines)
  pub aged : (id : B2contactId)
      → next_age (kept_of (pair_at (reached lines).world a b) i) id ≡ age_by id (contacts_of a b i lines)
  -- and so it prints, whatever line comes next, where the first body has the piece
  pub next_test : (line : List ℕ) (said : Said) (t : Touch) → reply_to (reached lines) line ≡ Framed said
      → said.answer ≡ Tested t → t.a ≡ a → t.b ≡ b → i < pieces_of (body_at (reached lines).world a)
      → NextTest (contacts_of a b i lines) (contact_in a b i (reached lines).world) (result_of said i)
