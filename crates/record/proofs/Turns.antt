-- One turn of the loop of `feed` at a line feed, for any way of printing, from what the code calls: a step that ends; or
-- the line's bytes, the bodies' places, the change and what is printed of it. Before the first turn the count of kept
-- characters is held to the row. Assumes nothing.
use Prim.Native.Nat.{ℕ, ◌+◌, ◌*◌, ◌-◌, ◌%◌, ◌≤◌, ◌<◌, min}
use mathlib.Core.Path.{◌≡◌, refl, sym, ◌∙◌, ap, subst}
use mathlib.Core.Bool.{Bool, true, false}
use mathlib.Core.List.{List}
use native.Mathlib.Omega.{arith}
use lib.Dec.{leb}
use lib.ListN.{length, get_or, take, set, length-set}
use lib.Seq.{set-get_or, length-take-le}
use borrow.Author.Tests.{leb-true, leb-false}
use borrow.Rule.Slice.PartMut.{put_mid, mid_of}
use Rattle.lines.specs.Buffers.{Put}
use Rattle.lines.specs.Fields.{byte_at}
use Rattle.lines.specs.Hex.{frame_of, line_feed}
use Rattle.record_definitions.specs.declared.world.Body.{Body}
use Rattle.record_definitions.specs.declared.world.Pair.{Pair}
use Rattle.record_definitions.specs.declared.world.World.{World}
use Rattle.record_definitions.specs.declared.frame.Change.{Change}
use Rattle.record_definitions.specs.declared.server.Server.{Server}
use Rattle.record_definitions.specs.World.{forget}
use Rattle.record_definitions.specs.Frame.{change}
use Rattle.record_definitions.specs.Server.{Reply, Framed, Stepped, next_step}
use Rattle.record_definitions.specs.OneFrame.{after_frame}
use Rattle.record_definitions.specs.Reading.{Reading, kept_length}
use Rattle.record_definitions.proofs.Replies.{after_framed, reply_framed}
use Rattle.record_definitions.proofs.Feeding.{SoFar, next_line}
use Rattle.std.specs.Prelude.{Ok}
use Rattle.frames.specs.declared.changes.BodyChange.{BodyChange}
use Rattle.frames.specs.Made.{of_body}
use Rattle.record.specs.declared.feed.Names.{Names}
use Rattle.record.specs.Decoding.{Named}
use Rattle.record_definitions.proofs.OneLine.{said_is, world_forgets, world_keeps, length_forget, count_held}

pub row_held : (line : List ℕ) (len r : ℕ) → r ≡ min len kept_length → length line ≡ kept_length
    → take r line ≡ take len line
row_held line len r r_is size = go (leb kept_length len) refl
  where
    go : (t : Bool) → leb kept_length len ≡ t → take r line ≡ take len line
    go true t_is =
        let full : kept_length ≤ len = leb-true kept_length len t_is in
        let r_kept : r ≡ kept_length = omega arith in
        ap (λ (n : ℕ). take n line) r_kept ∙ count_held line len full size
    go false t_is =
        let short : len < kept_length = leb-false kept_length len t_is in
        let same : r ≡ len = omega arith in
        ap (λ (n : ℕ). take n line) same

module _ {print : Reply → List ℕ} {chunk old : List ℕ} {r : Reading} {out : List ℕ} {w : World} {steps : ℕ}
    {line : List ℕ} {len at i x : ℕ}
    (so_far : SoFar print chunk old r out (record { world = w; steps = steps }) line len at i)
    (more : i < length chunk) (x_is : x ≡ get_or chunk i 0) (x_feed : x ≡ line_feed) (part : List ℕ) (n : ℕ)
    (part_size : length part ≡ length (mid_of at (length out - at) out)) where
  abbrev server : Server
  server = record { world = w; steps = steps }

  abbrev AfterWith : ℕ → Server → Type 0
  AfterWith kept next = SoFar print chunk old r (put_mid at (length out - at) out part) next line kept (at + n) (i + 1)

  abbrev After : Server → Type 0
  After = AfterWith 0

  -- ---- an empty line
  pub step_ends : len ≡ 0 → (raised : ℕ) → raised ≡ next_step steps
      → Put (print (Stepped raised)) (mid_of at (length out - at) out) n part
      → AfterWith len (record { world = w; steps = raised })
  step_ends none raised raised_is put =
      subst (λ (kept : ℕ). AfterWith kept (record { world = w; steps = raised })) (sym none)
      (next_line print chunk old r out server line len at i x so_far more x_is _ (Stepped raised) part n x_feed
      (rw (none, raised_is) refl) (rw (none, raised_is) refl) so_far.bodies_size so_far.pairs_size part_size put)

  -- ---- a frame, of the bytes that the line says
  module _ (some : len ≡ 0 → ⊥) {names : Names} {buffer : List ℕ} (named : Named (take len line) names buffer)
      (past_a past_b : Body) (past_pair : Pair) (c : Change)
      (c_is : c ≡ change (get_or w.bodies names.first past_a) (get_or w.bodies names.second past_b)
      (get_or w.pairs (8 * names.first + names.second) past_pair) (take names.count buffer))
      (put : Put (print (Framed c.said)) (mid_of at (length out - at) out) n part) where
    abbrev a : ℕ
    a = names.first

    abbrev b : ℕ
    b = names.second

    abbrev frame : List ℕ
    frame = take names.count buffer

    frame_is : frame ≡ frame_of (take len line)
    frame_is = named.decoded.bytes

    a_is : a ≡ byte_at frame 1 % 8
    a_is = named.first_is

    b_is : b ≡ byte_at frame 2 % 8
    b_is = named.second_is

    some_kept : length (take len line) ≡ 0 → ⊥
    some_kept none =
        some (sym (length-take-le len line (omega (arith, so_far.kept, so_far.line_size))) ∙ none)

    framed : (next : World) → next ≡ after_frame w (frame_of (take len line)) → length next.bodies ≡ 8
        → length next.pairs ≡ 64 → After (record { world = next; steps = steps })
    framed next next_is bodies pairs =
        next_line print chunk old r out server line len at i x so_far more x_is _ (Framed c.said) part n x_feed
        (ap (λ (v : World). record { world = v; steps = steps }) next_is
        ∙ sym (after_framed server (take len line) some_kept))
        (ap Framed (said_is w (take len line) frame frame_is a b a_is b_is so_far.bodies_size so_far.pairs_size
        past_a past_b past_pair c c_is)
        ∙ sym (reply_framed server (take len line) some_kept))
        bodies pairs part_size put

    -- a new shape
    pub line_forgets : (fresh : List Pair) → c.forget ≡ true → fresh ≡ forget a w.pairs
        → After (record { world = record { bodies = set w.bodies a c.body; pairs = fresh }; steps = steps })
    line_forgets fresh forgets fresh_is =
        framed _
        (world_forgets w (take len line) frame frame_is a b a_is b_is so_far.bodies_size so_far.pairs_size past_a
        past_b past_pair c c_is fresh forgets fresh_is)
        (simp length-set so_far.bodies_size)
        (ap length fresh_is ∙ length_forget a w.pairs 8 ∙ so_far.pairs_size)

    -- any other frame: the body and the pair are written
    line_keeps : c.forget ≡ false → (bodies : List Body) → set w.bodies a c.body ≡ bodies → (pairs : List Pair)
        → set w.pairs (8 * a + b) c.pair ≡ pairs
        → After (record { world = record { bodies = bodies; pairs = pairs }; steps = steps })
    line_keeps keeps bodies bodies_are pairs pairs_are =
        framed _
        (rw (← bodies_are, ← pairs_are)
        (world_keeps w (take len line) frame frame_is a b a_is b_is so_far.bodies_size so_far.pairs_size past_a
        past_b past_pair c c_is keeps))
        (rw (← bodies_are) (simp length-set so_far.bodies_size))
        (rw (← pairs_are) (simp length-set so_far.pairs_size))

    -- no test: the pair is as it was, and the pairs are not written
    pub line_moves : c.forget ≡ false → c.pair ≡ get_or w.pairs (8 * a + b) past_pair
        → After (record {
          world = record { bodies = set w.bodies a c.body; pairs = w.pairs };
          steps = steps;
        })
    line_moves keeps same_pair =
        line_keeps keeps _ refl w.pairs (rw same_pair (set-get_or w.pairs (8 * a + b) past_pair))

    -- a test: the body is as it was, and the bodies are not written
    pub line_tests : c.forget ≡ false → c.body ≡ get_or w.bodies a past_a
        → After (record {
          world = record { bodies = w.bodies; pairs = set w.pairs (8 * a + b) c.pair };
          steps = steps;
        })
    line_tests keeps same_body =
        line_keeps keeps w.bodies (rw same_body (set-get_or w.bodies a past_a)) _ refl

    -- a refusal: all is as it was
    pub line_refuses : c.forget ≡ false → c.body ≡ get_or w.bodies a past_a
        → c.pair ≡ get_or w.pairs (8 * a + b) past_pair → After (record { world = w; steps = steps })
    line_refuses keeps same_body same_pair =
        line_keeps keeps w.bodies (rw same_body (set-get_or w.bodies a past_a))
        w.pairs (rw same_pair (set-get_or w.pairs (8 * a + b) past_pair))

-- what was made of a body, by its case
pub made_as : (body : Body) (pair : Pair) (c : Change) {made is : BodyChange} → made ≡ is
    → of_body body (Ok made) pair ≡ c → of_body body (Ok is) pair ≡ c
made_as body pair c made_is = subst (λ (m : BodyChange). of_body body (Ok m) pair ≡ c) made_is
