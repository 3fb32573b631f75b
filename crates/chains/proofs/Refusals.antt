-- Which refusals a test of a chain can meet: 2, of the other body, and then of every piece alike. 8 cannot arise, since
-- a piece is longer than 0.005; 6, 7 and 9 cannot in a world that lines reach. Assumes nothing.
use Prim.Native.Nat.{ℕ, zero, suc, ◌+◌, ◌-◌, ◌≤◌, ◌<◌, min}
use mathlib.Core.Path.{◌≡◌, refl, sym, ◌∙◌, ap, subst}
use mathlib.Core.Bool.{Bool, true, false, not, cond, ◌&&◌}
use native.Mathlib.Omega.{arith}
use lib.Dec.{T, eqb}
use lib.Ieee.{Float, binary32, mul, le, lt, of_bits}
use borrow.Author.Tests.{eqb-true, le-ltb}
use Rattle.algebra.proofs.Booleans.{by_test}
use Rattle.algebra.proofs.Integer.{lt_trans}
use Rattle.rounding.specs.Literals.{zero32}
use Rattle.rounding.specs.Value.{F32, val}
use Rattle.rounding.proofs.Comparison.{lt_val, val_lt}
use Rattle.rounding.proofs.Literals.{bits_f32}
use Rattle.floats.specs.B2Common.{b2_linear_slop}
use Rattle.floats.specs.B2Math.{b2_sub, b2_dot, b2_distance_vec2_squared}
use Rattle.floats.specs.declared.b2_math.B2vec2.{B2vec2}
use Rattle.shape_definitions.specs.declared.b2_edge_shape.B2edgeShape.{B2edgeShape}
use Rattle.shape_definitions.specs.Validate.{polygon_in_range}
use Rattle.shape_definitions.specs.Outline.{point_at}
use Rattle.shape_definitions.specs.Refusal.{accepted, shape_out_of_range}
use Rattle.contact_definitions.specs.declared.b2_collision.B2manifold.{B2manifold}
use Rattle.contact_definitions.specs.Answers.{ManifoldAnswer}
use Rattle.contact_definitions.specs.Answers.{WorldAnswer}
use Rattle.contact_definitions.specs.Manifold.{default_manifold, manifold_refused, manifold_accepted}
use Rattle.contact_definitions.specs.B2CollideEdge.{edge_circle_answer, b2_collide_edge_and_circle}
use Rattle.contact_definitions.specs.B2CollideEdge.{b2_collide_edge_and_polygon}
use Rattle.contact_definitions.specs.EdgeAxis.{right_of}
use Rattle.contact_definitions.specs.WorldManifold.{b2_world_manifold_initialize, manifold_in_range}
use Rattle.contact_definitions.proofs.Counts.{either}
use Rattle.record_definitions.specs.declared.world.Body.{Body}
use Rattle.record_definitions.specs.declared.world.Chain.{Chain}
use Rattle.record_definitions.specs.declared.world.Kept.{Kept}
use Rattle.record_definitions.specs.declared.world.Pair.{Pair}
use Rattle.record_definitions.specs.World.{circle_kind, outline_kind, chain_kind, wall_body, placed, pieces_of}
use Rattle.record_definitions.specs.World.{piece_wall, piece_of, kept_of}
use Rattle.record_definitions.specs.Touch.{meet_circle, meet_outline, meet, world_points, tested_as, tested}
use Rattle.record_definitions.specs.Touch.{piece_tested, pieces_tested, first_refusal}
use Rattle.record_definitions.specs.Frame.{listed, long_piece, all_tests}
use Rattle.record_definitions.proofs.Counting.{met_few}
use Rattle.record_definitions.proofs.Sound.{SoundBody, some_piece, piece_sound}
use Rattle.record_definitions.proofs.PieceTests.{all_as_some}
use Rattle.record_definitions.proofs.SoundTests.{counted_right, second_is_outline}
use Rattle.record_ranges.proofs.Vectors.{caps_sub, cap_dot}
use Rattle.record_ranges.proofs.Shapes.{WallCaps, zero_cap}
use Rattle.record_ranges.proofs.Manifolds.{ranged_taken}
use Rattle.record_ranges.proofs.Bodies.{CappedBody}
use Rattle.record_ranges.proofs.Chains.{piece_capped}
use Rattle.record_ranges.proofs.Contacts.{met_ranged}

-- ---- a piece that is long enough has a squared length above 0
abbrev slop_squared : Float
slop_squared = mul binary32 b2_linear_slop b2_linear_slop

holds : (t : Bool) → T t → t ≡ true
holds true h = refl
holds false h = absurd h

slop_above_zero : T (lt zero32 slop_squared)
unfolding lt mul of_bits
slop_above_zero = tt

slop_is : slop_squared ≡ of_bits binary32 0x37d1_b717
unfolding mul of_bits
slop_is = refl

slop_f32 : F32 slop_squared
slop_f32 = subst F32 (sym slop_is) (bits_f32 0x37d1_b717 tt)

long_above_zero : (d : Float) → F32 d → lt slop_squared d ≡ true → lt zero32 d ≡ true
long_above_zero d own long =
    holds (lt zero32 d)
    (val_lt (zero_cap 0).own own
    (lt_trans (val zero32) (val slop_squared) (val d) (lt_val (zero_cap 0).own slop_f32 slop_above_zero)
    (lt_val slop_f32 own (subst T (sym long) tt))))

piece_above_zero : (chain : Chain) (i : ℕ) → WallCaps (piece_wall chain i) → long_piece chain i ≡ true
    → lt zero32 (b2_dot (b2_sub (piece_wall chain i).m_vertex2 (piece_wall chain i).m_vertex1)
    (b2_sub (piece_wall chain i).m_vertex2 (piece_wall chain i).m_vertex1)) ≡ true
unfolding long_piece piece_wall b2_distance_vec2_squared
piece_above_zero chain i caps long =
    let from = point_at chain.points (i + 1) in
    let to = point_at chain.points (i + 2) in
    let edge = caps_sub to from 20 tt caps.to caps.from in
    long_above_zero (b2_dot (b2_sub to from) (b2_sub to from))
    (cap_dot (b2_sub to from) (b2_sub to from) 21 21 tt tt edge edge).own long

-- ---- so a circle is never refused
edge_circle_taken : (old : B2manifold) (edge : B2edgeShape) (q : B2vec2) (radius : Float) (centre : B2vec2)
    → lt zero32 (b2_dot (b2_sub edge.m_vertex2 edge.m_vertex1)
    (b2_sub edge.m_vertex2 edge.m_vertex1)) ≡ true
    → (edge_circle_answer old edge q radius centre).refusal ≡ accepted
unfolding edge_circle_answer
edge_circle_taken old edge q radius centre long =
    let a = edge.m_vertex1 in
    let b = edge.m_vertex2 in
    let e = b2_sub b a in
    rw long
    (either Taken (edge.m_one_sided && lt (b2_dot (right_of e) (b2_sub q a)) zero32) _ _ refl
    (either Taken (le (b2_dot e (b2_sub q a)) zero32) _ _ refl
    (either Taken (le (b2_dot e (b2_sub b q)) zero32) _ _ refl refl)))
  where
    Taken : ManifoldAnswer → Type 0
    Taken answer = answer.refusal ≡ accepted

-- ---- the refusal of a test of a chain's piece, by the other body alone
abbrev pub refusal_by : Body → ℕ
refusal_by b =
    cond (eqb b.kind circle_kind) accepted (cond (polygon_in_range b.outline) accepted shape_out_of_range)

-- the world points are never refused
module _ (a b : Body) (a_sound : SoundBody a) (b_sound : SoundBody b) (a_caps : CappedBody a) (b_caps : CappedBody b)
  where
    points_taken : (m : B2manifold) → m.point_count ≤ 2 → manifold_in_range m ≡ true
        → (world_points a b m).refusal ≡ accepted
    unfolding world_points b2_world_manifold_initialize
    points_taken m few inside =
        rw (
          le-ltb 2 m.point_count few,
          inside,
          a_caps.skin_taken,
          b_caps.skin_taken,
          a_sound.placement,
          b_sound.placement,
        )
        (either (λ (answer : WorldAnswer). answer.refusal ≡ accepted) (eqb m.point_count 0) _ _ refl refl)

    -- so a test is refused as its contact is
    refused_as_met : (ida idb : ℕ) (kept : Kept) → (tested ida idb a b kept).refusal ≡ (meet a b).refusal
    unfolding tested tested_as
    refused_as_met ida idb kept =
        by_test (eqb (meet a b).refusal accepted)
        (λ taken. let met : (meet a b).refusal ≡ accepted = eqb-true (meet a b).refusal accepted taken in
        rw taken (points_taken (meet a b).manifold (met_few a b met).at_most_two
        (ranged_taken (meet a b).manifold (met_ranged a b a_caps b_caps met)) ∙ sym met))
        (λ refused. rw refused refl)

module _ (a b : Body) (chain : a.kind ≡ chain_kind) (a_sound : SoundBody a) (b_sound : SoundBody b)
    (a_caps : CappedBody a) (b_caps : CappedBody b) (is_listed : listed a.kind b.kind ≡ true) (i : ℕ)
    (here : i < pieces_of a) where
  within : i < a.chain.count - 1
  within = let below : i < min (a.chain.count - 1) 7 = rw chain at here in omega (arith, below)

  abbrev piece : Body
  piece = placed (wall_body (piece_wall a.chain i)) a.xf

  met_circle : b.kind ≡ circle_kind → (meet_circle piece b).refusal ≡ accepted
  unfolding meet_circle placed wall_body b2_collide_edge_and_circle
  met_circle circle =
      rw ((a_sound.chain chain).in_range i within, b_sound.circle circle, a_sound.placement, b_sound.placement)
      (edge_circle_taken default_manifold (piece_wall a.chain i) _ _ _
      (piece_above_zero a.chain i (a_caps.chain i) ((a_sound.chain chain).long i within)))

  met_outline : b.kind ≡ outline_kind
      → (meet_outline piece b).refusal ≡ cond (polygon_in_range b.outline) accepted shape_out_of_range
  unfolding meet_outline placed wall_body b2_collide_edge_and_polygon
  met_outline outline =
      rw (
        counted_right b.outline (b_sound.outline outline),
        (a_sound.chain chain).in_range i within,
        a_sound.placement,
        b_sound.placement,
      )
      (by_range (polygon_in_range b.outline) _)
    where
      by_range : (t : Bool) (m : B2manifold)
          → (cond (not t) (manifold_refused shape_out_of_range default_manifold) (manifold_accepted m)).refusal
          ≡ cond t accepted shape_out_of_range
      by_range true m = refl
      by_range false m = refl

  met_refusal : (meet piece b).refusal ≡ refusal_by b
  unfolding meet
  met_refusal =
      by_kind (eqb b.kind circle_kind) refl
    where
      by_kind : (t : Bool) → eqb b.kind circle_kind ≡ t
          → (cond t (meet_circle piece b) (meet_outline piece b)).refusal
          ≡ cond t accepted (cond (polygon_in_range b.outline) accepted shape_out_of_range)
      by_kind true circle = met_circle (eqb-true b.kind circle_kind circle)
      by_kind false other = met_outline (second_is_outline a.kind b.kind is_listed other)

  piece_is : piece_of a i ≡ piece
  unfolding piece_of
  piece_is = rw chain refl

  pub refused_alike : (ida idb : ℕ) (pair : Pair) → (piece_tested ida idb a b pair i).refusal ≡ refusal_by b
  unfolding piece_tested
  refused_alike ida idb pair =
      refused_as_met (piece_of a i) b (piece_sound a i a_sound here) b_sound (piece_capped a i a_caps) b_caps ida idb
      (kept_of pair i)
      ∙ ap (λ (body : Body). (meet body b).refusal) piece_is ∙ met_refusal

-- ---- and so is the whole test
module _ (a b : Body) (chain : a.kind ≡ chain_kind) (a_sound : SoundBody a) (b_sound : SoundBody b)
    (a_caps : CappedBody a) (b_caps : CappedBody b) (is_listed : listed a.kind b.kind ≡ true) (ida idb : ℕ)
    (pair : Pair) where
  chosen : (n m : ℕ) → m ≡ refusal_by b → n ≡ refusal_by b → cond (eqb n accepted) m n ≡ refusal_by b
  chosen n m m_is n_is = either (λ (k : ℕ). k ≡ refusal_by b) (eqb n accepted) m n m_is n_is

  one : (i : ℕ) → i < pieces_of a → (piece_tested ida idb a b pair i).refusal ≡ refusal_by b
  one i within =
      refused_alike a b chain a_sound b_sound a_caps b_caps is_listed i within ida idb pair

  some : (j n : ℕ) → 0 < n → j + n ≤ pieces_of a
      → first_refusal (pieces_tested ida idb a b pair j n) ≡ refusal_by b
  unfolding pieces_tested first_refusal
  some j zero more few = absurd (omega arith)
  some j (suc zero) more few = last (piece_tested ida idb a b pair j).refusal (one j (omega arith))
    where
      last : (n : ℕ) → n ≡ refusal_by b → cond (eqb n accepted) accepted n ≡ refusal_by b
      last n is =
          by_test (eqb n accepted) (λ yes. rw yes (sym (eqb-true n accepted yes) ∙ is)) (λ no. rw no is)
  some j (suc (suc n)) more few =
      chosen (piece_tested ida idb a b pair j).refusal _ (some (suc j) (suc n) (omega arith) (omega arith))
      (one j (omega arith))

  pub all_refused_alike : first_refusal (all_tests ida idb a b pair) ≡ refusal_by b
  all_refused_alike =
      let enough = (some_piece a a_sound).0 in
      ap first_refusal (all_as_some ida idb a b pair enough) ∙ some 0 (pieces_of a) enough (omega arith)
