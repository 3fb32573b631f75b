-- Chains that are accepted are sound: their points are those of the frame, and each piece is in range and long enough.
-- Assumes nothing.
use Prim.Native.Nat.{ℕ, zero, suc, ◌+◌, ◌-◌, ◌≤◌, ◌<◌}
use mathlib.Core.Path.{◌≡◌, refl}
use mathlib.Core.Bool.{Bool, true, false, not}
use mathlib.Core.List.{List, [], ◌∷◌}
use native.Mathlib.Omega.{arith}
use lib.Dec.{eqb, ltb}
use lib.ListN.{length, get_or, replicate, get_or-append}
use borrow.Author.Tests.{eqb-true, eqb-false, ltb-false, not-false}
use Rattle.algebra.specs.Lists.{all_of}
use Rattle.algebra.proofs.Booleans.{both, or_fails, by_test}
use Rattle.algebra.proofs.Buffer.{length_over}
use Rattle.floats.specs.declared.b2_math.B2vec2.{B2vec2}
use Rattle.floats.specs.Ranges.{point_in_range}
use Rattle.lines.specs.Fields.{byte_at}
use Rattle.shape_definitions.specs.Edge.{edge_in_range}
use Rattle.shape_definitions.specs.Outline.{origin, point_at}
use Rattle.shape_definitions.specs.Polygon.{all_points}
use Rattle.contact_definitions.specs.Searches.{some_below}
use Rattle.lines.proofs.Points.{length_points}
use Rattle.shape_definitions.specs.Refusal.{accepted}
use Rattle.record_definitions.specs.World.{piece_wall}
use Rattle.record_definitions.specs.Frame.{long_piece, chain_points, chain_at, chain_refusal}
use Rattle.record_definitions.proofs.Sound.{SoundChain, skin_in_range}

-- ---- chains that are accepted: each piece is in range, and long enough
all_in : (test : B2vec2 → Bool) (points : List B2vec2) (i : ℕ) → all_of test points ≡ true → i < length points
    → test (get_or points i origin) ≡ true
all_in test [] i all within = absurd (omega arith)
all_in test (p ∷ points) zero all within = (both (test p) (all_of test points) all).0
all_in test (p ∷ points) (suc i) all within =
    all_in test points i (both (test p) (all_of test points) all).1 (omega arith)

none_below : (test : ℕ → Bool) (n i : ℕ) → some_below test n ≡ false → i < n → test i ≡ false
unfolding some_below
none_below test zero i none within = absurd (omega arith)
none_below test (suc n) i none within =
    let each = or_fails (some_below test n) (test n) none in
    by_test (eqb i n)
    (λ same. rw (eqb-true i n same) each.1)
    (λ other. none_below test n i each.0 (omega (arith, eqb-false i n other)))

pub record Taken (bytes : List ℕ) : Type 0 where
  pub enough : 2 ≤ byte_at bytes 2
  pub in_range : all_points point_in_range (chain_points bytes) ≡ true
  pub long : some_below (λ (i : ℕ). not (long_piece (chain_at bytes) i)) (byte_at bytes 2 - 1) ≡ false

pub chain_taken : (bytes : List ℕ) → chain_refusal bytes ≡ accepted → Taken bytes
unfolding chain_refusal
chain_taken bytes = by_tests _ _ _ refl refl refl
  where
    by_tests : (s t u : Bool) → ltb (byte_at bytes 2) 2 ≡ s → all_points point_in_range (chain_points bytes) ≡ t
        → some_below (λ (i : ℕ). not (long_piece (chain_at bytes) i)) (byte_at bytes 2 - 1) ≡ u
        → chain_refusal bytes ≡ accepted → Taken bytes
    by_tests true t u s_is t_is u_is taken =
        let never : ◌≡◌ {A = ℕ} 15 0 = simp s_is at taken in
        absurd (omega arith)
    by_tests false false u s_is t_is u_is taken =
        let never : ◌≡◌ {A = ℕ} 2 0 = simp (s_is, t_is) at taken in
        absurd (omega arith)
    by_tests false true true s_is t_is u_is taken =
        let never : ◌≡◌ {A = ℕ} 16 0 = simp (s_is, t_is, u_is) at taken in
        absurd (omega arith)
    by_tests false true false s_is t_is u_is taken =
        record { enough = ltb-false (byte_at bytes 2) 2 s_is; in_range = t_is; long = u_is }

-- the points of the chain are those of the frame
pub chain_point : (bytes : List ℕ) (i : ℕ) → i < byte_at bytes 2 + 2
    → point_at (chain_at bytes).points i ≡ point_at (chain_points bytes) i
unfolding chain_at
chain_point bytes i within =
    get_or-append (chain_points bytes) _ origin i (omega (arith, length_points bytes 3 (byte_at bytes 2 + 2)))

chain_places : (bytes : List ℕ) → byte_at bytes 2 ≤ 8 → length (chain_at bytes).points ≡ 10
unfolding chain_at
chain_places bytes few =
    length_over (chain_points bytes) (replicate 10 origin) (omega (arith, length_points bytes 3 (byte_at bytes 2 + 2)))

pub point_taken : (bytes : List ℕ) (i : ℕ) → Taken bytes → i < byte_at bytes 2 + 2
    → point_in_range (point_at (chain_at bytes).points i) ≡ true
point_taken bytes i taken within =
    rw (chain_point bytes i within)
    (all_in point_in_range (chain_points bytes) i taken.in_range
    (omega (arith, length_points bytes 3 (byte_at bytes 2 + 2))))

piece_in_range : (bytes : List ℕ) (i : ℕ) → Taken bytes → i < byte_at bytes 2 - 1
    → edge_in_range (piece_wall (chain_at bytes) i) ≡ true
unfolding piece_wall edge_in_range
piece_in_range bytes i taken within =
    simp (
      skin_in_range,
      point_taken bytes i taken (omega arith),
      point_taken bytes (i + 1) taken (omega arith),
      point_taken bytes (i + 2) taken (omega arith),
      point_taken bytes (i + 3) taken (omega arith),
    )

pub chain_sound : (bytes : List ℕ) → byte_at bytes 2 ≤ 8 → chain_refusal bytes ≡ accepted → SoundChain (chain_at bytes)
unfolding chain_at
chain_sound bytes few accepts =
    let taken = chain_taken bytes accepts in
    record {
      enough = taken.enough;
      few = few;
      places = chain_places bytes few;
      in_range = λ i within. piece_in_range bytes i taken within;
      long = λ i within. not-false (long_piece (chain_at bytes) i)
          (none_below (λ (k : ℕ). not (long_piece (chain_at bytes) k)) (byte_at bytes 2 - 1) i taken.long within);
    }
