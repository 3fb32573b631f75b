-- What a world holds after a change, place by place; and that a frame whose first body is another does not tell a chain
-- from its piece as the second. Assumes nothing.
use Prim.Native.Nat.{ℕ, ◌/◌, ◌%◌, ◌<◌}
use mathlib.Core.Path.{◌≡◌, refl, sym, ◌∙◌, ap}
use mathlib.Core.Bool.{Bool, true, false, cond, ◌&&◌, ◌||◌}
use mathlib.Core.List.{List}
use mathlib.Core.Logic.{◌⊎◌, inl, inr}
use native.Mathlib.Omega.{arith}
use lib.Dec.{eqb}
use lib.ListN.{length, get_or, set, length-set}
use lib.Seq.{get_or-set_same, get_or-set_other, ext_get_or}
use borrow.Author.Tests.{eqb-true, eqb-false}
use Rattle.algebra.proofs.Booleans.{by_test}
use Rattle.lines.specs.Fields.{byte_at}
use Rattle.shape_definitions.specs.Refusal.{accepted, no_shape, pair_not_listed}
use Rattle.contact_definitions.proofs.Counts.{either}
use Rattle.record_definitions.specs.declared.world.Body.{Body}
use Rattle.record_definitions.specs.declared.world.Pair.{Pair}
use Rattle.record_definitions.specs.declared.world.World.{World}
use Rattle.record_definitions.specs.declared.frame.Change.{Change}
use Rattle.record_definitions.specs.World.{no_body, circle_kind, outline_kind, wall_kind, chain_kind, blank_body}
use Rattle.record_definitions.specs.World.{fresh_pair, body_at, pair_at, pair_place, forget}
use Rattle.record_definitions.specs.Frame.{frame_refusal, refused, listed, test_refusal, test_change}
use Rattle.record_definitions.specs.Frame.{change_of_kind, change}
use Rattle.record_definitions.specs.OneFrame.{pairs_after}
use Rattle.record_definitions.proofs.Alone.{change_alone}
use Rattle.record_definitions.proofs.OneLine.{length_forget}
use Rattle.record_definitions.proofs.Pairs.{forgotten_below, others_kept}
use Rattle.record_definitions.proofs.SoundTests.{none_left}

-- ---- bodies
pub body_there : (bodies : List Body) (a x : ℕ) (new : Body) → length bodies ≡ 8 → a < 8
    → get_or (set bodies a new) x blank_body ≡ cond (eqb x a) new (get_or bodies x blank_body)
body_there bodies a x new size small =
    by_test (eqb x a)
    (λ same. rw (same, eqb-true x a same) (get_or-set_same bodies a new blank_body (omega arith)))
    (λ other. rw other (get_or-set_other bodies a x new blank_body (eqb-false x a other)))

-- ---- pairs
module _ (pairs : List Pair) (a b x y : ℕ) (pair : Pair) (size : length pairs ≡ 64) (a_small : a < 8) (b_small : b < 8)
    (x_small : x < 8) (y_small : y < 8) where
  abbrev old : Pair
  old = get_or pairs (pair_place x y) fresh_pair

  forgotten_there : get_or (forget a pairs) (pair_place x y) fresh_pair ≡ cond (eqb x a || eqb y a) fresh_pair old
  forgotten_there =
      by_test (eqb x a)
      (λ first. rw first (rw (eqb-true x a first) (forgotten_below a pairs 8 y y_small).0))
      (λ no_x. by_test (eqb y a)
      (λ second. rw (no_x, second) (rw (eqb-true y a second) (forgotten_below a pairs 8 x x_small).1))
      (λ no_y. rw (no_x, no_y) (others_kept a pairs 8 x y (omega arith) a_small x_small y_small (eqb-false x a no_x)
      (eqb-false y a no_y))))

  written_there : get_or (set pairs (pair_place a b) pair) (pair_place x y) fresh_pair
      ≡ cond (eqb x a && eqb y b) pair old
  written_there =
      by_test (eqb x a)
      (λ first. by_test (eqb y b)
      (λ second. rw (first, second) (rw (eqb-true x a first, eqb-true y b second)
      (get_or-set_same pairs (pair_place a b) pair fresh_pair (omega arith))))
      (λ no_y. rw (first, no_y) (get_or-set_other pairs (pair_place a b) (pair_place x y) pair fresh_pair
      (λ same. eqb-false y b no_y (omega (arith, eqb-true x a first))))))
      (λ no_x. rw no_x (get_or-set_other pairs (pair_place a b) (pair_place x y) pair fresh_pair
      (λ same. eqb-false x a no_x (omega arith))))

  pub pair_there : (t : Bool) → get_or (pairs_after t pairs a b pair) (pair_place x y) fresh_pair
      ≡ cond t (cond (eqb x a || eqb y a) fresh_pair old) (cond (eqb x a && eqb y b) pair old)
  pair_there true = forgotten_there
  pair_there false = written_there

pub pairs_length : (t : Bool) (pairs : List Pair) (a b : ℕ) (pair : Pair)
    → length (pairs_after t pairs a b pair) ≡ length pairs
pairs_length true pairs a b pair = length_forget a pairs 8
pairs_length false pairs a b pair = length-set pairs _ pair

-- two worlds that hold the same are the same
pub same_world : (w w' : World) → length w.bodies ≡ 8 → length w'.bodies ≡ 8 → length w.pairs ≡ 64
    → length w'.pairs ≡ 64 → ((x : ℕ) → x < 8 → body_at w' x ≡ body_at w x)
    → ((x y : ℕ) → x < 8 → y < 8 → pair_at w' x y ≡ pair_at w x y) → w' ≡ w
same_world w w' bodies bodies' pairs pairs' same_body same_pair =
    let bodies_are : w'.bodies ≡ w.bodies =
    ext_get_or blank_body w'.bodies w.bodies (bodies' ∙ sym bodies) (λ x within. same_body x (omega arith)) in
    let pairs_are : w'.pairs ≡ w.pairs =
    ext_get_or fresh_pair w'.pairs w.pairs (pairs' ∙ sym pairs)
    (λ p within. let place : p ≡ pair_place (p / 8) (p % 8) = omega arith in
    ap (λ (n : ℕ). get_or w'.pairs n fresh_pair) place ∙ same_pair (p / 8) (p % 8) (omega arith) (omega arith)
    ∙ ap (λ (n : ℕ). get_or w.pairs n fresh_pair) (sym place)) in
    ap (λ (l : List Body). record { bodies = l; pairs = w'.pairs }) bodies_are
    ∙ ap (λ (l : List Pair). record { bodies = w.bodies; pairs = l }) pairs_are

-- ---- neither a chain nor a wall is tested as the second body
module _ (a : Body) (pair : Pair) (ida idb : ℕ) where
  not_second : ℕ
  not_second =
      cond (eqb a.kind no_body || false) no_shape (cond (eqb ida idb || true) pair_not_listed accepted)

  never : (same : Bool) → cond (same || true) pair_not_listed accepted ≡ pair_not_listed
  never true = refl
  never false = refl

  some : eqb not_second accepted ≡ false
  unfolding not_second
  some =
      rw (never (eqb ida idb))
      (either (λ (n : ℕ). eqb n accepted ≡ false) (eqb a.kind no_body || false) _ _ refl refl)

  refused_as : (b : Body) → (b.kind ≡ chain_kind) ⊎ (b.kind ≡ wall_kind)
      → test_refusal ida idb a.kind b.kind ≡ not_second
  unfolding not_second test_refusal listed
  refused_as b (inl chain) =
      rw (
        chain,
        none_left (eqb a.kind circle_kind) (eqb a.kind outline_kind) (eqb a.kind wall_kind)
            (eqb a.kind chain_kind),
      ) refl
  refused_as b (inr wall) =
      rw (
        wall,
        none_left (eqb a.kind circle_kind) (eqb a.kind outline_kind) (eqb a.kind wall_kind)
            (eqb a.kind chain_kind),
      ) refl

  test_second : (b : Body) → (b.kind ≡ chain_kind) ⊎ (b.kind ≡ wall_kind)
      → test_change ida idb a b pair ≡ refused not_second a pair
  unfolding test_change
  test_second b is = rw (refused_as b is, some) refl

-- so a frame whose first body is another does not tell them apart
pub change_other : (a b b' : Body) (pair : Pair) (bytes : List ℕ)
    → (b' ≡ b) ⊎ ((b.kind ≡ chain_kind) × (b'.kind ≡ wall_kind))
    → change a b' pair bytes ≡ change a b pair bytes
unfolding change change_of_kind
change_other a b b' pair bytes (inl same) = ap (λ (body : Body). change a body pair bytes) same
change_other a b b' pair bytes (inr own) =
    by_test (eqb (byte_at bytes 0) 5) (λ five. as_test (eqb-true (byte_at bytes 0) 5 five))
    (λ no_test. let other = eqb-false (byte_at bytes 0) 5 no_test in
    change_alone pair a b' b pair bytes other ∙ sym (change_alone pair a b b pair bytes other))
  where
    tests_alike : change_of_kind 5 a b' pair bytes ≡ change_of_kind 5 a b pair bytes
    tests_alike =
        test_second a pair (byte_at bytes 1) (byte_at bytes 2) b' (inr own.1)
        ∙ sym (test_second a pair (byte_at bytes 1) (byte_at bytes 2) b (inl own.0))

    as_test : byte_at bytes 0 ≡ 5 → change a b' pair bytes ≡ change a b pair bytes
    as_test five =
        ap (λ (c : Change). cond (eqb (frame_refusal bytes) accepted) c (refused (frame_refusal bytes) a pair))
        (ap (λ (kind : ℕ). change_of_kind kind a b' pair bytes) five ∙ tests_alike
        ∙ ap (λ (kind : ℕ). change_of_kind kind a b pair bytes) (sym five))
