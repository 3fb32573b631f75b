-- What frames do to the pairs of a world: a new shape makes the pairs of its id fresh and leaves the others, a
-- placement leaves all, and a test that answers writes its own pair and no other. Assumes nothing.
use Prim.Native.Nat.{ℕ, zero, suc, ◌%◌, ◌≤◌, ◌<◌}
use mathlib.Core.Path.{◌≡◌, refl, ◌∙◌, ap}
use mathlib.Core.List.{List, [], ◌∷◌}
use mathlib.Core.Logic.{◌⊎◌, inl, inr, ⊎_elim}
use native.Mathlib.Omega.{arith}
use lib.ListN.{length, get_or, set}
use lib.Seq.{get_or-set_same, get_or-set_other, set-get_or}
use Rattle.algebra.proofs.Booleans.{less_or_not}
use Rattle.lines.specs.Fields.{byte_at}
use Rattle.record_definitions.specs.declared.world.Pair.{Pair}
use Rattle.record_definitions.specs.declared.world.World.{World}
use Rattle.record_definitions.specs.declared.touch.Touch.{Touch}
use Rattle.record_definitions.specs.declared.frame.Answer.TheVariants.{Accepted, Tested}
use Rattle.record_definitions.specs.World.{blank_body, fresh_pair, body_at, pair_at, pair_place, forget}
use Rattle.record_definitions.specs.World.{forget_below}
use Rattle.record_definitions.specs.Frame.{largest_id, all_tests, keep, change}
use Rattle.record_definitions.specs.OneFrame.{first_place, second_place, changed, change_in, after_frame}
use Rattle.record_definitions.specs.OneFrame.{said_of_frame}
use Rattle.record_definitions.specs.Export.{answer_refusal}
use Rattle.record_definitions.proofs.Changes.{NewShape, Placing, WasTested, first_id, shape_forgets}
use Rattle.record_definitions.proofs.Changes.{placing_leaves, was_tested}

-- ---- forgetting
-- a place made fresh is fresh, and stays so
made_fresh : (l : List Pair) (i : ℕ) → get_or (set l i fresh_pair) i fresh_pair ≡ fresh_pair
made_fresh [] i = refl
made_fresh (x ∷ l) zero = refl
made_fresh (x ∷ l) (suc i) = made_fresh l i

stays_fresh : (l : List Pair) (i k : ℕ) → get_or l k fresh_pair ≡ fresh_pair
    → get_or (set l i fresh_pair) k fresh_pair ≡ fresh_pair
stays_fresh [] i k is = is
stays_fresh (x ∷ l) zero zero is = refl
stays_fresh (x ∷ l) zero (suc k) is = is
stays_fresh (x ∷ l) (suc i) zero is = is
stays_fresh (x ∷ l) (suc i) (suc k) is = stays_fresh l i k is

module _ (id : ℕ) (pairs : List Pair) where
  -- both orders, with each partner below n
  abbrev pub Fresh : List Pair → ℕ → Type 0
  Fresh l x = (get_or l (pair_place id x) fresh_pair ≡ fresh_pair) × (get_or l (pair_place x id) fresh_pair ≡ fresh_pair)

  both_fresh : (l : List Pair) (n x : ℕ) → (x ≡ n) ⊎ Fresh l x
      → Fresh (set (set l (pair_place id n) fresh_pair) (pair_place n id) fresh_pair) x
  both_fresh l n x (inl same) =
      let once = set l (pair_place id n) fresh_pair in
      rw same (
        stays_fresh once (pair_place n id) (pair_place id n) (made_fresh l (pair_place id n)),
        made_fresh once (pair_place n id),
      )
  both_fresh l n x (inr before) =
      let once = set l (pair_place id n) fresh_pair in (
        stays_fresh once (pair_place n id) (pair_place id x)
            (stays_fresh l (pair_place id n) (pair_place id x) before.0),
        stays_fresh once (pair_place n id) (pair_place x id)
            (stays_fresh l (pair_place id n) (pair_place x id) before.1),
      )

  pub forgotten_below : (n x : ℕ) → x < n → Fresh (forget_below id pairs n) x
  unfolding forget_below
  forgotten_below zero x within = absurd (omega arith)
  forgotten_below (suc n) x within =
      both_fresh (forget_below id pairs n) n x
      (⊎_elim (λ below. inr (forgotten_below n x below)) (λ last. inl (omega arith)) (less_or_not x n))

  -- pairs of two other ids
  pub others_kept : (n x y : ℕ) → n ≤ 8 → id < 8 → x < 8 → y < 8 → (x ≡ id → ⊥) → (y ≡ id → ⊥)
      → get_or (forget_below id pairs n) (pair_place x y) fresh_pair ≡ get_or pairs (pair_place x y) fresh_pair
  unfolding forget_below
  others_kept zero x y few small x_small y_small no_x no_y = refl
  others_kept (suc n) x y few small x_small y_small no_x no_y =
      let earlier = forget_below id pairs n in
      get_or-set_other (set earlier (pair_place id n) fresh_pair) (pair_place n id) (pair_place x y) fresh_pair fresh_pair
      (λ same. no_y (omega arith))
      ∙ get_or-set_other earlier (pair_place id n) (pair_place x y) fresh_pair fresh_pair (λ same. no_x (omega arith))
      ∙ others_kept n x y (omega arith) small x_small y_small no_x no_y

-- ---- frames
pub within_place : (n : ℕ) → n ≤ largest_id → n % 8 ≡ n
within_place n small = omega arith

module _ (w : World) (bytes : List ℕ) where
  abbrev id : ℕ
  id = byte_at bytes 1

  -- a new shape
  module _ (new : NewShape (byte_at bytes 0)) (taken : (said_of_frame w bytes).answer ≡ Accepted) where
    named : id ≤ largest_id
    unfolding said_of_frame change_in
    named = first_id (body_at w (first_place bytes)) _ _ bytes (ap answer_refusal taken)

    pairs_forgotten : (after_frame w bytes).pairs ≡ forget id w.pairs
    unfolding after_frame changed said_of_frame change_in
    pairs_forgotten =
        rw (
          shape_forgets (body_at w (first_place bytes)) (body_at w (second_place bytes))
              (pair_at w (first_place bytes) (second_place bytes)) bytes new taken,
          within_place id named,
        ) refl

    pub shape_forgets_its_pairs : (x : ℕ) → x ≤ largest_id
        → (pair_at (after_frame w bytes) id x ≡ fresh_pair) × (pair_at (after_frame w bytes) x id ≡ fresh_pair)
    shape_forgets_its_pairs x small =
        rw pairs_forgotten (forgotten_below id w.pairs 8 x (omega arith))

    pub shape_keeps_other_pairs : (x y : ℕ) → x ≤ largest_id → y ≤ largest_id → (x ≡ id → ⊥) → (y ≡ id → ⊥)
        → pair_at (after_frame w bytes) x y ≡ pair_at w x y
    shape_keeps_other_pairs x y x_small y_small no_x no_y =
        rw pairs_forgotten
        (others_kept id w.pairs 8 x y (omega arith) (omega (arith, named)) (omega arith) (omega arith) no_x no_y)

  -- a placement
  pub placement_keeps_pairs : Placing (byte_at bytes 0) → (after_frame w bytes).pairs ≡ w.pairs
  unfolding after_frame changed change_in
  placement_keeps_pairs placing =
      let a = first_place bytes in
      let b = second_place bytes in
      let leaves = placing_leaves (body_at w a) (body_at w b) (pair_at w a b) bytes placing in
      rw (leaves.1, leaves.0) (set-get_or w.pairs (pair_place a b) fresh_pair)

  -- a test that answers
  module _ (t : Touch) (is : (said_of_frame w bytes).answer ≡ Tested t) where
    abbrev idb : ℕ
    idb = byte_at bytes 2

    first_tested : id ≤ largest_id
    unfolding said_of_frame change_in
    first_tested = first_id (body_at w (first_place bytes)) _ _ bytes (ap answer_refusal is)

    at_places : WasTested id idb (body_at w (first_place bytes)) (body_at w (second_place bytes))
        (pair_at w (first_place bytes) (second_place bytes)) t (change_in w bytes)
    unfolding said_of_frame change_in
    at_places =
        was_tested (body_at w (first_place bytes)) (body_at w (second_place bytes))
        (pair_at w (first_place bytes) (second_place bytes)) bytes t is

    second_tested : idb ≤ largest_id
    second_tested = at_places.second_id

    pub test_seen : WasTested id idb (body_at w id) (body_at w idb) (pair_at w id idb) t (change_in w bytes)
    test_seen = rw (within_place id first_tested, within_place idb second_tested) at at_places

    pub test_keeps_bodies : (after_frame w bytes).bodies ≡ w.bodies
    unfolding after_frame changed
    test_keeps_bodies =
        rw at_places.same_body (set-get_or w.bodies (first_place bytes) blank_body)

    pairs_written : (after_frame w bytes).pairs ≡ set w.pairs (pair_place id idb)
        (keep (all_tests id idb (body_at w id) (body_at w idb) (pair_at w id idb)) (pair_at w id idb))
    unfolding after_frame changed
    pairs_written =
        rw (test_seen.keeps, test_seen.pair_is, within_place id first_tested, within_place idb second_tested) refl

    pub test_keeps_other_pairs : (x y : ℕ) → x ≤ largest_id → y ≤ largest_id → (x ≡ id → y ≡ idb → ⊥)
        → pair_at (after_frame w bytes) x y ≡ pair_at w x y
    test_keeps_other_pairs x y x_small y_small other =
        rw pairs_written
        (get_or-set_other w.pairs (pair_place id idb) (pair_place x y) _ fresh_pair
        (λ same. other (omega (arith, first_tested, second_tested)) (omega (arith, first_tested, second_tested))))

    pub test_writes_its_pair : length w.pairs ≡ 64
        → pair_at (after_frame w bytes) id idb
        ≡ keep (all_tests id idb (body_at w id) (body_at w idb) (pair_at w id idb)) (pair_at w id idb)
    test_writes_its_pair size =
        rw pairs_written
        (get_or-set_same w.pairs (pair_place id idb) _ fresh_pair (omega (arith, first_tested, second_tested)))

    -- what is said of this frame in any world, from the bodies and the pair that it names
    pub said_at : (v : World)
        → said_of_frame v bytes ≡ (change (body_at v id) (body_at v idb) (pair_at v id idb) bytes).said
    unfolding said_of_frame change_in
    said_at v =
        let other = second_place bytes in
        ap (λ (i : ℕ). (change (body_at v i) (body_at v other) (pair_at v i other) bytes).said)
        (within_place id first_tested)
        ∙ ap (λ (j : ℕ). (change (body_at v id) (body_at v j) (pair_at v id j) bytes).said)
        (within_place idb second_tested)
