-- In a program without tests all pairs stay fresh: the export's frames run one after the other as they do on their
-- bodies. Assumes nothing.
use Prim.Native.Nat.{ℕ, zero, suc, ◌<◌}
use mathlib.Core.Path.{◌≡◌, refl, sym, ◌∙◌, ap}
use mathlib.Core.Bool.{Bool, true, false}
use mathlib.Core.List.{List, [], ◌∷◌}
use native.Mathlib.Omega.{arith}
use lib.ListN.{get_or, take, set, replicate}
use borrow.Author.Tests.{eq-eqb, ne_eqb}
use Rattle.lines.specs.Fields.{byte_at}
use Rattle.record_definitions.specs.declared.world.Body.{Body}
use Rattle.record_definitions.specs.declared.world.Pair.{Pair}
use Rattle.record_definitions.specs.declared.world.World.{World}
use Rattle.record_definitions.specs.declared.frame.Change.{Change}
use Rattle.record_definitions.specs.declared.frame.Said.{Said}
use Rattle.record_definitions.specs.World.{blank_body, fresh_pair, fresh_world, pair_place, forget_below}
use Rattle.record_definitions.specs.Frame.{change}
use Rattle.record_definitions.specs.OneFrame.{first_place, second_place, pairs_after, changed, change_in}
use Rattle.record_definitions.specs.OneFrame.{after_frame}
use Rattle.record_definitions.specs.OneFrame.{said_of_frame}
use Rattle.record_definitions.specs.Export.{refusal_in, last_said, test_frame, FourFrames}
use Rattle.record_definitions.proofs.Alone.{change_alone}

-- ---- fresh pairs stay fresh
module _ {A : Type 0} (x : A) where
  pub get_same : (n i : ℕ) → get_or (replicate n x) i x ≡ x
  get_same zero i = refl
  get_same (suc n) zero = refl
  get_same (suc n) (suc i) = get_same n i

  set_same : (n i : ℕ) → set (replicate n x) i x ≡ replicate n x
  set_same zero i = refl
  set_same (suc n) zero = refl
  set_same (suc n) (suc i) = ap (◌∷◌ x) (set_same n i)

fresh_pairs : List Pair
fresh_pairs = replicate 64 fresh_pair

forget_fresh : (id n m : ℕ) → forget_below id (replicate n fresh_pair) m ≡ replicate n fresh_pair
unfolding forget_below
forget_fresh id n zero = refl
forget_fresh id n (suc m) =
    rw (forget_fresh id n m, set_same fresh_pair n (pair_place id m)) (set_same fresh_pair n (pair_place m id))

after_fresh : (t : Bool) (a b : ℕ) (pair : Pair) → pair ≡ fresh_pair → pairs_after t fresh_pairs a b pair ≡ fresh_pairs
unfolding fresh_pairs
after_fresh true a b pair is = forget_fresh a 64 8
after_fresh false a b pair is = rw is (set_same fresh_pair 64 (pair_place a b))

world_of : List Body → World
world_of bodies = record { bodies = bodies; pairs = fresh_pairs }

fresh_is : fresh_world ≡ world_of (replicate 8 blank_body)
unfolding fresh_world world_of fresh_pairs
fresh_is = refl

-- ---- a frame that is no test, in a program without tests
module _ (bodies : List Body) (bytes : List ℕ) (id : ℕ) (id_is : byte_at bytes 1 ≡ id) (small : id < 8)
    (no_test : byte_at bytes 0 ≡ 5 → ⊥) (c : Change)
    (c_is : c ≡ change (get_or bodies id blank_body) blank_body fresh_pair bytes) where
  place_is : first_place bytes ≡ id
  place_is = omega arith

  alone : (b : Body) → change (get_or bodies id blank_body) b fresh_pair bytes ≡ c
  alone b =
      let body = get_or bodies id blank_body in
      change_alone fresh_pair body b blank_body fresh_pair bytes no_test
      ∙ sym (change_alone fresh_pair body blank_body blank_body fresh_pair bytes no_test) ∙ sym c_is

  same_change : change_in (world_of bodies) bytes ≡ c
  unfolding change_in world_of fresh_pairs
  same_change = rw (place_is, get_same fresh_pair 64 (pair_place id (second_place bytes))) (alone _)

  same_said : said_of_frame (world_of bodies) bytes ≡ c.said
  unfolding said_of_frame
  same_said = ap (λ (d : Change). d.said) same_change

  pair_fresh : c.pair ≡ fresh_pair
  pair_fresh =
      ap (λ (d : Change). d.pair)
      (c_is ∙ change_alone fresh_pair (get_or bodies id blank_body) blank_body blank_body fresh_pair bytes no_test)

  same_after : after_frame (world_of bodies) bytes ≡ world_of (set bodies id c.body)
  unfolding after_frame changed world_of
  same_after =
      rw (same_change, place_is)
      (ap (λ (pairs : List Pair). record { bodies = set bodies id c.body; pairs = pairs })
      (after_fresh c.forget id (second_place bytes) c.pair pair_fresh))

  module _ (next : List ℕ) (frames : List (List ℕ)) (number : ℕ) (number_is : number ≡ refusal_in c.said) where
    step_refused : (number ≡ 0 → ⊥) → c.said ≡ last_said (world_of bodies) bytes (next ∷ frames)
    unfolding last_said
    step_refused some = rw (same_said, ← number_is) (simp (ne_eqb number 0 some))

    step_taken : number ≡ 0
        → last_said (world_of (set bodies id c.body)) next frames
        ≡ last_said (world_of bodies) bytes (next ∷ frames)
    unfolding last_said
    step_taken none = rw (same_after, same_said, ← number_is) (simp (eq-eqb number 0 none))

-- the test at the end
step_last : (bodies : List Body) (c : Change)
    → c ≡ change (get_or bodies 0 blank_body) (get_or bodies 1 blank_body) fresh_pair test_frame
    → c.said ≡ last_said (world_of bodies) test_frame []
unfolding last_said said_of_frame change_in world_of fresh_pairs
step_last bodies c c_is = ap (λ (d : Change). d.said) c_is

-- the bodies after some changes, each of the body under an id
after_changes : List Body → List (ℕ × Change) → List Body
after_changes bodies [] = bodies
after_changes bodies ((id, c) ∷ changes) = after_changes (set bodies id c.body) changes

-- ---- the four frames and the test, from what the code calls
module _ (f0 f1 f2 f3 : List ℕ) (four : FourFrames f0 f1 f2 f3) (c0 c1 c2 c3 : Change) (n0 n1 n2 n3 : ℕ) where
  said_last : Said
  said_last = last_said fresh_world f0 (f1 ∷ f2 ∷ f3 ∷ test_frame ∷ [])

  -- the bodies after the first n of the four
  abbrev bodies : ℕ → List Body
  bodies n = after_changes (replicate 8 blank_body) (take n ((0, c0) ∷ (0, c1) ∷ (1, c2) ∷ (1, c3) ∷ []))

  begun : last_said (world_of (bodies 0)) f0 (f1 ∷ f2 ∷ f3 ∷ test_frame ∷ []) ≡ said_last
  unfolding said_last after_changes
  begun = ap (λ (w : World). last_said w f0 (f1 ∷ f2 ∷ f3 ∷ test_frame ∷ [])) (sym fresh_is)

  module _ (is_0 : c0 ≡ change blank_body blank_body fresh_pair f0) (number_0 : n0 ≡ refusal_in c0.said) where
    pub refused_0 : (n0 ≡ 0 → ⊥) → c0.said ≡ last_said fresh_world f0 (f1 ∷ f2 ∷ f3 ∷ test_frame ∷ [])
    unfolding said_last after_changes
    refused_0 some =
        step_refused (bodies 0) f0 0 four.id_0 (omega arith) (λ e. omega (arith, four.kind_0)) c0 is_0 f1
        (f2 ∷ f3 ∷ test_frame ∷ []) n0 number_0 some
        ∙ begun

    module _ (none_0 : n0 ≡ 0) (is_1 : c1 ≡ change c0.body blank_body fresh_pair f1)
        (number_1 : n1 ≡ refusal_in c1.said) where
      to_1 : last_said (world_of (bodies 1)) f1 (f2 ∷ f3 ∷ test_frame ∷ []) ≡ said_last
      unfolding after_changes
      to_1 =
          step_taken (bodies 0) f0 0 four.id_0 (omega arith) (λ e. omega (arith, four.kind_0)) c0 is_0 f1
          (f2 ∷ f3 ∷ test_frame ∷ []) n0 number_0 none_0
          ∙ begun

      pub refused_1 : (n1 ≡ 0 → ⊥) → c1.said ≡ last_said fresh_world f0 (f1 ∷ f2 ∷ f3 ∷ test_frame ∷ [])
      unfolding said_last after_changes
      refused_1 some =
          step_refused (bodies 1) f1 0 four.id_1 (omega arith) (λ e. omega (arith, four.kind_1)) c1 is_1 f2
          (f3 ∷ test_frame ∷ []) n1 number_1 some
          ∙ to_1

      module _ (none_1 : n1 ≡ 0) (is_2 : c2 ≡ change blank_body blank_body fresh_pair f2)
          (number_2 : n2 ≡ refusal_in c2.said) where
        to_2 : last_said (world_of (bodies 2)) f2 (f3 ∷ test_frame ∷ []) ≡ said_last
        unfolding after_changes
        to_2 =
            step_taken (bodies 1) f1 0 four.id_1 (omega arith) (λ e. omega (arith, four.kind_1)) c1 is_1 f2
            (f3 ∷ test_frame ∷ []) n1 number_1 none_1
            ∙ to_1

        pub refused_2 : (n2 ≡ 0 → ⊥) → c2.said ≡ last_said fresh_world f0 (f1 ∷ f2 ∷ f3 ∷ test_frame ∷ [])
        unfolding said_last after_changes
        refused_2 some =
            step_refused (bodies 2) f2 1 four.id_2 (omega arith) (λ e. omega (arith, four.kind_2)) c2 is_2 f3
            (test_frame ∷ []) n2 number_2 some
            ∙ to_2

        module _ (none_2 : n2 ≡ 0) (is_3 : c3 ≡ change c2.body blank_body fresh_pair f3)
            (number_3 : n3 ≡ refusal_in c3.said) where
          to_3 : last_said (world_of (bodies 3)) f3 (test_frame ∷ []) ≡ said_last
          unfolding after_changes
          to_3 =
              step_taken (bodies 2) f2 1 four.id_2 (omega arith) (λ e. omega (arith, four.kind_2)) c2 is_2 f3
              (test_frame ∷ []) n2 number_2 none_2
              ∙ to_2

          pub refused_3 : (n3 ≡ 0 → ⊥) → c3.said ≡ last_said fresh_world f0 (f1 ∷ f2 ∷ f3 ∷ test_frame ∷ [])
          unfolding said_last after_changes
          refused_3 some =
              step_refused (bodies 3) f3 1 four.id_3 (omega arith) (λ e. omega (arith, four.kind_3)) c3 is_3
              test_frame [] n3 number_3 some
              ∙ to_3

          pub run_last : (c4 : Change) → n3 ≡ 0 → c4 ≡ change c1.body c3.body fresh_pair test_frame
              → c4.said ≡ last_said fresh_world f0 (f1 ∷ f2 ∷ f3 ∷ test_frame ∷ [])
          unfolding said_last after_changes
          run_last c4 none_3 is_4 =
              step_last (bodies 4) c4 is_4
              ∙ step_taken (bodies 3) f3 1 four.id_3 (omega arith) (λ e. omega (arith, four.kind_3)) c3 is_3
              test_frame [] n3 number_3 none_3
              ∙ to_3
