-- The first four faces side by side: where c is out of none by more than the radius, the scan goes on behind them.
-- Assumes nothing.
use mathlib.Core.Path.{◌≡◌, refl, sym, ◌∙◌, ap}
use mathlib.Core.Bool.{Bool, true, false, cond, ◌||◌}
use mathlib.Core.List.{List}
use Rattle.std.specs.declared.option.Option.TheVariants.{None}
use mathlib.Core.Logic.{◌⊎◌, inl, inr}
use Prim.Native.Nat.{ℕ, ◌+◌, ◌≤◌, ◌<◌}
use native.Mathlib.Omega.{arith}
use lib.ListN.{length}
use lib.Ieee.{Float, lt}
use Rattle.algebra.proofs.Booleans.{or_fails, or_holds}
use Rattle.rounding.proofs.Comparison.{lt_irreflexive}
use Rattle.floats.specs.declared.b2_math.B2vec2.{B2vec2}
use Rattle.contact_definitions.specs.declared.axis.Best.{Best}
use Rattle.circle_contacts.specs.Meetings.{out_of_face, SideOf}
use Rattle.circle_contacts.specs.FirstFour.{LastOfFour, some_above, taken, no_best, best_of_four}
use Rattle.circle_contacts.proofs.FarthestSide.{SoFar, sides_begin, outside_at, side_taken, side_left}

-- what was looked at is not taken again
taken_once : (best : Best) (i : ℕ) (s : Float) → lt (taken best i s).value s ≡ false
taken_once best i s = go (lt best.value s) refl
  where
    go : (t : Bool) → lt best.value s ≡ t
        → lt (cond t (record { place = i; value = s }) best).value s ≡ false
    go true h = lt_irreflexive s
    go false h = h

pub last_below_eight : (count last : ℕ) → count ≤ 8 → LastOfFour count last → last < 8
last_below_eight count last few (inl three) = let is = three.0 in let more = three.1 in omega arith
last_below_eight count last few (inr two) = let is = two.0 in omega arith

-- the first four faces: how far c is out of each, the last of them being the third where there are three
pub record FourFaces (vs ns : List B2vec2) (count : ℕ) (c : B2vec2) (last : ℕ) (s0 s1 s2 s3 : Float) : Type 0 where
  pub some : 2 < count
  pub few : count ≤ 8
  pub last_is : LastOfFour count last
  pub s0_is : s0 ≡ out_of_face vs ns c 0
  pub s1_is : s1 ≡ out_of_face vs ns c 1
  pub s2_is : s2 ≡ out_of_face vs ns c 2
  pub s3_is : s3 ≡ out_of_face vs ns c last

module _ (vs ns : List B2vec2) (count : ℕ) (c : B2vec2) (radius : Float) where
  abbrev Known : Best → ℕ → Type 0
  Known best i = SoFar vs ns count c radius best.place best.value i

  next_known : (best : Best) (i : ℕ) (s : Float) → Known best i → i < count → s ≡ out_of_face vs ns c i
      → lt radius s ≡ false → Known (taken best i s) (i + 1)
  next_known best i s known within s_is near = go (lt best.value s) refl
    where
      go : (t : Bool) → lt best.value s ≡ t → Known (cond t (record { place = i; value = s }) best) (i + 1)
      go true more = side_taken vs ns count c radius best.place best.value i known within s s_is near more
      go false less = side_left vs ns count c radius best.place best.value i known within s s_is near less

  module _ {last : ℕ} {s0 s1 s2 s3 : Float} (four : FourFaces vs ns count c last s0 s1 s2 s3) where
    last_within : last < count
    last_within = go four.last_is
      where
        go : LastOfFour count last → last < count
        go (inl three) = let is = three.0 in let more = three.1 in omega arith
        go (inr two) = let is = two.0 in let all = two.1 in omega arith

    -- c is out of one of them
    pub one_outside : (above : Bool) → above ≡ some_above radius s0 s1 s2 s3 → above ≡ true
        → SideOf vs ns count c radius None
    one_outside above above_is holds = fourth (or_holds _ _ (sym above_is ∙ holds))
      where
        at_place : (i : ℕ) (s : Float) → i < count → s ≡ out_of_face vs ns c i → lt radius s ≡ true
            → SideOf vs ns count c radius None
        at_place i s within s_is far = outside_at vs ns count c radius i s within s_is far

        second : (lt radius s0 ≡ true) ⊎ (lt radius s1 ≡ true) → SideOf vs ns count c radius None
        second (inl far) = at_place 0 s0 (omega (arith, four.some)) four.s0_is far
        second (inr far) = at_place 1 s1 (omega (arith, four.some)) four.s1_is far

        third : ((lt radius s0 || lt radius s1) ≡ true) ⊎ (lt radius s2 ≡ true) → SideOf vs ns count c radius None
        third (inl far) = second (or_holds _ _ far)
        third (inr far) = at_place 2 s2 (omega (arith, four.some)) four.s2_is far

        fourth : (((lt radius s0 || lt radius s1) || lt radius s2) ≡ true) ⊎ (lt radius s3 ≡ true)
            → SideOf vs ns count c radius None
        fourth (inl far) = third (or_holds _ _ far)
        fourth (inr far) = at_place last s3 last_within four.s3_is far

    abbrev b1 : Best
    b1 = taken (taken no_best 0 s0) 1 s1

    abbrev b2 : Best
    b2 = taken b1 2 s2

    -- c is out of none
    pub four_known : length vs ≡ 8 → length ns ≡ 8 → (above : Bool) → above ≡ some_above radius s0 s1 s2 s3
        → above ≡ false → Known (best_of_four s0 s1 s2 s3) (last + 1)
    four_known vs_eight ns_eight above above_is fails = go four.last_is
      where
        near : some_above radius s0 s1 s2 s3 ≡ false
        near = sym above_is ∙ fails

        three : Known b2 3
        three =
            let fourth = or_fails ((lt radius s0 || lt radius s1) || lt radius s2) (lt radius s3) near in
            let third = or_fails (lt radius s0 || lt radius s1) (lt radius s2) fourth.0 in
            let both = or_fails (lt radius s0) (lt radius s1) third.0 in
            next_known b1 2 s2
            (next_known (taken no_best 0 s0) 1 s1
            (next_known no_best 0 s0
            (sides_begin vs ns count c radius vs_eight ns_eight (omega (arith, four.some)) four.few)
            (omega (arith, four.some)) four.s0_is both.0)
            (omega (arith, four.some)) four.s1_is both.1)
            (omega (arith, four.some)) four.s2_is third.1

        last_near : lt radius s3 ≡ false
        last_near = (or_fails ((lt radius s0 || lt radius s1) || lt radius s2) (lt radius s3) near).1

        go : LastOfFour count last → Known (taken b2 3 s3) (last + 1)
        go (inl at_three) =
            rw at_three.0
            (next_known b2 3 s3 three at_three.1 (four.s3_is ∙ ap (out_of_face vs ns c) at_three.0) last_near)
        go (inr at_two) =
            let same : s3 ≡ s2 = four.s3_is ∙ ap (out_of_face vs ns c) at_two.0 ∙ sym four.s2_is in
            let kept : lt b2.value s3 ≡ false = ap (lt b2.value) same ∙ taken_once b1 2 s2 in
            rw (at_two.0, kept) three
