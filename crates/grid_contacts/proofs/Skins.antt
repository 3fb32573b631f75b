-- The constants of outline contacts in metres: two skins are 0.02 m, short of it by less than a tick; the tolerance by
-- which B must exceed A is at most 263 / 2^19 m. So, of two numbers that the axis search found: what it means that both
-- pass the test of the skins, and that one of them is the reference's. Assumes nothing.
use mathlib.Core.Bool.{not}
use Prim.Native.Nat.{ℕ, ◌+◌, ◌*◌, ◌^◌}
use native.Mathlib.Omega.{arith}
use lib.Dec.{T, lit≤}
use lib.Ieee.{Float, binary32, add, lt}
use Rattle.algebra.specs.Integer.{Z, whole, ◌⊞◌, ◌⊟◌, ◌⊛◌, ◌≐◌, ◌≼◌, ◌≺◌, Abs}
use Rattle.rounding.specs.Value.{metre, tick, F32, val}
use Rattle.rounding.proofs.Value.{metre_ticks}
use Rattle.rounding.proofs.Sized.{Sized, sum_sized}
use Rattle.rounding.proofs.Caps.{Capped}
use Rattle.rounding.proofs.Dyadic.{Dyadic, exact_add}
use Rattle.rounding.proofs.Literals.{bits_dyadic}
use Rattle.rounding.proofs.Comparison.{lt_val, not_lt_val}
use Rattle.floats.specs.B2Common.{b2_polygon_radius}
use Rattle.floats.proofs.Constants.{skin_count, skin_is}
use Rattle.contact_definitions.specs.B2CollidePolygon.{tolerance}
use Rattle.grid_contacts.specs.Lengths.{exactly, both_skins}
use Rattle.grid_contacts.proofs.Distances.{LengthLe}
use Rattle.grid_contacts.proofs.FaceDistance.{separation_metres}

-- ---- the skins, by value: at most 0.02 m
abbrev pub WithinSkins : Z → Type 0
WithinSkins v = LengthLe (exactly v) both_skins

-- r is 0.02 m, short of it by less than a tick
pub record BothSkins (r : Z) : Type 0 where
  pub at_most : WithinSkins r
  pub at_least : both_skins.over ≼ both_skins.under ⊛ r ⊞ whole tick

pub skins : BothSkins (val b2_polygon_radius ⊞ val b2_polygon_radius)
skins = go (val b2_polygon_radius) skin_is.is
  where
    go : (v : Z) → 2 ^ 29 ⊛ v ≐ metre ⊛ whole skin_count → BothSkins (v ⊞ v)
    go v e = let t = metre_ticks in record { at_most = omega arith; at_least = omega arith }

pub skin_capped : Capped b2_polygon_radius 1
skin_capped = record { own = skin_is.own; cap = go (val b2_polygon_radius) skin_is.is }
  where
    go : (v : Z) → 2 ^ 29 ⊛ v ≐ metre ⊛ whole skin_count → Abs v (1 * metre)
    go v e = omega arith

-- ---- their sum in f32
abbrev pub two_skins : Float
two_skins = add binary32 b2_polygon_radius b2_polygon_radius

two_skins_is : Dyadic two_skins (whole (skin_count + skin_count)) 29
two_skins_is = exact_add 29 tt skin_is skin_is (lit≤ tt, lit≤ tt)

two_skins_most : WithinSkins (val two_skins)
two_skins_most = go (val two_skins) two_skins_is.is
  where
    go : (v : Z) → 2 ^ 29 ⊛ v ≐ metre ⊛ whole (skin_count + skin_count) → WithinSkins v
    go v e = omega arith

pub two_skins_capped : Capped two_skins 1
two_skins_capped = record { own = two_skins_is.own; cap = go (val two_skins) two_skins_is.is }
  where
    go : (v : Z) → 2 ^ 29 ⊛ v ≐ metre ⊛ whole (skin_count + skin_count) → Abs v (1 * metre)
    go v e = omega arith

-- a number that is not above two skins
pub in_reach : (s : Float) → F32 s → T (not (lt two_skins s)) → WithinSkins (val s)
in_reach s s_f32 t = go (val s) (val two_skins) two_skins_most (not_lt_val two_skins_is.own s_f32 t)
  where
    go : (s t : Z) → WithinSkins t → s ≼ t → WithinSkins s
    go s t h k = omega arith

-- ---- the tolerance, 8589935/2^34
abbrev tolerance_count : ℕ
tolerance_count = 8589935

abbrev tolerance_bound : ℕ
tolerance_bound = 263 * 2 ^ 6 * tick

-- with the rounding of a sum of at most 64 m
abbrev pub choice_error : ℕ
choice_error = tolerance_bound + 2 ^ 6 * tick

record Tolerance (v : Z) : Type 0 where
  not_negative : whole 0 ≼ v
  most : Abs v tolerance_bound
  small : Abs v (1 * metre)

tolerance_is : Dyadic tolerance (whole tolerance_count) 34
tolerance_is = bits_dyadic 0x3a03_126f tolerance_count 34 tt tt

tolerance_bounds : Tolerance (val tolerance)
tolerance_bounds = go (val tolerance) tolerance_is.is
  where
    go : (v : Z) → 2 ^ 34 ⊛ v ≐ metre ⊛ whole tolerance_count → Tolerance v
    go v e = let t = metre_ticks in record { not_negative = omega arith; most = omega arith; small = omega arith }

-- ---- which outline is the reference, of separations a and b
module _ {a b : Float} (a_cap : Capped a separation_metres) (b_cap : Capped b separation_metres) where
  abbrev sum : Float
  sum = add binary32 a tolerance

  sum_near : Sized sum (val a ⊞ val tolerance) 6 (separation_metres + 1)
  sum_near =
      sum_sized 6 separation_metres 1 tt tt a_cap (record { own = tolerance_is.own; cap = tolerance_bounds.small })

  -- A: b is at most a, the tolerance and a rounding
  pub a_is_reference : T (not (lt sum b)) → val b ≼ val a ⊞ whole choice_error
  a_is_reference t =
      go (val sum) (val a) (val b) (val tolerance) (not_lt_val sum_near.capped.own b_cap.own t) sum_near.err
      tolerance_bounds.most
    where
      go : (z a b k : Z) → b ≼ z → Abs (z ⊟ (a ⊞ k)) (2 ^ 6 * tick) → Abs k tolerance_bound → b ≼ a ⊞ whole choice_error
      go z a b k h e l = omega arith

  -- B: a is below b
  pub b_is_reference : T (lt sum b) → val a ≼ val b ⊞ whole choice_error
  b_is_reference t =
      go (val sum) (val a) (val b) (val tolerance) (lt_val sum_near.capped.own b_cap.own t) sum_near.err
      tolerance_bounds.not_negative
    where
      go : (z a b k : Z) → z ≺ b → Abs (z ⊟ (a ⊞ k)) (2 ^ 6 * tick) → whole 0 ≼ k → a ≼ b ⊞ whole choice_error
      go z a b k h e l = omega arith
