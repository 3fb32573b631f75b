-- The numbers of document 01, "Numbers a call can be turned down with", in its order. Assumes nothing.
use mathlib.Core.Path.{◌≡◌, refl}
use mathlib.Core.List.{List, [], ◌∷◌}
use Prim.Native.Nat.{ℕ}
use Rattle.shape_definitions.specs.Refusal as refusal

numbers : List ℕ
numbers =
    refusal.accepted ∷ refusal.wrong_number_of_points ∷ refusal.shape_out_of_range
    ∷ refusal.too_few_after_welding ∷ refusal.walk_not_closed ∷ refusal.edge_or_area_too_small
    ∷ refusal.placement_out_of_range ∷ refusal.count_out_of_range ∷ refusal.wall_too_short
    ∷ refusal.contact_out_of_range ∷ refusal.malformed_frame ∷ refusal.unknown_id ∷ refusal.no_shape
    ∷ refusal.pair_not_listed ∷ refusal.unknown_turn ∷ refusal.chain_too_few ∷ refusal.chain_too_near ∷ []

refusal_numbers : numbers ≡ 0 ∷ 1 ∷ 2 ∷ 3 ∷ 4 ∷ 5 ∷ 6 ∷ 7 ∷ 8 ∷ 9 ∷ 10 ∷ 11 ∷ 12 ∷ 13 ∷ 14 ∷ 15 ∷ 16 ∷ []
unfolding numbers
refusal_numbers = refl
