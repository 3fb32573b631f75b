-- The ends of a face are not right of it, by the rounded cross product and whatever the numbers: the product of an
-- edge with a point less itself, or with the edge itself, is a zero or NaN, and neither is below 0. Assumes nothing.
use mathlib.Core.Path.{◌≡◌, subst}
use mathlib.Core.Bool.{false}
use lib.Ieee.{binary32, sub, mul, lt}
use Rattle.rounding.specs.Literals.{zero32}
use Rattle.rounding.proofs.Commutes.{mul_commutes}
use Rattle.rounding.proofs.Null.{Null, null_not_below, sub_itself, mul_null, sub_null}
use Rattle.floats.specs.declared.b2_math.B2vec2.{B2vec2}
use Rattle.floats.specs.B2Math.{b2_sub, b2_cross}

-- ---- the two ends of the face from p along e
pub first_end_not_right : (e p : B2vec2) → lt (b2_cross e (b2_sub p p)) zero32 ≡ false
unfolding b2_cross b2_sub
first_end_not_right e p =
    null_not_below (sub_null (mul_null e.x (sub_itself p.y)) (mul_null e.y (sub_itself p.x)))

pub second_end_not_right : (e : B2vec2) → lt (b2_cross e e) zero32 ≡ false
unfolding b2_cross
second_end_not_right e =
    null_not_below (subst (λ z. Null (sub binary32 (mul binary32 e.x e.y) z)) (mul_commutes e.x e.y)
    (sub_itself (mul binary32 e.x e.y)))
