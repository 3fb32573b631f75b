-- `special_root` gives what the definition gives. Assumes nothing.
use Rattle.std.proofs.Common.{◌≡◌, true, T, sym, ◌∙◌, subst}
use lib.Ieee.{Float, binary32, fits}
use Rattle.rounding.proofs.Nan.{zero_over_zero}
use Rattle.sqrt.proofs.StepTests.{below_gives, own_gives}
use Rattle.sqrt.proofs.root.special_root.Goals as goal

is_f32 : (x : Float) → fits binary32 x ≡ true → T (fits binary32 x)
is_f32 x is = subst T (sym is) tt

pub returns-then-x : goal.returns-then-x
returns-then-x c = zero_over_zero ∙ below_gives _ c.if-x.true

pub returns-else-x : goal.returns-else-x
returns-else-x c = own_gives _ (is_f32 _ c.well_formed.0.1) c.requires c.if-x.false
