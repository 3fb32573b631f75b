-- `square_root` returns what the step gave. Assumes nothing.
use Rattle.std.proofs.Common.{◌≡◌, sym, ap, ◌∙◌}
use lib.Ieee.{Float, binary32}
use Rattle.sqrt.specs.declared.root.Rooted.{Rooted}
use Rattle.sqrt.specs.Sqrt.{root_by_steps, root_of, sqrt}
use Rattle.sqrt.proofs.root.square_root.Goals as goal

given_root : (x : Float) (given answer : Rooted) → answer ≡ given → answer ≡ root_by_steps binary32 x
    → root_of given ≡ sqrt binary32 x
unfolding sqrt
given_root x given answer same is = ap root_of (sym same ∙ is)

pub returns-in-Special : goal.returns-in-Special
returns-in-Special c = given_root _ _ _ c.in-Special.is c.root_by_steps.ensures

pub returns-in-Exact : goal.returns-in-Exact
returns-in-Exact c = given_root _ _ _ c.in-Exact.is c.root_by_steps.ensures

pub returns-in-Rounded : goal.returns-in-Rounded
returns-in-Rounded c = given_root _ _ _ c.in-Rounded.is c.root_by_steps.ensures
