-- By the test of the squared distance, found from B to A; where it is above 2^-46, normalising acts. Assumes nothing.
use mathlib.Core.Path.{◌≡◌, refl, sym, ap, ◌∙◌}
use mathlib.Core.Bool.{true}
use lib.Ieee.{Float, lt}
use Rattle.floats.specs.declared.b2_math.B2vec2.{B2vec2}
use Rattle.floats.specs.B2Common.{epsilon_squared}
use Rattle.floats.specs.B2Math.{b2_sub, b2_dot, b2_sqrt, b2_length_squared, b2_distance_vec2_squared, times_reciprocal}
use Rattle.floats.proofs.Turned.{long_is}
use Rattle.contact_definitions.specs.WorldManifold.{circles_normal}
use Rattle.collision.proofs.Distance.{distance_from_either}
use Rattle.collision.proofs.world_points.circles_normal.Goals as goal

module _ (a b d : B2vec2) (q : Float) (d_is : d ≡ b2_sub b a) (q_is : q ≡ b2_dot d d) where
  squared : b2_distance_vec2_squared a b ≡ q
  squared = distance_from_either a b ∙ ap (λ (v : B2vec2). b2_dot v v) (sym d_is) ∙ sym q_is

  length_is : q ≡ b2_length_squared d
  unfolding b2_dot b2_length_squared
  length_is = q_is

  apart : lt epsilon_squared q ≡ true → (root : Float) → root ≡ b2_sqrt q → times_reciprocal d root ≡ circles_normal a b
  unfolding circles_normal
  apart long root root_is = long_is d q length_is long root root_is ∙ rw (squared, long, d_is) refl

pub returns-then-squared : goal.returns-then-squared
returns-then-squared c =
    apart _ _ _ _ c.b2_sub-d.ensures c.b2_dot-squared.ensures c.if-squared.true _ c.b2_sqrt-inv_length.ensures

pub returns : goal.returns
unfolding circles_normal
returns c =
    simp (squared _ _ _ _ c.b2_sub-d.ensures c.b2_dot-squared.ensures, c.if-squared.false)
