-- What keeps an i32 from overflowing: every number chosen is at most 1,024 in size, so differences and sums are at most
-- 2,048, their squares at most 2^22, and the sum of two squares at most 2^23. Definitions only.
use Rattle.std.specs.Prelude.{ℤ}
use Rattle.algebra.specs.Integer.{Abs}
use Rattle.algebra.specs.Signed.{number}
use Rattle.measured_definitions.specs.declared.WholeCircle.{WholeCircle}
use Rattle.measured_definitions.specs.declared.WholeBox.{WholeBox}
use Rattle.measured_definitions.specs.declared.CirclePair.{CirclePair}
use Rattle.measured_definitions.specs.declared.BoxPair.{BoxPair}

abbrev pub Short : ℤ → Type 0
Short x = Abs (number x) 1024

pub record ShortCircle (w : WholeCircle) : Type 0 where
  pub x : Short w.x
  pub y : Short w.y
  pub radius : Short w.radius

pub record ShortBox (w : WholeBox) : Type 0 where
  pub x : Short w.x
  pub y : Short w.y
  pub hx : Short w.hx
  pub hy : Short w.hy

abbrev pub ShortCircles : CirclePair → Type 0
ShortCircles w = ShortCircle w.a × ShortCircle w.b

abbrev pub ShortBoxes : BoxPair → Type 0
ShortBoxes w = ShortBox w.a × ShortBox w.b
