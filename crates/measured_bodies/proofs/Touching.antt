-- The code's test of two circles is the definition's: no product overflows, and each part is read back as it is. Assumes
-- nothing.
use mathlib.Core.Path.{◌≡◌}
use lib.Dec.{lit≤}
use lib.IntN.{ℤ, ◌+ℤ◌, ◌-ℤ◌, ◌*ℤ◌}
use lib.Signed.{le_z}
use mir.Syntax.{w32}
use mir.Val.{SFits}
use Rattle.algebra.proofs.Signed.{read, Held, sum_fits, sum_held, difference_held, product_fits}
use Rattle.algebra.proofs.Signed.{product_held}
use Rattle.measured_definitions.specs.declared.CirclePair.{CirclePair}
use Rattle.measured_definitions.specs.MeasuredCircles.{circles_touch}
use Rattle.measured_bodies.specs.Widths.{ShortCircle}
use Rattle.measured_bodies.proofs.ReadBack.{hold}

module _ (w : CirclePair) (sa : ShortCircle w.a) (sb : ShortCircle w.b) where
  -- what the code has for dx, dy and reach
  abbrev pub dx' : ℤ
  dx' = read w.b.x -ℤ read w.a.x

  abbrev pub dy' : ℤ
  dy' = read w.b.y -ℤ read w.a.y

  abbrev pub reach' : ℤ
  reach' = read w.a.radius +ℤ read w.b.radius

  dx_held : Held (read dx') (w.b.x -ℤ w.a.x) 2048
  dx_held = difference_held (hold w.b.x sb.x) (hold w.a.x sa.x) (lit≤ tt)

  dy_held : Held (read dy') (w.b.y -ℤ w.a.y) 2048
  dy_held = difference_held (hold w.b.y sb.y) (hold w.a.y sa.y) (lit≤ tt)

  reach_held : Held (read reach') (w.a.radius +ℤ w.b.radius) 2048
  reach_held = sum_held (hold w.a.radius sa.radius) (hold w.b.radius sb.radius) (lit≤ tt)

  pub dx_square_fits : SFits w32 (read dx' *ℤ read dx')
  dx_square_fits = product_fits dx_held dx_held (lit≤ tt)

  pub dy_square_fits : SFits w32 (read dy' *ℤ read dy')
  dy_square_fits = product_fits dy_held dy_held (lit≤ tt)

  pub reach_square_fits : SFits w32 (read reach' *ℤ read reach')
  reach_square_fits = product_fits reach_held reach_held (lit≤ tt)

  pub squares_fit : SFits w32 (read (read dx' *ℤ read dx') +ℤ read (read dy' *ℤ read dy'))
  squares_fit = sum_fits (product_held dx_held dx_held (lit≤ tt)) (product_held dy_held dy_held (lit≤ tt)) (lit≤ tt)

  pub circles_tested : le_z (read (read (read dx' *ℤ read dx') +ℤ read (read dy' *ℤ read dy')))
      (read (read reach' *ℤ read reach')) ≡ circles_touch w
  unfolding circles_touch
  circles_tested =
      let squares = sum_held (product_held dx_held dx_held (lit≤ tt)) (product_held dy_held dy_held (lit≤ tt))
      (lit≤ tt) in
      let reach = product_held reach_held reach_held (lit≤ tt) in
      λ i. le_z (squares.is i) (reach.is i)
