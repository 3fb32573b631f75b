-- The squares are compared; nothing overflows. Assumes nothing.
use Rattle.measured_bodies.proofs.Touching.{dx_square_fits, dy_square_fits}
use Rattle.measured_bodies.proofs.Touching.{squares_fit, reach_square_fits, circles_tested}
use Rattle.measured_bodies.proofs.circles.MeasuredCircleMeasured.touch.Goals as goal

pub overflow_mul-result : goal.overflow_mul-result
overflow_mul-result c = dx_square_fits c.args.pair c.requires.0 c.requires.1

pub overflow_mul-result-2 : goal.overflow_mul-result-2
overflow_mul-result-2 c = dy_square_fits c.args.pair c.requires.0 c.requires.1

pub overflow_add-result : goal.overflow_add-result
overflow_add-result c = squares_fit c.args.pair c.requires.0 c.requires.1

pub overflow_mul-result-3 : goal.overflow_mul-result-3
overflow_mul-result-3 c = reach_square_fits c.args.pair c.requires.0 c.requires.1

pub returns : goal.returns
returns c = circles_tested c.args.pair c.requires.0 c.requires.1
