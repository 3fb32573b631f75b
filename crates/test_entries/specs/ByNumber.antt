-- Which entry answers under a number: 1 to 6 make and test shapes, 7 to 14 are contact calls; none under another.
-- Definitions only.
use Rattle.std.specs.Prelude.{ℕ, cond, List, [], eqb}
use Rattle.test_entries.specs.Outlines.{set_answer, box_answer, box_angle_answer, validate_answer}
use Rattle.test_entries.specs.Walls.{one_sided_answer, two_sided_answer}
use Rattle.test_entries.specs.Pairs.{circles_answer, polygon_and_circle_answer, polygons_answer}
use Rattle.test_entries.specs.Pairs.{edge_and_circle_answer, edge_and_polygon_answer}
use Rattle.test_entries.specs.Points.{clip_answer, world_points_answer, point_states_answer}

unfoldable pub shape_answer : ℕ → List ℕ → List ℕ
shape_answer entry request =
    cond (eqb entry 1) (set_answer request)
    (cond (eqb entry 2) (box_answer request)
    (cond (eqb entry 3) (box_angle_answer request)
    (cond (eqb entry 4) (validate_answer request)
    (cond (eqb entry 5) (one_sided_answer request)
    (cond (eqb entry 6) (two_sided_answer request)
    [])))))

unfoldable pub contact_answer : ℕ → List ℕ → List ℕ
contact_answer entry request =
    cond (eqb entry 7) (circles_answer request)
    (cond (eqb entry 8) (polygon_and_circle_answer request)
    (cond (eqb entry 9) (polygons_answer request)
    (cond (eqb entry 10) (edge_and_circle_answer request)
    (cond (eqb entry 11) (edge_and_polygon_answer request)
    (cond (eqb entry 12) (clip_answer request)
    (cond (eqb entry 13) (world_points_answer request)
    (cond (eqb entry 14) (point_states_answer request)
    [])))))))
