-- Request 08: the answers to two measured circles and to two measured boxes are right, no other outcome is, and
-- swapping the bodies gives the same. Assumes nothing.
use mathlib.Core.Path.{◌≡◌, sym, ◌∙◌}
use Prim.Native.Nat.{ℕ, ◌<◌}
use native.Mathlib.Omega.{arith}
use Rattle.algebra.specs.Integer.{Z, whole}
use Rattle.algebra.specs.Signed.{number}
use Rattle.algebra.specs.Squares.{above}
use Rattle.measured_definitions.specs.declared.Span.{Span}
use Rattle.measured_definitions.specs.declared.MeasuredCircle.{MeasuredCircle}
use Rattle.measured_definitions.specs.declared.MeasuredBox.{MeasuredBox}
use Rattle.measured_definitions.specs.Spans.{Size, Inside}
use Rattle.measured_definitions.specs.Verdicts.{Kind, Verdict, Right, RightOf, outcome}
use Rattle.measured_definitions.specs.Circles.{circles, circles_verdict}
use Rattle.measured_definitions.specs.Boxes.{boxes, boxes_verdict}
use Rattle.measured_definitions.specs.Laws.{MeasuredLaws}
use Rattle.measured_definitions.specs.MeasuredCircles.{measured_circles}
use Rattle.measured_definitions.specs.MeasuredBoxes.{measured_boxes}
use Rattle.measured_definitions.proofs.Reach.{lowest_in}
use Rattle.measured_definitions.proofs.Circles.{circles_right}
use Rattle.measured_definitions.proofs.Boxes.{boxes_right}
use Rattle.measured_definitions.proofs.OneVerdict.{Lawful, swapped, one_outcome}

-- a size of whole numbers is its own size
size_inside : (s : Span) (v : Z) → Size s → Inside 1 s v → Inside 1 s (whole (above v))
size_inside s v l h =
    let from = l.from in
    let a = h.0 in
    let b = h.1 in
    (omega arith, omega arith)

circles_lawful : Lawful circles
circles_lawful = record {
  inside = λ a w l h. record {
    x = h.x;
    y = h.y;
    radius = size_inside a.radius (number w.radius) l.radius h.radius;
  };
  least = λ a. record { x = a.x.lowest; y = a.y.lowest; radius = a.radius.lowest };
  least_chosen = λ a l. record {
    x = lowest_in a.x l.x.ordered;
    y = lowest_in a.y l.y.ordered;
    radius = lowest_in a.radius l.radius.ordered;
  };
}

boxes_lawful : Lawful boxes
boxes_lawful = record {
  inside = λ a w l h. record {
    x = h.x;
    y = h.y;
    hx = size_inside a.hx (number w.hx) l.hx h.hx;
    hy = size_inside a.hy (number w.hy) l.hy h.hy;
  };
  least = λ a. record { x = a.x.lowest; y = a.y.lowest; hx = a.hx.lowest; hy = a.hy.lowest };
  least_chosen = λ a l. record {
    x = lowest_in a.x l.x.ordered;
    y = lowest_in a.y l.y.ordered;
    hx = lowest_in a.hx l.hx.ordered;
    hy = lowest_in a.hy l.hy.ordered;
  };
}

-- an answer that is right has the other two laws
laws : (k : Kind) → Lawful k → (answer : k.Measured → k.Measured → Verdict k.Whole)
    → ((a b : k.Measured) → Right k a b (answer a b)) → (a b : k.Measured) → MeasuredLaws k answer a b
laws k law answer right a b = record {
  right = right a b;
  only = only;
  swap =
      let turned = swapped k (λ m. 0 < m) b a (answer b a) (right b a) in
      sym turned.1 ∙ only (λ m. 0 < m) (omega arith) turned.0 turned.2;
}
  where
    only : (D : ℕ → Type 0) → D 1 → (v : Verdict k.Whole) → RightOf k D a b v → outcome v ≡ outcome (answer a b)
    only D one v h = one_outcome k law D (λ m. 0 < m) one (omega arith) a b v (answer a b) h (right a b)

pub circles_laws : (a b : MeasuredCircle) → MeasuredLaws circles (λ c d. circles_verdict (measured_circles c d)) a b
circles_laws = laws circles circles_lawful (λ c d. circles_verdict (measured_circles c d)) circles_right

pub boxes_laws : (a b : MeasuredBox) → MeasuredLaws boxes (λ c d. boxes_verdict (measured_boxes c d)) a b
boxes_laws = laws boxes boxes_lawful (λ c d. boxes_verdict (measured_boxes c d)) boxes_right
