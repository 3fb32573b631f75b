-- The four outcomes exclude each other, whichever bodies they speak of, where there is a choice inside the limits; and
-- whether bodies share a point does not depend on their order. So an outcome that is right of the whole numbers is the
-- only one, also with the bodies swapped. Assumes nothing.
use mathlib.Core.Path.{◌≡◌, refl}
use Prim.Native.Nat.{ℕ}
use Rattle.measured_definitions.specs.Bodies.{Body, SharePoint}
use Rattle.measured_definitions.specs.Verdicts.{Kind, Verdict, refused, surely_touching, surely_apart, either}
use Rattle.measured_definitions.specs.Verdicts.{RightOf, outcome}

-- a choice is one of the bodies inside, and there is one
pub record Lawful (k : Kind) : Type 0 where
  pub inside : (a : k.Measured) (w : k.Whole) → k.Limits a → k.Choice a w → k.Inside a 1 (k.exact w)
  pub least : k.Measured → k.Whole
  pub least_chosen : (a : k.Measured) → k.Limits a → k.Choice a (least a)

share_swap : {a b : Body} → SharePoint a b → SharePoint b a
share_swap s = record {
  scale = s.scale;
  point = s.point;
  positive = s.positive;
  in_a = s.in_b;
  in_b = s.in_a;
}

pub swapped : (k : Kind) (D : ℕ → Type 0) (a b : k.Measured) (v : Verdict k.Whole) → RightOf k D a b v
    → (w : Verdict k.Whole) × (outcome w ≡ outcome v) × RightOf k D b a w
swapped k D a b (refused n) h = (refused n, refl, (h.0, λ l. h.1 (l.1, l.0)))
swapped k D a b surely_touching h =
    (surely_touching, refl, ((h.0.1, h.0.0), λ m d c m_in d_in c_in. share_swap (h.1 m c d m_in c_in d_in)))
swapped k D a b surely_apart h =
    (surely_apart, refl, ((h.0.1, h.0.0), λ m d c m_in d_in c_in s. h.1 m c d m_in c_in d_in (share_swap s)))
swapped k D a b (either v w v' w') h = (
  either w v w' v',
  refl,
  (
    (h.0.1, h.0.0),
    (h.1.1, h.1.0, share_swap h.1.2),
    (h.2.1, h.2.0, λ s. h.2.2 (share_swap s)),
  ),
)

-- what holds of every two bodies holds of two choices
module _ (k : Kind) (law : Lawful k) (D : ℕ → Type 0) (one : D 1) (a b : k.Measured) (v w : k.Whole)
    (v_in : k.Choice a v) (w_in : k.Choice b w) where
  choices_touch : RightOf k D a b surely_touching → SharePoint (k.points (k.exact v)) (k.points (k.exact w))
  choices_touch h =
      h.1 1 (k.exact v) (k.exact w) one (law.inside a v h.0.0 v_in) (law.inside b w h.0.1 w_in)

  choices_apart : RightOf k D a b surely_apart → ¬ SharePoint (k.points (k.exact v)) (k.points (k.exact w))
  choices_apart h =
      h.1 1 (k.exact v) (k.exact w) one (law.inside a v h.0.0 v_in) (law.inside b w h.0.1 w_in)

-- D and E hold of the denominator 1
module _ (k : Kind) (law : Lawful k) (D E : ℕ → Type 0) (d_one : D 1) (e_one : E 1) (a b : k.Measured) where
  not_both : RightOf k D a b surely_touching → RightOf k E a b surely_apart → ⊥
  not_both h l =
      let v = law.least_chosen a h.0.0 in
      let w = law.least_chosen b h.0.1 in
      choices_apart k law E e_one a b _ _ v w l (choices_touch k law D d_one a b _ _ v w h)

pub one_outcome : (k : Kind) (law : Lawful k) (D E : ℕ → Type 0) (d_one : D 1) (e_one : E 1) (a b : k.Measured)
    (v w : Verdict k.Whole) → RightOf k D a b v → RightOf k E a b w → outcome v ≡ outcome w
one_outcome k law D E d e a b (refused n) (refused m) h l = refl
one_outcome k law D E d e a b (refused n) surely_touching h l = absurd (h.1 l.0)
one_outcome k law D E d e a b (refused n) surely_apart h l = absurd (h.1 l.0)
one_outcome k law D E d e a b (refused n) (either v w v' w') h l = absurd (h.1 l.0)
one_outcome k law D E d e a b surely_touching (refused n) h l = absurd (l.1 h.0)
one_outcome k law D E d e a b surely_touching surely_touching h l = refl
one_outcome k law D E d e a b surely_touching surely_apart h l = absurd (not_both k law D E d e a b h l)
one_outcome k law D E d e a b surely_touching (either v w v' w') h l =
    absurd (l.2.2 (choices_touch k law D d a b v' w' l.2.0 l.2.1 h))
one_outcome k law D E d e a b surely_apart (refused n) h l = absurd (l.1 h.0)
one_outcome k law D E d e a b surely_apart surely_touching h l = absurd (not_both k law E D e d a b l h)
one_outcome k law D E d e a b surely_apart surely_apart h l = refl
one_outcome k law D E d e a b surely_apart (either v w v' w') h l =
    absurd (choices_apart k law D d a b v w l.1.0 l.1.1 h l.1.2)
one_outcome k law D E d e a b (either v w v' w') (refused n) h l = absurd (l.1 h.0)
one_outcome k law D E d e a b (either v w v' w') surely_touching h l =
    absurd (h.2.2 (choices_touch k law E e a b v' w' h.2.0 h.2.1 l))
one_outcome k law D E d e a b (either v w v' w') surely_apart h l =
    absurd (choices_apart k law E e a b v w h.1.0 h.1.1 l h.1.2)
one_outcome k law D E d e a b (either v w v' w') (either x y x' y') h l = refl
