-- When a verdict on two measured bodies is right, said once for circles and boxes. Definitions only.
use Rattle.std.specs.Prelude.{◌≡◌, ℕ, ◌<◌}
use Rattle.shape_definitions.specs.Refusal.{measure_out_of_limits}
use Rattle.measured_definitions.specs.Bodies.{Body, SharePoint}

-- A kind of bodies: what is measured and its limits; the exact bodies inside its ranges, whose numbers are fractions
-- with a denominator; a choice of whole numbers inside them; and the points of a body.
pub record Kind : Type 1 where
  pub Measured : Type 0
  pub Exact : Type 0
  pub Whole : Type 0
  pub Limits : Measured → Type 0
  pub Inside : Measured → ℕ → Exact → Type 0
  pub Choice : Measured → Whole → Type 0
  pub exact : Whole → Exact
  pub points : Exact → Body

-- the number of a refusal, or a verdict; either has two choices, of A and of B, that touch, and then two that are apart
pub data Verdict (Whole : Type 0) : Type 0 where
  refused : ℕ → Verdict Whole
  surely_touching : Verdict Whole
  surely_apart : Verdict Whole
  either : Whole → Whole → Whole → Whole → Verdict Whole

-- of bodies with these denominators
module _ (k : Kind) (Denominator : ℕ → Type 0) (a b : k.Measured) where
  abbrev pub BothLimits : Type 0
  BothLimits = k.Limits a × k.Limits b

  abbrev pub Meets : k.Exact → k.Exact → Type 0
  Meets c d = SharePoint (k.points c) (k.points d)

  -- every two bodies inside the ranges
  abbrev pub Touching : Type 0
  Touching = (m : ℕ) (c d : k.Exact) → Denominator m → k.Inside a m c → k.Inside b m d → Meets c d

  abbrev pub Apart : Type 0
  Apart = (m : ℕ) (c d : k.Exact) → Denominator m → k.Inside a m c → k.Inside b m d → ¬ Meets c d

  -- two choices inside them
  abbrev pub TouchingChoice : k.Whole → k.Whole → Type 0
  TouchingChoice v w = k.Choice a v × k.Choice b w × Meets (k.exact v) (k.exact w)

  abbrev pub ApartChoice : k.Whole → k.Whole → Type 0
  ApartChoice v w = k.Choice a v × k.Choice b w × (¬ Meets (k.exact v) (k.exact w))

  -- 17 where a number of A or B is out of its limits, and nowhere else
  abbrev pub RightOf : Verdict k.Whole → Type 0
  RightOf (refused n) = (n ≡ measure_out_of_limits) × (¬ BothLimits)
  RightOf surely_touching = BothLimits × Touching
  RightOf surely_apart = BothLimits × Apart
  RightOf (either v w v' w') = BothLimits × TouchingChoice v w × ApartChoice v' w'

-- of every fraction; the whole numbers have the denominator 1, and any two bodies one in common
abbrev pub Right : (k : Kind) → k.Measured → k.Measured → Verdict k.Whole → Type 0
Right k a b v = RightOf k (λ m. 0 < m) a b v

-- ---- the verdict alone, without its number and its choices
pub data Outcome : Type 0 where
  turned_down : Outcome
  touching : Outcome
  apart : Outcome
  undecided : Outcome

abbrev pub outcome : {Whole : Type 0} → Verdict Whole → Outcome
outcome (refused n) = turned_down
outcome surely_touching = touching
outcome surely_apart = apart
outcome (either v w v' w') = undecided
