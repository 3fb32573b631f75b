-- Lengths as fractions of 2^-149 m: values, parts of a metre, sums and differences; and the numbers of demand 3's
-- second sentence. A signed distance d / √t is compared with such a fraction by squares (algebra's OverRootLe).
-- Definitions only.
use Rattle.std.specs.Prelude.{ℕ, ◌*◌}
use Rattle.algebra.specs.Integer.{Z, whole, ◌⊞◌, ◌⊟◌, ◌⊛◌}
use Rattle.rounding.specs.Value.{metre}

-- over / under
pub record Length : Type 0 where
  pub over : Z
  pub under : ℕ

infixl 65 ◌plus◌ ◌less◌
-- a value, as it is
abbrev pub exactly : Z → Length
exactly v = record { over = v; under = 1 }

-- 1/n m
abbrev pub metre_over : ℕ → Length
metre_over n = record { over = whole metre; under = n }

abbrev pub ◌plus◌ : Length → Length → Length
a plus b = record { over = b.under ⊛ a.over ⊞ a.under ⊛ b.over; under = a.under * b.under }

abbrev pub ◌less◌ : Length → Length → Length
a less b = record { over = b.under ⊛ a.over ⊟ a.under ⊛ b.over; under = a.under * b.under }

-- ---- the numbers of the sentence
-- both skins: 0.02 m
abbrev pub both_skins : Length
both_skins = metre_over 50

-- a point, and a world separation, may be off by 1/4096 m
abbrev pub point_tolerance : Length
point_tolerance = metre_over 4096

-- the separation of the face chosen may be off the largest by 1/1024 m
abbrev pub choice_tolerance : Length
choice_tolerance = metre_over 1024
