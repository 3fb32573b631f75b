-- The first four places are written. Assumes nothing.
use mathlib.Core.Path.{◌≡◌}
use mathlib.Core.List.{List, [], ◌∷◌}
use native.Mathlib.Omega.{arith}
use lib.ListN.{length, get_or, set}
use Rattle.algebra.specs.Buffer.{over}
use Rattle.algebra.proofs.Buffer.{over_stores}
use Rattle.floats.specs.declared.b2_math.B2vec2.{B2vec2}
use Rattle.shapes.proofs.b2_polygon_shape.put_four.Goals as goal

stored : (new old : List B2vec2) (z : B2vec2) → length new ≡ 4 → length old ≡ 8
    → set (set (set (set old 0 (get_or new 0 z)) 1 (get_or new 1 z)) 2 (get_or new 2 z)) 3 (get_or new 3 z)
    ≡ over new old
stored [] old z four eight = absurd (omega arith)
stored (a ∷ []) old z four eight = absurd (omega arith)
stored (a ∷ b ∷ []) old z four eight = absurd (omega arith)
stored (a ∷ b ∷ c ∷ []) old z four eight = absurd (omega arith)
stored (a ∷ b ∷ c ∷ d ∷ []) old z four eight = over_stores (a ∷ b ∷ c ∷ d ∷ []) old (omega arith)
stored (a ∷ b ∷ c ∷ d ∷ e ∷ new) old z four eight = absurd (omega arith)

pub returns : goal.returns
returns c = stored c.args.first c.args.old _ c.well_formed.1.0.1.0.1 c.well_formed.0.1.0.1
