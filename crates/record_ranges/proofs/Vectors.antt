-- Vectors whose coordinates are at most 2^k m in size, and what rotations and placements make of them.
-- Assumes nothing.
use Prim.Native.Nat.{ℕ, suc, ◌+◌}
use lib.Dec.{T, leb}
use lib.Ieee.{Float}
use Rattle.floats.specs.declared.b2_math.B2Rot.{B2Rot}
use Rattle.floats.specs.declared.b2_math.B2Transform.{B2Transform}
use Rattle.floats.specs.declared.b2_math.B2vec2.{B2vec2}
use Rattle.floats.specs.B2Math.{b2_add, b2_sub, b2_neg, b2_scale, b2_dot, b2_mul_rot_by_vec2, b2_mul_t_rot_by_vec2}
use Rattle.floats.specs.B2Math.{b2_mul_transform_by_vec2, b2_mul_t_transform_by_vec2}
use Rattle.contact_definitions.specs.EdgeAxis.{right_of}
use Rattle.record_ranges.proofs.Caps.{Cap, cap_widen, cap_neg, cap_add, cap_sub, cap_mul}

pub record Caps (v : B2vec2) (k : ℕ) : Type 0 where
  pub x_cap : Cap v.x k
  pub y_cap : Cap v.y k

pub caps_widen : {v : B2vec2} (j k : ℕ) → T (leb j k) → Caps v j → Caps v k
caps_widen j k wider h = record { x_cap = cap_widen j k wider h.x_cap; y_cap = cap_widen j k wider h.y_cap }

pub caps_neg : (v : B2vec2) (k : ℕ) → Caps v k → Caps (b2_neg v) k
unfolding b2_neg
caps_neg v k h = record { x_cap = cap_neg k h.x_cap; y_cap = cap_neg k h.y_cap }

pub caps_add : (a b : B2vec2) (k : ℕ) → T (leb (suc k) 100) → Caps a k → Caps b k → Caps (b2_add a b) (suc k)
unfolding b2_add
caps_add a b k low h g =
    record { x_cap = cap_add k low h.x_cap g.x_cap; y_cap = cap_add k low h.y_cap g.y_cap }

pub caps_sub : (a b : B2vec2) (k : ℕ) → T (leb (suc k) 100) → Caps a k → Caps b k → Caps (b2_sub a b) (suc k)
unfolding b2_sub
caps_sub a b k low h g =
    record { x_cap = cap_sub k low h.x_cap g.x_cap; y_cap = cap_sub k low h.y_cap g.y_cap }

pub caps_scale : (s : Float) (v : B2vec2) (j k : ℕ) → T (leb (j + k) 100) → Cap s j → Caps v k
    → Caps (b2_scale s v) (j + k)
unfolding b2_scale
caps_scale s v j k low g h =
    record { x_cap = cap_mul j k low g h.x_cap; y_cap = cap_mul j k low g h.y_cap }

pub cap_dot : (a b : B2vec2) (j k : ℕ) → T (leb (j + k) 100) → T (leb (suc (j + k)) 100) → Caps a j → Caps b k
    → Cap (b2_dot a b) (suc (j + k))
unfolding b2_dot
cap_dot a b j k low more h g =
    cap_add (j + k) more (cap_mul j k low h.x_cap g.x_cap) (cap_mul j k low h.y_cap g.y_cap)

-- ---- rotations with sine and cosine of at most 2^j
pub record Turns (q : B2Rot) (j : ℕ) : Type 0 where
  pub sine : Cap q.s j
  pub cosine : Cap q.c j

module _ (q : B2Rot) (v : B2vec2) (j k : ℕ) (low : T (leb (j + k) 100)) (more : T (leb (suc (j + k)) 100))
    (g : Turns q j) (h : Caps v k) where
  pub caps_turned : Caps (b2_mul_rot_by_vec2 q v) (suc (j + k))
  unfolding b2_mul_rot_by_vec2
  caps_turned = record {
    x_cap = cap_sub (j + k) more (cap_mul j k low g.cosine h.x_cap) (cap_mul j k low g.sine h.y_cap);
    y_cap = cap_add (j + k) more (cap_mul j k low g.sine h.x_cap) (cap_mul j k low g.cosine h.y_cap);
  }

  pub caps_turned_back : Caps (b2_mul_t_rot_by_vec2 q v) (suc (j + k))
  unfolding b2_mul_t_rot_by_vec2
  caps_turned_back = record {
    x_cap = cap_add (j + k) more (cap_mul j k low g.cosine h.x_cap) (cap_mul j k low g.sine h.y_cap);
    y_cap = cap_add (j + k) more (cap_mul j k low (cap_neg j g.sine) h.x_cap)
        (cap_mul j k low g.cosine h.y_cap);
  }

-- ---- placements
pub record Placed (t : B2Transform) (j k : ℕ) : Type 0 where
  pub turn : Turns t.q j
  pub position : Caps t.p k

-- a point carried, where the position is at most as large as the turned point
pub caps_carried : (t : B2Transform) (v : B2vec2) (j k : ℕ) → T (leb (j + k) 100) → T (leb (suc (j + k)) 100)
    → T (leb (suc (suc (j + k))) 100) → Placed t j (suc (j + k)) → Caps v k
    → Caps (b2_mul_transform_by_vec2 t v) (suc (suc (j + k)))
unfolding b2_mul_transform_by_vec2
caps_carried t v j k low more most g h =
    record {
      x_cap = cap_add (suc (j + k)) most
          (cap_sub (j + k) more (cap_mul j k low g.turn.cosine h.x_cap)
          (cap_mul j k low g.turn.sine h.y_cap))
          g.position.x_cap;
      y_cap = cap_add (suc (j + k)) most
          (cap_add (j + k) more (cap_mul j k low g.turn.sine h.x_cap)
          (cap_mul j k low g.turn.cosine h.y_cap))
          g.position.y_cap;
    }

-- and carried back
pub caps_carried_back : (t : B2Transform) (v : B2vec2) (j k : ℕ) → T (leb (suc k) 100) → T (leb (j + suc k) 100)
    → T (leb (suc (j + suc k)) 100) → Placed t j k → Caps v k
    → Caps (b2_mul_t_transform_by_vec2 t v) (suc (j + suc k))
unfolding b2_mul_t_transform_by_vec2
caps_carried_back t v j k low more most g h =
    caps_turned_back t.q (b2_sub v t.p) j (suc k) more most g.turn (caps_sub v t.p k low h g.position)

pub placed_widen : (t : B2Transform) (j k l : ℕ) → T (leb k l) → Placed t j k → Placed t j l
placed_widen t j k l wider h = record { turn = h.turn; position = caps_widen k l wider h.position }

-- the vector on the right of another
pub right_caps : (e : B2vec2) (k : ℕ) → Caps e k → Caps (right_of e) k
unfolding right_of
right_caps e k h = record { x_cap = h.y_cap; y_cap = cap_neg k h.x_cap }
