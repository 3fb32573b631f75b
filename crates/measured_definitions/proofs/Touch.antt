-- When exact bodies share a point: two discs where their centres are no farther apart than both radii together, by
-- squares; two boxes where this holds of the half-widths on each axis. Assumes nothing.
use mathlib.Core.Path.{◌≡◌, refl, subst}
use Prim.Native.Nat.{ℕ, ◌+◌, ◌*◌, ◌<◌}
use native.Mathlib.Nat.{mul-pos}
use native.Mathlib.Decide.{dec_le, dec_lt}
use native.Mathlib.Omega.{arith}
use Rattle.algebra.specs.Integer.{Z, whole, ◌⊞◌, ◌⊟◌, ◌⊛◌, ◌≐◌, ◌≼◌, Abs}
use Rattle.algebra.specs.Plane.{Point, times, from_to, dot}
use Rattle.algebra.proofs.Integer.{le_resp, multiple_cancel, multiple_mono}
use Rattle.algebra.proofs.Products.{product_same}
use Rattle.algebra.proofs.Magnitude.{abs_unscale}
use Rattle.algebra.proofs.Plane.{dot_same, length_not_negative, zero_of_length}
use Rattle.algebra.proofs.Triangle.{triangle, dot_times}
use Rattle.measured_definitions.specs.Bodies.{SharePoint, Disc, disc, Box, box}

abbrev pub DiscsMeet : Disc → Disc → Type 0
DiscsMeet c d = let v = from_to c.centre d.centre in
    dot v v ≼ whole ((c.radius + d.radius) * (c.radius + d.radius))

abbrev pub BoxesMeet : Box → Box → Type 0
BoxesMeet b d = let v = from_to b.centre d.centre in
    Abs v.x (b.hx + d.hx) × Abs v.y (b.hy + d.hy)

-- ---- discs
pub discs_meet : (c d : Disc) → SharePoint (disc c) (disc d) → DiscsMeet c d
discs_meet c d s =
    let n = s.scale in
    let u = from_to (times n c.centre) s.point in
    let w = from_to (times n d.centre) s.point in
    let v = from_to c.centre d.centre in
    let e = from_to w u in
    multiple_cancel (n * n) (dot v v) (whole ((c.radius + d.radius) * (c.radius + d.radius)))
    (mul-pos s.positive s.positive)
    (scaled n c.radius d.radius (dot e e) (dot (times n v) (times n v)) (dot v v)
    (dot_same e (times n v) e (times n v) (omega arith) (omega arith)) (dot_times n v)
    (triangle u w (n * c.radius) (n * d.radius) s.in_a s.in_b))
  where
    scaled : (n r t : ℕ) (e f g : Z) → e ≐ f → f ≐ (n * n) ⊛ g → e ≼ whole ((n * r + n * t) * (n * r + n * t))
        → (n * n) ⊛ g ≼ (n * n) ⊛ whole ((r + t) * (r + t))
    scaled n r t e f g ef fg h = omega arith

-- the point that divides the way between the centres as the radii do
module _ (c d : Disc) where
  between : Point
  between = record {
    x = d.radius ⊛ c.centre.x ⊞ c.radius ⊛ d.centre.x;
    y = d.radius ⊛ c.centre.y ⊞ c.radius ⊛ d.centre.y;
  }

pub discs_share : (c d : Disc) → DiscsMeet c d → SharePoint (disc c) (disc d)
unfolding between
discs_share c d h = elim (dec_lt 0 (c.radius + d.radius)) [
  | yes positive ↦
      let n = c.radius + d.radius in
      let v = from_to c.centre d.centre in
      let back = from_to d.centre c.centre in
      record {
        scale = n;
        point = between c d;
        positive = positive;
        in_a = reach n c.radius (from_to (times n c.centre) (between c d)) v (omega arith, omega arith) h;
        in_b = reach n d.radius (from_to (times n d.centre) (between c d)) back (omega arith, omega arith)
            (le_resp (dot v v) (dot back back) (whole (n * n)) (whole (n * n)) (omega arith) refl h);
      }
  | no zero ↦
      let v = from_to c.centre d.centre in
      let same = zero_of_length v (flat (dot v v) (c.radius + d.radius) (omega arith) (length_not_negative v) h) in
      record {
        scale = 1;
        point = c.centre;
        positive = omega arith;
        in_a = omega arith;
        in_b = at_zero (from_to (times 1 d.centre) c.centre) (omega arith) (omega arith) (1 * d.radius);
      }
]
  where
    -- u = r v, and |v| ≤ n
    reach : (n r : ℕ) (u v : Point) → (u.x ≐ r ⊛ v.x) × (u.y ≐ r ⊛ v.y) → dot v v ≼ whole (n * n)
        → dot u u ≼ whole ((n * r) * (n * r))
    reach n r u v same h =
        by (dot u u) (dot (times r v) (times r v)) (dot v v) (dot_same u (times r v) u (times r v) same same)
        (dot_times r v) h
      where
        by : (u f v : Z) → u ≐ f → f ≐ (r * r) ⊛ v → v ≼ whole (n * n) → u ≼ whole ((n * r) * (n * r))
        by u f v uf fv h = let m = multiple_mono (r * r) v (whole (n * n)) h in omega arith

    flat : (v : Z) (n : ℕ) → n ≡ 0 → whole 0 ≼ v → v ≼ whole (n * n) → v ≐ whole 0
    flat v n e nn h = let z : v ≼ whole (0 * 0) = subst (λ (k : ℕ). v ≼ whole (k * k)) e h in omega arith

    at_zero : (u : Point) → u.x ≐ whole 0 → u.y ≐ whole 0 → (r : ℕ) → dot u u ≼ whole (r * r)
    at_zero u x y r =
        let xx = product_same u.x (whole 0) u.x (whole 0) x x in
        let yy = product_same u.y (whole 0) u.y (whole 0) y y in
        omega arith

-- ---- boxes
pub boxes_meet : (b d : Box) → SharePoint (box b) (box d) → BoxesMeet b d
boxes_meet b d s = (
  axis s.scale b.centre.x d.centre.x s.point.x b.hx d.hx s.positive s.in_a.0 s.in_b.0,
  axis s.scale b.centre.y d.centre.y s.point.y b.hy d.hy s.positive s.in_a.1 s.in_b.1,
)
  where
    axis : (n : ℕ) (b d p : Z) (h k : ℕ) → 0 < n → Abs (p ⊟ n ⊛ b) (n * h) → Abs (p ⊟ n ⊛ d) (n * k)
        → Abs (d ⊟ b) (h + k)
    axis n b d p h k n_pos hb hd = abs_unscale n (h + k) (d ⊟ b) n_pos (omega arith)

-- a number in both
record OnAxis (b d : Z) (h k : ℕ) : Type 0 where
  at : Z
  near_b : Abs (at ⊟ 1 ⊛ b) (1 * h)
  near_d : Abs (at ⊟ 1 ⊛ d) (1 * k)

on_axis : (b d : Z) (h k : ℕ) → Abs (d ⊟ b) (h + k) → OnAxis b d h k
on_axis b d h k near = elim (dec_le (d.0 + b.1 + h) (b.0 + d.1 + k)) [
  | yes le ↦ record { at = b ⊟ whole h; near_b = omega arith; near_d = omega arith }
  | no gt ↦ record { at = d ⊟ whole k; near_b = omega arith; near_d = omega arith }
]

pub boxes_share : (b d : Box) → BoxesMeet b d → SharePoint (box b) (box d)
boxes_share b d h =
    let x = on_axis b.centre.x d.centre.x b.hx d.hx h.0 in
    let y = on_axis b.centre.y d.centre.y b.hy d.hy h.1 in
    record {
      scale = 1;
      point = record { x = x.at; y = y.at };
      positive = omega arith;
      in_a = (x.near_b, y.near_b);
      in_b = (x.near_d, y.near_d);
    }
