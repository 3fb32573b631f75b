-- Points near a face, by coordinates: a point near the place (s begin + t end) / k of the face stays near when it is
-- moved a little, is not farther out than the ends, and so is a point between two of them. Assumes nothing.
use mathlib.Core.Path.{◌≡◌, refl, sym, ap, ◌∙◌}
use Prim.Native.Nat.{ℕ, ◌+◌, ◌*◌, ◌≤◌, ◌<◌}
use native.Mathlib.Nat.{mul-add, mul-le-mul_left, mul-pos}
use native.Mathlib.Omega.{arith}
use lib.Dec.{lit<}
use Rattle.algebra.specs.Integer.{Z, ◌⊞◌, ◌⊟◌, ◌⊛◌, ◌≐◌, Abs}
use Rattle.algebra.specs.Plane.{Point, SameVector, PointAbs, from_to}
use Rattle.algebra.proofs.Magnitude.{abs_widen, abs_same, abs_scale, abs_unscale, abs_sum_is, abs_sum3_is}
use Rattle.rounding.specs.Value.{metre}
use Rattle.rounding.proofs.Value.{metre_pos}
use Rattle.grid_contacts.specs.Faces.{Face}

-- k times the way to x from the point (s begin + t end) / k of f
abbrev pub way : ℕ → ℕ → ℕ → Face → Point → Point
way k s t f x = record {
  x = k ⊛ x.x ⊟ (s ⊛ f.begin.x ⊞ t ⊛ f.end.x);
  y = k ⊛ x.y ⊟ (s ⊛ f.begin.y ⊞ t ⊛ f.end.y);
}

-- x is within e of such a point, in each coordinate
pub record NearSegment (e k : ℕ) (f : Face) (x : Point) : Type 0 where
  pub s : ℕ
  pub t : ℕ
  pub parts : s + t ≡ k
  pub some : 0 < k
  pub near : PointAbs (way k s t f x) (k * e)

-- both ends are at most n in size
pub record FaceAbs (f : Face) (n : ℕ) : Type 0 where
  pub begin_most : PointAbs f.begin n
  pub end_most : PointAbs f.end n

-- ---- the ends themselves
pub near_begin : (f : Face) (x : Point) → SameVector x f.begin → NearSegment 0 1 f x
near_begin f x e = record { s = 1; t = 0; parts = refl; some = lit< tt; near = (omega arith, omega arith) }

pub near_end : (f : Face) (x : Point) → SameVector x f.end → NearSegment 0 1 f x
near_end f x e = record { s = 0; t = 1; parts = refl; some = lit< tt; near = (omega arith, omega arith) }

-- ---- at a finer scale, with a larger error
pub near_finer : {e k : ℕ} {f : Face} {x : Point} (e' m : ℕ) → e ≤ e' → 0 < m → NearSegment e k f x
    → NearSegment e' (m * k) f x
near_finer {e} {k} {f} {x} e' m wider m_pos h = record {
  s = m * h.s;
  t = m * h.t;
  parts = sym (mul-add m h.s h.t) ∙ ap (λ (n : ℕ). m * n) h.parts;
  some = mul-pos m_pos h.some;
  near = (
    go f.begin.x f.end.x x.x h.near.0,
    go f.begin.y f.end.y x.y h.near.1,
  );
}
  where
    go : (p q x : Z) → Abs (k ⊛ x ⊟ (h.s ⊛ p ⊞ h.t ⊛ q)) (k * e)
        → Abs ((m * k) ⊛ x ⊟ ((m * h.s) ⊛ p ⊞ (m * h.t) ⊛ q)) (m * k * e')
    go p q x near =
        let w = k ⊛ x ⊟ (h.s ⊛ p ⊞ h.t ⊛ q) in
        let w' = (m * k) ⊛ x ⊟ ((m * h.s) ⊛ p ⊞ (m * h.t) ⊛ q) in
        abs_widen w' (m * (k * e)) (m * k * e')
        (abs_same (m ⊛ w) w' (m * (k * e)) (scaled p q x h.s h.t) (abs_scale m (k * e) w near))
        (let l : m * k * e ≤ m * k * e' = mul-le-mul_left (m * k) wider in omega arith)
      where
        scaled : (p q x : Z) (s t : ℕ) → m ⊛ (k ⊛ x ⊟ (s ⊛ p ⊞ t ⊛ q)) ≐ (m * k) ⊛ x ⊟ ((m * s) ⊛ p ⊞ (m * t) ⊛ q)
        scaled p q x s t = omega arith

-- ---- no farther out than the ends, but for e
pub segment_size : {e k : ℕ} {f : Face} {x : Point} (n : ℕ) → FaceAbs f n → NearSegment e k f x → PointAbs x (n + e)
segment_size {e} {k} {f} {x} n most h = (
  go f.begin.x f.end.x x.x most.begin_most.0 most.end_most.0 h.near.0,
  go f.begin.y f.end.y x.y most.begin_most.1 most.end_most.1 h.near.1,
)
  where
    go : (p q x : Z) → Abs p n → Abs q n → Abs (k ⊛ x ⊟ (h.s ⊛ p ⊞ h.t ⊛ q)) (k * e) → Abs x (n + e)
    go p q x p_most q_most near =
        abs_unscale k (n + e) x h.some
        (abs_sum3_is (k ⊛ x) (h.s ⊛ p) (h.t ⊛ q) (k ⊛ x ⊟ (h.s ⊛ p ⊞ h.t ⊛ q)) (h.s * n) (h.t * n) (k * e)
        (k * (n + e)) (parted p q x h.s h.t) (abs_scale h.s n p p_most) (abs_scale h.t n q q_most) near
        (total h.s h.t h.parts))
      where
        parted : (p q x : Z) (s t : ℕ) → k ⊛ x ≐ s ⊛ p ⊞ t ⊛ q ⊞ (k ⊛ x ⊟ (s ⊛ p ⊞ t ⊛ q))
        parted p q x s t = omega arith

        total : (s t : ℕ) → s + t ≡ k → s * n + t * n + k * e ≤ k * (n + e)
        total s t parts = let l : (s + t) * n ≡ k * n = ap (λ (m : ℕ). m * n) parts in omega arith

-- ---- moved by at most m in each coordinate
pub near_moved : {e k : ℕ} {f : Face} {x : Point} (x' : Point) (m : ℕ) → PointAbs (from_to x x') m
    → NearSegment e k f x → NearSegment (e + m) k f x'
near_moved {e} {k} {f} {x} x' m moved h = record {
  s = h.s;
  t = h.t;
  parts = h.parts;
  some = h.some;
  near = (
    go f.begin.x f.end.x x.x x'.x moved.0 h.near.0,
    go f.begin.y f.end.y x.y x'.y moved.1 h.near.1,
  );
}
  where
    go : (p q x x' : Z) → Abs (x' ⊟ x) m → Abs (k ⊛ x ⊟ (h.s ⊛ p ⊞ h.t ⊛ q)) (k * e)
        → Abs (k ⊛ x' ⊟ (h.s ⊛ p ⊞ h.t ⊛ q)) (k * (e + m))
    go p q x x' moved near =
        abs_sum_is (k ⊛ x' ⊟ (h.s ⊛ p ⊞ h.t ⊛ q)) (k ⊛ x ⊟ (h.s ⊛ p ⊞ h.t ⊛ q)) (k ⊛ (x' ⊟ x)) (k * e) (k * m)
        (k * (e + m)) (parted x x' (h.s ⊛ p ⊞ h.t ⊛ q)) near (abs_scale k m (x' ⊟ x) moved) (omega arith)
      where
        parted : (x x' r : Z) → k ⊛ x' ⊟ r ≐ (k ⊛ x ⊟ r) ⊞ k ⊛ (x' ⊟ x)
        parted x x' r = omega arith

-- the way to x by those to x0 and x1, and to x from the point between them
weighted : (d k a b s0 t0 s1 t1 : ℕ) (p q x0 x1 x : Z)
    → (d * k) ⊛ x ⊟ ((b * s0 + a * s1) ⊛ p ⊞ (b * t0 + a * t1) ⊛ q)
    ≐ b ⊛ (k ⊛ x0 ⊟ (s0 ⊛ p ⊞ t0 ⊛ q)) ⊞ a ⊛ (k ⊛ x1 ⊟ (s1 ⊛ p ⊞ t1 ⊛ q)) ⊞ k ⊛ (d ⊛ x ⊟ (b ⊛ x0 ⊞ a ⊛ x1))
weighted d k a b s0 t0 s1 t1 p q x0 x1 x =
    replaced ((d * k) ⊛ x) ((b * s0 + a * s1) ⊛ p ⊞ (b * t0 + a * t1) ⊛ q)
    (b ⊛ (s0 ⊛ p ⊞ t0 ⊛ q) ⊞ a ⊛ (s1 ⊛ p ⊞ t1 ⊛ q))
    (b ⊛ (k ⊛ x0 ⊟ (s0 ⊛ p ⊞ t0 ⊛ q)) ⊞ a ⊛ (k ⊛ x1 ⊟ (s1 ⊛ p ⊞ t1 ⊛ q)) ⊞ k ⊛ (d ⊛ x ⊟ (b ⊛ x0 ⊞ a ⊛ x1)))
    (weights p q) (ways (s0 ⊛ p ⊞ t0 ⊛ q) (s1 ⊛ p ⊞ t1 ⊛ q))
  where
    weights : (p q : Z) → (b * s0 + a * s1) ⊛ p ⊞ (b * t0 + a * t1) ⊛ q
        ≐ b ⊛ (s0 ⊛ p ⊞ t0 ⊛ q) ⊞ a ⊛ (s1 ⊛ p ⊞ t1 ⊛ q)
    weights p q = omega arith

    ways : (r0 r1 : Z) → (d * k) ⊛ x ⊟ (b ⊛ r0 ⊞ a ⊛ r1)
        ≐ b ⊛ (k ⊛ x0 ⊟ r0) ⊞ a ⊛ (k ⊛ x1 ⊟ r1) ⊞ k ⊛ (d ⊛ x ⊟ (b ⊛ x0 ⊞ a ⊛ x1))
    ways r0 r1 = omega arith

    replaced : (u v w y : Z) → v ≐ w → u ⊟ w ≐ y → u ⊟ v ≐ y
    replaced u v w y e h = omega arith

-- ---- between two points near the face, a / metre of the way from x0 to x1, within g: a + b is a metre
module _ {e k : ℕ} {f : Face} {x0 x1 : Point} (x : Point) (g a b : ℕ) (sum : a + b ≡ metre)
    (near0 : NearSegment e k f x0) (near1 : NearSegment e k f x1) where
  abbrev s' : ℕ
  s' = b * near0.s + a * near1.s

  abbrev t' : ℕ
  t' = b * near0.t + a * near1.t

  coordinate : (p q x0 x1 x : Z) → Abs (k ⊛ x0 ⊟ (near0.s ⊛ p ⊞ near0.t ⊛ q)) (k * e)
      → Abs (k ⊛ x1 ⊟ (near1.s ⊛ p ⊞ near1.t ⊛ q)) (k * e) → Abs (metre ⊛ x ⊟ (b ⊛ x0 ⊞ a ⊛ x1)) (g * metre)
      → Abs ((metre * k) ⊛ x ⊟ (s' ⊛ p ⊞ t' ⊛ q)) (metre * k * (e + g))
  coordinate p q x0 x1 x h0 h1 h =
      let w0 = k ⊛ x0 ⊟ (near0.s ⊛ p ⊞ near0.t ⊛ q) in
      let w1 = k ⊛ x1 ⊟ (near1.s ⊛ p ⊞ near1.t ⊛ q) in
      let w = metre ⊛ x ⊟ (b ⊛ x0 ⊞ a ⊛ x1) in
      abs_sum3_is ((metre * k) ⊛ x ⊟ (s' ⊛ p ⊞ t' ⊛ q)) (b ⊛ w0) (a ⊛ w1) (k ⊛ w) (b * (k * e)) (a * (k * e))
      (k * (g * metre)) (metre * k * (e + g))
      (weighted metre k a b near0.s near0.t near1.s near1.t p q x0 x1 x) (abs_scale b (k * e) w0 h0)
      (abs_scale a (k * e) w1 h1) (abs_scale k (g * metre) w h)
      (let l : (a + b) * (k * e) ≡ metre * (k * e) = ap (λ (n : ℕ). n * (k * e)) sum in omega arith)

  pub near_between : Abs (metre ⊛ x.x ⊟ (b ⊛ x0.x ⊞ a ⊛ x1.x)) (g * metre)
      → Abs (metre ⊛ x.y ⊟ (b ⊛ x0.y ⊞ a ⊛ x1.y)) (g * metre) → NearSegment (e + g) (metre * k) f x
  near_between x_near y_near = record {
    s = s';
    t = t';
    parts = total near0.s near0.t near1.s near1.t near0.parts near1.parts;
    some = mul-pos metre_pos near0.some;
    near = (
      coordinate f.begin.x f.end.x x0.x x1.x x.x near0.near.0 near1.near.0 x_near,
      coordinate f.begin.y f.end.y x0.y x1.y x.y near0.near.1 near1.near.1 y_near,
    );
  }
    where
      total : (s0 t0 s1 t1 : ℕ) → s0 + t0 ≡ k → s1 + t1 ≡ k → b * s0 + a * s1 + (b * t0 + a * t1) ≡ metre * k
      total s0 t0 s1 t1 h0 h1 =
          let c : b * (s0 + t0) ≡ b * k = ap (λ (n : ℕ). b * n) h0 in
          let d : a * (s1 + t1) ≡ a * k = ap (λ (n : ℕ). a * n) h1 in
          let m : (a + b) * k ≡ metre * k = ap (λ (n : ℕ). n * k) sum in
          omega arith
