-- A point that lies left of both ends of a face, by more than a length, is not within that length of it. Assumes
-- nothing.
use Prim.Native.Nat.{ℕ, ◌+◌, ◌*◌, ◌<◌}
use native.Mathlib.Omega.{arith}
use Rattle.algebra.specs.Integer.{Z, whole, ◌⊞◌, ◌⊠◌, ◌⊛◌, ◌≼◌}
use Rattle.algebra.specs.Plane.{Point}
use Rattle.algebra.proofs.Integer.{multiple_mono, multiple_mono_lt}
use Rattle.algebra.proofs.Products.{square_not_negative, abs_of_square}
use Rattle.grid_contacts.specs.Faces.{Face, way_from, NearFace}

-- a way (x, y) that goes n d or more to the left is longer than n o / u
too_long : (u o n d : ℕ) (x y : Z) → 0 < n → x ⊞ whole (n * d) ≼ whole 0 → o < u * d
    → ¬ ((u * u) ⊛ (x ⊠ x ⊞ y ⊠ y) ≼ (n * n) ⊛ (whole o ⊠ whole o))
too_long u o n d x y some left wide short =
    let across : (u ⊛ x) ⊠ (u ⊛ x) ≼ whole ((n * o) * (n * o)) =
    omega (arith, short, multiple_mono (u * u) (whole 0) (y ⊠ y) (square_not_negative y)) in
    let size = abs_of_square (u ⊛ x) (n * o) across in
    let scaled = multiple_mono u (x ⊞ whole (n * d)) (whole 0) left in
    let strict = multiple_mono_lt n (whole o) (whole (u * d)) some (omega (arith, wide)) in
    omega (arith, size, scaled, strict)

pub far_left : (u o d : ℕ) (c : Point) (f : Face) → c.x ⊞ whole d ≼ f.begin.x → c.x ⊞ whole d ≼ f.end.x
    → o < u * d → ¬ NearFace (record { over = whole o; under = u }) c f
far_left u o d c f of_begin of_end wide near =
    let w = way_from f near.s near.t c in
    too_long u o (near.s + near.t) d w.x w.y near.some
    (omega (
      arith,
      multiple_mono near.s (c.x ⊞ whole d) f.begin.x of_begin,
      multiple_mono near.t (c.x ⊞ whole d) f.end.x of_end,
    )) wide near.near
