-- A word as a signed number and back: what the casts give is what the definitions say. Assumes nothing.
use mathlib.Core.Path.{◌≡◌, refl, ap, ◌∙◌}
use mathlib.Core.Bool.{Bool, true, false}
use Prim.Native.Nat.{ℕ, ◌^◌, ◌<◌}
use native.Mathlib.Omega.{arith}
use lib.IntN.{ℤ, pos, negsuc}
use lib.Signed.{mag}
use mir.Syntax.{w32}
use mir.Val.{hbits, to_z, of_z}
use mir.Facts.{to_z-of_z}
use Rattle.std.specs.Prelude.{ltb}
use Rattle.algebra.proofs.Signed.{read}
use Rattle.wire.specs.Words.{signed, unsigned}

by_half : (w : ℕ) (low : Bool) → w < 4294967296 → ltb w 2147483648 ≡ low → to_z w32 w ≡ signed w
unfolding signed
by_half w true small is = simp is
by_half w false small is = simp is (ap negsuc (omega arith))

pub signed_is : (w : ℕ) → w < 4294967296 → to_z w32 w ≡ signed w
signed_is w small = by_half w _ small refl

unsigned_is : (x : ℤ) → mag x < 2 ^ hbits w32 → of_z w32 x ≡ unsigned x
unsigned_is (pos n) fits = refl
unsigned_is (negsuc n) fits = omega arith

-- the word of a number that is read back as it is
pub word_of : (x : ℤ) (r : ℕ) → r ≡ of_z w32 (read x) → mag x < 2 ^ hbits w32 → r ≡ unsigned x
word_of x r e fits = e ∙ ap (of_z w32) (to_z-of_z {w = w32} {z = x} (record { sfits = fits })) ∙ unsigned_is x fits
