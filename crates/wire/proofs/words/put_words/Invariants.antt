-- `put_words` writes all its words or none. The loop's invariant: the first i words stand at the front. Assumes
-- nothing.
use mathlib.Core.Path.{◌≡◌}
use Prim.Native.Nat.{◌*◌, ◌≤◌}
use lib.ListN.{length, take}
use Rattle.algebra.specs.Buffer.{over}
use Rattle.wire.specs.Words.{bytes_of}
use Rattle.wire.proofs.words.put_words.Given as goal

abbrev pub invariant-loop-i : goal.invariant-loop-i
invariant-loop-i l =
    (l.i ≤ l.n) × (l.n ≡ length l.words) × (4 * l.n ≤ length l.initial.out) × (length l.out ≡ length l.initial.out)
    × (l.out ≡ over (bytes_of (take l.i l.words)) l.initial.out)
