-- The words of the first k points stand behind the first i words. Assumes nothing.
use mathlib.Core.Path.{◌≡◌}
use Prim.Native.Nat.{◌+◌, ◌*◌, ◌≤◌}
use mathlib.Core.List.{◌++◌}
use lib.ListN.{length, take}
use Rattle.wire.specs.Answers.{points_words}
use Rattle.wire.proofs.answers.with_points.Given as goal

abbrev pub invariant-loop-k : goal.invariant-loop-k
invariant-loop-k l =
    (l.k ≤ 8) × (l.fn.i + 16 ≤ 37) × (length l.fn.ps ≡ 8) × (length l.all ≡ 37)
    × (take (l.fn.i + 2 * l.k) l.all ≡ take l.fn.i l.initial.all ++ points_words (take l.k l.fn.ps))
