-- The words of the first k points stand behind the first i words. Assumes nothing.
use mathlib.Core.Path.{sym, ◌∙◌, ap}
use Prim.Native.Nat.{ℕ}
use mathlib.Core.List.{List, append-nil}
use lib.Seq.{take-length}
use Rattle.floats.specs.declared.b2_math.B2vec2.{B2vec2}
use mathlib.Core.Path.{◌≡◌}
use Prim.Native.Nat.{◌+◌, ◌*◌}
use native.Mathlib.Omega.{arith}
use mathlib.Core.List.{◌++◌}
use lib.ListN.{length, take, length-set}
use Rattle.wire.specs.Answers.{points_words}
use Rattle.wire.proofs.Rows.{point_written}
use Rattle.wire.proofs.answers.with_points.Goals as goal

pub loop-k-init : goal.loop-k-init
unfolding points_words
loop-k-init c =
    let i = c.args.i in
    let old = c.args.old in
    let same : i + 0 ≡ i = omega arith in
    let none = ap (λ (n : ℕ). take n old) same ∙ sym (append-nil (take i old)) in
    (omega arith, omega arith, c.well_formed.1.1.0.1.0.1, c.well_formed.0.1.0.1, none)

pub loop-k-preserved : goal.loop-k-preserved
loop-k-preserved c =
    let k = c.loop-k.k in
    let i = c.args.i in
    let ps = c.args.ps in
    let all = c.loop-k.all in
    let inv = c.loop-k.invariant in (
      omega arith,
      omega arith,
      inv.2,
      simp length-set inv.3,
      point_written i k ps _ _ all _ _ (omega arith) (omega arith) c.f32_to_bits.ensures
          c.f32_to_bits-in-loop-k.ensures inv.4,
    )

pub returns : goal.returns
returns c =
    let i = c.args.i in
    let ps = c.args.ps in
    let k = c.loop-k.k in
    let all : i + 2 * k ≡ i + 16 = omega arith in
    let eight : k ≡ length ps = omega arith in (
      ap (λ (n : ℕ). take n c.loop-k.all) (sym all) ∙ c.loop-k.invariant.4
          ∙ ap (λ (n : ℕ). take i c.args.old ++ points_words (take n ps)) eight
          ∙ ap (λ (l : List B2vec2). take i c.args.old ++ points_words l) (take-length ps),
      c.loop-k.invariant.3,
    )
