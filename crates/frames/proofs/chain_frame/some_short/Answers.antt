-- No piece below i is short. Assumes nothing.
use mathlib.Core.Path.{◌≡◌, refl, sym, ◌∙◌, ap}
use mathlib.Core.Bool.{not}
use Prim.Native.Nat.{ℕ}
use native.Mathlib.Omega.{arith}
use Rattle.contact_definitions.specs.Searches.{some_below}
use Rattle.contact_definitions.proofs.Searches.{some_here, none_next}
use Rattle.record_definitions.specs.Frame.{long_piece}
use Rattle.frames.proofs.ChainFrames.{length_is}
use Rattle.frames.proofs.chain_frame.some_short.Goals as goal

pub loop-i-init : goal.loop-i-init
unfolding some_below
loop-i-init c =
    let ps = c.args.chain.points in
    (omega arith, omega arith, c.well_formed.0.1.1.0.1.0.1, λ chain is. refl)

pub returns-then-not-length : goal.returns-then-not-length
returns-then-not-length c =
    let squared = c.b2_distance_vec2_squared-length in
    let loop = c.loop-i in
    let chain = c.args.chain in
    sym (some_here (λ (k : ℕ). not (long_piece chain k)) loop.i _ c.loop-i-test.true
    (ap not (sym (length_is chain _ loop.i _ _ refl loop.invariant.2 (omega arith) squared.ensures)
    ∙ c.if-not-length.true)))

pub loop-i-preserved : goal.loop-i-preserved
loop-i-preserved c =
    let squared = c.b2_distance_vec2_squared-length in
    let loop = c.loop-i in (
      omega arith,
      loop.invariant.1,
      loop.invariant.2,
      λ chain is. none_next (λ (k : ℕ). not (long_piece chain k)) loop.i (loop.invariant.3 chain is)
          (ap not (sym (length_is chain _ loop.i _ _ is loop.invariant.2 (omega arith) squared.ensures)
          ∙ c.if-not-length.false)),
    )

pub returns : goal.returns
returns c =
    let loop = c.loop-i in
    let all : loop.i ≡ c.args.n = omega arith in
    sym (rw all at (loop.invariant.3 c.args.chain refl))
