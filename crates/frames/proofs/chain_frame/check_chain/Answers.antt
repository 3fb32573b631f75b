-- In their order. Assumes nothing.
use mathlib.Core.Path.{sym, ◌∙◌}
use Rattle.frames.proofs.ChainFrames.{too_few, out_of_range, too_near, none_refused}
use Rattle.frames.proofs.chain_frame.check_chain.Goals as goal

pub returns-then-count-lt2 : goal.returns-then-count-lt2
returns-then-count-lt2 c = λ bytes is. too_few _ bytes is c.if-count-lt2.true

pub returns-then-not-all_in_range : goal.returns-then-not-all_in_range
returns-then-not-all_in_range c =
    let all_in_range = c.all_in_range in
    let if1 = c.if-count-lt2 in
    λ bytes is. out_of_range _ bytes is if1.false (sym all_in_range.ensures ∙ c.if-not-all_in_range.true)

pub returns-then-some_short : goal.returns-then-some_short
returns-then-some_short c =
    let some_short = c.some_short in
    let if2 = c.if-not-all_in_range in
    let all_in_range = c.all_in_range in
    let if1 = c.if-count-lt2 in
    λ bytes is. too_near _ bytes is if1.false (sym all_in_range.ensures ∙ if2.false)
    (sym some_short.ensures ∙ c.if-some_short.true)

pub returns : goal.returns
returns c =
    let some_short = c.some_short in
    let if2 = c.if-not-all_in_range in
    let all_in_range = c.all_in_range in
    let if1 = c.if-count-lt2 in
    λ bytes is. none_refused _ bytes is if1.false (sym all_in_range.ensures ∙ if2.false)
    (sym some_short.ensures ∙ c.if-some_short.false)
