-- Entry 18 answers the step and the root, or nothing to a request of another length. Assumes nothing.
use mathlib.Core.Path.{◌≡◌, refl, sym, ap, ◌∙◌}
use mathlib.Core.Bool.{true}
use mathlib.Core.List.{List}
use lib.Ieee.{Float, binary32, of_bits}
use Prim.Native.Nat.{ℕ}
use Rattle.sqrt.specs.declared.root.Rooted.{Rooted}
use Rattle.sqrt.specs.Sqrt.{root_by_steps}
use Rattle.wire.specs.Records.{float_at}
use Rattle.wire.specs.Words.{word_at}
use Rattle.wire.proofs.Requests.{other_length, answered}
use Rattle.test_entries.specs.Numbers.{step_words, root_step_answer}
use Rattle.test_entries.proofs.numbers.root_step.Goals as goal

-- the words of the step that `root_by_steps` took are the answer's
answered_by : (request : List ℕ) (word : ℕ) (x : Float) (step given : Rooted) → step ≡ given
    → step ≡ root_by_steps binary32 x → x ≡ of_bits binary32 word → word ≡ word_at request 1
    → step_words given ≡ step_words (root_by_steps binary32 (float_at request 1))
answered_by request word x step given same is x_is word_is =
    ap step_words (sym same ∙ is ∙ ap (root_by_steps binary32) (x_is ∙ ap (of_bits binary32) word_is))

pub returns-then-input-ne8 : goal.returns-then-input-ne8
unfolding root_step_answer
returns-then-input-ne8 c = other_length 2 _ _ _ _ c.if-input-ne8.true

pub returns-in-Special : goal.returns-in-Special
unfolding root_step_answer
returns-in-Special c =
    answered 2 _ _ _ _ true c.if-input-ne8.false refl _ _ _ refl
    (answered_by c.args.input.now _ _ _ _ c.in-Special.is c.root_by_steps.ensures c.f32_from_bits-x.ensures c.word.ensures) c.put_step.ensures

pub returns-in-Exact : goal.returns-in-Exact
unfolding root_step_answer
returns-in-Exact c =
    answered 2 _ _ _ _ true c.if-input-ne8.false refl _ _ _ refl
    (answered_by c.args.input.now _ _ _ _ c.in-Exact.is c.root_by_steps.ensures c.f32_from_bits-x.ensures c.word.ensures) c.put_step-in-Exact.ensures

pub returns-in-Rounded : goal.returns-in-Rounded
unfolding root_step_answer
returns-in-Rounded c =
    answered 2 _ _ _ _ true c.if-input-ne8.false refl _ _ _ refl
    (answered_by c.args.input.now _ _ _ _ c.in-Rounded.is c.root_by_steps.ensures c.f32_from_bits-x.ensures c.word.ensures) c.put_step-in-Rounded.ensures
