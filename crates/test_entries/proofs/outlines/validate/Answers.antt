-- Entry 4 answers whether an outline is convex, or nothing to a request of another length. Assumes nothing.
use mathlib.Core.Path.{refl, ap, ap₂, ◌∙◌}
use mathlib.Core.Bool.{true, false}
use mathlib.Core.List.{[], ◌∷◌}
use Prim.Native.Nat.{ℕ}
use Rattle.shape_definitions.specs.Validate.{b2_polygon_shape_validate}
use Rattle.wire.specs.Answers.{flag}
use Rattle.wire.proofs.Bytes.{flag_is, made_is}
use Rattle.wire.proofs.Requests.{other_length, answered}
use Rattle.test_entries.specs.Outlines.{validate_answer, validity_words}
use Rattle.test_entries.proofs.outlines.validate.Goals as goal

pub returns-then-input-ne148 : goal.returns-then-input-ne148
unfolding validate_answer
returns-then-input-ne148 c = other_length 37 _ _ _ _ c.if-input-ne148.true

pub returns : goal.returns
unfolding validate_answer
returns c =
    answered 37 _ _ _ _ true c.if-input-ne148.false refl _ _ _ refl
    (ap₂ (λ (n m : ℕ). n ∷ m ∷ []) c.refusal_word.ensures
    (c.from.ensures ∙ flag_is _ ∙ ap flag
    (c.unwrap_or.ensures ∙ made_is false c.b2_polygon_shape_validate-convex.result))
    ∙ ap validity_words (c.b2_polygon_shape_validate-convex.ensures
    ∙ ap b2_polygon_shape_validate c.polygon-shape.ensures))
    c.put_words.ensures
