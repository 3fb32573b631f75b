-- `put_manifold` writes the refusal and the manifold's sixteen words. Assumes nothing.
use mathlib.Core.Path.{ap₂, ◌∙◌}
use mathlib.Core.List.{◌∷◌}
use lib.ListN.{get_or}
use borrow.Author.Rules.{rules}
use Rattle.wire.proofs.Bytes.{written_as}
use Rattle.wire.proofs.TwoPoints.{point_words, manifold_written}
use Rattle.wire.proofs.contact_answers.put_manifold.Goals as goal

pub returns : goal.returns
returns c =
    let m = c.args.answer.after in
    written_as _ _ _ _ _
    (ap₂ ◌∷◌ c.from.ensures
    (manifold_written m _ _ _ _ _ _ _ _ _
    (search rules)
    (c.from-3.ensures ∙ c.from-2.ensures) c.low_word.ensures
    c.f32_to_bits.ensures c.f32_to_bits-2.ensures
    c.f32_to_bits-3.ensures c.f32_to_bits-4.ensures
    (point_words (get_or m.points 0 _) _ _ _ _ _ c.f32_to_bits-5.ensures
    c.f32_to_bits-6.ensures
    c.f32_to_bits-7.ensures c.f32_to_bits-8.ensures c.id_word.ensures)
    (point_words (get_or m.points 1 _) _ _ _ _ _ c.f32_to_bits-9.ensures
    c.f32_to_bits-10.ensures
    c.f32_to_bits-11.ensures c.f32_to_bits-12.ensures c.id_word-2.ensures)))
    c.put_words.ensures
