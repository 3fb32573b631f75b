-- `put_world` writes the refusal and the world manifold's eight words. Assumes nothing.
use mathlib.Core.Path.{ap₂}
use mathlib.Core.List.{◌∷◌}
use borrow.Author.Rules.{rules}
use Rattle.wire.proofs.Bytes.{written_as}
use Rattle.wire.proofs.TwoPoints.{world_written}
use Rattle.wire.proofs.contact_answers.put_world.Goals as goal

pub returns : goal.returns
returns c =
    written_as _ _ _ _ _
    (ap₂ ◌∷◌ c.from.ensures
    (world_written c.args.answer.after _ _ _ _ _ _ _ _ _ _
    (search rules)
    (search rules)
    c.f32_to_bits.ensures c.f32_to_bits-2.ensures
    c.f32_to_bits-3.ensures c.f32_to_bits-4.ensures c.f32_to_bits-5.ensures c.f32_to_bits-6.ensures
    c.f32_to_bits-7.ensures c.f32_to_bits-8.ensures))
    c.put_words.ensures
