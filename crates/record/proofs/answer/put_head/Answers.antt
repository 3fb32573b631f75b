-- The names, the states and the touches, each behind the last. Assumes nothing.
use mathlib.Core.Path.{refl}
use mathlib.Core.List.{◌++◌}
use Rattle.algebra.proofs.Buffer.{over_next}
use Rattle.lines.specs.Fields.{number_bytes}
use Rattle.record_definitions.specs.Answer.{names_bytes, states_bytes, head_bytes}
use Rattle.record.proofs.answer.put_head.Goals as goal

pub returns : goal.returns
unfolding head_bytes
returns c =
    let put_number' = c.put_number in
    let put_states' = c.put_states in
    let put_names' = c.put_names in
    let args' = c.args in
    let t = args'.t in
    let old = args'.out.now in
    let states = over_next (names_bytes t) (states_bytes t.states) old _ _ 5 refl put_names'.ensures
    put_states'.ensures in
    over_next (names_bytes t ++ states_bytes t.states) (number_bytes t.touches) old _ _ 9 refl states
    put_number'.ensures
