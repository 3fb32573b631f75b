-- By its number. Assumes nothing.
use mathlib.Core.Path.{◌∙◌}
use Rattle.wire.proofs.Numbers.{state_read}
use Rattle.wire.proofs.contact_records.state.Goals as goal

pub returns : goal.returns
returns c = c.unwrap_or.ensures ∙ state_read c.args.w c.try_from.result c.try_from.ensures
