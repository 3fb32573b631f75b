-- Each word is a state. Assumes nothing.
use Rattle.wire.specs.ContactRecords.{states_known}
use Rattle.wire.proofs.contact_records.states_known.Goals as goal

pub returns : goal.returns
unfolding states_known
returns c =
    simp (
      c.state_known-new1.ensures,
      c.state_known-new0.ensures,
      c.state_known-old1.ensures,
      c.state_known-old0.ensures,
    )
