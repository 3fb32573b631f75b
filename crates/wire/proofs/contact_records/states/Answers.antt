-- Four point states from four words. Assumes nothing.
use Rattle.wire.specs.ContactRecords.{states_at}
use Rattle.wire.proofs.contact_records.states.Goals as goal

pub returns : goal.returns
unfolding states_at
returns c =
    simp (
      c.state-new1.ensures,
      c.word-4.ensures,
      c.state-new0.ensures,
      c.word-3.ensures,
      c.state-old1.ensures,
      c.word-2.ensures,
      c.state-old0.ensures,
      c.word.ensures,
    )
