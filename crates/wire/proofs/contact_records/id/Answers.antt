-- The four bytes of a word are an id. Assumes nothing.
use borrow.Author.Rules.{rules}
use Rattle.wire.specs.ContactRecords.{id_at}
use Rattle.wire.proofs.contact_records.id.Goals as goal

pub returns : goal.returns
unfolding id_at
returns c = search rules
