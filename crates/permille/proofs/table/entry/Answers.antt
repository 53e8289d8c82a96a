-- The entry of the stored table is the rule's. Assumes nothing.
use Rattle.permille.proofs.EntryLaws.{entry_is, entry_most}
use Rattle.permille.proofs.table.entry.Goals as goal

pub returns : goal.returns
returns c = record { value = entry_is c.args.at c.requires; most = entry_most c.args.at c.requires }
