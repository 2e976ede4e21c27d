-- A hand-in is entries of the record.
use Rattle.sk_kernel.proofs.Entries.{are_entries}
use Rattle.sk_kernel.proofs.laws.handed_in.Goals as goal

pub returns : goal.returns
returns c = λ k l sound as_lent done. are_entries k sound l as_lent done
