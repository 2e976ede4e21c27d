-- The entries so far, and those that are left, are all.
use Rattle.sk_plain_store.proofs.Names.{◌≡◌, ◌++◌, entries_of}
use Rattle.sk_plain_store.proofs.store.PlainStore.into_entries.Given as goal

abbrev pub invariant-loop-key : goal.invariant-loop-key
invariant-loop-key l = l.entries.items ++ entries_of l.key-iterator ≡ l.fn.self
