-- The entries are as they were.
use Rattle.sk_plain_store.proofs.Names.{◌≡◌, entries_of}
use Rattle.sk_plain_store.proofs.places.let_go_all.Given as goal

abbrev pub invariant-loop-key : goal.invariant-loop-key
invariant-loop-key l = entries_of l.places.entries ≡ entries_of l.initial.places.entries
