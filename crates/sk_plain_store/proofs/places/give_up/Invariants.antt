-- The entries are as they were.
use Rattle.sk_plain_store.proofs.Names.{◌≡◌, entries_of}
use Rattle.sk_plain_store.proofs.places.give_up.Given as goal

abbrev pub invariant-loop-write : goal.invariant-loop-write
invariant-loop-write l = entries_of l.places.entries ≡ entries_of l.initial.places.entries
