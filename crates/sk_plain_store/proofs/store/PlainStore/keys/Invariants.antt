-- The keys so far, and those that are left, are all.
use Rattle.sk_plain_store.proofs.Names.{◌≡◌, ◌++◌, map, vec_items, keys_of, entries_of}
use Rattle.sk_plain_store.proofs.store.PlainStore.keys.Given as goal

abbrev pub invariant-loop-key : goal.invariant-loop-key
invariant-loop-key l = map vec_items l.keys.items ++ keys_of (entries_of l.key-iterator) ≡ keys_of (entries_of l.self-inside.places.entries)
