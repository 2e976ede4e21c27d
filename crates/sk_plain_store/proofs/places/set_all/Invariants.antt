-- What is left to be written comes to the same, and has places.
use Rattle.sk_plain_store.proofs.Names.{◌≡◌, into_iter_items, told, written_to, entries_of, HavePlaces}
use Rattle.sk_plain_store.proofs.places.set_all.Given as goal

abbrev pub invariant-loop-write : goal.invariant-loop-write
invariant-loop-write l = record {
  same : written_to (told (into_iter_items l.write-iterator)) (entries_of l.places.entries) ≡ written_to (told l.fn.written.items) (entries_of l.initial.places.entries);
  held : HavePlaces (told (into_iter_items l.write-iterator)) l.places.entries;
}
