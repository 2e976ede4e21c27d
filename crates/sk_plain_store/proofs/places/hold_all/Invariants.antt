-- The writes so far have places, and the entries are as they were.
use Rattle.sk_plain_store.proofs.Names.{◌≡◌, take, told, entries_of, HavePlaces}
use Rattle.sk_plain_store.proofs.places.hold_all.Given as goal

abbrev pub invariant-loop-write : goal.invariant-loop-write
invariant-loop-write l = record {
  same : entries_of l.places.entries ≡ entries_of l.initial.places.entries;
  held : HavePlaces (told (take l.write-index l.written)) l.places.entries;
}
