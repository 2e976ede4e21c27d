-- The entries so far were written, and have room.
use Rattle.sk_replay.proofs.Names.{◌≡◌, ◌<◌, ◌≤◌, length, take, entries_text}
use Rattle.sk_replay.proofs.snapshot.fill.Given as goal

abbrev pub invariant-loop-i : goal.invariant-loop-i
invariant-loop-i l = record {
  written : l.text.items ≡ entries_text (take l.i l.entries);
  fits : 1 < l.i → length l.text.items ≤ l.room;
}
