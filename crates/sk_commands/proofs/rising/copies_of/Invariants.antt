-- The keys so far.
use Rattle.sk_commands.proofs.Names.{◌≡◌, take, map, vec_items}
use Rattle.sk_commands.proofs.rising.copies_of.Given as goal

abbrev pub invariant-loop-key : goal.invariant-loop-key
invariant-loop-key l = map vec_items l.all.keys ≡ take l.key-index (map vec_items l.known)
