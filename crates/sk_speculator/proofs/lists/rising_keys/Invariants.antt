-- The keys so far are those of the writes so far.
use Rattle.sk_speculator.proofs.Names.{◌≡◌, take, keys_of}
use Rattle.sk_speculator.proofs.lists.rising_keys.Given as goal

abbrev pub invariant-loop-write : goal.invariant-loop-write
invariant-loop-write g l = l.keys.items ≡ keys_of (take l.write-index l.written)
