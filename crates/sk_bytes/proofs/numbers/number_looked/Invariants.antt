-- The numbers of the first keys.
use Rattle.sk_bytes.proofs.Names.{◌≡◌, map, take, vec_items, keys_of, number_of}
use Rattle.sk_bytes.proofs.numbers.number_looked.Given as goal

abbrev pub invariant-loop-key : goal.invariant-loop-key
invariant-loop-key g l = l.numbered.items ≡ keys_of (number_of l.index) (map vec_items (take l.key-index l.looked))
