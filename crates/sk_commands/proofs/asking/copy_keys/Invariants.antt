-- Copies of the keys so far stand behind what was listed.
use Rattle.sk_commands.proofs.Names.{◌≡◌, ◌++◌, take, map, vec_items}
use Rattle.sk_commands.proofs.asking.copy_keys.Given as goal

abbrev pub invariant-loop-key : goal.invariant-loop-key
invariant-loop-key l = map vec_items l.looked.items ≡ map vec_items l.initial.looked.items ++ map vec_items (take l.key-index l.keys)
