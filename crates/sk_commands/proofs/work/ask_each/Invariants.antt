-- The keys of the commands so far stand behind what was listed.
use Rattle.sk_commands.proofs.Names.{◌≡◌, ◌++◌, List, ℕ, drop, map, flat_map, vec_items, asks}
use Rattle.sk_commands.proofs.work.ask_each.Given as goal

abbrev pub invariant-loop-command : goal.invariant-loop-command
invariant-loop-command l =
    (more : List (List ℕ)) × (map vec_items l.looked.items ≡ map vec_items l.initial.looked.items ++ more)
    × (more ++ flat_map (asks (map vec_items l.known)) (drop l.command-index l.commands) ≡ flat_map (asks (map vec_items l.known)) l.commands)
