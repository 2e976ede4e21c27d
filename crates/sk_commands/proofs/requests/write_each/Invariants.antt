-- The text so far, with the requests that are left, is that of all.
use Rattle.sk_commands.proofs.Names.{◌≡◌, ◌++◌, drop, flat_map, map, array, words_for}
use Rattle.sk_commands.proofs.requests.write_each.Given as goal

abbrev pub invariant-loop-command : goal.invariant-loop-command
invariant-loop-command l =
    l.text.items ++ flat_map array (map words_for (drop l.command-index l.commands)) ≡ l.fn.text.items ++ flat_map array (map words_for l.commands)
