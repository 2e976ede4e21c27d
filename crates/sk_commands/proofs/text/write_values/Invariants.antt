-- The text so far, with that of those that are left, is that of all.
use Rattle.sk_commands.proofs.Names.{◌≡◌, ◌++◌, drop, flat_map, length, array_text, value_text}
use Rattle.sk_commands.proofs.text.write_values.Given as goal

abbrev pub invariant-loop-value : goal.invariant-loop-value
invariant-loop-value l =
    l.text.items ++ flat_map value_text (drop l.value-index l.values) ≡ l.fn.text.items ++ (array_text (length l.values) ++ flat_map value_text l.values)
