use Rattle.sk_commands.proofs.Names.{◌≡◌, drop, find, is_alike, text_of}
use Rattle.sk_commands.proofs.name.first_alike.Given as goal

abbrev pub invariant-loop-name : goal.invariant-loop-name
invariant-loop-name l = find (λ name. is_alike l.word (text_of name)) (drop l.name-index l.names) ≡ find (λ name. is_alike l.word (text_of name)) l.names
