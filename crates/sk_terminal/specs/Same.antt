-- When the texts said to terminals are the same.
use Rattle.std.specs.Prelude.{Bool, List, nat_eq}
use Rattle.std.specs.Cmp.Lexicographic.{pointwise}
use Rattle.sk_ids.specs.Same.{same_pair, same_map}
use Rattle.sk_ids.specs.contracts.text.TextPartialEq.TheImpl as text
use Rattle.sk_terminal.specs.Terminal.{TaggedText}
use Rattle.sk_terminal.specs.Terminals.{TerminalMap}

-- whether two texts are the same, and depend on the same guesses
abbrev pub same_said : TaggedText → TaggedText → Bool
same_said = same_pair (text.ghosts).eq (pointwise nat_eq)

-- whether two lists have the same texts in the same order
abbrev pub same_texts : List TaggedText → List TaggedText → Bool
same_texts = pointwise same_said

-- whether each terminal has the same texts
abbrev pub same_terminals : TerminalMap → TerminalMap → Bool
same_terminals = same_map nat_eq same_texts
