-- What was said to each terminal.
use Rattle.std.specs.Prelude.{ℕ, List, [], ◌∷◌, ◌++◌}
use Rattle.std.specs.Coded.{Coded, coded_ℕ, coded_list, coded×}
use Rattle.std.specs.Option.{unwrap_or}
use Rattle.std.specs.Ordering.{nat_cmp}
use Rattle.std.specs.FinMap as map
use Rattle.sk_record.specs.Machine.{released}
use Rattle.sk_terminal.specs.Terminal.{TaggedText}

-- by the terminal's number, the texts said to it and not thrown away
abbrev pub TerminalMap : Type 0
TerminalMap = map.FinMap nat_cmp (List TaggedText)

abbrev pub terminals_code : Coded TerminalMap
terminals_code = map.code coded_ℕ (coded_list (coded× (coded_list coded_ℕ) (coded_list coded_ℕ)))

-- the texts of one terminal, none where nothing was said to it
abbrev pub texts_at : TerminalMap → ℕ → List TaggedText
texts_at m t = unwrap_or (map.get m t) []

-- the texts of one terminal that are released
abbrev pub released_at : TerminalMap → ℕ → List (List ℕ)
released_at m t = released (texts_at m t)

-- after one more text was said to a terminal
abbrev pub said_to : TerminalMap → ℕ → TaggedText → TerminalMap
said_to m t said = map.insert m t (texts_at m t ++ said ∷ [])
