-- What holds of the texts of a terminal between its calls.
use Rattle.std.specs.Prelude.{◌≡◌, ◌+◌, ◌≤◌, ℕ, List, [], length}
use Rattle.sk_record.specs.Machine.{released}
use Rattle.sk_terminal.specs.Held.{texts_of, AreBounded}
use Rattle.sk_terminal.specs.declared.terminal.Held.{Held}

-- of so many released texts with so much room, the texts that wait, and at least each guess that a text depended on
pub record IsTidyTerminal (count room : ℕ) (waiting : List Held) (newest : ℕ) : Type 0 where
  -- the first text that waits depends on a guess
  pub held : released (texts_of waiting) ≡ []
  -- there is room for all that wait among the released ones
  pub fits : count + length waiting ≤ room
  -- the numbers of those that wait rise up to it, and each is at least each guess that its text depends on
  pub bounds : AreBounded 0 waiting newest
