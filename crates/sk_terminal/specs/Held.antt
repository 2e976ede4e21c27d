-- Texts that wait, each with a number that is at least each guess which it or one before it depends on.
use Rattle.std.specs.Prelude.{◌≡◌, ◌≤◌, ℕ, true, List, [], ◌∷◌, map}
use Rattle.sk_record.specs.Notes.{has}
use Rattle.sk_terminal.specs.Terminal.{TaggedText}
use Rattle.sk_terminal.specs.declared.terminal.Held.{Held}

abbrev pub texts_of : List Held → List TaggedText
texts_of hs = map (λ h. h.said) hs

-- the numbers rise from one number to another, and each is at least each guess that its text depends on
abbrev pub AreBounded : ℕ → List Held → ℕ → Type 0
AreBounded low [] high = low ≤ high
AreBounded low (h ∷ hs) high = (low ≤ h.newest) × ((g : ℕ) → has g h.said.1 ≡ true → g ≤ h.newest) × AreBounded h.newest hs high
