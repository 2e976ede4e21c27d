-- The terminals that are listed for each guess.
use Rattle.std.specs.Prelude.{◌≡◌, ◌==◌, ◌<◌, ℕ, Bool, true, false, ⊤, List, [], ◌∷◌, length, if◌then◌else◌}
use Rattle.sk_record.specs.Notes.{has}
use Rattle.sk_terminal.specs.Terminal.{any_rests}
use Rattle.sk_terminal.specs.Terminals.{TerminalMap, texts_at}
use Rattle.sk_terminal.specs.declared.listing.Listing.{Listing}

-- a text of a terminal depends on a guess
abbrev pub rests_at : ℕ → TerminalMap → ℕ → Bool
rests_at g m t = any_rests g (texts_at m t)

-- a terminal is in the list of a guess
abbrev pub is_listed : ℕ → ℕ → List Listing → Bool
is_listed g t [] = false
is_listed g t (l ∷ ls) = if l.guess == g then has t l.terminals else is_listed g t ls

-- no terminal is in the list of a guess
abbrev pub NoneListed : ℕ → List Listing → Type 0
NoneListed g ls = (t : ℕ) → is_listed g t ls ≡ false

-- none of the lists is that of a guess
abbrev pub HasNone : ℕ → List Listing → Type 0
HasNone g [] = ⊤
HasNone g (l ∷ ls) = ((l.guess == g) ≡ false) × HasNone g ls

-- each guess has one list at most, and no list is empty
abbrev pub AreTidy : List Listing → Type 0
AreTidy [] = ⊤
AreTidy (l ∷ ls) = HasNone l.guess ls × (0 < length l.terminals) × AreTidy ls

-- listed for a guess are just the terminals at which a text depends on it
abbrev pub AreListed : TerminalMap → List Listing → Type 0
AreListed m ls = (g t : ℕ) → is_listed g t ls ≡ rests_at g m t

-- at most one terminal was listed for more guesses
abbrev pub ListsAtMost : ℕ → List Listing → List Listing → Type 0
ListsAtMost k old new =
    ((g t : ℕ) → (k == t) ≡ false → is_listed g t new ≡ is_listed g t old) × ((g : ℕ) → is_listed g k old ≡ true → is_listed g k new ≡ true)
