-- The texts said to a terminal and not thrown away, each with the undecided guesses that it depends on. What is released of
-- them, and what a decision leaves of them, is as for the machine of records.
use Rattle.std.specs.Prelude.{ℕ, Bool, ◌==◌, ◌-◌, List, [], length}
use Rattle.std.specs.List.{list_any}
use Rattle.sk_record.specs.Machine.{Tagged, released}
use Rattle.sk_record.specs.Notes.{has}

-- a text with the guesses that it depends on
abbrev pub TaggedText : Type 0
TaggedText = Tagged (List ℕ)

-- a text that depends on no guess
abbrev pub is_clear : TaggedText → Bool
is_clear said = length said.1 == 0

-- some text depends on a guess
abbrev pub any_rests : ℕ → List TaggedText → Bool
any_rests g texts = list_any (λ x. has g x.1) texts

-- a text that depends on no guess
abbrev pub clear : List ℕ → TaggedText
clear text = (text, [])

-- how many texts are not released
abbrev pub waiting_of : List TaggedText → ℕ
waiting_of texts = length texts - length (released texts)
