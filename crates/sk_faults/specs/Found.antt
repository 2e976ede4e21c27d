-- The first fault of the words of a line, word by word.
use Rattle.std.specs.Prelude.{◌≡◌, ℕ, ◌+◌, min, Bool, false, List, [], ◌∷◌, Option, Some, None, Result, Ok, Err, codes, bytes_eq, drop, if◌then◌else◌}
use Rattle.sk_faults.specs.Base.{FaultKind, is_open, first_of, no_input, Part, Form, Found, InputWord, Why, fits}
use Rattle.sk_faults.specs.Base.{is_input, brings_content}
use Rattle.sk_faults.specs.Tables.{forms_of}

-- a fault of the word of this index, where the first word of the line has the index 0
abbrev pub fault_at : ℕ → Why → Option Found
fault_at index reason = Some (record { index = index; why = reason })

-- the first that is found
abbrev pub or_else : Option Found → Option Found → Option Found
or_else (Some f) later = Some f
or_else None later = later

-- the index behind one; no line that is read has so many words that the last of them mattered
abbrev pub next_index : ℕ → ℕ
next_index index = min index 4294967295 + 1

-- the first literal without its closing quote; the first of these words has this index
abbrev pub open_at : ℕ → List (List ℕ) → Option Found
open_at index [] = None
open_at index (w ∷ ws) = if is_open w then fault_at index Why.Open else open_at (next_index index) ws

-- the place of the first missing word, or the first word too many
abbrev pub count_at : ℕ → List Form → List (List ℕ) → Option Found
count_at index [] [] = None
count_at index [] (w ∷ ws) = fault_at index Why.Surplus
count_at index (f ∷ fs) [] = fault_at index (Why.Missing f)
count_at index (f ∷ fs) (w ∷ ws) = count_at (index + 1) fs ws

-- the first word that has not its form
abbrev pub wrong_at : ℕ → List Form → List (List ℕ) → Option Found
wrong_at index [] ws = None
wrong_at index (f ∷ fs) [] = None
wrong_at index (f ∷ fs) (w ∷ ws) = if fits f w then wrong_at (index + 1) fs ws else fault_at index (Why.Malformed f)

-- ---- inputs

abbrev pub input_word : ℕ → List ℕ → InputWord
input_word index word = record { index = index; is_known = is_input word; is_wide = brings_content word }

-- the first word of an input, behind one word or two
abbrev pub second : List (List ℕ) → Option InputWord
second (v ∷ w ∷ ws) = Some (input_word 2 w)
second _ = None

abbrev pub third : List (List ℕ) → Option InputWord
third (u ∷ v ∷ w ∷ ws) = Some (input_word 3 w)
third _ = None

abbrev pub input_of_step : List ℕ → List (List ℕ) → Option InputWord
input_of_step word ws = if bytes_eq (codes "step") word then second ws else if bytes_eq (codes "guess") word then second ws else None

abbrev pub input_of_event : List ℕ → List (List ℕ) → Option InputWord
input_of_event word ws = if bytes_eq (codes "step") word then second ws else if bytes_eq (codes "guess") word then third ws else None

-- where a line of a section has an input
abbrev pub input_in : Part → List ℕ → List (List ℕ) → Option InputWord
input_in Part.Steps word ws = input_of_step word ws
input_in Part.Trace word ws = input_of_event word ws
input_in _ word ws = None

abbrev pub is_wide : Option InputWord → Bool
is_wide None = false
is_wide (Some x) = x.is_wide

-- while it is unknown what an input is, the words behind it can't be judged
abbrev pub unknown_input : Option InputWord → Option Found
unknown_input None = None
unknown_input (Some x) = if x.is_known then None else fault_at x.index Why.Input

-- ---- lines

-- the first fault of the words behind a first word that has these forms, if it is known
abbrev pub operand_fault : Option InputWord → Option (List Form) → List (List ℕ) → Option Found
operand_fault input None ws = fault_at 0 Why.Unknown
operand_fault input (Some fs) ws = or_else (open_at 1 ws) (or_else (unknown_input input) (or_else (count_at 1 fs ws) (wrong_at 1 fs ws)))

abbrev pub found_behind : Part → List ℕ → List (List ℕ) → Option Found
found_behind part word ws = let input = input_in part word ws in operand_fault input (forms_of part (is_wide input) word) ws

-- a line is seen as its first word and the words behind it
abbrev pub found_of : Part → Option (List ℕ × List (List ℕ)) → Option Found
found_of part None = None
found_of part (Some x) = found_behind part x.0 x.1

-- ---- the kind that is told of it

-- of an unknown input the count of the words behind it tells
abbrev pub kind_by : Why → FaultKind → FaultKind
kind_by Why.Open of_input = FaultKind.Operand
kind_by (Why.Malformed f) of_input = FaultKind.Operand
kind_by Why.Input of_input = of_input
kind_by _ of_input = FaultKind.Word

-- the kind of a fault, of a line behind whose first word these words stand
abbrev pub kind_of : Found → List (List ℕ) → FaultKind
kind_of f ws = kind_by f.why (no_input (drop f.index ws))

-- whether this kind tells of something else than words and operands
abbrev pub IsOther : FaultKind → Type 0
IsOther FaultKind.Word = ⊥
IsOther FaultKind.Operand = ⊥
IsOther _ = Unit {0}

-- What is found in a line of which this is said, behind whose first word these words stand: a fault of the kind that is
-- told; and where none is found, none of words and operands is told.
abbrev pub Agrees : {A : Type 0} → List (List ℕ) → Result A FaultKind → Option Found → Type 0
Agrees ws (Ok a) None = Unit {0}
Agrees ws (Ok a) (Some f) = ⊥
Agrees ws (Err e) None = IsOther e
Agrees ws (Err e) (Some f) = e ≡ kind_of f ws

-- what is found in a line with these words, which stands in a part, agrees with what its reading says
abbrev pub IsToldIn : {A : Type 0} → Part → List (List ℕ) → Result A FaultKind → Type 0
IsToldIn part ws said = Agrees (drop 1 ws) said (found_of part (first_of ws))
