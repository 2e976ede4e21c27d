-- The lines of a file by which answers are explained.
use Rattle.std.specs.Prelude.{ℕ, ◌+◌, ◌-◌, Bool, ◌||◌, List, [], ◌∷◌, ◌++◌, codes, decimal, is_some, slice_get, unwrap_or, if◌then◌else◌, Option, Some, None}
use Rattle.sk_words.specs.Words.{words, first_of}
use Rattle.sk_source.specs.declared.source.Stand.{Stand}
use Rattle.sk_source.specs.View.{SourceView}
use Rattle.sk_source.specs.Told.{line_told}
use Rattle.sk_source.specs.Script.{begins_with, in_script}

-- ---- the lines of the events

-- whether a line is the heading of a section of events
abbrev pub is_section : List (List ℕ) → Bool
is_section ws = begins_with (codes "steps") ws || begins_with (codes "world") ws

-- whether a line says something
abbrev pub says : List (List ℕ) → Bool
says ws = is_some (first_of ws)

-- a line of this number, told where it says something
abbrev pub event_told : ℕ → List (List ℕ) → List (List ℕ)
event_told number ws = if says ws then line_told number ws ∷ [] else []

-- the lines of a section that say something, told; its first has this number
abbrev pub events_from : ℕ → List (List ℕ) → List (List ℕ)
events_from number [] = []
events_from number (l ∷ ls) = event_told number (words l) ++ events_from (number + 1) ls

-- the lines of a file that are told: those behind the heading of its section
abbrev pub events_in : ℕ → List (List ℕ) → List (List ℕ)
events_in number [] = []
events_in number (l ∷ ls) = if is_section (words l) then events_from (number + 1) ls else events_in (number + 1) ls

-- a file of these lines
abbrev pub source_of : List (List ℕ) → SourceView
source_of ls = record { lines = ls; events = events_in 1 ls }

-- ---- what explains an answer

-- the line of the event of this number, from 1 on
abbrev pub event_line : SourceView → ℕ → List ℕ
event_line s number = unwrap_or (slice_get s.events (number - 1)) []

-- the place at which its process stood, and the line that stands there
abbrev pub behind_place : Option (ℕ × List (List ℕ)) → List ℕ
behind_place None = 10 ∷ []
behind_place (Some found) = 32 ∷ line_told found.0 found.1

abbrev pub stand_told : List (List ℕ) → Stand → List ℕ
stand_told ls stand = codes "at " ++ decimal stand.place ++ behind_place (in_script stand.script stand.place 1 ls)

abbrev pub place_told : List (List ℕ) → Option Stand → List ℕ
place_told ls None = []
place_told ls (Some stand) = stand_told ls stand

-- the line of an event, and where its instruction stands
abbrev pub explained : SourceView → ℕ → Option Stand → List ℕ
explained s number stand = event_line s number ++ place_told s.lines stand
