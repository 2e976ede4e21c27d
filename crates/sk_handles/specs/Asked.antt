-- What is asked of what is at play, and what is told of it.
use Rattle.std.specs.Prelude.{◌≡◌, ◌⊎◌, ⊤, ℕ, List, Option, Some, None, Result, Ok, Err, option_and_then}
use Rattle.sk_handles.specs.Base.{slice_get, option_map, Vec, Global, Entity, KernelView, state_at, tags_at}
use Rattle.sk_handles.specs.Base.{AreCounts, Counts, Stop, tags_text, gathered, report_text, terminal_said, named, released_in}
use Rattle.sk_handles.specs.Base.{kernel_of, Play, SHOWN, ABSENT, MEMORY, Told}
use Rattle.std.specs.FinMap as map
use Rattle.sk_handles.specs.Told.{just, texted, put}

-- ---- of an entity

-- what it has, as the report prints it
abbrev pub value_text : KernelView → Entity → Option (List ℕ)
value_text k e = option_map (gathered (map.get (state_at k)) (map.keys (state_at k)) e) (map.get (state_at k) e)

-- the undecided guesses that it depends on
abbrev pub tags_text_of : KernelView → Entity → Option (List ℕ)
tags_text_of k e = Some (tags_text (tags_at k e))

-- ---- the texts of a kernel that are shown; where there is none, what was asked for is absent

abbrev pub report_shown : KernelView → Option (List ℕ)
report_shown k = Some (report_text k)

unfoldable pub value_shown : List ℕ → KernelView → Option (List ℕ)
value_shown name k = option_and_then (value_text k) (named k name)

unfoldable pub tags_shown : List ℕ → KernelView → Option (List ℕ)
tags_shown name k = option_and_then (tags_text_of k) (named k name)

-- the lines of a terminal, as the report has them
abbrev pub terminal_shown : ℕ → KernelView → Option (List ℕ)
terminal_shown number k = Some (terminal_said k number)

-- the text at a place among those that a terminal has released
abbrev pub released_text : ℕ → ℕ → Play → Option (List ℕ)
released_text number place p = slice_get (released_in (kernel_of p) number) place

-- ---- what is told

-- the text that was read, if any; nothing is said of a refused growth
abbrev pub Reads : Result (Option (Vec ℕ Global)) Stop → Option (List ℕ) → Type 0
Reads (Ok (Some v)) text = text ≡ Some v.items
Reads (Ok None) text = text ≡ None
Reads (Err why) text = ⊤

-- the text that was read is in the room, and its length is told; or there is none, or no memory
abbrev pub ShowsRead : Told → Result (Option (Vec ℕ Global)) Stop → List ℕ → List ℕ → Type 0
ShowsRead told (Ok (Some v)) old new = (told ≡ texted (just SHOWN 0) v.items) × (new ≡ put v.items old)
ShowsRead told (Ok None) old new = (told ≡ just ABSENT 0) × (new ≡ old)
ShowsRead told (Err why) old new = (told ≡ just MEMORY 0) × (new ≡ old)

-- a text is in the room, or absent; without memory the room is as it was
abbrev pub ShowsText : Told → Option (List ℕ) → List ℕ → List ℕ → Type 0
ShowsText told (Some text) old new =
    ((told ≡ texted (just SHOWN 0) text) × (new ≡ put text old)) ⊎ ((told ≡ just MEMORY 0) × (new ≡ old))
ShowsText told None old new = ((told ≡ just ABSENT 0) × (new ≡ old)) ⊎ ((told ≡ just MEMORY 0) × (new ≡ old))

-- ---- of what is held, which has something

-- such a text of that is shown
abbrev pub ShowsIn : {S X : Type 0} → (S → X) → (X → Option (List ℕ)) → List ℕ → List ℕ → Told → S → Type 0
ShowsIn has text room_old room_new told held = ShowsText told (text (has held)) room_old room_new

-- the counts of its kernel; without memory they are as they were
abbrev pub CountsKernel : {S : Type 0} → (S → KernelView) → Counts → Counts → Told → S → Type 0
CountsKernel kernel old new told held =
    ((told ≡ just SHOWN 0) × AreCounts (kernel held) new) ⊎ ((told ≡ just MEMORY 0) × (new ≡ old))
