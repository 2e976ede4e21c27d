-- What happens in a kernel.
use Rattle.std.specs.Prelude.{Option, Some, None}
use Rattle.sk_ids.specs.Pid.{IsPath}
use Rattle.sk_ids.specs.Guess.{IsGuessNumber}
use Rattle.sk_trace.specs.Entry.{EntryView}
use Rattle.sk_trace.specs.Kept.{IsInput}
use Rattle.sk_trace.specs.declared.event.Event.{Event}

-- the entry of a step; a decision has none
abbrev pub entry_of : Event → Option EntryView
entry_of (Event.Step pid input) = Some (record { pid = pid; input = input; guess = None })
entry_of (Event.Guess id pid input) = Some (record { pid = pid; input = input; guess = Some id })
entry_of _ = None

-- ---- what holds of every event

abbrev pub IsEvent : Event → Type 0
IsEvent (Event.Step pid input) = IsPath pid × IsInput input
IsEvent (Event.Guess id pid input) = IsGuessNumber id × IsPath pid × IsInput input
IsEvent (Event.Commit id) = IsGuessNumber id
IsEvent (Event.Fail id) = IsGuessNumber id
