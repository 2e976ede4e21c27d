-- When calls are refused.
use Rattle.std.specs.Prelude.{◌≡◌, ◌==◌, Bool, Option, Some, None, if◌then◌else◌}
use Rattle.sk_speculator.specs.declared.refusal.Refusal.TheVariants as kernel
use Rattle.real_epochs.specs.declared.event.Event.{Event}
use Rattle.real_epochs.specs.declared.event.Event.TheVariants.{Changes, Told, Says}
use Rattle.real_epochs.specs.declared.refused.Refused.{Refused}
use Rattle.real_epochs.specs.declared.refused.Refused.TheVariants.{NoName, Changed, TooMany, NoNumber, Memory}
use Rattle.sk_speculator.specs.Calls.{Refuses}
use Rattle.real_epochs.specs.Tells.{EpochsView}
use Rattle.real_epochs.specs.Story.{Story, all_in, changed_in}

-- what does not fit: a name that is none; or what the server tells of a name that an epoch without its reply has changed
abbrev pub misfit : Story → Event → Option Refused
misfit s (Changes name version) = if name == 0 then Some NoName else None
misfit s (Told name version) = if name == 0 then Some NoName else (if changed_in (all_in s.waiting) name then Some Changed else None)
misfit s (Says stream output) = None

-- why an event is refused: it doesn't fit, or there is no memory
abbrev pub RefusesEvent : Story → Event → Refused → Type 0
RefusesEvent s event Memory = misfit s event ≡ None
RefusesEvent s event why = misfit s event ≡ Some why

-- why no epoch begins: as many wait for their replies as may; or no number is left; or there is no memory
abbrev pub RefusesBegin : EpochsView → Refused → Type 0
RefusesBegin c TooMany = Refuses c.parts kernel.TooMany
RefusesBegin c NoNumber = Refuses c.parts kernel.NoNumber
RefusesBegin c Memory = Refuses c.parts kernel.Memory
RefusesBegin c other = ⊥
