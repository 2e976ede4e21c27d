-- What calls are told: the number of an answer, that of what it names, and how many names a refusal took back.
use Rattle.std.specs.Prelude.{ℕ, Option, Some, None, Result, Ok, Err}
use Rattle.real_epochs.specs.declared.refused.Refused.{Refused}
use Rattle.real_epochs.specs.declared.refused.Refused.TheVariants.{NoName, Changed, TooMany, NoNumber, Memory}
use Rattle.hidewillow_epochs.specs.declared.told.Told.{Told}
use Rattle.hidewillow_epochs.specs.declared.told.TheConstants.{DONE, NONE, REFUSED, MEMORY}

-- an answer with a number, and no names
abbrev pub just : ℕ → ℕ → Told
just answer number = record { answer = answer; number = number; names = 0 }

-- what a call is told of what may be there: this answer with its number, or that there is none
abbrev pub place_told : ℕ → Option ℕ → Told
place_told answer None = just NONE 0
place_told answer (Some number) = just answer number

-- why not
abbrev pub refused : Refused → Told
refused NoName = just REFUSED 1
refused Changed = just REFUSED 2
refused TooMany = just REFUSED 3
refused NoNumber = just REFUSED 4
refused Memory = just MEMORY 0

-- the number of what began, or why nothing did
abbrev pub number_told : Result ℕ Refused → Told
number_told (Ok number) = just DONE number
number_told (Err why) = refused why

-- what a call is told by which something was to happen: that it has, or why not
abbrev pub step_told : Result (Unit {0}) Refused → Told
step_told (Ok done) = just DONE 0
step_told (Err why) = refused why
