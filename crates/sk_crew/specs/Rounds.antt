-- The rounds that a worker makes of its processes.
use Rattle.std.specs.Prelude.{ℕ, ◌+◌, Bool, true, false, ◌&&◌, nat_lt, nat_le, Option, Some, None, Result, Err, if◌then◌else◌}
use Rattle.sk_crew.specs.Base.{Refusal, Turn, Rounds}

-- the worker of this number, one of so many, took no turn yet; one that has no process has stopped
abbrev pub fresh : ℕ → ℕ → ℕ → Rounds
fresh number workers count = record { count = count; first = number; step = workers; at = number; is_ended = true; is_over = nat_le count number }

-- the place of the process whose turn it is
abbrev pub due : Rounds → Option ℕ
due r = if r.is_over then None else Some r.at

-- the place of the process whose turn comes after this one, where the worker goes on
abbrev pub next : Rounds → ℕ
next r = if nat_lt (r.at + r.step) r.count then r.at + r.step else r.first

-- after a turn that was answered `Ended`, or was not: behind the last process the round is over, and the worker stops where each turn of it was
abbrev pub after : Bool → Rounds → Rounds
after ended r =
    if nat_lt (r.at + r.step) r.count then record r { at = r.at + r.step; is_ended = r.is_ended && ended }
    else record r { at = r.first; is_ended = true; is_over = r.is_ended && ended }

-- whether a turn was answered `Ended`
abbrev pub is_ended : Result Turn Refusal → Bool
is_ended (Err Refusal.Ended) = true
is_ended answer = false
