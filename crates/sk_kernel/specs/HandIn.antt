-- What a hand-in of a lease leaves, and why it is refused.
use Rattle.std.specs.Prelude.{◌≡◌, ◌<◌, ◌≤◌, ℕ, ◌++◌, replicate, Result, Ok, Err}
use Rattle.sk_kernel.specs.Base.{LeaseView, Event, HandIn, Stale, TraceFull, Memory, Input}
use Rattle.std.specs.FinMap as map
use Rattle.sk_plain.specs.Leased as leased
use Rattle.sk_kernel.specs.Kernel.{KernelView, state_at, room}

-- a step of a process without input
abbrev pub alone_step : ℕ → Event
alone_step pid = Event.Step pid Input.None

-- a kernel after so many steps of a process without input
abbrev pub with_steps : KernelView → ℕ → ℕ → KernelView
with_steps k pid n = record k { trace = k.trace ++ replicate n (alone_step pid) }

-- the process of a lease and its script are as they were lent, and no signal is due
abbrev pub IsAsLent : KernelView → LeaseView → Type 0
IsAsLent k l = leased.IsAsLent (map.get (state_at k)) k.scripts l

-- a lease is taken in, and its count of steps done; or the first cause against it is told, and nothing changes. Memory can be
-- wanting only where there is a step to do.
abbrev pub TakesIn : Result (Unit {0}) HandIn → LeaseView → KernelView → KernelView → Type 0
TakesIn (Ok u) l old new = IsAsLent old l × (l.count ≤ room old) × (new ≡ with_steps old l.lent.pid l.count)
TakesIn (Err Stale) l old new = (IsAsLent old l → ⊥) × (new ≡ old)
TakesIn (Err TraceFull) l old new = IsAsLent old l × (room old < l.count) × (new ≡ old)
TakesIn (Err Memory) l old new = IsAsLent old l × (l.count ≤ room old) × (0 < l.count) × (new ≡ old)

-- a lease is taken in, as in `TakesIn`, or comes back after a refusal
abbrev pub HandInPost : Result (Unit {0}) (LeaseView × HandIn) → LeaseView → KernelView → KernelView → Type 0
HandInPost (Ok u) l old new = TakesIn (Ok u) l old new
HandInPost (Err back) l old new = (back.0 ≡ l) × TakesIn (Err back.1) l old new
