-- Leases of a desk: what is lent, and what a hand-in answers.
use Rattle.std.specs.Prelude.{◌≡◌, ◌<◌, ◌≤◌, ◌-◌, ℕ, Result, Ok, Err, if◌then◌else◌}
use Rattle.sk_client.specs.Base.{LeaseView, lease_of, Refusal, state_at, room, IsAsLent, with_steps, HandIn}
use Rattle.std.specs.FinMap as map
use Rattle.sk_client.specs.Desk.{DeskView, pending, asked_count, asks_for}
use Rattle.sk_client.specs.WorldView.{WorldView}

-- a process that waits for a reply is not lent
abbrev pub unless_asked : DeskView → ℕ → Result LeaseView Refusal → Result LeaseView Refusal
unless_asked d pid (Ok l) = if asks_for pid (pending d) then Err Refusal.Blocked else Ok l
unless_asked d pid (Err why) = Err why

-- the lease of a process, or why there is none: as of its kernel, and `Blocked` where it waits for a reply
abbrev pub desk_lease : DeskView → ℕ → Result LeaseView Refusal
desk_lease d pid = unless_asked d pid (lease_of (map.get (state_at d.kernel)) d.kernel.scripts pid)

-- why it is not, from what the kernel would lend
abbrev pub blocked_why : Result LeaseView Refusal → Refusal
blocked_why (Ok l) = Refusal.Blocked
blocked_why (Err why) = why

-- the places of the trace that are free, with one kept for the step of each asked request
abbrev pub places : DeskView → ℕ
places d = room d.kernel - asked_count (pending d)

-- why a lease comes back for whose steps there are none
abbrev pub WhyShort : HandIn → DeskView → LeaseView → Type 0
WhyShort HandIn.Stale d l = IsAsLent d.kernel l → ⊥
WhyShort HandIn.TraceFull d l = IsAsLent d.kernel l
WhyShort HandIn.Memory d l = ⊥

-- a lease is handed in to the kernel, and all else stays; or the first cause against it is told, it comes back, and nothing changes
abbrev pub DeskTakesIn : Result (Unit {0}) HandIn → LeaseView → DeskView → DeskView → Type 0
DeskTakesIn (Ok u) l old new = IsAsLent old.kernel l × (l.count ≤ places old) × (new ≡ record old { kernel = with_steps old.kernel l.lent.pid l.count })
DeskTakesIn (Err HandIn.Stale) l old new = (IsAsLent old.kernel l → ⊥) × (new ≡ old)
DeskTakesIn (Err HandIn.TraceFull) l old new = IsAsLent old.kernel l × (places old < l.count) × (new ≡ old)
DeskTakesIn (Err HandIn.Memory) l old new = IsAsLent old.kernel l × (l.count ≤ places old) × (0 < l.count) × (new ≡ old)

-- what a hand-in answers and leaves; refused, the very lease comes back and all is as it was
abbrev pub DeskHandInPost : Result (Unit {0}) (LeaseView × HandIn) → LeaseView → DeskView → DeskView → Type 0
DeskHandInPost (Ok u) l old new = DeskTakesIn (Ok u) l old new
DeskHandInPost (Err back) l old new = (back.0 ≡ l) × DeskTakesIn (Err back.1) l old new

-- what a hand-in at the desk of a world answers and leaves; all else of the world stays
abbrev pub WorldTakesIn : Result (Unit {0}) HandIn → LeaseView → WorldView → WorldView → Type 0
WorldTakesIn handed l old new = DeskTakesIn handed l old.desk new.desk × (new ≡ record old { desk = new.desk })

abbrev pub WorldHandInPost : Result (Unit {0}) (LeaseView × HandIn) → LeaseView → WorldView → WorldView → Type 0
WorldHandInPost handed l old new = DeskHandInPost handed l old.desk new.desk × (new ≡ record old { desk = new.desk })
