-- What comes of private instructions that a process does away from its kernel.
use Rattle.std.specs.Prelude.{◌≡◌, ℕ, List, [], ◌∷◌, ◌++◌, codes, decimal, Option, Some, None, Result, Ok, Err}
use Rattle.sk_play.specs.Base.{LeaseView, ran, lease_of, refusal_words, Refusal, KernelView, state_at, TakesIn, HandIn}
use Rattle.sk_play.specs.Base.{DeskView, desk_lease, DeskTakesIn, WorldTakesIn, WorldView, LeaseTold}
use Rattle.std.specs.FinMap as map

-- what is told of the hand-in of a lease of so many instructions; of want of memory nothing
abbrev pub refused_told : HandIn → Option LeaseTold
refused_told HandIn.Stale = Some LeaseTold.Signalled
refused_told HandIn.TraceFull = Some (LeaseTold.Refused Refusal.TraceFull)
refused_told HandIn.Memory = None

abbrev pub handed_told : ℕ → Result (Unit {0}) HandIn → Option LeaseTold
handed_told n (Ok u) = Some (LeaseTold.Ran n)
handed_told n (Err why) = refused_told why

-- what a hand-in answered, without the lease that came back
abbrev pub alone : Result (Unit {0}) (LeaseView × HandIn) → Result (Unit {0}) HandIn
alone (Ok u) = Ok u
alone (Err back) = Err back.1

-- a lease is handed in to a kernel, a desk or a world, as is said of that, and what comes of it is told
abbrev pub HandsIn : {S : Type 0} → (Result (Unit {0}) HandIn → LeaseView → S → S → Type 0) → Option LeaseTold → LeaseView → S → S → Type 0
HandsIn TakesIn told l old new = (did : Result (Unit {0}) HandIn) × (told ≡ handed_told l.count did) × TakesIn did l old new

-- A process that can be lent does up to so many private instructions, and is handed in; of any other it is told why it is not lent.
-- For want of memory too nothing changes.
abbrev pub Leases :
    {S : Type 0} → (Result (Unit {0}) HandIn → LeaseView → S → S → Type 0) → Option LeaseTold → Result LeaseView Refusal → ℕ → S → S → Type 0
Leases TakesIn None lent count old new = new ≡ old
Leases TakesIn (Some told) (Ok l) count old new = HandsIn TakesIn (Some told) (ran count l) old new
Leases TakesIn (Some told) (Err why) count old new = (told ≡ LeaseTold.Refused why) × (new ≡ old)

abbrev pub KernelLeases : Option LeaseTold → ℕ → ℕ → KernelView → KernelView → Type 0
KernelLeases told pid count old new = Leases TakesIn told (lease_of (map.get (state_at old)) old.scripts pid) count old new

abbrev pub DeskLeases : Option LeaseTold → ℕ → ℕ → DeskView → DeskView → Type 0
DeskLeases told pid count old new = Leases DeskTakesIn told (desk_lease old pid) count old new

abbrev pub WorldLeases : Option LeaseTold → ℕ → ℕ → WorldView → WorldView → Type 0
WorldLeases told pid count old new = Leases WorldTakesIn told (desk_lease old.desk pid) count old new

-- how many were done, or why none was
abbrev pub lease_text : LeaseTold → List ℕ
lease_text (LeaseTold.Ran n) = decimal n
lease_text (LeaseTold.Refused why) = codes "refused " ++ refusal_words why
lease_text LeaseTold.Signalled = codes "refused signal"

-- its line
abbrev pub lease_line : LeaseTold → List ℕ
lease_line told = codes "lease " ++ lease_text told ++ 10 ∷ []
