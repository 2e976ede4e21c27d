-- What comes of private instructions away from the kernel, and what is told of them.
use Rattle.std.specs.Prelude.{◌≡◌, ℕ, Option, Some, None}
use Rattle.sk_handles.specs.Base.{refusal_number, DeskLeases, LeaseTold, LeaseComes, Play, Client, MEMORY}
use Rattle.sk_handles.specs.Base.{REFUSED, STEPPED, Told}
use Rattle.sk_handles.specs.Told.{just}

-- how many were done, or the number of why none was
abbrev pub lease_told : Option LeaseTold → Told
lease_told (Some (LeaseTold.Ran n)) = just STEPPED n
lease_told (Some (LeaseTold.Refused why)) = just REFUSED (refusal_number why)
lease_told (Some LeaseTold.Signalled) = just REFUSED 10
lease_told None = just MEMORY 0

-- what became of a lease of a process in a play is told, and the play has what its steps did
abbrev pub PlayLeases : ℕ → ℕ → Told → Play → Play → Type 0
PlayLeases count pid told old new = (t : Option LeaseTold) × (told ≡ lease_told t) × LeaseComes t pid count old new

abbrev pub ClientLeases : ℕ → ℕ → Told → Client → Client → Type 0
ClientLeases count pid told old new =
    (t : Option LeaseTold) × (told ≡ lease_told t) × DeskLeases t pid count old.desk new.desk × (new ≡ record old { desk = new.desk })
