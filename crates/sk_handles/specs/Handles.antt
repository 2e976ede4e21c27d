-- What a call does with what a handle holds.
use Rattle.std.specs.Prelude.{◌≡◌, ℕ, Option, Some, None, Result, Ok, Err}
use Rattle.sk_handles.specs.Base.{FaultKind, CLOSED, Told}
use Rattle.sk_handles.specs.Told.{faulty, just, kind_number}

-- what a handle holds does this; where it holds nothing, that is told, and `same` holds
abbrev pub Does : {S : Type 0} → (Told → S → S → Type 0) → Type 0 → Told → Option S → Option S → Type 0
Does does same told (Some old) (Some new) = does told old new
Does does same told (Some old) None = ⊥
Does does same told None new = (told ≡ just CLOSED 0) × (new ≡ None) × same

-- the process that was named does this; a name of none changes nothing
abbrev pub DoesAs : {S : Type 0} → (ℕ → Told → S → S → Type 0) → Result ℕ FaultKind → Told → S → S → Type 0
DoesAs does (Ok pid) told old new = does pid told old new
DoesAs does (Err kind) told old new = (told ≡ faulty kind (kind_number kind)) × (new ≡ old)

-- this is told of what is held, which has not changed
abbrev pub Tells : {S : Type 0} → (Told → S → Type 0) → Type 0 → Told → Option S → Option S → Type 0
Tells tells same told (Some old) new = (new ≡ Some old) × tells told old
Tells tells same told None new = (told ≡ just CLOSED 0) × (new ≡ None) × same
