-- Snapshots that are read again.
use Rattle.std.specs.Prelude.{◌≡◌, true, false, ℕ, List, [], ◌∷◌}
use Rattle.sk_recovered.specs.Base.{is_sorted, log, AreFrames, bytes_cmp, Entries, IsPiece, Head, Found}
use Rattle.sk_recovered.specs.Recovered.{is_damaged, IsFound}

-- the head of the one segment that a snapshot is
abbrev pub snapshot_heads : List Head
snapshot_heads = record { segment = 0; first = 1 } ∷ []

-- Of these entries the payloads were written, one piece behind another, and none is left.
abbrev pub ArePieces : Entries → List (List ℕ) → Type 0
ArePieces entries [] = entries ≡ []
ArePieces entries (payload ∷ payloads) = (room : ℕ) × (left : Entries) × IsPiece room entries payload left × ArePieces left payloads

-- What is found of the frames of a snapshot, in pieces of any size, is the entries that it was written of, and nothing is damaged or dropped.
abbrev pub SnapshotsAreRead : Type 0
SnapshotsAreRead = (entries : Entries) (bytes : List ℕ) (found : Found) → is_sorted bytes_cmp entries ≡ true
    → ((payloads : List (List ℕ)) × ArePieces entries payloads × AreFrames 0 1 payloads × (bytes ≡ log 0 1 payloads))
    → IsFound [] 1 snapshot_heads (bytes ∷ []) 0 found
    → (is_damaged 0 0 found ≡ false) × (found.store ≡ entries)
