-- How a refusal is printed.
use Rattle.std.specs.Prelude.{ℕ, List, ◌∷◌, ◌++◌, codes, decimal}
use Rattle.sk_plain.specs.Base.{Refusal}
use Rattle.sk_plain.specs.Refusal.{refusal_number}

abbrev pub refusal_name : Refusal → List ℕ
refusal_name Refusal.NoProcess = codes "NoProcess"
refusal_name Refusal.Ended = codes "Ended"
refusal_name Refusal.Mismatch = codes "Mismatch"
refusal_name Refusal.NeedsReply = codes "NeedsReply"
refusal_name Refusal.Blocked = codes "Blocked"
refusal_name Refusal.NoRoom = codes "NoRoom"
refusal_name Refusal.TooMany = codes "TooMany"
refusal_name Refusal.TraceFull = codes "TraceFull"
refusal_name Refusal.Memory = codes "Memory"

-- its number and its name
abbrev pub refusal_words : Refusal → List ℕ
refusal_words why = decimal (refusal_number why) ++ 32 ∷ refusal_name why
