-- What holds of recovery.
use Rattle.std.specs.Prelude.{◌≡◌, ◌-◌, ◌≤◌, ℕ, List, [], ◌∷◌, length, take, Option, Some, None}
use Rattle.sk_recovered.specs.Base.{ReadsPrefix, joined, Work, Entries, payloads_of, works_in, AreLogged, after_works}
use Rattle.sk_recovered.specs.Frames.{IsMade}
use Rattle.sk_recovered.specs.Segments.{counted, lower, Part}

-- the least number from which one of these parts goes on
abbrev pub least_first : List Part → Option ℕ
least_first [] = None
least_first (p ∷ parts) = Some (lower p.first (least_first parts))

-- The bound of each is the least number from which a later one goes on.
abbrev pub AreBounded : List Part → Type 0
AreBounded [] = Unit {0}
AreBounded (p ∷ parts) = (p.bound ≡ least_first parts) × AreBounded parts

-- what counts of one segment and the later ones: as `sk_log` joins them
abbrev pub joined_at : Option ℕ → Part → List (List ℕ) → List (List ℕ)
joined_at None p later = p.payloads
joined_at (Some bound) p later = joined (bound - p.first) p.payloads later

abbrev pub joined_all : List Part → List (List ℕ)
joined_all [] = []
joined_all (p ∷ parts) = joined_at p.bound p (joined_all parts)

abbrev pub CountedIsJoined : Type 0
CountedIsJoined = (parts : List Part) (first : ℕ) → AreBounded parts → least_first parts ≡ Some first
    → counted first parts ≡ joined_all parts

-- What is made of a front part of frames that were logged, with all that were told as synced, is the store behind the works of these frames,
-- and no frame is damaged.
abbrev pub CountedIsRestored : Type 0
CountedIsRestored = (first synced : ℕ) (start store : Entries) (frames : List (List Work)) (payloads : List (List ℕ))
    → AreLogged frames → ReadsPrefix (payloads_of frames) synced payloads → IsMade first start payloads store None
    → (n : ℕ) × (synced ≤ n) × (n ≤ length frames) × (length payloads ≡ n) × (store ≡ after_works (works_in (take n frames)) start)
