-- Two segments of one log, the later of which goes on behind the first frames of the earlier.
use Rattle.std.specs.Prelude.{ℕ, zero, suc, ◌≤◌, List, [], ◌∷◌, ◌++◌, length, take}
use Rattle.sk_log.specs.Crash.{ReadsPrefix}

-- What counts of both: the first c payloads of the earlier, and then the later ones. Where fewer of the earlier were read
-- there is a gap, and the later count for nothing.
abbrev pub joined : ℕ → List (List ℕ) → List (List ℕ) → List (List ℕ)
joined zero earlier later = later
joined (suc c) [] later = []
joined (suc c) (p ∷ ps) later = p ∷ joined c ps later

-- how many in a row were told as synced, where so many of each were
abbrev pub synced_of : ℕ → ℕ → ℕ → ℕ
synced_of zero earlier later = later
synced_of (suc c) zero later = 0
synced_of (suc c) (suc earlier) later = suc (synced_of c earlier later)

-- What counts of both is a front part of what was written, without what was cut, and takes in all that was told as synced.
abbrev pub SegmentsJoin : Type 0
SegmentsJoin = (c synced synced' : ℕ) (written written' read read' : List (List ℕ))
    → c ≤ length written → ReadsPrefix written synced read → ReadsPrefix written' synced' read'
    → ReadsPrefix (take c written ++ written') (synced_of c synced synced') (joined c read read')
