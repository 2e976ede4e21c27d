-- Lines, and the numbers in them.
use Rattle.std.specs.Prelude.{◌≡◌, ◌≢◌, ℕ, ◌+◌, ◌-◌, ◌*◌, ◌<◌, ◌≤◌, List, [], ◌∷◌, ◌++◌, length, slice_index, take, decimal, Option, Some, None, Result, Ok, Err}
use Rattle.std.specs.declared.alloc.AllocError.{AllocError}

-- No byte ends a line.
abbrev pub IsLine : List ℕ → Type 0
IsLine bytes = (i : ℕ) → i < length bytes → slice_index bytes i ≢ 10

-- a mark and a number in decimal, as a line has them: without the byte that ends it
unfoldable pub said : ℕ → ℕ → List ℕ
said mark n = mark ∷ (decimal n ++ 13 ∷ [])

-- the whole line
abbrev pub head : ℕ → ℕ → List ℕ
head mark n = said mark n ++ 10 ∷ []

-- the number that digits say, where a number stands before them
abbrev pub value_from : ℕ → List ℕ → ℕ
value_from n [] = n
value_from n (d ∷ ds) = value_from (n * 10 + (d - 48)) ds

-- Bytes are put behind a part of a line, up to its end: so many, none where the line is too long then.
abbrev pub TakesLine : ℕ → List ℕ → List ℕ → Result (Option ℕ) AllocError → List ℕ → Type 0
TakesLine limit part bytes (Ok (Some n)) new = (n ≤ length bytes) × (new ≡ part ++ take n bytes) × IsLine (take n bytes)
    × (length part ≤ limit → length new ≤ limit) × (slice_index bytes 0 ≢ 10 → 0 < length bytes → 0 < n)
TakesLine limit part bytes (Ok None) new = (new ≡ part) × ((n : ℕ) × (n ≤ length bytes) × IsLine (take n bytes) × (limit < length part + n))
TakesLine limit part bytes (Err e) new = new ≡ part
