-- A request that is whole, read in one pass.
use Rattle.std.specs.Prelude.{◌≡◌, ℕ, ◌≤◌, ◌^◌, List, [], ◌∷◌, ◌++◌, length, take}
use Rattle.sk_requests.specs.Request.{bulk}

-- A word stands whole at the front of bytes, and is put behind others: it takes so many of the bytes, and so many are its own.
abbrev pub IsNextWord : List (List ℕ) → List (List ℕ) → List ℕ → ℕ → ℕ → ℕ → Type 0
IsNextWord words new bytes room count size = (word : List ℕ) × (new ≡ words ++ word ∷ []) × (length word ≡ size)
    × (size ≤ room) × (size ≤ 2 ^ 29) × (count ≤ length bytes) × (take count bytes ≡ bulk word)
