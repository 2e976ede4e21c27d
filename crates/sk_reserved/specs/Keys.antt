-- The keys of batches.
use Rattle.std.specs.Prelude.{◌%◌, ℕ, Bool, codes, List, [], ◌∷◌, ◌++◌, nat_eq}
use Rattle.std.specs.List.{starts_with}

-- what they begin with
abbrev pub batch_front : List ℕ
batch_front = 255 ∷ codes "batch"

-- the key of a batch
abbrev pub batch_key : ℕ → List ℕ
batch_key n = batch_front ++ (n % 128) ∷ []

-- whether a key begins as those do
abbrev pub is_reserved : List ℕ → Bool
is_reserved key = starts_with nat_eq key batch_front
