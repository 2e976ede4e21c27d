-- The bytes of a file, written over and cut.
use Rattle.std.specs.Prelude.{ℕ, ◌+◌, ◌-◌, ◌/◌, List, ◌++◌, length, take, drop, replicate}

-- the list with others in the place of those that begin at `at`
abbrev pub overwritten : {A : Type 0} → List A → ℕ → List A → List A
overwritten f at bytes = take at f ++ bytes ++ drop (at + length bytes) f

-- the bytes, and zeros up to a length
abbrev pub filled : List ℕ → ℕ → List ℕ
filled f n = f ++ replicate (n - length f) 0

-- the bytes with others at a place, and zeros in a gap before them
abbrev pub written : List ℕ → ℕ → List ℕ → List ℕ
written f at bytes = overwritten (filled f (at + length bytes)) at bytes

-- the first n bytes, or all of them and zeros up to n
abbrev pub cut : List ℕ → ℕ → List ℕ
cut f n = take n f ++ replicate (n - length f) 0

-- how many blocks of 512 so many bytes take
abbrev pub blocks_of : ℕ → ℕ
blocks_of size = (size + 511) / 512

-- up to so many of a list from a place on
abbrev pub part : {A : Type 0} → List A → ℕ → ℕ → List A
part f at count = take count (drop at f)
