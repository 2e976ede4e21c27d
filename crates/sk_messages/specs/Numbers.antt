-- Numbers as bytes: eight of each, the lowest first.
use Rattle.std.specs.Prelude.{ℕ, ◌*◌, List, take, drop, flat_map}
use Rattle.std.specs.Int.{w64, to_le_bytes, from_le_bytes}

-- these numbers, one behind the other
unfoldable pub number_bytes : List ℕ → List ℕ
number_bytes ns = flat_map (to_le_bytes w64) ns

-- the number before which so many stand
unfoldable pub number_at : ℕ → List ℕ → ℕ
number_at place bytes = from_le_bytes w64 (take 8 (drop (8 * place) bytes))
