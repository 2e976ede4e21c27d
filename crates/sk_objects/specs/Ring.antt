-- A ring of bytes, as the list of those that it holds.
use Rattle.std.specs.Prelude.{ℕ, ◌-◌, nat_lt, if◌then◌else◌, List, ◌++◌, take, drop}

-- the ring's cells from one on, round the end
abbrev pub turned : ℕ → List ℕ → List ℕ
turned n cells = drop n cells ++ take n cells

-- so many from the head on
abbrev pub ring_bytes : ℕ → ℕ → List ℕ → List ℕ
ring_bytes head len cells = take len (turned head cells)

-- a cell's place, past the end from the front on
abbrev pub wrapped : ℕ → ℕ
wrapped place = if nat_lt place 4096 then place else place - 4096
