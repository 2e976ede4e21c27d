-- Cells as numbers, eight at a time.
use Rattle.std.specs.Prelude.{ℕ, ◌+◌, ◌*◌, List, slice_index}

-- the number that the eight cells from a place on spell, the first of them in the highest byte
abbrev pub word_at : List ℕ → ℕ → ℕ
word_at cells at = slice_index cells at * 72057594037927936 + slice_index cells (at + 1) * 281474976710656 + slice_index cells (at + 2) * 1099511627776 + slice_index cells (at + 3) * 4294967296
    + slice_index cells (at + 4) * 16777216 + slice_index cells (at + 5) * 65536 + slice_index cells (at + 6) * 256 + slice_index cells (at + 7)
