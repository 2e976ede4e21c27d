-- Changes of files.
use Rattle.std.specs.Prelude.{ℕ, Bool, true, false, ◌&&◌, ◌+◌, ◌≤◌, nat_le, nat_lt, List, length, take, if◌then◌else◌}
use Rattle.sk_changes.specs.Base.{TEXT_LIMIT, written, cut, IsZeroFrom, FILE_LIMIT, Change, WriteAt, CutTo, Undo}
use Rattle.sk_changes.specs.Base.{Restore, Unput}

-- a write of some bytes, at most a text's, that ends within the limit, or a length within it
abbrev pub file_fits : List ℕ → Change → Bool
file_fits f (WriteAt at bytes) = nat_le 1 (length bytes) && (nat_le (length bytes) TEXT_LIMIT && nat_le (at + length bytes) FILE_LIMIT)
file_fits f (CutTo n) = nat_le n FILE_LIMIT
file_fits f _ = false

-- the file that the undo holds and the blocks that are written can want memory; zeros past the end want none
abbrev pub file_grows : List ℕ → Change → Bool
file_grows f (WriteAt at bytes) = true
file_grows f (CutTo n) = nat_lt n (length f)
file_grows f _ = false

-- the file after a change
abbrev pub file_after : List ℕ → Change → List ℕ
file_after f (WriteAt at bytes) = written f at bytes
file_after f (CutTo n) = cut f n
file_after f _ = f

-- what puts it back: the file as it was, or its length where zeros came behind
abbrev pub file_undo : List ℕ → Change → Undo
file_undo f (CutTo n) = if nat_lt n (length f) then Restore f else Unput (length f)
file_undo f _ = Restore f

-- bytes go from the end only where they are zeros
abbrev pub CanUndoFile : List ℕ → Undo → Type 0
CanUndoFile f (Unput n) = (n ≤ length f) × IsZeroFrom n f
CanUndoFile f _ = Unit {0}

-- the file after an undo
abbrev pub file_undone : List ℕ → Undo → List ℕ
file_undone f (Restore before) = before
file_undone f (Unput n) = take n f
file_undone f _ = f
