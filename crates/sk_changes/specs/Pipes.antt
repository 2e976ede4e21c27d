-- Changes of pipes.
use Rattle.std.specs.Prelude.{Bool, true, false, not, ◌&&◌, ◌≤◌, ◌+◌, nat_le, ◌++◌, length, take, drop}
use Rattle.sk_changes.specs.Base.{PipeView, TEXT_LIMIT, PIPE_LIMIT, Change, Put, Take, Shut, Undo, Unput, Untake}
use Rattle.sk_changes.specs.Base.{Reopen}

-- some bytes, at most a text's, with room for them where it is not shut; so many of those held; or not yet shut
abbrev pub pipe_fits : PipeView → Change → Bool
pipe_fits p (Put bytes) = not p.shut && (nat_le 1 (length bytes) && (nat_le (length bytes) TEXT_LIMIT && nat_le (length p.bytes + length bytes) PIPE_LIMIT))
pipe_fits p (Take n) = nat_le 1 n && (nat_le n TEXT_LIMIT && nat_le n (length p.bytes))
pipe_fits p Shut = not p.shut
pipe_fits p _ = false

-- the bytes that are taken out are held by the undo, for which memory is wanted
abbrev pub pipe_grows : PipeView → Change → Bool
pipe_grows p (Take n) = true
pipe_grows p _ = false

-- the pipe after a change
abbrev pub pipe_after : PipeView → Change → PipeView
pipe_after p (Put bytes) = record p { bytes = p.bytes ++ bytes }
pipe_after p (Take n) = record p { bytes = drop n p.bytes }
pipe_after p Shut = record p { shut = true }
pipe_after p _ = p

-- what puts it back: the number held, the bytes taken, or that it was open
abbrev pub pipe_undo : PipeView → Change → Undo
pipe_undo p (Put bytes) = Unput (length p.bytes)
pipe_undo p (Take n) = Untake (take n p.bytes)
pipe_undo p _ = Reopen

-- bytes go back to the front only where there is room
abbrev pub CanUndoPipe : PipeView → Undo → Type 0
CanUndoPipe p (Untake bytes) = length p.bytes + length bytes ≤ PIPE_LIMIT
CanUndoPipe p _ = Unit {0}

-- the pipe after an undo
abbrev pub pipe_undone : PipeView → Undo → PipeView
pipe_undone p (Unput n) = record p { bytes = take n p.bytes }
pipe_undone p (Untake bytes) = record p { bytes = bytes ++ p.bytes }
pipe_undone p Reopen = record p { shut = false }
pipe_undone p _ = p
