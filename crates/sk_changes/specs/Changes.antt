-- Changes of values of any kind: each as its kind has it. A directory and a link have none.
use Rattle.std.specs.Prelude.{Bool, false}
use Rattle.sk_changes.specs.Base.{Value, File, Pipe, Signals, Exit, Copy, Change, Undo, ClearExit, Recopy, Reopen}
use Rattle.sk_changes.specs.Files.{file_fits, file_grows, file_after, file_undo, CanUndoFile, file_undone}
use Rattle.sk_changes.specs.Pipes.{pipe_fits, pipe_grows, pipe_after, pipe_undo, CanUndoPipe, pipe_undone}
use Rattle.sk_changes.specs.Queues.{queue_fits, queue_after, queue_undo, CanUndoQueue, queue_undone}
use Rattle.sk_changes.specs.Slots.{exit_fits, exit_after, exit_undone, copy_fits, copy_after, copy_undone}

-- whether a change fits a value
abbrev pub value_fits : Value → Change → Bool
value_fits (File f) c = file_fits f c
value_fits (Pipe p) c = pipe_fits p c
value_fits (Signals s) c = queue_fits s c
value_fits (Exit e) c = exit_fits e c
value_fits (Copy v) c = copy_fits v c
value_fits _ c = false

-- whether a change that fits can want memory: for blocks of a file, or for what the undo holds of a file, a pipe or a copy
abbrev pub value_grows : Value → Change → Bool
value_grows (File f) c = file_grows f c
value_grows (Pipe p) c = pipe_grows p c
value_grows (Copy v) c = copy_fits v c
value_grows _ c = false

-- the value after a change that fits
abbrev pub value_after : Value → Change → Value
value_after (File f) c = File (file_after f c)
value_after (Pipe p) c = Pipe (pipe_after p c)
value_after (Signals s) c = Signals (queue_after s c)
value_after (Exit e) c = Exit (exit_after e c)
value_after (Copy v) c = Copy (copy_after v c)
value_after v c = v

-- what puts it back: of an exit slot that it was not set, and of a copy the content that it had
abbrev pub value_undo : Value → Change → Undo
value_undo (File f) c = file_undo f c
value_undo (Pipe p) c = pipe_undo p c
value_undo (Signals s) c = queue_undo s c
value_undo (Exit e) c = ClearExit
value_undo (Copy v) c = Recopy v
value_undo _ c = Reopen

-- whether an undo may be given back to a value
abbrev pub CanUndo : Value → Undo → Type 0
CanUndo (File f) u = CanUndoFile f u
CanUndo (Pipe p) u = CanUndoPipe p u
CanUndo (Signals s) u = CanUndoQueue s u
CanUndo _ u = Unit {0}

-- the value after an undo
abbrev pub value_undone : Value → Undo → Value
value_undone (File f) u = File (file_undone f u)
value_undone (Pipe p) u = Pipe (pipe_undone p u)
value_undone (Signals s) u = Signals (queue_undone s u)
value_undone (Exit e) u = Exit (exit_undone e u)
value_undone (Copy v) u = Copy (copy_undone v u)
value_undone v u = v
