-- Changes of exit slots and of cached copies.
use Rattle.std.specs.Prelude.{ℕ, Bool, true, false, not, Option, Some, None, is_some}
use Rattle.sk_changes.specs.Base.{ContentView, Change, SetExit, SetCopy, Undo, ClearExit, Recopy}

-- a slot that is not set
abbrev pub exit_fits : Option ℕ → Change → Bool
exit_fits e (SetExit status) = not (is_some e)
exit_fits e _ = false

-- the slot after a change
abbrev pub exit_after : Option ℕ → Change → Option ℕ
exit_after e (SetExit status) = Some status
exit_after e _ = e

-- the slot after an undo
abbrev pub exit_undone : Option ℕ → Undo → Option ℕ
exit_undone e ClearExit = None
exit_undone e _ = e

-- any content: that which gives way is held by the undo, for which memory is wanted
abbrev pub copy_fits : ContentView → Change → Bool
copy_fits c (SetCopy content) = true
copy_fits c _ = false

-- the copy after a change
abbrev pub copy_after : ContentView → Change → ContentView
copy_after c (SetCopy content) = content
copy_after c _ = c

-- the copy after an undo
abbrev pub copy_undone : ContentView → Undo → ContentView
copy_undone c (Recopy content) = content
copy_undone c _ = c
