-- A change of an exit slot or a copy and its undo give what was there before.
use Rattle.std.specs.Prelude.{◌≡◌, ℕ, true, Option, Some, None, refl}
use Rattle.sk_changes.specs.Base.{false≢true, ContentView, IsStatus, IsContent, Change, SetExit, SetCopy, ClearExit, Recopy}
use Rattle.sk_changes.specs.Slots.{exit_fits, exit_after, exit_undone, copy_fits, copy_after, copy_undone}

pub exit_restores : (e : Option ℕ) (c : Change) → IsStatus e → exit_fits e c ≡ true → Unit {0} × (exit_undone (exit_after e c) ClearExit ≡ e)
exit_restores None (SetExit status) valid fits = (tt, refl)
exit_restores (Some s) (SetExit status) valid fits = absurd (false≢true fits)
exit_restores e _ valid fits = absurd (false≢true fits)

pub copy_restores : (v : ContentView) (c : Change) → IsContent v → copy_fits v c ≡ true → Unit {0} × (copy_undone (copy_after v c) (Recopy v) ≡ v)
copy_restores v (SetCopy content) valid fits = (tt, refl)
copy_restores v _ valid fits = absurd (false≢true fits)
