-- A change of a pipe and its undo give the pipe before.
use Rattle.std.specs.Prelude.{◌≡◌, ℕ, ◌≤◌, Bool, true, List, length}
use Rattle.sk_changes.specs.Base.{arith, ap, refl, sym, false≢true, not-true, length-take, length-drop, take_at, take-append-drop}
use Rattle.sk_changes.specs.Base.{PipeView, PIPE_LIMIT, Change, Put, Take, Shut}
use Rattle.sk_changes.specs.Pipes.{pipe_fits, pipe_after, pipe_undo, CanUndoPipe, pipe_undone}

pub pipe_restores : (p : PipeView) (c : Change) → length p.bytes ≤ PIPE_LIMIT → pipe_fits p c ≡ true → CanUndoPipe (pipe_after p c) (pipe_undo p c) × (pipe_undone (pipe_after p c) (pipe_undo p c) ≡ p)
pipe_restores p (Put bytes) small fits = (tt, ap (λ (bs : List ℕ). let q : PipeView = record p { bytes = bs } in q) (take_at p.bytes bytes (length p.bytes) refl))
pipe_restores p (Take n) small fits = (simp (length-take, length-drop) (omega arith), ap (λ (bs : List ℕ). let q : PipeView = record p { bytes = bs } in q) (take-append-drop n p.bytes))
pipe_restores p Shut small fits = (tt, ap (λ (b : Bool). let q : PipeView = record p { shut = b } in q) (sym (not-true p.shut fits)))
pipe_restores p _ small fits = absurd (false≢true fits)
