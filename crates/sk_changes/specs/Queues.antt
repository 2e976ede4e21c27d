-- Changes of queues of signals.
use Rattle.std.specs.Prelude.{ℕ, Bool, false, ◌&&◌, ◌<◌, ◌-◌, nat_le, nat_lt, List, [], ◌∷◌, ◌++◌, length, take, drop, slice_index}
use Rattle.sk_changes.specs.Base.{IsSignal, SIGNALS_LIMIT, LAST_SIGNAL, Change, PushSignal, TakeSignal, Undo, Unpush}
use Rattle.sk_changes.specs.Base.{Requeue, Reopen}

-- a signal's number while there is room for one more, or a queue that is not empty
abbrev pub queue_fits : List ℕ → Change → Bool
queue_fits s (PushSignal n) = nat_lt (length s) SIGNALS_LIMIT && (nat_le 1 n && nat_le n LAST_SIGNAL)
queue_fits s TakeSignal = nat_lt 0 (length s)
queue_fits s _ = false

-- the queue after a change
abbrev pub queue_after : List ℕ → Change → List ℕ
queue_after s (PushSignal n) = s ++ n ∷ []
queue_after s TakeSignal = drop 1 s
queue_after s _ = s

-- what puts it back: that the last is new, or the signal that was first
abbrev pub queue_undo : List ℕ → Change → Undo
queue_undo s (PushSignal n) = Unpush
queue_undo s TakeSignal = Requeue (slice_index s 0)
queue_undo s _ = Reopen

-- a signal goes back to the front only where there is room
abbrev pub CanUndoQueue : List ℕ → Undo → Type 0
CanUndoQueue s (Requeue n) = (length s < SIGNALS_LIMIT) × IsSignal n
CanUndoQueue s _ = Unit {0}

-- the queue after an undo
abbrev pub queue_undone : List ℕ → Undo → List ℕ
queue_undone s Unpush = take (length s - 1) s
queue_undone s (Requeue n) = n ∷ s
queue_undone s _ = s
