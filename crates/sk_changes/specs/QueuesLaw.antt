-- A change of a queue and its undo give the queue before.
use Rattle.std.specs.Prelude.{◌≡◌, ℕ, ◌≤◌, ◌-◌, true, List, [], ◌∷◌, ◌++◌, length, drop, All}
use Rattle.sk_changes.specs.Base.{arith, refl, false≢true, length-append, take_at, All-head, IsSignal, SIGNALS_LIMIT}
use Rattle.sk_changes.specs.Base.{Change, PushSignal, TakeSignal}
use Rattle.sk_changes.specs.Queues.{queue_fits, queue_after, queue_undo, CanUndoQueue, queue_undone}

take_back : (s : List ℕ) → (length s ≤ SIGNALS_LIMIT) × All IsSignal s → queue_fits s TakeSignal ≡ true → CanUndoQueue (drop 1 s) (queue_undo s TakeSignal) × (queue_undone (drop 1 s) (queue_undo s TakeSignal) ≡ s)
take_back [] valid fits = absurd (false≢true fits)
take_back (x ∷ xs) valid fits = ((omega arith, All-head IsSignal x xs valid.1), refl)

pub queue_restores : (s : List ℕ) (c : Change) → (length s ≤ SIGNALS_LIMIT) × All IsSignal s → queue_fits s c ≡ true → CanUndoQueue (queue_after s c) (queue_undo s c) × (queue_undone (queue_after s c) (queue_undo s c) ≡ s)
queue_restores s (PushSignal n) valid fits = (tt, take_at s (n ∷ []) (length (s ++ n ∷ []) - 1) (simp length-append (omega arith)))
queue_restores s TakeSignal valid fits = take_back s valid fits
queue_restores s _ valid fits = absurd (false≢true fits)
