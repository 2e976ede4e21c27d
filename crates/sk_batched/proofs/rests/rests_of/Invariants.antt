-- What the keys so far depend on is there, with what those depend on that are left.
use Rattle.sk_batched.proofs.Names.{◌≡◌, ℕ, ◌||◌, ◌&&◌, not, drop, ◌==◌, list_any, Vec, has, tags_at, bytes_cmp}
use Rattle.sk_batched.proofs.Names.{undo_state_of}
use Rattle.sk_batched.proofs.rests.rests_of.Given as goal

abbrev pub invariant-loop-key : goal.invariant-loop-key
invariant-loop-key g l = (n : ℕ) → (has n l.rests.items || (list_any (λ (k : Vec ℕ). has n (tags_at (undo_state_of bytes_cmp l.kernel.parts) k.items)) (drop l.key-index l.step.looked.items) && not (n == l.own)))
    ≡ (list_any (λ (k : Vec ℕ). has n (tags_at (undo_state_of bytes_cmp l.kernel.parts) k.items)) l.step.looked.items && not (n == l.own))

abbrev pub invariant-loop-write : goal.invariant-loop-write
invariant-loop-write g l = (n : ℕ) → (has n l.rests.items || (list_any (λ (w : Vec ℕ × _). has n (tags_at (undo_state_of bytes_cmp l.kernel.parts) w.0.items)) (drop l.write-index l.step.written.items) && not (n == l.own)))
    ≡ ((list_any (λ (k : Vec ℕ). has n (tags_at (undo_state_of bytes_cmp l.kernel.parts) k.items)) l.step.looked.items
    || list_any (λ (w : Vec ℕ × _). has n (tags_at (undo_state_of bytes_cmp l.kernel.parts) w.0.items)) l.step.written.items) && not (n == l.own))
