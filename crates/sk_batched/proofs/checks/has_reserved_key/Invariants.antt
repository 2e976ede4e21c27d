-- None of the first keys begins as those of batches do.
use Rattle.sk_batched.proofs.Names.{◌≡◌, ℕ, false, take, list_any, is_reserved, Vec}
use Rattle.sk_batched.proofs.checks.has_reserved_key.Given as goal

abbrev pub invariant-loop-key : goal.invariant-loop-key
invariant-loop-key g l = list_any (λ (key : Vec ℕ). is_reserved key.items) (take l.key-index l.step.looked.items) ≡ false

abbrev pub invariant-loop-write : goal.invariant-loop-write
invariant-loop-write g l =
    (list_any (λ (key : Vec ℕ). is_reserved key.items) l.step.looked.items ≡ false)
    × (list_any (λ (w : Vec ℕ × _). is_reserved w.0.items) (take l.write-index l.step.written.items) ≡ false)
