-- A fault that is told at a word.
use Rattle.sk_handles.proofs.Names.{ℕ, List, length, Option, Some, None, IsSomeAnd, refl}
use Rattle.sk_handles.proofs.Names.{Fault, Part, IsTold, placed, IsPlaced}

pub told_at : (f : Fault) (line : Option (Part × List ℕ)) (start : ℕ) (word : List ℕ)
    → IsSomeAnd line (λ x. IsTold f.kind x start word) → IsPlaced f line (placed f start (length word))
told_at f (Some x) start word told = (start, word, told, refl)
told_at f None start word told = absurd told
