-- Steps that name a key of a batch.
use Rattle.std.specs.Prelude.{◌||◌, ℕ, Bool}
use Rattle.sk_batched.specs.Base.{list_any, Vec, WholeStep, is_reserved}

-- whether a key that the step names begins as those of batches do
abbrev pub has_reserved_key : {V O : Type 0} → WholeStep (Vec ℕ) V O → Bool
has_reserved_key step = list_any (λ key. is_reserved key.items) step.looked.items || list_any (λ w. is_reserved w.0.items) step.written.items
