-- On which guesses outputs depend.
use Rattle.std.specs.Prelude.{◌≡◌, ◌<◌, ◌||◌, ℕ, Bool, false, [], ◌∷◌}
use Rattle.sk_record.specs.Notes.{has}
use Rattle.sk_outputs.specs.Said.{Said}

-- whether one of these outputs depends on a guess
abbrev pub some_rest : {O : Type 0} → Said O → ℕ → Bool
some_rest [] g = false
some_rest (x ∷ xs) g = has g x.1 || some_rest xs g

-- none of these depends on a guess of a greater number
abbrev pub NoneAbove : {O : Type 0} → Said O → ℕ → Type 0
NoneAbove xs newest = (g : ℕ) → newest < g → some_rest xs g ≡ false
