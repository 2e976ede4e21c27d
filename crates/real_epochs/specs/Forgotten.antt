-- Tokens of epochs that were struck.
use Rattle.std.specs.Prelude.{◌≡◌, ℕ, true, false, List, [], ◌∷◌, map}
use Rattle.sk_record.specs.Notes.{has}
use Rattle.sk_guesses.specs.Kept.{KeptView}
use Rattle.sk_speculator.specs.Parts.{Parts}
use Rattle.real_epochs.specs.declared.begun.Begun.{Begun}

abbrev pub ids_of : List Begun → List ℕ
ids_of bs = map (λ b. b.token.id) bs

-- the token of each of these epochs is of the kernel and of a struck guess, and no two are of one guess
abbrev pub AreOut : KeptView → List Begun → Type 0
AreOut v [] = Unit {0}
AreOut v (b ∷ bs) = (b.token.kernel ≡ v.kernel) × (has b.token.id v.struck ≡ true) × (has b.token.id (ids_of bs) ≡ false) × AreOut v bs

-- no guess is undecided, and the tokens of these epochs are of struck ones
abbrev pub AreForgotten : Parts ℕ ℕ ℕ → List Begun → Type 0
AreForgotten p bs = (p.opens ≡ []) × AreOut p.guesses bs

-- fewer guesses are known as struck, and nothing else has changed
pub record IsForgotten (a b : Parts ℕ ℕ ℕ) : Type 0 where
  pub same : b ≡ record a { guesses = record a.guesses { struck = b.guesses.struck } }
  pub fewer : (g : ℕ) → has g b.guesses.struck ≡ true → has g a.guesses.struck ≡ true
