-- Ends of lines at the front of a text.
use Rattle.std.specs.Prelude.{◌≡◌, ℕ, List, ◌∷◌, ◌++◌, Ok}
use Rattle.sk_scenario.specs.Base.{AllByRecursion, IsWord, spaced, Rule}

-- a text begins with the last words of a line, which say this, and this is left behind the line
abbrev pub EndsLine : {A : Type 0} → Rule A → List ℕ → A → List ℕ → Type 0
EndsLine rule text said rest =
    (w : List ℕ) × (ws : List (List ℕ)) × (text ≡ spaced (w ∷ ws) ++ 10 ∷ rest) × AllByRecursion IsWord (w ∷ ws) × (rule (w ∷ ws) ≡ Ok said)
