-- Words that stand one behind the other.
use Rattle.sk_commands.proofs.Names.{◌≡◌, ℕ, List, [], ◌∷◌, ◌++◌, refl, sym, ap, ◌∙◌, append_assoc, bulk, bulks}

pub bulks_append : (vs ws : List (List ℕ)) → bulks (vs ++ ws) ≡ bulks vs ++ bulks ws
bulks_append [] ws = refl
bulks_append (v ∷ vs) ws = ap (λ t. bulk v ++ t) (bulks_append vs ws) ∙ sym (append_assoc (bulk v) (bulks vs) (bulks ws))
