-- A word that was taken is the first of the words: from what `next_word` answers.
use Rattle.sk_words.proofs.Names.{◌≡◌, ℕ, List, [], ◌∷◌, Result, Ok, Err, ap, FaultKind, next_word}

abbrev whole : Result (List ℕ × List (List ℕ)) FaultKind → List (List ℕ)
whole (Ok x) = x.0 ∷ x.1
whole (Err e) = []

pub taken : (ws : List (List ℕ)) (w : List ℕ) (vs : List (List ℕ)) → next_word ws ≡ Ok (w, vs) → ws ≡ w ∷ vs
taken [] w vs h = absurd cc
taken (u ∷ us) w vs h = ap whole h
