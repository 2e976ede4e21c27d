-- Bytes without a quote have no literal, and so none that is open: from the definition of words, byte by byte.
use Rattle.sk_words.proofs.Names.{◌≡◌, ℕ, List, [], ◌∷◌, true, false, ◌==◌, refl, onto_first, list_any, Between, Word}
use Rattle.sk_words.proofs.Names.{words_from, is_open, is_blank, has_quote}

-- a byte that is no quote before the first word
onto_plain : (b : ℕ) (ws : List (List ℕ)) → (b == 34) ≡ false → list_any is_open ws ≡ false → list_any is_open (onto_first b ws) ≡ false
onto_plain b [] plain h = rw plain refl
onto_plain b (w ∷ ws) plain h =
    elim (is_open w) as (λ o. is_open w ≡ o → list_any is_open (onto_first b (w ∷ ws)) ≡ false) [
      | true ↦ λ e. let bad : true ≡ false = rw e at h in absurd cc
      | false ↦ λ e. rw plain (rw e at h)
    ] refl

between_cases : (b : ℕ) (bs : List ℕ) → (b == 34) ≡ false → list_any is_open (words_from Between bs) ≡ false → list_any is_open (words_from Word bs) ≡ false → list_any is_open (words_from Between (b ∷ bs)) ≡ false
between_cases b bs plain between word =
    elim (is_blank b) as (λ o. is_blank b ≡ o → list_any is_open (words_from Between (b ∷ bs)) ≡ false) [
      | true ↦ λ e. rw e between
      | false ↦ λ e.
          elim (b == 35) as (λ o. (b == 35) ≡ o → list_any is_open (words_from Between (b ∷ bs)) ≡ false) [
            | true ↦ λ f. rw (e, f) refl
            | false ↦ λ f. rw (e, f, plain) (onto_plain b (words_from Word bs) plain word)
          ] refl
    ] refl

word_cases : (b : ℕ) (bs : List ℕ) → (b == 34) ≡ false → list_any is_open (words_from Between bs) ≡ false → list_any is_open (words_from Word bs) ≡ false → list_any is_open (words_from Word (b ∷ bs)) ≡ false
word_cases b bs plain between word =
    elim (is_blank b) as (λ o. is_blank b ≡ o → list_any is_open (words_from Word (b ∷ bs)) ≡ false) [
      | true ↦ λ e. rw e between
      | false ↦ λ e. rw e (onto_plain b (words_from Word bs) plain word)
    ] refl

both_closed : (bs : List ℕ) → has_quote bs ≡ false → (list_any is_open (words_from Between bs) ≡ false) × (list_any is_open (words_from Word bs) ≡ false)
both_closed [] h = (refl, refl)
both_closed (b ∷ bs) h =
    elim (b == 34) as (λ o. (b == 34) ≡ o → (list_any is_open (words_from Between (b ∷ bs)) ≡ false) × (list_any is_open (words_from Word (b ∷ bs)) ≡ false)) [
      | true ↦ λ e. let bad : true ≡ false = rw e at h in absurd cc
      | false ↦ λ e.
          let rest = both_closed bs (rw e at h) in
          (between_cases b bs e rest.0 rest.1, word_cases b bs e rest.0 rest.1)
    ] refl

pub none_open : (bs : List ℕ) → has_quote bs ≡ false → list_any is_open (words_from Between bs) ≡ false
none_open bs h = (both_closed bs h).0
