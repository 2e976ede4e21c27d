-- How the words of a line come apart at its front, for the loop that looks for a word's end: from the definition
-- of words, byte by byte.
use Rattle.sk_words.proofs.Names.{◌≡◌, ◌≢◌, ℕ, ◌+◌, ◌<◌, List, [], ◌∷◌, ◌++◌, true, false, length, take, drop, get_or}
use Rattle.sk_words.proofs.Names.{refl, ap, ◌∙◌, add-one, drop-cons, take_at_read, onto_first, Place, Between, Word}
use Rattle.sk_words.proofs.Names.{Literal, Escape, words, words_from, is_blank}

-- the words, the first of which begins with these bytes
abbrev pub onto : List ℕ → List (List ℕ) → List (List ℕ)
onto [] ws = ws
onto (b ∷ bs) ws = onto_first b (onto bs ws)

pub onto_more : (xs : List ℕ) (b : ℕ) (ws : List (List ℕ)) → onto (xs ++ b ∷ []) ws ≡ onto xs (onto_first b ws)
onto_more [] b ws = refl
onto_more (x ∷ xs) b ws = ap (onto_first x) (onto_more xs b ws)

pub onto_whole : (xs : List ℕ) (ws : List (List ℕ)) → onto xs ([] ∷ ws) ≡ xs ∷ ws
onto_whole [] ws = refl
onto_whole (x ∷ xs) ws = ap (onto_first x) (onto_whole xs ws)

-- the line's words, where the part before i lies in the first
abbrev pub Within : Place → List ℕ → ℕ → Place → Type 0
Within from line i place = words_from from line ≡ onto (take i line) (words_from place (drop i line))

pub goes_on : (from place next : Place) (line : List ℕ) (i : ℕ) → i < length line → Within from line i place → ((bs : List ℕ) → words_from place (get_or line i 0 ∷ bs) ≡ onto_first (get_or line i 0) (words_from next bs)) → Within from line (i + 1) next
goes_on from place next line i lt h step =
    let cut : drop i line ≡ get_or line i 0 ∷ drop (i + 1) line = rw add-one (drop-cons line i 0 lt) in
    let more = onto_more (take i line) (get_or line i 0) (words_from next (drop (i + 1) line)) in
    let parts : take (i + 1) line ≡ take i line ++ get_or line i 0 ∷ [] = (take_at_read line i 0 lt).1 in
    rw (parts, more, ← step (drop (i + 1) line), ← cut) h

bare_goes_on : (b : ℕ) (bs : List ℕ) → is_blank b ≡ false → words_from Word (b ∷ bs) ≡ onto_first b (words_from Word bs)
bare_goes_on b bs h = rw h refl

pub goes_on_bare : (line : List ℕ) (i : ℕ) → i < length line → Within Word line i Word → is_blank (get_or line i 0) ≡ false → Within Word line (i + 1) Word
goes_on_bare line i lt h plain = goes_on Word Word Word line i lt h (λ bs. bare_goes_on (get_or line i 0) bs plain)

no_word_is_between : Word ≡ Between → ⊥
no_word_is_between e = absurd cc

pub word_is_inside : Word ≢ Between
word_is_inside = no_word_is_between

blank_ends : (b : ℕ) (bs : List ℕ) → is_blank b ≡ true → words_from Word (b ∷ bs) ≡ [] ∷ words (b ∷ bs)
blank_ends b bs h = rw h refl

pub stops : (from place : Place) (line : List ℕ) (i : ℕ) → i < length line → Within from line i place → place ≡ Word → is_blank (get_or line i 0) ≡ true → words_from from line ≡ take i line ∷ words (drop i line)
stops from place line i lt h p blank =
    let cut : drop i line ≡ get_or line i 0 ∷ drop (i + 1) line = rw add-one (drop-cons line i 0 lt) in
    let here : words_from place (drop i line) ≡ [] ∷ words (drop i line) = rw (p, cut) (blank_ends (get_or line i 0) (drop (i + 1) line) blank) in
    h ∙ ap (onto (take i line)) here ∙ onto_whole (take i line) (words (drop i line))

at_end : (p : Place) → p ≢ Between → words_from p [] ≡ [] ∷ []
at_end Between h = absurd (h refl)
at_end Word h = refl
at_end Literal h = refl
at_end Escape h = refl

pub ends : (from place : Place) (line : List ℕ) (n : ℕ) → drop n line ≡ [] → Within from line n place → place ≢ Between → words_from from line ≡ take n line ∷ words (drop n line)
ends from place line n none h inside =
    let here : words_from place (drop n line) ≡ [] ∷ words (drop n line) = rw none (at_end place inside) in
    h ∙ ap (onto (take n line)) here ∙ onto_whole (take n line) (words (drop n line))
