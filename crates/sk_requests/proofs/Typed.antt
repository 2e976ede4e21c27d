-- The parts of a line.
use Rattle.sk_requests.proofs.Names.{◌≡◌, ◌≢◌, ℕ, ◌-◌, ◌<◌, ◌≤◌, List, [], ◌∷◌, ◌++◌, length, slice_index, take, Some}
use Rattle.sk_requests.proofs.Names.{None, decimal, refl, sym, ◌∙◌, ap, arith, length-append, cond, eqb, slice_get}
use Rattle.sk_requests.proofs.Names.{is_some, unwrap_or, append_assoc, append-nil, get_or-take, get_or_at}
use Rattle.sk_requests.proofs.Names.{length-take-le, false≢true, ne_eqb, ended, words_from, IsLine}
use Rattle.sk_requests.specs.Inline.{without_return}
use Rattle.sk_requests.specs.Lines.{said}

pub without_none : (line : List ℕ) → length line ≡ 0 → line ≡ without_return line
unfolding without_return
without_none [] none = refl
without_none (b ∷ bytes) none = absurd (omega (arith, none))

pub without_some : (line : List ℕ) → slice_index line (length line - 1) ≡ 13 → take (length line - 1) line ≡ without_return line
unfolding without_return
without_some line last = ap (λ b. cond (eqb b 13) (take (length line - 1) line) line) (sym last)

pub without_other : (line : List ℕ) → (slice_index line (length line - 1) ≡ 13 → ⊥) → line ≡ without_return line
unfolding without_return
without_other line other = ap (λ b. cond b (take (length line - 1) line) line) (sym (ne_eqb (slice_index line (length line - 1)) 13 other))

pub ended_none : (words : List (List ℕ)) (word : List ℕ) → length word ≡ 0 → words ≡ words ++ ended word
ended_none words [] none = sym (append-nil words)
ended_none words (b ∷ word) none = absurd (omega (arith, none))

pub ended_some : (word : List ℕ) → (length word ≡ 0 → ⊥) → ended word ≡ word ∷ []
ended_some [] some = absurd (some refl)
ended_some (b ∷ word) some = refl

-- A space ends a word.
pub space_ends : (words words' : List (List ℕ)) (word new bytes : List ℕ) (b : ℕ) → b ≡ 32 → words' ≡ words ++ ended word → new ≡ [] → words' ++ words_from new bytes ≡ words ++ words_from word (b ∷ bytes)
space_ends words words' word new bytes b space is none =
    (λ i. is i ++ words_from (none i) bytes)
    ∙ append_assoc words (ended word) (words_from [] bytes)
    ∙ ap (λ c. words ++ cond (eqb c 32) (ended word ++ words_from [] bytes) (words_from (word ++ c ∷ []) bytes)) (sym space)

-- Another byte is one of the word.
pub byte_on : (words words' : List (List ℕ)) (word new bytes : List ℕ) (b : ℕ) → (b ≡ 32 → ⊥) → words' ≡ words → new ≡ word ++ b ∷ [] → words' ++ words_from new bytes ≡ words ++ words_from word (b ∷ bytes)
byte_on words words' word new bytes b other is grown =
    (λ i. is i ++ words_from (grown i) bytes)
    ∙ ap (λ t. words ++ cond t (ended word ++ words_from [] bytes) (words_from (word ++ b ∷ []) bytes)) (sym (ne_eqb b 32 other))

pub first_some : (part : List ℕ) (first next : ℕ) → Some first ≡ slice_get part 0 → first ≡ slice_index (part ++ next ∷ []) 0
first_some [] first next is = absurd (false≢true (sym (ap is_some is)))
first_some (b ∷ part) first next is = ap (λ o. unwrap_or o 0) is

pub first_none : (part : List ℕ) (next : ℕ) → None ≡ slice_get part 0 → next ≡ slice_index (part ++ next ∷ []) 0
first_none [] next is = refl
first_none (b ∷ part) next is = absurd (false≢true (ap is_some is))

pub line_take : (bytes : List ℕ) (n : ℕ) → n ≤ length bytes → ((i : ℕ) → i < n → slice_index bytes i ≢ 10) → IsLine (take n bytes)
line_take bytes n within none i lt e =
    let low : i < n = omega (arith, lt, length-take-le n bytes within) in
    none i low (sym (get_or-take n bytes i 0 low) ∙ e)

-- the bytes of a line that says a number
pub said_long : (mark n : ℕ) (line : List ℕ) → line ≡ said mark n → 2 ≤ length line
unfolding said
said_long mark n line is = omega (arith, ap length is, length-append (decimal n) (13 ∷ []))

pub said_first : (mark n : ℕ) (line : List ℕ) → line ≡ said mark n → slice_index line 0 ≡ mark
unfolding said
said_first mark n line is = ap (λ (xs : List ℕ). slice_index xs 0) is

pub said_last : (mark n : ℕ) (line : List ℕ) → line ≡ said mark n → slice_index line (length line - 1) ≡ 13
unfolding said
said_last mark n line is =
    ap (λ (xs : List ℕ). slice_index xs (length line - 1)) is
    ∙ get_or_at (mark ∷ decimal n) 13 [] 0 (length line - 1) (omega (arith, ap length is, length-append (decimal n) (13 ∷ [])))
