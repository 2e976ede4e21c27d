-- How the parts of a text come apart at its front, for the loop that looks for a separator: from the definition of
-- parts, byte by byte.
use Rattle.sk_words.proofs.Names.{◌≡◌, ℕ, suc, ◌+◌, ◌-◌, ◌<◌, ◌≤◌, List, [], ◌∷◌, ◌++◌, true, false, eqb, length, take}
use Rattle.sk_words.proofs.Names.{drop, get_or, refl, ap, ◌∙◌, arith, add-one, drop-cons, take_at_read, ne_eqb, eq-eqb}
use Rattle.sk_words.proofs.Names.{or_parts, onto_first, list_any, lines, lines_of_parts, strip_carriage_return, parts}
use Rattle.sk_words.proofs.Cut.{onto, onto_more, onto_whole}

at_front : (text : List ℕ) (i : ℕ) → i < length text → drop i text ≡ get_or text i 0 ∷ drop (i + 1) text
at_front text i lt = rw add-one (drop-cons text i 0 lt)

pub goes_on : (s : ℕ) (text : List ℕ) (i : ℕ) → i < length text → (get_or text i 0 ≡ s → ⊥) → parts s text ≡ onto (take i text) (parts s (drop i text)) → parts s text ≡ onto (take (i + 1) text) (parts s (drop (i + 1) text))
goes_on s text i lt other h =
    let here : parts s (drop i text) ≡ onto_first (get_or text i 0) (parts s (drop (i + 1) text)) = rw (at_front text i lt) (rw (ne_eqb (get_or text i 0) s other) refl) in
    rw ((take_at_read text i 0 lt).1, onto_more (take i text) (get_or text i 0) (parts s (drop (i + 1) text)), ← here) h

pub stops : (s : ℕ) (text : List ℕ) (i : ℕ) → i < length text → get_or text i 0 ≡ s → parts s text ≡ onto (take i text) (parts s (drop i text)) → parts s text ≡ take i text ∷ parts s (drop (i + 1) text)
stops s text i lt feed h =
    let here : parts s (drop i text) ≡ [] ∷ parts s (drop (i + 1) text) = rw (at_front text i lt) (rw (eq-eqb (get_or text i 0) s feed) refl) in
    h ∙ ap (onto (take i text)) here ∙ onto_whole (take i text) (parts s (drop (i + 1) text))

pub never : (s : ℕ) (text : List ℕ) (n : ℕ) → drop n text ≡ [] → take n text ≡ text → parts s text ≡ onto (take n text) (parts s (drop n text)) → parts s text ≡ text ∷ []
never s text n none all h =
    let here : parts s (drop n text) ≡ [] ∷ [] = rw none refl in
    h ∙ ap (onto (take n text)) here ∙ onto_whole (take n text) [] ∙ ap (λ (t : List ℕ). t ∷ []) all

-- a text has a part
record HasPart (text : List ℕ) : Type 0 where
  first : List ℕ
  others : List (List ℕ)
  is : parts 10 text ≡ first ∷ others

has_part : (text : List ℕ) → HasPart text
has_part [] = record { first = []; others = []; is = refl }
has_part (b ∷ bs) =
    let p = has_part bs in
    elim (eqb b 10) as (λ t. eqb b 10 ≡ t → HasPart (b ∷ bs)) [
      | true ↦ λ e. record { first = []; others = parts 10 bs; is = rw e refl }
      | false ↦ λ e. record { first = b ∷ p.first; others = p.others; is = rw (e, p.is) refl }
    ] refl

pub next_line : (text line rest : List ℕ) → parts 10 text ≡ line ∷ parts 10 rest → lines text ≡ strip_carriage_return line ∷ lines rest
next_line text line rest h =
    let p = has_part rest in
    rw (h, p.is) refl

-- ---- a text has no more lines than bytes

longer : (b : ℕ) (p : List ℕ) (ps : List (List ℕ)) (n : ℕ) → length (lines_of_parts (p ∷ ps)) ≤ n → length (lines_of_parts ((b ∷ p) ∷ ps)) ≤ suc n
longer b p [] n h = rw (ne_eqb (length (b ∷ p)) 0 (λ e. omega (arith, e))) (omega arith)
longer b p (q ∷ qs) n h = omega (arith, h)

pub lines_short : (text : List ℕ) → length (lines text) ≤ length text
lines_short [] = omega arith
lines_short (b ∷ bs) =
    let p = has_part bs in
    let short : length (lines bs) ≤ length bs = lines_short bs in
    let rest = rw p.is at short in
    elim (eqb b 10) as (λ t. eqb b 10 ≡ t → length (lines (b ∷ bs)) ≤ length (b ∷ bs)) [
      | true ↦ λ e. rw (e, p.is) (omega (arith, rest))
      | false ↦ λ e. rw (e, p.is) (longer b p.first p.others (length bs) rest)
    ] refl

-- ---- a part ends where a separator stands behind it, or the text

pub cut_at : (s : ℕ) (part rest : List ℕ) → list_any (λ b. eqb b s) part ≡ false → parts s (part ++ s ∷ rest) ≡ part ∷ parts s rest
cut_at s [] rest h = rw (eq-eqb s s refl) refl
cut_at s (b ∷ bs) rest h =
    let p = or_parts (eqb b s) (list_any (λ c. eqb c s) bs) h in
    rw (p.0, cut_at s bs rest p.1) refl

pub uncut : (s : ℕ) (part : List ℕ) → list_any (λ b. eqb b s) part ≡ false → parts s part ≡ part ∷ []
uncut s [] h = refl
uncut s (b ∷ bs) h =
    let p = or_parts (eqb b s) (list_any (λ c. eqb c s) bs) h in
    rw (p.0, uncut s bs p.1) refl
