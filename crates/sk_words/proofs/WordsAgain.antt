-- Printed words are cut again, and stand in one line: word by word.
use Rattle.sk_words.proofs.Names.{◌≡◌, ℕ, zero, suc, ◌-◌, List, [], ◌∷◌, ◌++◌, length, get_or, true, false, eqb, ltb}
use Rattle.sk_words.proofs.Names.{refl, ap, ◌∙◌, arith, AllByRecursion, list_any, list_all, or_parts, and_parts}
use Rattle.sk_words.proofs.Names.{ltb-true, ne_eqb, list_any-append, Word, words, words_from, is_blank, is_open, spaced}
use Rattle.sk_words.proofs.Names.{IsWord, IsLine, is_bare_word, ends_line}

-- ---- bare words

-- a byte above 35
record Bare (b : ℕ) : Type 0 where
  blank : is_blank b ≡ false
  quote : eqb b 34 ≡ false
  comment : eqb b 35 ≡ false
  end : ends_line b ≡ false

bare : (b : ℕ) → ltb 35 b ≡ true → Bare b
bare b h =
    let low = ltb-true 35 b h in
    record {
      blank = rw (ne_eqb b 32 (λ e. omega arith), ne_eqb b 9 (λ e. omega arith)) refl;
      quote = ne_eqb b 34 (λ e. omega arith);
      comment = ne_eqb b 35 (λ e. omega arith);
      end = rw (ne_eqb b 10 (λ e. omega arith), ne_eqb b 13 (λ e. omega arith)) refl;
    }

in_word : (w rest : List ℕ) → list_all (ltb 35) w ≡ true → words_from Word (w ++ 32 ∷ rest) ≡ w ∷ words rest
in_word [] rest h = refl
in_word (b ∷ bs) rest h = let p = and_parts (ltb 35 b) (list_all (ltb 35) bs) h in rw ((bare b p.0).blank, in_word bs rest p.1) refl

last_word : (w : List ℕ) → list_all (ltb 35) w ≡ true → words_from Word w ≡ w ∷ []
last_word [] h = refl
last_word (b ∷ bs) h = let p = and_parts (ltb 35 b) (list_all (ltb 35) bs) h in rw ((bare b p.0).blank, last_word bs p.1) refl

bare_in_line : (w : List ℕ) → list_all (ltb 35) w ≡ true → list_any ends_line w ≡ false
bare_in_line [] h = refl
bare_in_line (b ∷ bs) h = let p = and_parts (ltb 35 b) (list_all (ltb 35) bs) h in rw ((bare b p.0).end, bare_in_line bs p.1) refl

pub bare_word : (w : List ℕ) → is_bare_word w ≡ true → IsWord w
bare_word [] h = absurd cc
bare_word (b ∷ bs) h =
    let p = and_parts (ltb 35 b) (list_all (ltb 35) bs) h in
    let first = bare b p.0 in
    record {
      before_others = λ rest. rw (first.blank, first.comment, first.quote, in_word bs rest p.1) refl;
      last = rw (first.blank, first.comment, first.quote, last_word bs p.1) refl;
      closed = rw first.quote refl;
      in_line = rw (first.end, bare_in_line bs p.1) refl;
    }

-- ---- words beside each other

pub words_again : (ws : List (List ℕ)) → AllByRecursion IsWord ws → words (spaced ws) ≡ ws
words_again [] h = refl
words_again (w ∷ []) h = h.0.last
words_again (w ∷ v ∷ ws) h = h.0.before_others (spaced (v ∷ ws)) ∙ ap (λ (x : List (List ℕ)). w ∷ x) (words_again (v ∷ ws) h.1)

pub words_closed : (ws : List (List ℕ)) → AllByRecursion IsWord ws → list_any is_open ws ≡ false
words_closed [] h = refl
words_closed (w ∷ ws) h = rw (h.0.closed, words_closed ws h.1) refl

-- ---- they are a line

no_feed : (l : List ℕ) → list_any ends_line l ≡ false → list_any (λ b. eqb b 10) l ≡ false
no_feed [] h = refl
no_feed (b ∷ bs) h =
    let p = or_parts (ends_line b) (list_any ends_line bs) h in
    let here = or_parts (eqb b 10) (eqb b 13) p.0 in
    rw (here.0, no_feed bs p.1) refl

no_return : (l : List ℕ) (i : ℕ) → list_any ends_line l ≡ false → eqb (get_or l i 0) 13 ≡ false
no_return [] zero h = refl
no_return [] (suc i) h = refl
no_return (b ∷ bs) zero h = let p = or_parts (ends_line b) (list_any ends_line bs) h in (or_parts (eqb b 10) (eqb b 13) p.0).1
no_return (b ∷ bs) (suc i) h = no_return bs i (or_parts (ends_line b) (list_any ends_line bs) h).1

-- what ends no line is one
pub one_line : (l : List ℕ) → list_any ends_line l ≡ false → IsLine l
one_line l h = record { no_feed = no_feed l h; no_return = no_return l (length l - 1) h }

spaced_in_line : (ws : List (List ℕ)) → AllByRecursion IsWord ws → list_any ends_line (spaced ws) ≡ false
spaced_in_line [] h = refl
spaced_in_line (w ∷ []) h = h.0.in_line
spaced_in_line (w ∷ v ∷ ws) h =
    let rest = spaced_in_line (v ∷ ws) h.1 in
    list_any-append ends_line w (32 ∷ spaced (v ∷ ws)) ∙ rw (h.0.in_line, rest) refl

pub spaced_line : (ws : List (List ℕ)) → AllByRecursion IsWord ws → IsLine (spaced ws)
spaced_line ws h = one_line (spaced ws) (spaced_in_line ws h)
