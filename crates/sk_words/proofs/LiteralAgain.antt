-- A printed literal is read again, and is a word: from the shapes that a spelled byte can have.
use Rattle.sk_words.proofs.Names.{◌≡◌, ℕ, zero, suc, ◌+◌, ◌*◌, ◌<◌, ◌≤◌, ◌/◌, ◌%◌, List, [], ◌∷◌, ◌++◌, length, Bool}
use Rattle.sk_words.proofs.Names.{true, false, not, eqb, leb, Result, Ok, Err, refl, sym, ap, ◌∙◌, arith, append_assoc}
use Rattle.sk_words.proofs.Names.{◌&&◌, ◌||◌, flat_map, list_any, onto_first, digit_value, or_parts, and_parts}
use Rattle.sk_words.proofs.Names.{eqb-true, eqb-false, ne_eqb, lt-ltb, le-ltb, leb-true, list_any-append, FaultKind}
use Rattle.sk_words.proofs.Names.{Literal, words, words_from, is_open_from, text_from, Plain, hex_digit, then_byte}
use Rattle.sk_words.proofs.Names.{literal, spelled, spelled_byte, hex_glyph, AreBytes, IsWord, ends_line}
use Rattle.sk_words.proofs.Cut.{onto}

-- ---- hexadecimal digits

-- a quote or a backslash
abbrev is_set_apart : ℕ → Bool
is_set_apart b = eqb b 34 || eqb b 92

turned : (b : Bool) → not b ≡ true → b ≡ false
turned true e = absurd cc
turned false e = refl

abbrev glyph_fits : ℕ → Bool
glyph_fits d = eqb (digit_value (hex_glyph d)) d && not (is_set_apart (hex_glyph d) || ends_line (hex_glyph d))

-- each digit, by computing
abbrev glyphs_fit : ℕ → Bool
glyphs_fit zero = true
glyphs_fit (suc n) = glyph_fits n && glyphs_fit n

fits_at : (n d : ℕ) → glyphs_fit n ≡ true → d < n → glyph_fits d ≡ true
fits_at zero d h lt = absurd (omega arith)
fits_at (suc n) d h lt =
    let b = and_parts (glyph_fits n) (glyphs_fit n) h in
    elim (eqb d n) as (λ t. eqb d n ≡ t → glyph_fits d ≡ true) [
      | true ↦ λ e. rw (eqb-true d n e) b.0
      | false ↦ λ e. let other = eqb-false d n e in fits_at n d b.1 (omega (arith, other))
    ] refl

-- what is known of a digit's glyph
record Glyph (d : ℕ) : Type 0 where
  says : hex_digit (hex_glyph d) ≡ Ok d
  no_quote : eqb (hex_glyph d) 34 ≡ false
  no_escape : eqb (hex_glyph d) 92 ≡ false
  in_line : ends_line (hex_glyph d) ≡ false

glyph : (d : ℕ) → d < 16 → Glyph d
glyph d lt =
    let both = and_parts (eqb (digit_value (hex_glyph d)) d) (not (is_set_apart (hex_glyph d) || ends_line (hex_glyph d))) (fits_at 16 d refl lt) in
    let value : digit_value (hex_glyph d) ≡ d = eqb-true (digit_value (hex_glyph d)) d both.0 in
    let kept = or_parts (is_set_apart (hex_glyph d)) (ends_line (hex_glyph d)) (turned (is_set_apart (hex_glyph d) || ends_line (hex_glyph d)) both.1) in
    let apart = or_parts (eqb (hex_glyph d) 34) (eqb (hex_glyph d) 92) kept.0 in
    record { says = rw (value, lt-ltb d 16 lt) refl; no_quote = apart.0; no_escape = apart.1; in_line = kept.1 }

-- ---- the shape of a spelled byte

data Shape (b : ℕ) : Type 0 where
  quoted : is_set_apart b ≡ true → spelled_byte b ≡ 92 ∷ b ∷ [] → Shape b
  feed : b ≡ 10 → spelled_byte b ≡ 92 ∷ 110 ∷ [] → Shape b
  plain : is_set_apart b ≡ false → (leb 32 b && leb b 126) ≡ true → spelled_byte b ≡ b ∷ [] → Shape b
  coded : Glyph (b / 16) → Glyph (b % 16) → spelled_byte b ≡ 92 ∷ 120 ∷ hex_glyph (b / 16) ∷ hex_glyph (b % 16) ∷ [] → Shape b

shape : (b : ℕ) → b < 256 → Shape b
shape b lt =
    elim (is_set_apart b) as (λ t. is_set_apart b ≡ t → Shape b) [
      | true ↦ λ apart. quoted apart (rw apart refl)
      | false ↦ λ other.
          elim (eqb b 10) as (λ t. eqb b 10 ≡ t → Shape b) [
            | true ↦ λ is. feed (eqb-true b 10 is) (rw (other, is) refl)
            | false ↦ λ no_feed.
                elim (leb 32 b && leb b 126) as (λ t. (leb 32 b && leb b 126) ≡ t → Shape b) [
                  | true ↦ λ printable. plain other printable (rw (other, no_feed, printable) refl)
                  | false ↦ λ odd. coded (glyph (b / 16) (omega arith)) (glyph (b % 16) (omega arith)) (rw (other, no_feed, odd) refl)
                ] refl
          ] refl
    ] refl

-- ---- it says its byte

byte_says : (b : ℕ) (rest : List ℕ) → Shape b → text_from Plain (spelled_byte b ++ rest) ≡ then_byte b (text_from Plain rest)
byte_says b rest (quoted apart is) = ap (λ (s : List ℕ). text_from Plain (s ++ rest)) is ∙ rw apart refl
byte_says b rest (feed ten is) = ap (λ (s : List ℕ). text_from Plain (s ++ rest)) is ∙ rw ten refl
byte_says b rest (plain apart printable is) =
    let a = or_parts (eqb b 34) (eqb b 92) apart in
    ap (λ (s : List ℕ). text_from Plain (s ++ rest)) is ∙ rw (a.0, a.1, printable) refl
byte_says b rest (coded high low is) =
    let whole : b / 16 * 16 + b % 16 ≡ b = omega arith in
    ap (λ (s : List ℕ). text_from Plain (s ++ rest)) is ∙ rw (high.says, low.says, whole) refl

text_says : (t : List ℕ) → AreBytes t → text_from Plain (flat_map spelled_byte t ++ 34 ∷ []) ≡ Ok t
text_says [] h = refl
text_says (b ∷ bs) h =
    ap (text_from Plain) (append_assoc (spelled_byte b) (flat_map spelled_byte bs) (34 ∷ []))
    ∙ byte_says b (flat_map spelled_byte bs ++ 34 ∷ []) (shape b (h 0))
    ∙ ap (then_byte b) (text_says bs (λ i. h (suc i)))

pub literal_again : (t : List ℕ) → AreBytes t → length t ≤ 512 → literal (spelled t) ≡ Ok t
literal_again t h short = rw (text_says t h, le-ltb 512 (length t) short) refl

-- what was said, nothing where there is a fault
abbrev text_or_none : Result (List ℕ) FaultKind → List ℕ
text_or_none (Ok t) = t
text_or_none (Err e) = []

-- what is behind the opening quote
abbrev tail : List ℕ → List ℕ
tail [] = []
tail (b ∷ bs) = bs

pub literal_once : (t u : List ℕ) → AreBytes t → AreBytes u → spelled t ≡ spelled u → t ≡ u
literal_once t u h k same = ap text_or_none (sym (text_says t h) ∙ ap (λ (s : List ℕ). text_from Plain (tail s)) same ∙ text_says u k)

-- ---- no byte of it ends the literal

onto_append : (xs ys : List ℕ) (ws : List (List ℕ)) → onto (xs ++ ys) ws ≡ onto xs (onto ys ws)
onto_append [] ys ws = refl
onto_append (x ∷ xs) ys ws = ap (onto_first x) (onto_append xs ys ws)

onto_last : (xs : List ℕ) (y : ℕ) (ws : List (List ℕ)) → onto xs ((y ∷ []) ∷ ws) ≡ (xs ++ y ∷ []) ∷ ws
onto_last [] y ws = refl
onto_last (x ∷ xs) y ws = ap (onto_first x) (onto_last xs y ws)

byte_stays : (b : ℕ) (more : List ℕ) → Shape b → words_from Literal (spelled_byte b ++ more) ≡ onto (spelled_byte b) (words_from Literal more)
byte_stays b more (quoted apart is) = rw is refl
byte_stays b more (feed ten is) = rw is refl
byte_stays b more (plain apart printable is) = let a = or_parts (eqb b 34) (eqb b 92) apart in rw is (rw (a.0, a.1) refl)
byte_stays b more (coded high low is) = rw is (rw (high.no_quote, high.no_escape, low.no_quote, low.no_escape) refl)

text_stays : (t more : List ℕ) → AreBytes t → words_from Literal (flat_map spelled_byte t ++ more) ≡ onto (flat_map spelled_byte t) (words_from Literal more)
text_stays [] more h = refl
text_stays (b ∷ bs) more h =
    ap (words_from Literal) (append_assoc (spelled_byte b) (flat_map spelled_byte bs) more)
    ∙ byte_stays b (flat_map spelled_byte bs ++ more) (shape b (h 0))
    ∙ ap (onto (spelled_byte b)) (text_stays bs more (λ i. h (suc i)))
    ∙ sym (onto_append (spelled_byte b) (flat_map spelled_byte bs) (words_from Literal more))

byte_closed : (b : ℕ) (more : List ℕ) → Shape b → is_open_from Literal (spelled_byte b ++ more) ≡ is_open_from Literal more
byte_closed b more (quoted apart is) = rw is refl
byte_closed b more (feed ten is) = rw is refl
byte_closed b more (plain apart printable is) = let a = or_parts (eqb b 34) (eqb b 92) apart in rw is (rw (a.0, a.1) refl)
byte_closed b more (coded high low is) = rw is (rw (high.no_quote, high.no_escape, low.no_quote, low.no_escape) refl)

text_closed : (t : List ℕ) → AreBytes t → is_open_from Literal (flat_map spelled_byte t ++ 34 ∷ []) ≡ false
text_closed [] h = refl
text_closed (b ∷ bs) h =
    ap (is_open_from Literal) (append_assoc (spelled_byte b) (flat_map spelled_byte bs) (34 ∷ []))
    ∙ byte_closed b (flat_map spelled_byte bs ++ 34 ∷ []) (shape b (h 0))
    ∙ text_closed bs (λ i. h (suc i))

-- ---- it ends no line

no_end : (b : ℕ) → 14 ≤ b → ends_line b ≡ false
no_end b low = rw (ne_eqb b 10 (λ e. omega arith), ne_eqb b 13 (λ e. omega arith)) refl

byte_in_line : (b : ℕ) → Shape b → list_any ends_line (spelled_byte b) ≡ false
byte_in_line b (quoted apart is) =
    let high : 14 ≤ b = elim (eqb b 34) as (λ t. eqb b 34 ≡ t → 14 ≤ b) [
      | true ↦ λ e. omega (arith, eqb-true b 34 e)
      | false ↦ λ e. let backslash : eqb b 92 ≡ true = rw e at apart in omega (arith, eqb-true b 92 backslash)
    ] refl in
    rw is (rw (no_end b high) refl)
byte_in_line b (feed ten is) = rw is refl
byte_in_line b (plain apart printable is) = let p = and_parts (leb 32 b) (leb b 126) printable in rw is (rw (no_end b (omega (arith, leb-true 32 b p.0))) refl)
byte_in_line b (coded high low is) = rw is (rw (high.in_line, low.in_line) refl)

text_in_line : (t : List ℕ) → AreBytes t → list_any ends_line (flat_map spelled_byte t ++ 34 ∷ []) ≡ false
text_in_line [] h = refl
text_in_line (b ∷ bs) h =
    let rest = text_in_line bs (λ i. h (suc i)) in
    ap (list_any ends_line) (append_assoc (spelled_byte b) (flat_map spelled_byte bs) (34 ∷ []))
    ∙ list_any-append ends_line (spelled_byte b) (flat_map spelled_byte bs ++ 34 ∷ [])
    ∙ rw (byte_in_line b (shape b (h 0)), rest) refl

pub literal_word : (t : List ℕ) → AreBytes t → IsWord (spelled t)
literal_word t h = record {
  before_others = λ rest.
      ap (λ (s : List ℕ). onto_first 34 (words_from Literal s)) (append_assoc (flat_map spelled_byte t) (34 ∷ []) (32 ∷ rest))
      ∙ ap (onto_first 34) (text_stays t (34 ∷ 32 ∷ rest) h ∙ onto_last (flat_map spelled_byte t) 34 (words rest));
  last = ap (onto_first 34) (text_stays t (34 ∷ []) h ∙ onto_last (flat_map spelled_byte t) 34 []);
  closed = text_closed t h;
  in_line = text_in_line t h;
}
