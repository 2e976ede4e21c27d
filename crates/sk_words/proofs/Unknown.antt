-- A word that is none of a table's is passed over: from the table's definition, one word at a time.
use Rattle.sk_words.proofs.Names.{ltb, zero, suc, arith, ◌≡◌, ℕ, List, [], ◌∷◌, Bool, true, false, refl, sym, ◌&&◌}
use Rattle.sk_words.proofs.Names.{bytes_eq, IsAscii, IsUtf8, ltb-true, IsUtf8-from_ascii, bytes_eq-Decides, Rule}
use Rattle.sk_words.proofs.Names.{rule_in}
use Rattle.sk_words.proofs.NameTest.{both}

abbrev pub IsNone : {A : Type 0} → List (List ℕ × Rule A) → List ℕ → Type 0
IsNone [] word = Unit {0}
IsNone (r ∷ rs) word = (word ≡ r.0 → ⊥) × IsNone rs word

differs : (x y : List ℕ) → (y ≡ x → ⊥) → bytes_eq x y ≡ false
differs x y h =
    elim (bytes_eq x y) as (λ b. bytes_eq x y ≡ b → bytes_eq x y ≡ false) [
      | true ↦ λ e. absurd (h (sym ((bytes_eq-Decides x y).0 e)))
      | false ↦ λ e. e
    ] refl

pub skipped : {A : Type 0} (rs : List (List ℕ × Rule A)) (others : Rule A) (word : List ℕ) → IsNone rs word → rule_in rs others word ≡ others
skipped [] others word h = refl
skipped (r ∷ rs) others word h = rw (differs r.0 word h.0) (skipped rs others word h.1)

-- ---- a table's words are text, so what isn't text is none of them

abbrev pub is_plain : List ℕ → Bool
is_plain [] = true
is_plain (b ∷ bs) = ltb b 128 && is_plain bs

abbrev pub names_are_plain : {A : Type 0} → List (List ℕ × Rule A) → Bool
names_are_plain [] = true
names_are_plain (r ∷ rs) = is_plain r.0 && names_are_plain rs

plain_ascii : (bs : List ℕ) → is_plain bs ≡ true → IsAscii bs
plain_ascii [] h i = omega arith
plain_ascii (b ∷ bs) h zero = ltb-true b 128 (both (ltb b 128) (is_plain bs) h).0
plain_ascii (b ∷ bs) h (suc i) = plain_ascii bs (both (ltb b 128) (is_plain bs) h).1 i

pub no_text : {A : Type 0} (rs : List (List ℕ × Rule A)) (word : List ℕ) → names_are_plain rs ≡ true → (IsUtf8 word → ⊥) → IsNone rs word
no_text [] word h none = tt
no_text (r ∷ rs) word h none =
    let b = both (is_plain r.0) (names_are_plain rs) h in
    (λ e. none (IsUtf8-from_ascii word (rw e (plain_ascii r.0 b.0))), no_text rs word b.1 none)
