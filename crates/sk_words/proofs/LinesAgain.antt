-- Printed lines are cut again: line by line.
use Rattle.sk_words.proofs.Names.{◌≡◌, ℕ, List, [], ◌∷◌, ◌++◌, map, refl, sym, ap, ◌∙◌, append_assoc, flat_map}
use Rattle.sk_words.proofs.Names.{AllByRecursion, lines, strip_carriage_return, flat_map-map, IsLine, lined}
use Rattle.sk_words.proofs.Parts.{next_line, cut_at}

-- no carriage return is taken off it
kept : (l : List ℕ) → IsLine l → strip_carriage_return l ≡ l
kept l h = rw h.no_return refl

-- a line is cut off a text that begins with it
pub line_cut : (l rest : List ℕ) → IsLine l → lines (l ++ 10 ∷ rest) ≡ l ∷ lines rest
line_cut l rest h = next_line (l ++ 10 ∷ rest) l rest (cut_at 10 l rest h.no_feed) ∙ ap (λ (x : List ℕ). x ∷ lines rest) (kept l h)

pub lines_again : (ls : List (List ℕ)) → AllByRecursion IsLine ls → lines (lined ls) ≡ ls
lines_again [] h = refl
lines_again (l ∷ ls) h =
    ap lines (append_assoc l (10 ∷ []) (lined ls))
    ∙ line_cut l (lined ls) h.0
    ∙ ap (λ (x : List (List ℕ)). l ∷ x) (lines_again ls h.1)

all_mapped : {A : Type 0} (line_of : A → List ℕ) (xs : List A) → AllByRecursion (λ x. IsLine (line_of x)) xs → AllByRecursion IsLine (map line_of xs)
all_mapped line_of [] h = tt
all_mapped line_of (x ∷ xs) h = (h.0, all_mapped line_of xs h.1)

pub printed_lines : {A : Type 0} (line_of : A → List ℕ) (xs : List A) → AllByRecursion (λ x. IsLine (line_of x)) xs → lines (flat_map (λ x. line_of x ++ 10 ∷ []) xs) ≡ map line_of xs
printed_lines line_of xs h = ap lines (sym (flat_map-map (λ l. l ++ 10 ∷ []) line_of xs)) ∙ lines_again (map line_of xs) (all_mapped line_of xs h)
