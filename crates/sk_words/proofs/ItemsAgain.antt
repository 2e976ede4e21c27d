-- Lines that each add what they were printed of add all of it: item by item.
use Rattle.sk_words.proofs.Names.{◌≡◌, ℕ, ◌+◌, List, [], ◌∷◌, ◌++◌, map, Result, Ok, refl, sym, ap, ◌∙◌, append_assoc}
use Rattle.sk_words.proofs.Names.{append-nil, flat_map, fold, All, AllByRecursion, lines, All-head, All-tail, FaultKind}
use Rattle.sk_words.proofs.Names.{at, read_from, IsReadAgain}
use Rattle.sk_words.proofs.LinesAgain.{printed_lines}

-- what holds of each holds of each
pub each : {A : Type 0} {P Q : A → Type 0} → ((x : A) → P x → Q x) → (xs : List A) → AllByRecursion P xs → AllByRecursion Q xs
each f [] h = tt
each f (x ∷ xs) h = (f x h.0, each f xs h.1)

-- what holds at each index holds item by item
pub by_recursion : {A : Type 0} (P : A → Type 0) (xs : List A) → All P xs → AllByRecursion P xs
by_recursion P [] h = tt
by_recursion P (x ∷ xs) h = (All-head P x xs h, by_recursion P xs (All-tail P x xs h))

pub items_again : {S A : Type 0} (said : S → List ℕ → Result S FaultKind) (line_of : A → List ℕ) (add : S → A → S) (s : S) (first : ℕ) (xs : List A)
    → AllByRecursion (λ x. (t : S) → said t (line_of x) ≡ Ok (add t x)) xs → read_from said s first (map line_of xs) ≡ Ok (fold add s xs)
items_again said line_of add s first [] h = refl
items_again said line_of add s first (x ∷ xs) h =
    ap (λ r. at first r (λ t. read_from said t (first + 1) (map line_of xs))) (h.0 s)
    ∙ items_again said line_of add (add s x) (first + 1) xs h.1

pub list_again : {A : Type 0} (said : List A → List ℕ → Result (List A) FaultKind) (line_of : A → List ℕ) (before : List A) (first : ℕ) (xs : List A)
    → AllByRecursion (λ x. (front : List A) → said front (line_of x) ≡ Ok (front ++ x ∷ [])) xs → read_from said before first (map line_of xs) ≡ Ok (before ++ xs)
list_again said line_of before first [] h = ap (λ l. Ok l) (sym (append-nil before))
list_again said line_of before first (x ∷ xs) h =
    ap (λ r. at first r (λ t. read_from said t (first + 1) (map line_of xs))) (h.0 before)
    ∙ list_again said line_of (before ++ x ∷ []) (first + 1) xs h.1
    ∙ ap (λ l. Ok l) (append_assoc before (x ∷ []) xs)

pub text_again : {A : Type 0} (said : List A → List ℕ → Result (List A) FaultKind) (line_of : A → List ℕ) (first : ℕ) (xs : List A)
    → AllByRecursion (IsReadAgain said line_of) xs → read_from said [] first (lines (flat_map (λ x. line_of x ++ 10 ∷ []) xs)) ≡ Ok xs
text_again said line_of first xs h =
    ap (read_from said [] first) (printed_lines line_of xs (each (λ x r. r.line) xs h))
    ∙ list_again said line_of [] first xs (each (λ x r. r.adds) xs h)
