-- A printed process is read again, and is a word: level by level.
use Rattle.sk_words.proofs.Names.{◌≡◌, ℕ, ◌+◌, ◌*◌, ◌^◌, ◌/◌, ◌%◌, ◌<◌, ◌≤◌, List, [], ◌∷◌, ◌++◌, true, false, ltb, Ok}
use Rattle.sk_words.proofs.Names.{refl, ap, ◌∙◌, arith, append_assoc, decimal, list_all, lt-ltb, ltb-true, ltb-false}
use Rattle.sk_words.proofs.Names.{list_all-append, IsPath, parts, pid, path, path_below, child, pid_word, two_levels}
use Rattle.sk_words.proofs.Names.{IsWord, is_bare_word}
use Rattle.sk_words.proofs.Parts.{cut_at, uncut}
use Rattle.sk_words.proofs.NumberAgain.{no_dot, number_bare, index_again}
use Rattle.sk_words.proofs.WordsAgain.{bare_word}

-- a level's number
abbrev IsLevel : ℕ → Type 0
IsLevel n = (1 ≤ n) × (n ≤ 65535)

last_part : (n : ℕ) → IsLevel n → parts 46 (decimal n) ≡ decimal n ∷ []
last_part n h = uncut 46 (decimal n) (no_dot n (omega (arith, h.1)))

next_part : (n : ℕ) (rest : List ℕ) → IsLevel n → parts 46 (decimal n ++ 46 ∷ rest) ≡ decimal n ∷ parts 46 rest
next_part n rest h = cut_at 46 (decimal n) rest (no_dot n (omega (arith, h.1)))

says_child : (p n : ℕ) → p < 2 ^ 48 → IsLevel n → child p (decimal n) ≡ Ok (p * 65536 + n)
says_child p n low h = rw (index_again n h.0 h.1, lt-ltb p (2 ^ 48) low) refl

says_boot : (n : ℕ) (ws : List (List ℕ)) → IsLevel n → path (decimal n ∷ ws) ≡ path_below n ws
says_boot n ws h = rw (index_again n h.0 h.1) refl

says_below : (p n : ℕ) (ws : List (List ℕ)) → p < 2 ^ 48 → IsLevel n → path_below p (decimal n ∷ ws) ≡ path_below (p * 65536 + n) ws
says_below p n ws low h = rw (says_child p n low h) refl

-- ---- one to four levels

one_level : (a : ℕ) → IsLevel a → pid (decimal a) ≡ Ok a
one_level a h = ap path (last_part a h) ∙ says_boot a [] h

two : (a b : ℕ) → IsLevel a → IsLevel b → pid (decimal a ++ 46 ∷ decimal b) ≡ Ok (a * 65536 + b)
two a b h k =
    ap path (next_part a (decimal b) h ∙ ap (λ (x : List (List ℕ)). decimal a ∷ x) (last_part b k))
    ∙ says_boot a (decimal b ∷ []) h
    ∙ says_below a b [] (omega (arith, h.1)) k

three : (a b c : ℕ) → IsLevel a → IsLevel b → IsLevel c → pid (decimal a ++ 46 ∷ (decimal b ++ 46 ∷ decimal c)) ≡ Ok ((a * 65536 + b) * 65536 + c)
three a b c h k l =
    ap path (next_part a (decimal b ++ 46 ∷ decimal c) h ∙ ap (λ (x : List (List ℕ)). decimal a ∷ x) (next_part b (decimal c) k ∙ ap (λ (x : List (List ℕ)). decimal b ∷ x) (last_part c l)))
    ∙ says_boot a (decimal b ∷ decimal c ∷ []) h
    ∙ says_below a b (decimal c ∷ []) (omega (arith, h.1)) k
    ∙ says_below (a * 65536 + b) c [] (omega (arith, h.1, k.1)) l

four : (a b c d : ℕ) → IsLevel a → IsLevel b → IsLevel c → IsLevel d → pid (decimal a ++ 46 ∷ (decimal b ++ 46 ∷ (decimal c ++ 46 ∷ decimal d))) ≡ Ok (((a * 65536 + b) * 65536 + c) * 65536 + d)
four a b c d h k l m =
    ap path (next_part a (decimal b ++ 46 ∷ (decimal c ++ 46 ∷ decimal d)) h
    ∙ ap (λ (x : List (List ℕ)). decimal a ∷ x) (next_part b (decimal c ++ 46 ∷ decimal d) k
    ∙ ap (λ (x : List (List ℕ)). decimal b ∷ x) (next_part c (decimal d) l ∙ ap (λ (x : List (List ℕ)). decimal c ∷ x) (last_part d m))))
    ∙ says_boot a (decimal b ∷ decimal c ∷ decimal d ∷ []) h
    ∙ says_below a b (decimal c ∷ decimal d ∷ []) (omega (arith, h.1)) k
    ∙ says_below (a * 65536 + b) c (decimal d ∷ []) (omega (arith, h.1, k.1)) l
    ∙ says_below ((a * 65536 + b) * 65536 + c) d [] (omega (arith, h.1, k.1, l.1)) m

-- ---- a path has so many

all_bare : (w : List ℕ) → is_bare_word w ≡ true → list_all (ltb 35) w ≡ true
all_bare [] h = refl
all_bare (b ∷ bs) h = h

dotted_bare : (v w : List ℕ) → is_bare_word v ≡ true → is_bare_word w ≡ true → is_bare_word (v ++ 46 ∷ w) ≡ true
dotted_bare [] w h k = absurd cc
dotted_bare (b ∷ bs) w h k =
    list_all-append (ltb 35) (b ∷ bs) (46 ∷ w) ∙ rw (h, all_bare w k) refl

-- what is known of a printed path
record Path (p : ℕ) : Type 0 where
  again : pid (pid_word p) ≡ Ok p
  bare : is_bare_word (pid_word p) ≡ true

printed_path : (p : ℕ) → IsPath p → Path p
printed_path p h =
    elim (ltb p (2 ^ 16)) as (λ t. ltb p (2 ^ 16) ≡ t → Path p) [
      | true ↦ λ e.
          let small = ltb-true p (2 ^ 16) e in
          record {
            again = rw e (one_level p (omega (arith, h.0), omega arith));
            bare = rw e (number_bare p (omega arith));
          }
      | false ↦ λ e.
          let big = ltb-false p (2 ^ 16) e in
          let low = h.1 (omega arith) in
          let last : IsLevel (p % 65536) = (h.0, omega arith) in
          let upper : IsLevel (p / 65536 % 65536) = (low, omega arith) in
          let lower = dotted_bare (decimal (p / 65536 % 65536)) (decimal (p % 65536)) (number_bare (p / 65536 % 65536) (omega arith)) (number_bare (p % 65536) (omega arith)) in
          elim (ltb p (2 ^ 32)) as (λ t. ltb p (2 ^ 32) ≡ t → Path p) [
            | true ↦ λ f.
                let small = ltb-true p (2 ^ 32) f in
                let whole : p / 65536 % 65536 * 65536 + p % 65536 ≡ p = omega arith in
                record {
                  again = rw (e, f) (two (p / 65536 % 65536) (p % 65536) upper last ∙ ap (λ (x : ℕ). Ok x) whole);
                  bare = rw (e, f) lower;
                }
            | false ↦ λ f.
                let bigger = ltb-false p (2 ^ 32) f in
                let third = h.2 (omega arith) in
                elim (ltb p (2 ^ 48)) as (λ t. ltb p (2 ^ 48) ≡ t → Path p) [
                  | true ↦ λ g.
                      let small = ltb-true p (2 ^ 48) g in
                      let whole : (p / 2 ^ 32 * 65536 + p / 65536 % 65536) * 65536 + p % 65536 ≡ p = omega arith in
                      record {
                        again = rw (e, f, g) (three (p / 2 ^ 32) (p / 65536 % 65536) (p % 65536) (omega arith, omega arith) upper last ∙ ap (λ (x : ℕ). Ok x) whole);
                        bare = rw (e, f, g) (dotted_bare (decimal (p / 2 ^ 32)) (two_levels p) (number_bare (p / 2 ^ 32) (omega arith)) lower);
                      }
                  | false ↦ λ g.
                      let biggest = ltb-false p (2 ^ 48) g in
                      let first : IsLevel (p / 2 ^ 32 / 65536 % 65536) = (omega arith, omega arith) in
                      let second : IsLevel (p / 2 ^ 32 % 65536) = (third, omega arith) in
                      let whole : ((p / 2 ^ 32 / 65536 % 65536 * 65536 + p / 2 ^ 32 % 65536) * 65536 + p / 65536 % 65536) * 65536 + p % 65536 ≡ p = omega (arith, h.3) in
                      let joined = append_assoc (decimal (p / 2 ^ 32 / 65536 % 65536)) (46 ∷ decimal (p / 2 ^ 32 % 65536)) (46 ∷ two_levels p) in
                      record {
                        again = rw (e, f, g) (ap pid joined ∙ four (p / 2 ^ 32 / 65536 % 65536) (p / 2 ^ 32 % 65536) (p / 65536 % 65536) (p % 65536) first second upper last ∙ ap (λ (x : ℕ). Ok x) whole);
                        bare = rw (e, f, g) (dotted_bare (two_levels (p / 2 ^ 32)) (two_levels p) (dotted_bare (decimal (p / 2 ^ 32 / 65536 % 65536)) (decimal (p / 2 ^ 32 % 65536)) (number_bare (p / 2 ^ 32 / 65536 % 65536) (omega arith)) (number_bare (p / 2 ^ 32 % 65536) (omega arith))) lower);
                      }
                ] refl
          ] refl
    ] refl

pub pid_again : (p : ℕ) → IsPath p → pid (pid_word p) ≡ Ok p
pid_again p h = (printed_path p h).again

pub pid_is_word : (p : ℕ) → IsPath p → IsWord (pid_word p)
pid_is_word p h = bare_word (pid_word p) (printed_path p h).bare
