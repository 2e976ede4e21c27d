-- Where a script's lines end: from the lines before the first whose first word is `end`.
use Rattle.sk_scenario.proofs.Names.{◌≡◌, ℕ, zero, suc, ◌+◌, ◌-◌, Bool, true, false, not, ◌&&◌, List, [], ◌∷◌, ◌++◌}
use Rattle.sk_scenario.proofs.Names.{length, take, drop, Option, Some, None, Err, refl, sym, ap, ◌∙◌, arith}
use Rattle.sk_scenario.proofs.Names.{MatchOption, list_all, append_assoc, append-nil, Fault, script_from, Declared}
use Rattle.sk_scenario.proofs.Names.{Begun, is_end, scenario_from, script_ends, script_unended}

-- ---- lists

pub drop_next : {A : Type 0} (k : ℕ) (xs : List A) (x : A) (ys : List A) → drop k xs ≡ x ∷ ys → drop (suc k) xs ≡ ys
drop_next zero xs x ys e = rw e refl
drop_next (suc k) [] x ys e = absurd cc
drop_next (suc k) (z ∷ zs) x ys e = drop_next k zs x ys e

pub take_next : {A : Type 0} (k : ℕ) (xs : List A) (x : A) (ys : List A) → drop k xs ≡ x ∷ ys → take (suc k) xs ≡ take k xs ++ x ∷ []
take_next zero xs x ys e = rw e refl
take_next (suc k) [] x ys e = absurd cc
take_next (suc k) (z ∷ zs) x ys e = ap (λ us. z ∷ us) (take_next k zs x ys e)

both_parts : (a b c : Bool) → (a && b) ≡ true → (b ≡ true → c ≡ true) → (a && c) ≡ true
both_parts true b c h f = f h
both_parts false b c h f = absurd cc

pub all_more : {A : Type 0} (p : A → Bool) (xs : List A) (x : A) → list_all p xs ≡ true → p x ≡ true → list_all p (xs ++ x ∷ []) ≡ true
all_more p [] x h one = rw one refl
all_more p (y ∷ ys) x h one = both_parts (p y) (list_all p ys) (list_all p (ys ++ x ∷ [])) h (λ rest. all_more p ys x rest one)

-- ---- a script

abbrev pub begun : List ℕ → ℕ → List (List ℕ) → Begun
begun name first ls = record { name = name; first = first; lines = ls }

is_false : (b : Bool) → not b ≡ true → b ≡ false
is_false true e = absurd cc
is_false false e = refl

first_part : (a b : Bool) → (a && b) ≡ true → a ≡ true
first_part true b h = refl
first_part false b h = absurd cc

second_part : (a b : Bool) → (a && b) ≡ true → b ≡ true
second_part true b h = h
second_part false b h = absurd cc

-- lines that don't end the script are its own
skipped : (d : Declared) (name : List ℕ) (first n : ℕ) (before ls rest : List (List ℕ)) → list_all (λ line. not (is_end line)) ls ≡ true
    → scenario_from d (Some (begun name first before)) n (ls ++ rest) ≡ scenario_from d (Some (begun name first (before ++ ls))) (n + length ls) rest
skipped d name first n before [] rest h =
    let here : n + 0 ≡ n = omega arith in
    rw (here, append-nil before) refl
skipped d name first n before (l ∷ ls) rest h =
    let one = is_false (is_end l) (first_part (not (is_end l)) (list_all (λ line. not (is_end line)) ls) h) in
    let others = second_part (not (is_end l)) (list_all (λ line. not (is_end line)) ls) h in
    let later : n + 1 + length ls ≡ n + length (l ∷ ls) = omega arith in
    rw one (skipped d name first (n + 1) (before ++ l ∷ []) ls rest others
    ∙ ap (λ (bs : List (List ℕ)). scenario_from d (Some (begun name first bs)) (n + 1 + length ls) rest) (append_assoc before (l ∷ []) ls)
    ∙ ap (λ (m : ℕ). scenario_from d (Some (begun name first (before ++ l ∷ ls))) m rest) later)

pub cut_none : (d : Declared) (name : List ℕ) (n : ℕ) (ls all : List (List ℕ)) → list_all (λ line. not (is_end line)) ls ≡ true → all ≡ ls
    → scenario_from d (Some (begun name n [])) n all ≡ script_unended (begun name n ls) (n + length ls - 1)
cut_none d name n ls all h e =
    ap (λ (xs : List (List ℕ)). scenario_from d (Some (begun name n [])) n xs) (e ∙ sym (append-nil ls)) ∙ skipped d name n n [] ls [] h

pub cut_end : (d : Declared) (name : List ℕ) (n : ℕ) (ls : List (List ℕ)) (line : List ℕ) (rest all : List (List ℕ)) → list_all (λ line. not (is_end line)) ls ≡ true → all ≡ ls ++ line ∷ rest → is_end line ≡ true
    → scenario_from d (Some (begun name n [])) n all ≡ script_ends d (begun name n ls) (n + length ls) line (λ e. scenario_from e None (n + length ls + 1) rest)
cut_end d name n ls line rest all h e ends =
    ap (λ (xs : List (List ℕ)). scenario_from d (Some (begun name n [])) n xs) e ∙ skipped d name n n [] ls (line ∷ rest) h ∙ rw ends refl

-- a fault of the script's lines is told first
pub faulty : {X : Type 0} (end : Option X) (now : X → List ℕ) (d : Declared) (name : List ℕ) (n : ℕ) (ls rest all : List (List ℕ)) (f : Fault) → list_all (λ line. not (is_end line)) ls ≡ true
    → MatchOption end ((all ≡ ls) × (rest ≡ [])) (λ x. (all ≡ ls ++ now x ∷ rest) × (is_end (now x) ≡ true)) → script_from n ls ≡ Err f → scenario_from d (Some (begun name n [])) n all ≡ Err f
faulty None now d name n ls rest all f h m e = cut_none d name n ls all h m.0 ∙ rw e refl
faulty (Some x) now d name n ls rest all f h m e = cut_end d name n ls (now x) rest all h m.0 m.1 ∙ rw e refl
