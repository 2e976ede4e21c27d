-- What a loop that makes keys absent has written so far.
use Rattle.sk_commands.proofs.Names.{◌≡◌, ℕ, suc, ◌+◌, ◌-◌, Bool, true, false, ◌&&◌, not, List, [], ◌∷◌, ◌++◌, length}
use Rattle.sk_commands.proofs.Names.{drop, map, is_some, bytes_eq, Option, Some, None, if◌then◌else◌, refl, sym, ap}
use Rattle.sk_commands.proofs.Names.{subst, ◌∙◌, take, is_err, OnErr, Result, Ok, Err, arith, Vec, vec_items}
use Rattle.sk_commands.proofs.Names.{option_copied, Bor, append-nil, append_assoc, length-append, length-map, take-map}
use Rattle.sk_commands.proofs.Names.{drop-append_seam, take-append_seam, list_any, Have, is_among, one_more, removals}
use Rattle.sk_commands.proofs.Names.{told, with_key}

abbrev Kept : Type 0
Kept = List (Vec ℕ × Option (List ℕ))

pub names_of_removals : (keys : List (List ℕ)) → map (λ w. w.0) (removals keys) ≡ keys
names_of_removals [] = refl
names_of_removals (k ∷ ks) = ap (λ r. k ∷ r) (names_of_removals ks)

pub names_told : (ws : Kept) → map (λ w. w.0.items) ws ≡ map (λ w. w.0) (told ws)
names_told [] = refl
names_told (w ∷ ws) = ap (λ r. w.0.items ∷ r) (names_told ws)

drop_front : {A : Type 0} (xs ys : List A) (n : ℕ) → n ≡ length xs → drop n (xs ++ ys) ≡ ys
drop_front xs ys n e = subst (λ k. drop k (xs ++ ys) ≡ ys) (sym e) (drop-append_seam xs ys)

pub told_append : (a b : Kept) → told (a ++ b) ≡ told a ++ told b
told_append [] b = refl
told_append (w ∷ a) b = ap (λ r. (w.0.items, w.1) ∷ r) (told_append a b)

pub removals_append : (a b : List (List ℕ)) → removals (a ++ b) ≡ removals a ++ removals b
removals_append [] b = refl
removals_append (k ∷ a) b = ap (λ r. (k, None) ∷ r) (removals_append a b)

-- one key more in both
either : (b : Bool) (key : Vec ℕ) (new : Kept) (found : List (List ℕ)) → told new ≡ removals found → told (new ++ (if b then (key, None) ∷ [] else [])) ≡ removals (if b then found ++ key.items ∷ [] else found)
either true key new found e = told_append new ((key, None) ∷ []) ∙ ap (λ ws. ws ++ (key.items, None) ∷ []) e ∙ sym (removals_append found (key.items ∷ []))
either false key new found e = told_append new [] ∙ ap (λ ws. ws ++ []) e ∙ sym (removals_append found []) ∙ ap removals (append-nil found)

among : (new : Kept) (found : List (List ℕ)) (key : List ℕ) → told new ≡ removals found → list_any (bytes_eq key) (map (λ w. w.0.items) new) ≡ is_among key found
among new found key e = ap (list_any (bytes_eq key)) (names_told new ∙ ap (map (λ w. w.0)) e ∙ names_of_removals found)

-- one key more: what is written is what is there of the keys so far
pub goes_on : (has : Have) (is_there : Bool) (key : Vec ℕ) (front new : Kept) (n : ℕ) (found : List (List ℕ)) → n ≡ length front → is_there ≡ is_some (has key.items) → told new ≡ removals found → told (new ++ one_more is_there key (drop n (front ++ new))) ≡ removals (with_key has key.items found)
goes_on has is_there key front new n found at is e =
    ap (λ ws. told (new ++ one_more is_there key ws)) (drop_front front new n at)
    ∙ either (is_there && not (list_any (bytes_eq key.items) (map (λ w. w.0.items) new))) key new found e
    ∙ ap (λ b. removals (if b then found ++ key.items ∷ [] else found)) (ap (λ b. b && not (list_any (bytes_eq key.items) (map (λ w. w.0.items) new))) is ∙ ap (λ b. is_some (has key.items) && not b) (among new found key.items e))

pub length_told : (ws : Kept) → length (told ws) ≡ length ws
length_told [] = refl
length_told (w ∷ ws) = ap suc (length_told ws)

pub length_removals : (keys : List (List ℕ)) → length (removals keys) ≡ length keys
length_removals [] = refl
length_removals (k ∷ ks) = ap suc (length_removals ks)

popped : (ks : List (Vec ℕ)) (key : Vec ℕ) (done : List (List ℕ)) → map vec_items (ks ++ key ∷ []) ++ done ≡ map vec_items ks ++ key.items ∷ done
popped [] key done = refl
popped (k ∷ ks) key done = ap (λ r. k.items ∷ r) (popped ks key done)

-- the last key is taken
pub pops : (ks less : List (Vec ℕ)) (key : Vec ℕ) (done all : List (List ℕ)) → ks ≡ less ++ key ∷ [] → map vec_items ks ++ done ≡ all → map vec_items less ++ key.items ∷ done ≡ all
pops ks less key done all is e = sym (popped less key done) ∙ ap (λ l. map vec_items l ++ done) (sym is) ∙ e

-- and one key more is made absent, or none
pub steps : (has : Have) (front before after new : Kept) (n : ℕ) (is_there : Bool) (key : Vec ℕ) (found : List (List ℕ)) → n ≡ length front → is_there ≡ is_some (has key.items) → before ≡ front ++ new → told new ≡ removals found → after ≡ before ++ one_more is_there key (drop n before) → (more : Kept) × (after ≡ front ++ more) × (told more ≡ removals (with_key has key.items found))
steps has front before after new n is_there key found at is old e gets =
    let more : Kept = new ++ one_more is_there key (drop n (front ++ new)) in (
      more,
      gets ∙ ap (λ b. b ++ one_more is_there key (drop n b)) old ∙ append_assoc front new (one_more is_there key (drop n (front ++ new))),
      goes_on has is_there key front new n found at is e,
    )

-- what is written when all keys are taken
pub ends : (front after new : Kept) (n : ℕ) (found : List (List ℕ)) → n ≡ length front → after ≡ front ++ new → told new ≡ removals found → (length after - n ≡ length found) × (told after ≡ told front ++ removals found)
ends front after new n found at is e =
    let many : length new ≡ length found = sym (length_told new) ∙ ap length e ∙ length_removals found in
    let both : length after ≡ length front + length new = ap length is ∙ length-append front new in
    (omega arith, ap told is ∙ told_append front new ∙ ap (λ r. told front ++ r) e)

pub some_copied : {A : Type 0} (r : Option (Bor A)) → is_some r ≡ is_some (option_copied r)
some_copied None = refl
some_copied (Some x) = refl

pub where_err : {T E P : Type 0} (r : Result T E) → is_err r ≡ true → OnErr r P → P
where_err (Ok x) e h = cc
where_err (Err x) e h = h

-- a list that is cut to the length that it had is what it was
pub cut_back : (now before : List (Vec ℕ)) (more : List (List ℕ)) (n : ℕ) → n ≡ length before → map vec_items now ≡ map vec_items before ++ more → map vec_items (take n now) ≡ map vec_items before
cut_back now before more n at e =
    sym (take-map vec_items n now) ∙ ap (take n) e
    ∙ subst (λ k. take k (map vec_items before ++ more) ≡ map vec_items before) (length-map before vec_items ∙ sym at) (take-append_seam (map vec_items before) more)
