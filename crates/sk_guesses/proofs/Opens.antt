-- The undecided guesses after a draw, a decision and a strike.
use Rattle.sk_guesses.proofs.Names.{◌≡◌, ◌≢◌, ℕ, zero, suc, ◌<◌, ◌≤◌, ◌-◌, length, length-set, Bool, true, false}
use Rattle.sk_guesses.proofs.Names.{cond, not, ◌||◌, ◌&&◌, List, [], ◌∷◌, ◌++◌, map, Option, Some, None, refl, sym, ◌∙◌}
use Rattle.sk_guesses.proofs.Names.{ap, subst, arith, ◌==◌, slice_get, slice_set, slice_index_or, is_some, nat_cmp, Less}
use Rattle.sk_guesses.proofs.Names.{nat_cmp_is, AllByRecursion, filter, prefix_len, nat_le, nat_lt, true≢false}
use Rattle.sk_guesses.proofs.Names.{eqb-true, eq-eqb, or_left, or_right, leb-false, ltb-false, LAST_GUESS, GUESS_LIMIT}
use Rattle.sk_guesses.proofs.Names.{list_any-append, IsStrictlySortedBy-filter, slice_get_within, has, without}
use Rattle.sk_guesses.proofs.Names.{rests_on, with_failure, numbers, not_struck, Status, Undecided, Committed, Failed}
use Rattle.sk_guesses.proofs.Names.{Struck, has_filter, above, status_in, GuessesView, is_full, is_undecided}
use Rattle.sk_guesses.proofs.Names.{undecided_of, status_since, decided, drawn, next_of, OpenGuess, AreOpen, opens_of}
use Rattle.sk_guesses.proofs.Names.{dependents_of, guess_tags, but, not_resting, after_commit, without_tag, struck_by, open_in}
use Rattle.sk_guesses.proofs.Names.{without_list, depending, relieved, relieved_beyond, left_to, with_entity, without_entity, Ordering}
use Rattle.sk_guesses.proofs.Names.{Listing, length-map, ltb-true}
use Rattle.std.specs.List.Sorted.{IsStrictlySortedBy}
use Rattle.sk_guesses.proofs.Count.{count_of}
use Rattle.sk_guesses.proofs.Statuses.{at-place, some_number, nothing_in, drawn-since, status-drawn, status-decided}
use Rattle.std.proofs.lemmas.Bool.Decides.{nat_tests}

abbrev pub guess_of : {E : Type 0} → (Listing E) → (OpenGuess E)
guess_of l = l.guess

abbrev pub named : {E : Type 0} → List (OpenGuess E) → List ℕ
named os = numbers (opens_of os)

-- a filter of what they are seen as
pub seen_filter : {X Y : Type 0} (view : X → Y) (p : Y → Bool) (xs : List X) → map view (filter (λ x. p (view x)) xs) ≡ filter p (map view xs)
seen_filter view p [] = refl
seen_filter view p (x ∷ xs) = grind (arith, nat_tests, seen_filter view p xs)

-- ---- their numbers
pub but_named : {E : Type 0} → (g : ℕ) (os : List (OpenGuess E)) → named (but g os) ≡ without g (named os)
but_named g [] = refl
but_named g (o ∷ os) = grind (arith, nat_tests, but_named g os)

pub same_named : {E : Type 0} → (g : ℕ) (os : List (OpenGuess E)) → named (map (without_tag g) os) ≡ named os
same_named g [] = refl
same_named g (o ∷ os) = ap (λ ns. o.id ∷ ns) (same_named g os)

pub named_more : {E : Type 0} → (os : List (OpenGuess E)) (o : (OpenGuess E)) → named (os ++ o ∷ []) ≡ named os ++ o.id ∷ []
named_more [] o = refl
named_more (x ∷ os) o = ap (λ ns. x.id ∷ ns) (named_more os o)

pub as_many : {E : Type 0} → (os : List (OpenGuess E)) → length (named os) ≡ length os
as_many [] = refl
as_many (o ∷ os) = ap suc (as_many os)

-- what is not true is false
pub isnt : (b : Bool) → b ≢ true → b ≡ false
isnt b other = grind (arith, nat_tests)

-- ---- statuses
pub open_is : (o : Option Status) → open_in o ≡ true → o ≡ Some Undecided
open_is (Some Undecided) is = refl
open_is _ is = absurd (true≢false (sym is))

pub counted : {E : Type 0} → (v : GuessesView) (os : List (OpenGuess E)) → AreOpen v os → undecided_of v.statuses ≡ length os
counted v os are =
    count_of v (named os) are.rising (λ g. ((λ here. open_is (status_since v g) (sym (are.tied g) ∙ here)), λ is. are.tied g ∙ ap open_in is)) ∙ as_many os

-- where one stands among the statuses
pub within : (v : GuessesView) (g : ℕ) (s : Status) → status_since v g ≡ Some s → g - length v.earlier - 1 < length v.statuses
within v g s is =
    let n = g - length v.earlier in
    slice_get_within v.statuses (n - 1) s (sym (at-place v.statuses n (some_number v.statuses n s is)) ∙ is)

-- ---- one goes
pub turned : (a b : ℕ) → (a == b) ≡ (b == a)
turned a b = grind (arith, nat_tests)

pub all_kept : {X : Type 0} (P : X → Type 0) (p : X → Bool) (xs : List X) → AllByRecursion P xs → AllByRecursion P (filter p xs)
all_kept P p [] all = tt
all_kept P p (x ∷ xs) all =
    elim (p x) as (λ b. AllByRecursion P (cond b (x ∷ filter p xs) (filter p xs))) [ true ↦ (all.0, all_kept P p xs all.1) | false ↦ all_kept P p xs all.1 ]

tied_but : {E : Type 0} → (v : GuessesView) (os : List (OpenGuess E)) (id : ℕ) (s : Status) → AreOpen v os → status_since v id ≡ Some Undecided → is_undecided s ≡ false
    → (g : ℕ) → has g (named (but id os)) ≡ open_in (status_since (decided v id s) g)
tied_but v os id s are was becomes g =
    let left = has_filter (λ t. not (t == id)) g (named os) in
    grind (arith, nat_tests, left, are.tied g, but_named id os, status-decided v id Undecided s was g)

pub open_but : {E : Type 0} → (v : GuessesView) (os : List (OpenGuess E)) (id : ℕ) (s : Status) → AreOpen v os → status_since v id ≡ Some Undecided → is_undecided s ≡ false → AreOpen (decided v id s) (but id os)
open_but v os id s are was becomes = record {
  rising = subst (IsStrictlySortedBy nat_cmp) (sym (but_named id os)) (IsStrictlySortedBy-filter nat_cmp (λ t. not (t == id)) (named os) are.rising);
  tied = tied_but v os id s are was becomes;
  own = all_kept (λ (o : (OpenGuess _)). has o.id o.tags ≡ true) (λ o. not (o.id == id)) os are.own;
}

pub own_left : {E : Type 0} → (g : ℕ) (os : List (OpenGuess E)) → AllByRecursion (λ (o : (OpenGuess E)). has o.id o.tags ≡ true) os → AllByRecursion (λ (o : (OpenGuess E)). has o.id o.tags ≡ true) (after_commit g os)
own_left g [] all = tt
own_left g (o ∷ os) all = grind (arith, nat_tests, has_filter (λ t. not (t == g)) o.id o.tags, own_left g os all.1)

pub open_committed : {E : Type 0} → (v : GuessesView) (os : List (OpenGuess E)) (id : ℕ) → AreOpen v os → status_since v id ≡ Some Undecided → AreOpen (decided v id Committed) (after_commit id os)
open_committed v os id are was =
    let left = open_but v os id Committed are was refl in
    grind (arith, nat_tests, left, same_named id (but id os), own_left id os are.own)

-- ---- all go whose own steps depend on one
pub none_named : {E : Type 0} → (g h : ℕ) (os : List (OpenGuess E)) → has h (named os) ≡ false → rests_on g (opens_of os) h ≡ false
none_named g h [] none = refl
none_named g h (o ∷ os) none = grind (arith, nat_tests, none_named g h os)

pub not_above : (x g : ℕ) (xs : List ℕ) → (x == g) ≡ true → AllByRecursion (λ y. nat_cmp x y ≡ Less) xs → has g xs ≡ false
not_above x g xs is all = isnt (has g xs) (λ here. let more = above x xs g all here in let same = eqb-true x g is in absurd (omega arith))

pub resting_named : {E : Type 0} → (g h : ℕ) (os : List (OpenGuess E)) → IsStrictlySortedBy nat_cmp (named os) → has h (named (not_resting g os)) ≡ (has h (named os) && not (rests_on g (opens_of os) h))
unfolding IsStrictlySortedBy
resting_named g h [] rises = refl
resting_named g h (o ∷ os) rises =
    grind (arith, nat_tests, not_above o.id h (named os), none_named g h os, resting_named g h os rises.1)

below_all : {E : Type 0} → (x g : ℕ) (os : List (OpenGuess E)) → AllByRecursion (λ y. nat_cmp x y ≡ Less) (named os) → AllByRecursion (λ y. nat_cmp x y ≡ Less) (named (not_resting g os))
below_all x g [] all = tt
below_all x g (o ∷ os) all =
    elim (not (has g o.tags)) as (λ b. AllByRecursion (λ y. nat_cmp x y ≡ Less) (named (cond b (o ∷ not_resting g os) (not_resting g os)))) [ true ↦ (all.0, below_all x g os all.1) | false ↦ below_all x g os all.1 ]

pub still_rises : {E : Type 0} → (g : ℕ) (os : List (OpenGuess E)) → IsStrictlySortedBy nat_cmp (named os) → IsStrictlySortedBy nat_cmp (named (not_resting g os))
unfolding IsStrictlySortedBy
still_rises g [] rises = tt
still_rises g (o ∷ os) rises =
    elim (not (has g o.tags)) as (λ b. IsStrictlySortedBy nat_cmp (named (cond b (o ∷ not_resting g os) (not_resting g os)))) [ true ↦ (below_all o.id g os rises.0, still_rises g os rises.1) | false ↦ still_rises g os rises.1 ]

pub unless : (o : Option Status) (b : Bool) → (open_in o && not b) ≡ open_in (cond b (Some Struck) o)
unless o b = grind (arith, nat_tests)

pub open_struck : {E : Type 0} → (v w : GuessesView) (os : List (OpenGuess E)) (id : ℕ) → AreOpen v os → ((g : ℕ) → status_since w g ≡ cond (rests_on id (opens_of os) g) (Some Struck) (status_since v g)) → AreOpen w (not_resting id os)
open_struck v w os id are struck = record {
  rising = still_rises id os are.rising;
  tied = λ g.
      resting_named id g os are.rising ∙ ap (λ b. b && not (rests_on id (opens_of os) g)) (are.tied g)
      ∙ unless (status_since v g) (rests_on id (opens_of os) g) ∙ ap open_in (sym (struck g));
  own = all_kept (λ (o : (OpenGuess _)). has o.id o.tags ≡ true) (λ o. not (has id o.tags)) os are.own;
}

-- ---- the strikes
abbrev pub AllDrawn : {E : Type 0} → GuessesView → List (OpenGuess E) → Type 0
AllDrawn v os = AllByRecursion (λ (o : (OpenGuess _)). is_some (status_since v o.id) ≡ true) os

some_of : (o : Option Status) → is_some o ≡ true → (s : Status) × (o ≡ Some s)
some_of None is = absurd (true≢false (sym is))
some_of (Some s) is = (s, refl)

open_some : (o : Option Status) → open_in o ≡ true → is_some o ≡ true
open_some None is = absurd (true≢false (sym is))
open_some (Some s) is = refl

drawn_all : {E : Type 0} → (v : GuessesView) (os : List (OpenGuess E)) → ((g : ℕ) → has g (named os) ≡ true → is_some (status_since v g) ≡ true) → AllDrawn v os
drawn_all v [] h = tt
drawn_all v (o ∷ os) h = (h o.id (or_left _ _ (eq-eqb o.id o.id refl)), drawn_all v os (λ g here. h g (or_right _ _ here)))

pub open_drawn : {E : Type 0} → (v : GuessesView) (os : List (OpenGuess E)) → AreOpen v os → AllDrawn v os
open_drawn v os are = drawn_all v os (λ g here. open_some (status_since v g) (sym (are.tied g) ∙ here))

still_some : (b : Bool) (o : Option Status) (s : Status) → is_some o ≡ true → is_some (cond b (Some s) o) ≡ true
still_some true o s is = refl
still_some false o s is = is

still_drawn : {E : Type 0} → (v : GuessesView) (id : ℕ) (was : Status) → status_since v id ≡ Some was → (os : List (OpenGuess E)) → AllDrawn v os → AllDrawn (decided v id Struck) os
still_drawn v id was is [] all = tt
still_drawn v id was is (o ∷ os) all =
    (ap is_some (status-decided v id was Struck is o.id) ∙ still_some (o.id == id) (status_since v o.id) Struck all.0, still_drawn v id was is os all.1)

pub struck_are : {E : Type 0} → (v : GuessesView) (id : ℕ) (os : List (OpenGuess E)) → AllDrawn v os
    → (g : ℕ) → status_since (record v { statuses = struck_by (length v.earlier) id os v.statuses }) g ≡ cond (rests_on id (opens_of os) g) (Some Struck) (status_since v g)
struck_are v id [] all g = refl
struck_are v id (o ∷ os) all g =
    let was = some_of (status_since v o.id) all.0 in
    let more = struck_are (decided v o.id Struck) id os (still_drawn v o.id was.0 was.1 os all.1) g in
    grind (arith, nat_tests, more, struck_are v id os all.1 g, status-decided v o.id was.0 Struck was.1 g)

pub in_range : {E : Type 0} → (v : GuessesView) (ls : List (Listing E)) → AllDrawn v (map guess_of ls) → (k : ℕ) (d : (Listing E)) → k < length ls → (slice_index_or ls k d).guess.id - length v.earlier - 1 < length v.statuses
in_range v [] all k d lt = absurd (omega arith)
in_range v (l ∷ ls) all zero d lt = let was = some_of (status_since v l.guess.id) all.0 in within v l.guess.id was.0 was.1
in_range v (l ∷ ls) all (suc k) d lt = in_range v ls all.1 k d (omega arith)

-- ---- one more
all_below : (xs : List ℕ) (x y : ℕ) → AllByRecursion (λ z. nat_cmp x z ≡ Less) xs → nat_cmp x y ≡ Less → AllByRecursion (λ z. nat_cmp x z ≡ Less) (xs ++ y ∷ [])
all_below [] x y all less = (less, tt)
all_below (z ∷ xs) x y all less = (all.0, all_below xs x y all.1 less)

-- a rising list with one number above all of its own
pub more_rises : (xs : List ℕ) (y : ℕ) → IsStrictlySortedBy nat_cmp xs → ((x : ℕ) → has x xs ≡ true → x < y) → IsStrictlySortedBy nat_cmp (xs ++ y ∷ [])
unfolding IsStrictlySortedBy
more_rises [] y rises below = (tt, tt)
more_rises (x ∷ xs) y rises below =
    (all_below xs x y rises.0 (sym (nat_cmp_is x y Less (below x (or_left _ _ (eq-eqb x x refl))))), more_rises xs y rises.1 (λ z here. below z (or_right _ _ here)))

pub status_below : (v : GuessesView) (g : ℕ) (s : Status) → status_since v g ≡ Some s → g < next_of v
status_below v g s is = let less = within v g s is in let some = drawn-since v g s is in omega (arith, less, some)

pub own_more : {E : Type 0} → (os : List (OpenGuess E)) (o : (OpenGuess E)) → AllByRecursion (λ (o : (OpenGuess E)). has o.id o.tags ≡ true) os → has o.id o.tags ≡ true → AllByRecursion (λ (o : (OpenGuess E)). has o.id o.tags ≡ true) (os ++ o ∷ [])
own_more [] o all own = (own, tt)
own_more (x ∷ os) o all own = (all.0, own_more os o all.1 own)

pub or_one : (a b : Bool) (o : Option Status) → a ≡ open_in o → (a || (b || false)) ≡ open_in (cond b (Some Undecided) o)
or_one a b o is = grind (arith, nat_tests)

pub open_more : {E : Type 0} → (v : GuessesView) (os : List (OpenGuess E)) (o : (OpenGuess E)) → AreOpen v os → o.id ≡ next_of v → has o.id o.tags ≡ true → AreOpen (drawn v) (os ++ o ∷ [])
open_more v os o are number own = record {
  rising = subst (IsStrictlySortedBy nat_cmp) (sym (named_more os o))
      (more_rises (named os) o.id are.rising (λ g here. subst (λ n. g < n) (sym number) (status_below v g Undecided (open_is (status_since v g) (sym (are.tied g) ∙ here)))));
  tied = λ g.
      ap (has g) (named_more os o) ∙ list_any-append (λ t. t == g) (named os) (o.id ∷ [])
      ∙ or_one (has g (named os)) (o.id == g) (status_since v g) (are.tied g)
      ∙ ap (λ b. open_in (cond b (Some Undecided) (status_since v g))) (ap (λ n. n == g) number ∙ turned (next_of v) g)
      ∙ ap open_in (sym (status-drawn v g));
  own = own_more os o are.own own;
}

-- ---- lists of what is decided
pub none_there : {E : Type 0} → (g : ℕ) (os : List (OpenGuess E)) → has g (named os) ≡ false → dependents_of g os ≡ []
none_there g [] none = refl
none_there g (o ∷ os) none = grind (arith, nat_tests, none_there g os)

pub emptied : {E : Type 0} → (v : GuessesView) (os : List (OpenGuess E)) (g : ℕ) → AreOpen v os → open_in (status_since v g) ≡ false → dependents_of g os ≡ []
emptied v os g are closed = none_there g os (are.tied g ∙ closed)

not_open : (o : Option Status) → o ≢ Some Undecided → open_in o ≡ false
not_open o other = isnt (open_in o) (λ is. other (open_is o is))

pub none_decided : {E : Type 0} → (v : GuessesView) (os : List (OpenGuess E)) (g : ℕ) → AreOpen v os → status_since v g ≢ Some Undecided → dependents_of g os ≡ []
none_decided v os g are other = emptied v os g are (not_open (status_since v g) other)

-- ---- the list of a guess
abbrev pub is_other : {E : Type 0} → ℕ → (Listing E) → Bool
is_other g l = not (l.guess.id == g)

pub found : {E : Type 0} → (g k : ℕ) (ls : List (Listing E)) (l : (Listing E)) → k ≡ prefix_len (is_other g) ls → k < length ls → l ≡ slice_index_or ls k l → l.guess.dependents ≡ dependents_of g (map guess_of ls)
found g k [] l is lt at = absurd (omega arith)
found g k (x ∷ ls) l is lt at = grind (arith, nat_tests, found g (prefix_len (is_other g) ls) ls l refl)

-- whether a guess is among them
pub is_there : {E : Type 0} (g k : ℕ) (ls : List (Listing E)) → k ≡ prefix_len (is_other g) ls → nat_lt k (length ls) ≡ has g (named (map guess_of ls))
is_there g k [] is = grind arith
is_there g k (x ∷ ls) is = grind (arith, nat_tests, is_there g (prefix_len (is_other g) ls) ls refl)

pub not_there : {E : Type 0} → (g k : ℕ) (ls : List (Listing E)) → k ≡ prefix_len (is_other g) ls → length ls ≤ k → has g (named (map guess_of ls)) ≡ false
not_there g k ls is le = sym (is_there g k ls is) ∙ isnt (nat_lt k (length ls)) (λ lt. let less = ltb-true k (length ls) lt in omega (arith, le, less))

pub missing : {E : Type 0} → (g k : ℕ) (ls : List (Listing E)) → k ≡ prefix_len (is_other g) ls → length ls ≤ k → [] ≡ dependents_of g (map guess_of ls)
missing g k ls is le = sym (none_there g (map guess_of ls) (not_there g k ls is le))

pub found_tags : {E : Type 0} → (g k : ℕ) (ls : List (Listing E)) (l : (Listing E)) → k ≡ prefix_len (is_other g) ls → k < length ls → l ≡ slice_index_or ls k l → Some l.guess.tags ≡ guess_tags g (opens_of (map guess_of ls))
found_tags g k [] l is lt at = absurd (omega arith)
found_tags g k (x ∷ ls) l is lt at = grind (arith, nat_tests, found_tags g (prefix_len (is_other g) ls) ls l refl)

pub missing_tags : {E : Type 0} → (g k : ℕ) (ls : List (Listing E)) → k ≡ prefix_len (is_other g) ls → length ls ≤ k → None ≡ guess_tags g (opens_of (map guess_of ls))
missing_tags g k [] is le = refl
missing_tags g k (x ∷ ls) is le = grind (arith, nat_tests, missing_tags g (prefix_len (is_other g) ls) ls refl)

pub none_taken : {E : Type 0} → (g k : ℕ) (ls : List (Listing E)) → k ≡ prefix_len (is_other g) ls → length ls ≤ k → map guess_of ls ≡ without_list g (map guess_of ls)
none_taken g k [] is le = refl
none_taken g k (x ∷ ls) is le = grind (arith, nat_tests, none_taken g (prefix_len (is_other g) ls) ls refl)

pub taken : {E : Type 0} → (g k : ℕ) (ls : List (Listing E)) (l new : (Listing E)) → k ≡ prefix_len (is_other g) ls → k < length ls → l ≡ slice_index_or ls k l → new.guess ≡ record l.guess { dependents = [] }
    → map guess_of (slice_set ls k new) ≡ without_list g (map guess_of ls)
taken g k [] l new is lt at left = absurd (omega arith)
taken g zero (x ∷ ls) l new is lt at left = grind (arith, nat_tests)
taken g (suc k) (x ∷ ls) l new is lt at left = grind (arith, nat_tests, taken g k ls l new)

-- what is changed of each but its number and the tags of its own step
pub same_opens : {E : Type 0} → (f : (OpenGuess E) → (OpenGuess E)) → ((o : (OpenGuess E)) → (f o).id ≡ o.id × (f o).tags ≡ o.tags) → (os : List (OpenGuess E)) → opens_of (map f os) ≡ opens_of os
same_opens f h [] = refl
same_opens f h (o ∷ os) = λ i. ((h o).0 i, (h o).1 i) ∷ same_opens f h os i

-- each of all is changed, and there are as many
pub as_long : {E : Type 0} → (f : OpenGuess E → OpenGuess E) (ms ls : List (Listing E)) → map guess_of ms ≡ map f (map guess_of ls) → length ms ≡ length ls
as_long f ms ls is = sym (length-map ms guess_of) ∙ ap length is ∙ length-map (map guess_of ls) f ∙ length-map ls guess_of

pub taken_opens : {E : Type 0} → (g : ℕ) (os : List (OpenGuess E)) → opens_of (without_list g os) ≡ opens_of os
taken_opens g [] = refl
taken_opens g (o ∷ os) = grind (arith, nat_tests, taken_opens g os)

pub own_same : {E : Type 0} → (xs os : List (OpenGuess E)) → opens_of xs ≡ opens_of os → AllByRecursion (λ (o : (OpenGuess E)). has o.id o.tags ≡ true) os → AllByRecursion (λ (o : (OpenGuess E)). has o.id o.tags ≡ true) xs
own_same [] os is all = tt
own_same (x ∷ xs) [] is all = cc
own_same (x ∷ xs) (o ∷ os) is all = grind (arith, own_same xs os)

-- what keeps numbers and tags keeps how they stand
pub open_same : {E : Type 0} → (v : GuessesView) (xs os : List (OpenGuess E)) → opens_of xs ≡ opens_of os → AreOpen v os → AreOpen v xs
open_same v xs os is are = grind (arith, nat_tests, is, own_same xs os is are.own)

-- ---- a failure, and the strikes after it
pub struck_opens : {E : Type 0} → (g : ℕ) (os : List (OpenGuess E)) → AllByRecursion (λ (o : (OpenGuess E)). has o.id o.tags ≡ true) os → opens_of (not_resting g (but g os)) ≡ not_struck g (opens_of os)
struck_opens g [] all = refl
struck_opens g (o ∷ os) all = grind (arith, nat_tests, struck_opens g os all.1)

pub but_taken : {E : Type 0} → (g : ℕ) (os : List (OpenGuess E)) → but g (without_list g os) ≡ but g os
but_taken g [] = refl
but_taken g (o ∷ os) = grind (arith, nat_tests, but_taken g os)

rests_but : {E : Type 0} → (g h : ℕ) → (h == g) ≡ false → (os : List (OpenGuess E)) → rests_on g (opens_of (but g os)) h ≡ rests_on g (opens_of os) h
rests_but g h apart [] = refl
rests_but g h apart (o ∷ os) = grind (arith, nat_tests, rests_but g h apart os)

rests_itself : {E : Type 0} → (g : ℕ) (os : List (OpenGuess E)) → rests_on g (opens_of (but g os)) g ≡ false
rests_itself g os =
    none_named g g (but g os) (ap (has g) (but_named g os) ∙ has_filter (λ t. not (t == g)) g (named os) ∙ ap (λ b. not b && has g (named os)) (eq-eqb g g refl))

pub failed_status : {E : Type 0} → (v : GuessesView) (g : ℕ) (os : List (OpenGuess E)) → status_since v g ≡ Some Undecided
    → (h : ℕ) → cond (rests_on g (opens_of (but g os)) h) (Some Struck) (status_since (decided v g Failed) h) ≡ with_failure g (opens_of os) (status_since v) h
failed_status v g os was h =
    let rest = λ (apart : (h == g) ≡ false). rests_but g h apart os in
    grind (arith, nat_tests, rest, rests_itself g os, status-decided v g Undecided Failed was h)

-- ---- what changes only the list
pub depending_keeps : {E : Type 0} → (R : E → E → Ordering) → (tags : List ℕ) (e : E) (o : (OpenGuess E)) → (depending R tags e o).id ≡ o.id × (depending R tags e o).tags ≡ o.tags
depending_keeps R tags e o = elim (has o.id tags) as (λ b. (cond b (record o { dependents = with_entity R o.dependents e }) o).id ≡ o.id × (cond b (record o { dependents = with_entity R o.dependents e }) o).tags ≡ o.tags) [ true ↦ (refl, refl) | false ↦ (refl, refl) ]

pub relieved_keeps : {E : Type 0} → (R : E → E → Ordering) → (tags : List ℕ) (e : E) (o : (OpenGuess E)) → (relieved R tags e o).id ≡ o.id × (relieved R tags e o).tags ≡ o.tags
relieved_keeps R tags e o = elim (has o.id tags) as (λ b. (cond b (record o { dependents = without_entity R o.dependents e }) o).id ≡ o.id × (cond b (record o { dependents = without_entity R o.dependents e }) o).tags ≡ o.tags) [ true ↦ (refl, refl) | false ↦ (refl, refl) ]

pub left_to_keeps : {E : Type 0} → (R : E → E → Ordering) → (tags : List ℕ) (e : E) (o : (OpenGuess E)) → (left_to R tags e o).id ≡ o.id × (left_to R tags e o).tags ≡ o.tags
left_to_keeps R tags e o = elim (has o.id tags) as (λ b. (cond b o (record o { dependents = without_entity R o.dependents e })).id ≡ o.id × (cond b o (record o { dependents = without_entity R o.dependents e })).tags ≡ o.tags) [ true ↦ (refl, refl) | false ↦ (refl, refl) ]

pub number_at : {E : Type 0} → (ls : List (Listing E)) (k : ℕ) (l : Listing E) → k < length ls → l ≡ slice_index_or ls k l → slice_get (numbers (opens_of (map guess_of ls))) k ≡ Some l.guess.id
number_at [] k l lt at = absurd (omega arith)
number_at (x ∷ ls) zero l lt at = ap (λ (y : Listing _). Some y.guess.id) (sym at)
number_at (x ∷ ls) (suc k) l lt at = number_at ls k l (omega arith) at

pub relieved_beyond_keeps : {E : Type 0} → (R : E → E → Ordering) → (tags own : List ℕ) (e : E) (o : (OpenGuess E)) → (relieved_beyond R tags own e o).id ≡ o.id × (relieved_beyond R tags own e o).tags ≡ o.tags
relieved_beyond_keeps R tags own e o = elim (has o.id tags) as (λ b. (cond b (left_to R own e o) o).id ≡ o.id × (cond b (left_to R own e o) o).tags ≡ o.tags) [ true ↦ left_to_keeps R own e o | false ↦ (refl, refl) ]

-- where none is drawn
no_numbers : IsStrictlySortedBy nat_cmp []
unfolding IsStrictlySortedBy
no_numbers = tt

none_yet : (v : GuessesView) → v.statuses ≡ [] → (g : ℕ) → false ≡ open_in (status_since v g)
none_yet v none g = ap open_in (sym (ap (λ ss. status_in ss (g - length v.earlier)) none ∙ nothing_in (g - length v.earlier)))

pub none_open : {E : Type 0} → (v : GuessesView) (os : List (OpenGuess E)) → v.statuses ≡ [] → os ≡ [] → AreOpen v os
none_open v os none empty = subst (AreOpen v) (sym empty) (record { rising = no_numbers; tied = none_yet v none; own = tt })

no_places : {E : Type 0} → (os : List (OpenGuess E)) → 0 ≡ length os → os ≡ []
no_places [] none = refl
no_places (o ∷ os) none = absurd (omega (arith, none))

-- where an epoch ends none is open
pub settled_open : {E : Type 0} → (v w : GuessesView) (os : List (OpenGuess E)) → AreOpen v os → undecided_of v.statuses ≡ 0 → w.statuses ≡ [] → AreOpen w os
settled_open v w os are none empty = none_open w os empty (no_places os (sym none ∙ counted v os are))

-- ---- lists of what is decided, once more
pub closed_list : {E : Type 0} → (g : ℕ) (os : List (OpenGuess E)) → dependents_of g (but g os) ≡ []
closed_list g os = none_there g (but g os) (ap (has g) (but_named g os) ∙ has_filter (λ t. not (t == g)) g (named os) ∙ ap (λ b. not b && has g (named os)) (eq-eqb g g refl))

pub committed_list : {E : Type 0} → (g : ℕ) (os : List (OpenGuess E)) → dependents_of g (after_commit g os) ≡ []
committed_list g os =
    none_there g (after_commit g os)
    (ap (has g) (same_named g (but g os) ∙ but_named g os) ∙ has_filter (λ t. not (t == g)) g (named os) ∙ ap (λ b. not b && has g (named os)) (eq-eqb g g refl))

pub struck_length : {E : Type 0} → (before g : ℕ) (os : List (OpenGuess E)) (ss : List Status) → length (struck_by before g os ss) ≡ length ss
struck_length before g [] ss = refl
struck_length before g (o ∷ os) ss = grind (arith, nat_tests, struck_length before g os, length-set {A = Status})

-- one that is not undecided is not among them
not_named : {E : Type 0} → (v : GuessesView) (os : List (OpenGuess E)) (g : ℕ) → AreOpen v os → open_in (status_since v g) ≡ false → has g (named os) ≡ false
not_named v os g are closed = are.tied g ∙ closed

pub none_closed : {E : Type 0} → (g : ℕ) (os : List (OpenGuess E)) → has g (named os) ≡ false → but g os ≡ os
none_closed g [] none = refl
none_closed g (o ∷ os) none = grind (arith, nat_tests, none_closed g os)

pub closed_resting : {E : Type 0} → (v : GuessesView) (os : List (OpenGuess E)) (g : ℕ) → AreOpen v os → open_in (status_since v g) ≡ false → opens_of (not_resting g os) ≡ not_struck g (opens_of os)
closed_resting v os g are closed = ap (λ xs. opens_of (not_resting g xs)) (sym (none_closed g os (not_named v os g are closed))) ∙ struck_opens g os are.own

-- ---- where they aren't full, there is a place and a number
or_no : (a b : Bool) → true ≡ not (a || b) → (a ≡ false) × (b ≡ false) × ((a || b) ≡ false)
or_no a b is = grind (arith, nat_tests)

pub not_full : (v : GuessesView) → true ≡ not (is_full v) → (undecided_of v.statuses < GUESS_LIMIT) × (next_of v ≤ LAST_GUESS) × (is_full v ≡ false)
not_full v is =
    let no = or_no (nat_le GUESS_LIMIT (undecided_of v.statuses)) (nat_lt LAST_GUESS (next_of v)) is in
    (leb-false GUESS_LIMIT (undecided_of v.statuses) no.0, ltb-false LAST_GUESS (next_of v) no.1, no.2)
