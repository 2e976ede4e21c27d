-- What is kept of guesses after a draw and a decision, and the statuses that agree with it.
use Rattle.sk_guesses.proofs.Names.{◌≡◌, ◌≢◌, ℕ, ◌<◌, ◌≤◌, ◌+◌, length, length-append, Bool, true, false, cond, not}
use Rattle.sk_guesses.proofs.Names.{◌&&◌, List, [], ◌∷◌, ◌++◌, map, Option, Some, refl, sym, ◌∙◌, ap, subst}
use Rattle.sk_guesses.proofs.Names.{append_assoc, arith, ◌==◌, Ok, Err, AllByRecursion, nat_cmp, true≢false, length-map}
use Rattle.sk_guesses.proofs.Names.{map-append, list_any-append, IsStrictlySortedBy-filter, LAST_GUESS, has, rests_on}
use Rattle.sk_guesses.proofs.Names.{with_drawn, with_failure, with_status, Open, numbers, not_struck, still_open}
use Rattle.sk_guesses.proofs.Names.{Status, Undecided, Committed, has_filter, and_both, KeptView, AreKept}
use Rattle.sk_guesses.proofs.Names.{AreStatuses, forgotten, known, one_drawn, struck_with, with_struck, OpenGuess}
use Rattle.sk_guesses.proofs.Names.{after_commit, but, not_resting, opens_of, Listing, Token, Redeemed, AreBelow}
use Rattle.std.specs.Prelude.{Result}
use Rattle.std.specs.List.Sorted.{IsStrictlySortedBy}
use Rattle.sk_guesses.specs.declared.guess.Redeemed.TheVariants as redeemed_as
use Rattle.sk_guesses.proofs.Opens.{guess_of, named, but_named, same_named, named_more, all_kept, own_left, own_more}
use Rattle.sk_guesses.proofs.Opens.{own_same, still_rises, none_named, more_rises, open_is, resting_named, as_long}
use Rattle.sk_guesses.proofs.Opens.{same_opens}
use Rattle.sk_guesses.proofs.Passes.{below_committed, below_left}
use Rattle.std.proofs.lemmas.Bool.Decides.{nat_tests}

-- nothing is known to be open that is not
pub not_known : (v : KeptView) (os : List Open) (g : ℕ) → known v os g ≢ Some Undecided → has g (numbers os) ≡ false
not_known v os g other = grind (arith, nat_tests)

-- ---- as the machine has them
pub commit_opens : {E : Type 0} (g : ℕ) (os : List (OpenGuess E)) → opens_of (after_commit g os) ≡ still_open g (opens_of os)
commit_opens g [] = refl
commit_opens g (o ∷ os) = grind (arith, nat_tests, commit_opens g os)

pub fail_opens : {E : Type 0} (g : ℕ) (os : List (OpenGuess E)) → opens_of (not_resting g os) ≡ not_struck g (opens_of os)
fail_opens g [] = refl
fail_opens g (o ∷ os) = grind (arith, nat_tests, fail_opens g os)

-- ---- one more
module _ {E : Type 0} (v : KeptView) (os : List (OpenGuess E)) (o : OpenGuess E) (number : o.id ≡ v.drawn + 1) where
  pub rising_drawn : IsStrictlySortedBy nat_cmp (named os) → ((g : ℕ) → has g (named os) ≡ true → g ≤ v.drawn) → IsStrictlySortedBy nat_cmp (named (os ++ o ∷ []))
  rising_drawn rising below =
      subst (IsStrictlySortedBy nat_cmp) (sym (named_more os o)) (more_rises (named os) o.id rising (λ g here. let le = below g here in omega (arith, number, le)))

  pub below_drawn : ((g : ℕ) → has g (named os) ≡ true → g ≤ v.drawn) → (g : ℕ) → has g (named (os ++ o ∷ [])) ≡ true → g ≤ v.drawn + 1
  below_drawn below g here =
      grind (arith, nat_tests, named_more os o, list_any-append (λ t. t == g) (named os) (o.id ∷ []), below g)

  pub statuses_drawn : (status : ℕ → Option Status) → AreStatuses v (opens_of os) status → AreStatuses (one_drawn v) (opens_of (os ++ o ∷ [])) (with_drawn (Some o.id) status)
  statuses_drawn status are =
      grind (arith, nat_tests, named_more os o, λ (g : ℕ). list_any-append (λ t. t == g) (named os) (o.id ∷ []))

-- ---- one less
pub rising_committed : {E : Type 0} (g : ℕ) (os : List (OpenGuess E)) → IsStrictlySortedBy nat_cmp (named os) → IsStrictlySortedBy nat_cmp (named (after_commit g os))
rising_committed g os rising = subst (IsStrictlySortedBy nat_cmp) (sym (same_named g (but g os) ∙ but_named g os)) (IsStrictlySortedBy-filter nat_cmp (λ t. not (t == g)) (named os) rising)

committed_named : {E : Type 0} (g h : ℕ) (os : List (OpenGuess E)) → has h (named (after_commit g os)) ≡ (not (h == g) && has h (named os))
committed_named g h os = ap (has h) (same_named g (but g os) ∙ but_named g os) ∙ has_filter (λ t. not (t == g)) h (named os)

-- a guess that is open is not struck, and was drawn
module _ (v : KeptView) (os : List Open) (status : ℕ → Option Status) (are : AreStatuses v os status) (g : ℕ) (here : has g (numbers os) ≡ true) where
  is_undecided : status g ≡ Some Undecided
  is_undecided = open_is (status g) (sym (are.undecided g) ∙ here)

pub statuses_committed : {E : Type 0} (v : KeptView) (os : List (OpenGuess E)) (status : ℕ → Option Status) (g : ℕ) → AreStatuses v (opens_of os) status → has g (named os) ≡ true
    → AreStatuses v (opens_of (after_commit g os)) (with_status g Committed status)
statuses_committed v os status g are here =
    grind (arith, nat_tests, λ (h : ℕ). committed_named g h os, is_undecided v (opens_of os) status are g here)

rests_itself : {E : Type 0} (g : ℕ) (os : List (OpenGuess E)) → AllByRecursion (λ (o : OpenGuess E). has o.id o.tags ≡ true) os → has g (named os) ≡ true → rests_on g (opens_of os) g ≡ true
rests_itself g [] own here = absurd (true≢false (sym here))
rests_itself g (o ∷ os) own here = grind (arith, nat_tests, rests_itself g os own.1)

-- a struck one depends on the failed one, and is another
struck_rests : (g h : ℕ) (os : List Open) → has h (struck_with g os) ≡ true → (rests_on g os h ≡ true) × ((h == g) ≡ false)
struck_rests g h [] here = absurd (true≢false (sym here))
struck_rests g h (o ∷ os) here = grind (arith, nat_tests, struck_rests g h os)

pub statuses_failed : {E : Type 0} (v : KeptView) (os : List (OpenGuess E)) (status : ℕ → Option Status) (g : ℕ) → IsStrictlySortedBy nat_cmp (named os) → AllByRecursion (λ (o : OpenGuess E). has o.id o.tags ≡ true) os
    → AreStatuses v (opens_of os) status → has g (named os) ≡ true → AreStatuses (with_struck g (opens_of os) v) (opens_of (not_resting g os)) (with_failure g (opens_of os) status)
statuses_failed v os status g rising own are here =
    let left = λ (h : ℕ). resting_named g h os rising in
    let rests = λ (h : ℕ). struck_rests g h (opens_of os) in
    let none = λ (h : ℕ). none_named g h os in
    let more = λ (h : ℕ). list_any-append (λ t. t == h) v.struck (struck_with g (opens_of os)) in
    let was = is_undecided v (opens_of os) status are g here in
    grind (arith, nat_tests, left, rests, none, more, was, rests_itself g os own here)

-- ---- a token
pub statuses_redeemed : (v : KeptView) (os : List Open) (r : Result Redeemed Token) (status : ℕ → Option Status) → AreStatuses v os status → AreStatuses (forgotten v r) os status
statuses_redeemed v os (Ok (redeemed_as.Undecided g)) status are = are
statuses_redeemed v os (Ok (redeemed_as.Struck g)) status are = record {
  undecided = are.undecided;
  struck = λ h kept. are.struck h (and_both _ _ (sym (has_filter (λ t. not (t == g)) h v.struck) ∙ kept)).1;
  fresh = are.fresh;
}
statuses_redeemed v os (Err token) status are = are

-- ---- how many
pub as_few : {E : Type 0} (g : ℕ) (os : List (OpenGuess E)) → length (struck_with g (opens_of os)) + length (not_resting g os) ≤ length os
as_few g [] = omega arith
as_few g (o ∷ os) = grind (arith, nat_tests, as_few g os)

-- ---- between calls
module _ {E : Type 0} {v : KeptView} {ls : List (Listing E)} {next : List E} {strikes : ℕ} {low : Bool} (kept : AreKept v ls next strikes × (low ≡ true → AreBelow (opens_of (map guess_of ls)))) where
  -- some of them are left
  kept_left : (ms : List (Listing E)) (struck : List ℕ) (room : ℕ) → IsStrictlySortedBy nat_cmp (named (map guess_of ms)) → AllByRecursion (λ (o : OpenGuess E). has o.id o.tags ≡ true) (map guess_of ms)
      → ((g : ℕ) → has g (named (map guess_of ms)) ≡ true → has g (named (map guess_of ls)) ≡ true) → length ms ≤ length ls → length struck + length ms ≤ room → AreKept (record v { struck = struck }) ms next room
  kept_left ms struck room rising own among fewer places = grind arith

  -- a struck one is forgotten
  pub kept_forgotten : (struck : List ℕ) (room : ℕ) → length struck ≤ length v.struck → room ≡ strikes → AreKept (record v { struck = struck }) ls next room
  kept_forgotten struck room fewer same = kept_left ls struck room kept.0.rising kept.0.own (λ g here. here) (omega arith) (let places = kept.0.places in omega (arith, places, fewer, same))

  module _ (ms : List (Listing E)) where
    -- numbers and tags stay
    pub kept_same : opens_of (map guess_of ms) ≡ opens_of (map guess_of ls) → length ms ≤ length ls → AreKept v ms next strikes × (low ≡ true → AreBelow (opens_of (map guess_of ms)))
    kept_same is fewer = (
      kept_left ms v.struck strikes (subst (λ ps. IsStrictlySortedBy nat_cmp (numbers ps)) (sym is) kept.0.rising) (own_same (map guess_of ms) (map guess_of ls) is kept.0.own)
          (λ g here. ap (λ ps. has g (numbers ps)) (sym is) ∙ here) fewer (let places = kept.0.places in omega (arith, places, fewer)),
      λ so. subst AreBelow (sym is) (kept.1 so),
    )

    pub kept_mapped : (f : OpenGuess E → OpenGuess E) → ((o : OpenGuess E) → (f o).id ≡ o.id × (f o).tags ≡ o.tags) → map guess_of ms ≡ map f (map guess_of ls) → AreKept v ms next strikes × (low ≡ true → AreBelow (opens_of (map guess_of ms)))
    kept_mapped f keeps is = kept_same (ap opens_of is ∙ same_opens f keeps (map guess_of ls)) (let many = as_long f ms ls is in omega (arith, many))

    -- one is committed
    pub kept_committed : (g : ℕ) → map guess_of ms ≡ after_commit g (map guess_of ls) → length ms ≤ length ls → AreKept v ms next strikes × (low ≡ true → AreBelow (opens_of (map guess_of ms)))
    kept_committed g is fewer =
        let os = map guess_of ls in (
          kept_left ms v.struck strikes (subst (λ xs. IsStrictlySortedBy nat_cmp (named xs)) (sym is) (rising_committed g os kept.0.rising))
              (subst (AllByRecursion (λ (o : OpenGuess E). has o.id o.tags ≡ true)) (sym is) (own_left g os kept.0.own))
              (λ h here. (and_both _ _ (sym (committed_named g h os) ∙ ap (λ xs. has h (named xs)) (sym is) ∙ here)).1) fewer (let places = kept.0.places in omega (arith, places, fewer)),
          λ so. subst (λ xs. AreBelow (opens_of xs)) (sym is) (below_committed g os (kept.1 so)),
        )

    -- one fails
    pub kept_failed : (g : ℕ) (struck : List ℕ) (room : ℕ) → room ≡ strikes → struck ≡ v.struck ++ struck_with g (opens_of (map guess_of ls)) → map guess_of ms ≡ not_resting g (map guess_of ls) → length ms ≤ length ls
        → AreKept (record v { struck = struck }) ms next room × (low ≡ true → AreBelow (opens_of (map guess_of ms)))
    kept_failed g struck room same so is fewer =
        let os = map guess_of ls in
        let both : length struck ≡ length v.struck + length (struck_with g (opens_of os)) = ap length so ∙ rw length-append refl in
        let left : length ms ≡ length (not_resting g os) = sym (length-map ms guess_of) ∙ ap length is in
        let some = as_few g os in
        let all = length-map ls guess_of in (
          kept_left ms struck room (subst (λ xs. IsStrictlySortedBy nat_cmp (named xs)) (sym is) (still_rises g os kept.0.rising))
              (subst (AllByRecursion (λ (o : OpenGuess E). has o.id o.tags ≡ true)) (sym is) (all_kept (λ (o : OpenGuess E). has o.id o.tags ≡ true) (λ o. not (has g o.tags)) os kept.0.own))
              (λ h here. (and_both _ _ (sym (resting_named g h os kept.0.rising) ∙ ap (λ xs. has h (named xs)) (sym is) ∙ here)).0)
              fewer (let places = kept.0.places in omega (arith, both, left, some, all, places, same)),
          λ low. subst AreBelow (sym (ap opens_of is ∙ fail_opens g os)) (below_left g (opens_of os) (kept.1 low)),
        )

module _ {E : Type 0} (v : KeptView) (ls ms : List (Listing E)) (next : List E) (strikes : ℕ) where
  -- one is drawn
  pub kept_drawn : (l : Listing E) (n : ℕ) (after : List E) → ms ≡ ls ++ l ∷ [] → l.guess.id ≡ v.drawn + 1 → n ≡ v.drawn + 1 → after ≡ [] → has l.guess.id l.guess.tags ≡ true → length ls < v.limit → v.drawn < LAST_GUESS
      → length v.struck + length ls < strikes → AreKept v ls next strikes → AreKept (record v { drawn = n }) ms after strikes
  kept_drawn l n after so number drawn none own few last places kept =
      let os = map guess_of ls in
      let is : map guess_of ms ≡ os ++ l.guess ∷ [] = ap (map guess_of) so ∙ rw map-append refl in
      let more : length ms ≡ length ls + 1 = ap length so ∙ rw length-append refl in
      record {
        rising = subst (λ xs. IsStrictlySortedBy nat_cmp (named xs)) (sym is) (rising_drawn v os l.guess number kept.rising kept.below);
        own = subst (AllByRecursion (λ (o : OpenGuess E). has o.id o.tags ≡ true)) (sym is) (own_more os l.guess kept.own own);
        below = λ g here. let le = below_drawn v os l.guess number kept.below g (ap (λ xs. has g (named xs)) (sym is) ∙ here) in omega (arith, le, drawn);
        few = omega (arith, few, more);
        numbered = omega (arith, last, drawn);
        places = omega (arith, places, more);
        empty = none;
      }

no_numbers : IsStrictlySortedBy nat_cmp []
unfolding IsStrictlySortedBy
no_numbers = tt

-- where none is drawn
pub kept_none : {E : Type 0} (v : KeptView) (ls : List (Listing E)) (next : List E) (strikes : ℕ) → v.drawn ≡ 0 → v.struck ≡ [] → ls ≡ [] → next ≡ [] → AreKept v ls next strikes
kept_none v [] next strikes drawn struck none empty = grind (arith, no_numbers)
kept_none v (l ∷ ls) next strikes drawn struck none empty = cc

-- one more is noted, or is not struck
pub strike_next : {E : Type 0} (g : ℕ) (xs : List ℕ) (o : OpenGuess E) (os : List (OpenGuess E))
    → cond (has g o.tags && not (o.id == g)) (xs ++ o.id ∷ []) xs ++ struck_with g (opens_of os) ≡ xs ++ struck_with g (opens_of (o ∷ os))
strike_next g xs o os = grind (arith, nat_tests, append_assoc)
