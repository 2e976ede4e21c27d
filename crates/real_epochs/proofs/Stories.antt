-- What calls make of the steps of epochs.
use Rattle.real_epochs.proofs.Names.{◌≡◌, ℕ, Bool, true, false, ◌||◌, ◌==◌, not, cond, List, [], ◌∷◌, ◌++◌, map, refl, sym}
use Rattle.real_epochs.proofs.Names.{◌∙◌, ap, subst, append_assoc, append-nil, or_parts, or_from, or_left, or_right}
use Rattle.real_epochs.proofs.Names.{eqb-true, eq-eqb, or_cases, true≢false, false_from_ne_true, list_any, filter, has}
use Rattle.real_epochs.proofs.Names.{list_any-append, map_append, is_marked, inl, inr}
use Rattle.real_epochs.proofs.Names.{Event, Changes, Told, Says, Epoch, all_in, changed_in, told_in, in_newest, in_none}
use Rattle.real_epochs.proofs.Names.{in_oldest, but_oldest, Entry, Opens, Does, mark, tree, entries_of, events_in, is_begun}
use Rattle.real_epochs.proofs.Names.{without}
use Rattle.real_epochs.specs.Clean.{IsClean, IsCleanAt, goes_along, past_with, staying}
use Rattle.real_epochs.specs.Tells.{AreApart, numbers_of}
use Rattle.real_epochs.proofs.Chain.{past_is}

-- ---- their steps, one after another

pub entries_more : (es fs : List Epoch) → entries_of (es ++ fs) ≡ entries_of es ++ entries_of fs
entries_more [] fs = refl
entries_more (e ∷ es) fs =
    ap (λ xs. Opens e.number e.checkpoint ∷ (map Does e.events ++ xs)) (entries_more es fs)
    ∙ ap (λ xs. Opens e.number e.checkpoint ∷ xs) (sym (append_assoc (map Does e.events) (entries_of es) (entries_of fs)))

pub entries_one : (e : Epoch) (es : List Epoch) → entries_of (e ∷ es) ≡ entries_of (e ∷ []) ++ entries_of es
entries_one e es = entries_more (e ∷ []) es

pub events_more : (ns ms : List Entry) → events_in (ns ++ ms) ≡ events_in ns ++ events_in ms
events_more [] ms = refl
events_more (Opens number checkpoint ∷ ns) ms = events_more ns ms
events_more (Does event ∷ ns) ms = ap (λ xs. event ∷ xs) (events_more ns ms)

pub events_does : (es : List Event) → events_in (map Does es) ≡ es
events_does [] = refl
events_does (e ∷ es) = ap (λ xs. e ∷ xs) (events_does es)

pub events_of_one : (e : Epoch) → events_in (entries_of (e ∷ [])) ≡ e.events
events_of_one e = ap events_in (append-nil (map Does e.events)) ∙ events_does e.events

pub events_all : (es : List Epoch) → events_in (entries_of es) ≡ all_in es
events_all [] = refl
events_all (e ∷ es) =
    events_more (map Does e.events) (entries_of es)
    ∙ (λ i. events_does e.events i ++ events_all es i)

-- what happens is done last
pub event_last : (event : Event) (es : List Epoch) → map Does (in_none event es) ++ entries_of (in_newest event es) ≡ entries_of es ++ Does event ∷ []
event_last event [] = refl
event_last event (e ∷ []) =
    ap (λ xs. Opens e.number e.checkpoint ∷ xs)
    (append-nil (map Does (e.events ++ event ∷ [])) ∙ map_append Does e.events (event ∷ []) ∙ ap (λ xs. xs ++ Does event ∷ []) (sym (append-nil (map Does e.events))))
event_last event (e ∷ f ∷ es) =
    ap (λ xs. Opens e.number e.checkpoint ∷ (map Does e.events ++ xs)) (event_last event (f ∷ es))
    ∙ ap (λ xs. Opens e.number e.checkpoint ∷ xs) (sym (append_assoc (map Does e.events) (entries_of (f ∷ es)) (Does event ∷ [])))

pub same_numbers : (event : Event) (es : List Epoch) → numbers_of (in_newest event es) ≡ numbers_of es
same_numbers event [] = refl
same_numbers event (e ∷ []) = refl
same_numbers event (e ∷ f ∷ es) = ap (λ xs. e.number ∷ xs) (same_numbers event (f ∷ es))

-- ---- what stays

staying_more : (ns ms : List Entry) → staying (ns ++ ms) ≡ staying ns ++ staying ms
staying_more [] ms = refl
staying_more (n ∷ ns) ms =
    elim (goes_along n) as (λ b. cond b (staying (ns ++ ms)) (n ∷ staying (ns ++ ms)) ≡ cond b (staying ns) (n ∷ staying ns) ++ staying ms) [
      | true ↦ staying_more ns ms
      | false ↦ ap (λ xs. n ∷ xs) (staying_more ns ms)
    ]

told_more_in : (es fs : List Event) → told_in (es ++ fs) ≡ told_in es ++ told_in fs
told_more_in [] fs = refl
told_more_in (Changes name version ∷ es) fs = told_more_in es fs
told_more_in (Told name version ∷ es) fs = ap (λ xs. Told name version ∷ xs) (told_more_in es fs)
told_more_in (Says stream output ∷ es) fs = told_more_in es fs

staying_is : (ns : List Entry) → events_in (staying ns) ≡ told_in (events_in ns)
staying_is [] = refl
staying_is (Opens number checkpoint ∷ ns) = staying_is ns
staying_is (Does (Changes name version) ∷ ns) = staying_is ns
staying_is (Does (Told name version) ∷ ns) = ap (λ xs. Told name version ∷ xs) (staying_is ns)
staying_is (Does (Says stream output) ∷ ns) = staying_is ns

pub staying_told : (es : List Epoch) → events_in (staying (entries_of es)) ≡ told_in (all_in es)
staying_told es = staying_is (entries_of es) ∙ ap told_in (events_all es)

-- ---- what is clean stays so

or_nothing : (b : Bool) → b ≡ (b || false)
or_nothing true = refl
or_nothing false = refl

less : (small big : List Event) (n : Entry) → ((k : ℕ) → changed_in big k ≡ false → changed_in small k ≡ false)
    → (k : ℕ) → changed_in (past_with n big) k ≡ false → changed_in (past_with n small) k ≡ false
less small big (Opens number checkpoint) fewer k none = fewer k none
less small big (Does (Changes name version)) fewer k none = let parts = or_parts _ _ none in or_from _ _ parts.0 (fewer k parts.1)
less small big (Does (Told name version)) fewer k none = fewer k none
less small big (Does (Says stream output)) fewer k none = fewer k none

less_at : (small big : List Event) (n : Entry) → ((k : ℕ) → changed_in big k ≡ false → changed_in small k ≡ false) → IsCleanAt big n → IsCleanAt small n
less_at small big (Opens number checkpoint) fewer clean = clean
less_at small big (Does (Changes name version)) fewer clean = clean
less_at small big (Does (Told name version)) fewer clean = (fewer name clean.0, clean.1)
less_at small big (Does (Says stream output)) fewer clean = clean

clean_less : (small big : List Event) (ns : List Entry) → ((k : ℕ) → changed_in big k ≡ false → changed_in small k ≡ false) → IsClean big ns → IsClean small ns
clean_less small big [] fewer clean = tt
clean_less small big (n ∷ ns) fewer clean =
    (less_at small big n fewer clean.0, clean_less (past_with n small) (past_with n big) ns (less small big n fewer) clean.1)

pub clean_behind : (past : List Event) (ns ms : List Entry) → IsClean past (ns ++ ms) → IsClean [] ms
clean_behind past [] ms clean = clean_less [] past ms (λ k none. refl) clean
clean_behind past (n ∷ ns) ms clean = clean_behind (past_with n past) ns ms clean.1

pub clean_more : (past : List Event) (ns : List Entry) (n : Entry) → IsClean past ns
    → ((p : List Event) → ((k : ℕ) → changed_in p k ≡ (changed_in past k || changed_in (events_in ns) k)) → IsCleanAt p n) → IsClean past (ns ++ n ∷ [])
clean_more past [] n clean fits = (fits past (λ k. or_nothing (changed_in past k)), tt)
clean_more past (m ∷ ns) n clean fits =
    (clean.0, clean_more (past_with m past) ns n clean.1 (λ p is. fits p (λ k. is k ∙ past_is m past ns k)))

-- ---- epochs that begin once

begun_more : (g : ℕ) (ns ms : List Entry) → is_begun g (ns ++ ms) ≡ (is_begun g ns || is_begun g ms)
begun_more g ns ms = list_any-append (λ n. is_marked (mark n) g) ns ms

pub none_begun : (ns : List Entry) (es : List Epoch) → AreApart ns es → (g : ℕ) → has g (numbers_of es) ≡ true → is_begun g ns ≡ false
none_begun ns [] apart g here = absurd (true≢false (sym here))
none_begun ns (e ∷ es) apart g here = elim (or_cases (e.number == g) (has g (numbers_of es)) here) [
  | inl same ↦ subst (λ h. is_begun h ns ≡ false) (eqb-true e.number g same) apart.0
  | inr there ↦ (or_parts _ _ (sym (begun_more g ns (entries_of (e ∷ []))) ∙ none_begun (ns ++ entries_of (e ∷ [])) es apart.1 g there)).0
]

pub not_again : (ns : List Entry) (e : Epoch) (es : List Epoch) → AreApart ns (e ∷ es) → has e.number (numbers_of es) ≡ false
not_again ns e es apart =
    false_from_ne_true _ (λ there.
    let none = (or_parts _ _ (sym (begun_more e.number ns (entries_of (e ∷ []))) ∙ none_begun (ns ++ entries_of (e ∷ [])) es apart.1 e.number there)).1 in
    true≢false (sym (or_left (e.number == e.number) _ (eq-eqb e.number e.number refl)) ∙ none))

in_it : (event : Event) (ns : List Entry) (e : Epoch) (es : List Epoch) → AreApart ns (e ∷ es) → AreApart ns (in_newest event (e ∷ es))
in_it event ns e [] apart = (apart.0, tt)
in_it event ns e (f ∷ es) apart = (apart.0, in_it event (ns ++ entries_of (e ∷ [])) f es apart.1)

pub apart_newest : (event : Event) (ns : List Entry) (es : List Epoch) → AreApart ns es → AreApart (ns ++ map Does (in_none event es)) (in_newest event es)
apart_newest event ns [] apart = tt
apart_newest event ns (e ∷ es) apart = subst (λ xs. AreApart xs (in_newest event (e ∷ es))) (sym (append-nil ns)) (in_it event ns e es apart)

pub apart_more : (number checkpoint : ℕ) (ns : List Entry) (es : List Epoch) → AreApart ns es → is_begun number (ns ++ entries_of es) ≡ false
    → AreApart ns (es ++ (record { number = number; checkpoint = checkpoint; events = [] }) ∷ [])
apart_more number checkpoint ns [] apart none = (subst (λ xs. is_begun number xs ≡ false) (append-nil ns) none, tt)
apart_more number checkpoint ns (e ∷ es) apart none = (
  apart.0,
  apart_more number checkpoint (ns ++ entries_of (e ∷ [])) es apart.1
      (subst (λ xs. is_begun number xs ≡ false) (ap (λ xs. ns ++ xs) (entries_one e es) ∙ sym (append_assoc ns (entries_of (e ∷ [])) (entries_of es))) none),
)

-- ---- the numbers of epochs

without_none : (g : ℕ) (gs : List ℕ) → has g gs ≡ false → without g gs ≡ gs
without_none g [] none = refl
without_none g (h ∷ gs) none =
    let parts = or_parts _ _ none in
    ap (λ b. cond (not b) (h ∷ without g gs) (without g gs)) parts.0 ∙ ap (λ xs. h ∷ xs) (without_none g gs parts.1)

pub without_first : (g : ℕ) (gs : List ℕ) → has g gs ≡ false → without g (g ∷ gs) ≡ gs
without_first g gs none = ap (λ b. cond (not b) (g ∷ without g gs) (without g gs)) (eq-eqb g g refl) ∙ without_none g gs none

pub numbers_more : (es fs : List Epoch) → numbers_of (es ++ fs) ≡ numbers_of es ++ numbers_of fs
numbers_more es fs = map_append (λ (e : Epoch). e.number) es fs
