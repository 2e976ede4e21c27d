-- What depends on the oldest epoch without its reply: all behind its beginning, but for what the server told.
use Rattle.real_epochs.proofs.Names.{◌≡◌, ℕ, Bool, true, false, ◌||◌, ◌==◌, cond, List, [], ◌∷◌, ◌++◌, map, refl, sym}
use Rattle.real_epochs.proofs.Names.{◌∙◌, ap, subst, append-nil, or_parts, or_from, or_left, or_right, eqb-true, eq-eqb, list_any}
use Rattle.real_epochs.proofs.Names.{eq_by_cmp, nat_cmp, unsigned_tied, FinMap, filter, has, has_filter, true≢false}
use Rattle.real_epochs.proofs.Names.{MarkedEffect, dirt, dirtied, hit, hits, is_in, is_marked, keep, after, effects}
use Rattle.real_epochs.proofs.Names.{marked_effect, outcome, run, Tagged, released, rests, next_dirty, tags_along, said_by}
use Rattle.real_epochs.proofs.Names.{said_with, Option, Some, None, ◌&&◌, if◌then◌else◌, get, get-put, nat_cmp_total}
use Rattle.real_epochs.proofs.Names.{Event, Changes, Told, Says, changed_in, known_after, said_on, Entry, Opens, Does, host}
use Rattle.real_epochs.proofs.Names.{tree, mark, events_in, is_begun}
use Rattle.real_epochs.specs.Clean.{IsClean, IsCleanAt, goes_along, past_with, staying}
use Rattle.sk_record.specs.Machine.{released_if}

-- ---- Booleans

or_swap : (a b c : Bool) → (a || (b || c)) ≡ (b || (a || c))
or_swap true true c = refl
or_swap true false c = refl
or_swap false b c = refl

or_twice : (a b : Bool) → (a || (a || b)) ≡ (a || b)
or_twice true b = refl
or_twice false b = refl

or_none : (b : Bool) → (b || false) ≡ b
or_none true = refl
or_none false = refl

or_group : (a b c : Bool) → ((a || b) || c) ≡ (b || (a || c))
or_group true true c = refl
or_group true false c = refl
or_group false true c = refl
or_group false false c = refl

-- ---- one step

abbrev Values : Type 0
Values = FinMap host.order ℕ

-- what a step leaves
abbrev left : Values → Entry → MarkedEffect ℕ ℕ (ℕ × ℕ)
left s n = marked_effect host (mark n) (outcome host s n)

abbrev next : Values → Entry → Values
next s n = after host (outcome host s n) s

-- where nothing is dirty, a step depends on no guess but its own
quiet : (g : ℕ) (s : Values) (n : Entry) → is_marked (mark n) g ≡ false → hit nat_cmp g [] (left s n) ≡ false
quiet g s (Opens number checkpoint) none = or_from _ _ none refl
quiet g s (Does (Changes name version)) none = refl
quiet g s (Does (Told name version)) none = refl
quiet g s (Does (Says stream output)) none = refl

-- dirty are the tree, and the names that were changed
abbrev pub Dirty : List ℕ → List Event → Type 0
Dirty dirty past = (k : ℕ) → is_in nat_cmp dirty k ≡ ((k == tree) || changed_in past k)

tree_is : (dirty : List ℕ) (past : List Event) → Dirty dirty past → is_in nat_cmp dirty tree ≡ true
tree_is dirty past are = are tree

-- such a step depends on the epoch, but for what the server told
record One (g : ℕ) (s : Values) (dirty : List ℕ) (past : List Event) (n : Entry) : Type 0 where
  hits : hit nat_cmp g dirty (left s n) ≡ goes_along n
  later : Dirty (dirtied (hit nat_cmp g dirty (left s n)) (left s n) dirty) (past_with n past)

one : (g : ℕ) (s : Values) (dirty : List ℕ) (past : List Event) (n : Entry) → Dirty dirty past → IsCleanAt past n → One g s dirty past n
one g s dirty past (Opens number checkpoint) are clean =
    let hit_is : hit nat_cmp g dirty (left s (Opens number checkpoint)) ≡ true = or_right (number == g) _ (or_left _ _ (tree_is dirty past are)) in
    record {
      hits = hit_is;
      later = subst (λ b. Dirty (dirtied b (left s (Opens number checkpoint)) dirty) past) (sym hit_is)
          (λ k. (λ i. unsigned_tied k tree i || are k i) ∙ or_twice (k == tree) (changed_in past k));
    }
one g s dirty past (Does (Changes name version)) are clean =
    let hit_is : hit nat_cmp g dirty (left s (Does (Changes name version))) ≡ true = or_left _ _ (tree_is dirty past are) in
    record {
      hits = hit_is;
      later = subst (λ b. Dirty (dirtied b (left s (Does (Changes name version))) dirty) (Changes name version ∷ past)) (sym hit_is)
          (λ k. (λ i. unsigned_tied k name i || are k i) ∙ or_swap (k == name) (k == tree) (changed_in past k));
    }
one g s dirty past (Does (Told name version)) are clean =
    let hit_is : hit nat_cmp g dirty (left s (Does (Told name version))) ≡ false = or_from _ _ (are name ∙ or_from _ _ clean.1 clean.0) refl in
    record {
      hits = hit_is;
      later = subst (λ b. Dirty (dirtied b (left s (Does (Told name version))) dirty) past) (sym hit_is) are;
    }
one g s dirty past (Does (Says stream output)) are clean =
    let hit_is : hit nat_cmp g dirty (left s (Does (Says stream output))) ≡ true = or_left _ _ (tree_is dirty past are) in
    record {
      hits = hit_is;
      later = subst (λ b. Dirty (dirtied b (left s (Does (Says stream output))) dirty) past) (sym hit_is) are;
    }

-- ---- what is struck

keep_one : {A : Type 0} (b : Bool) (bs : List Bool) (x : A) (xs : List A) → keep (b ∷ bs) (x ∷ xs) ≡ cond b (keep bs xs) (x ∷ keep bs xs)
keep_one true bs x xs = refl
keep_one false bs x xs = refl

-- the flags of steps behind the beginning, and what is dirty behind them
struck_behind : (g : ℕ) (s : Values) (dirty : List ℕ) (past : List Event) (ns : List Entry) → Dirty dirty past → IsClean past ns
    → keep (hits nat_cmp g dirty (effects host s ns)) ns ≡ staying ns
struck_behind g s dirty past [] are clean = refl
struck_behind g s dirty past (n ∷ ns) are clean =
    let o = one g s dirty past n are clean.0 in
    keep_one (hit nat_cmp g dirty (left s n)) (hits nat_cmp g (dirtied (hit nat_cmp g dirty (left s n)) (left s n) dirty) (effects host (next s n) ns)) n ns
    ∙ (λ i. cond (o.hits i) (struck_behind g (next s n) _ (past_with n past) ns o.later clean.1 i) (n ∷ struck_behind g (next s n) _ (past_with n past) ns o.later clean.1 i))

pub past_is : (n : Entry) (past : List Event) (ns : List Entry) (k : ℕ)
    → (changed_in (past_with n past) k || changed_in (events_in ns) k) ≡ (changed_in past k || changed_in (events_in (n ∷ ns)) k)
past_is (Opens number checkpoint) past ns k = refl
past_is (Does (Changes name version)) past ns k = or_group (k == name) (changed_in past k) (changed_in (events_in ns) k)
past_is (Does (Told name version)) past ns k = refl
past_is (Does (Says stream output)) past ns k = refl

dirty_behind : (g : ℕ) (s : Values) (dirty : List ℕ) (past : List Event) (ns : List Entry) → Dirty dirty past → IsClean past ns
    → (k : ℕ) → is_in nat_cmp (dirt nat_cmp g dirty (effects host s ns)) k ≡ ((k == tree) || (changed_in past k || changed_in (events_in ns) k))
dirty_behind g s dirty past [] are clean k = are k ∙ ap (λ b. (k == tree) || b) (sym (or_none (changed_in past k)))
dirty_behind g s dirty past (n ∷ ns) are clean k =
    let o = one g s dirty past n are clean.0 in
    dirty_behind g (next s n) _ (past_with n past) ns o.later clean.1 k ∙ ap (λ b. (k == tree) || b) (past_is n past ns k)

-- the steps before it stay
module _ (g : ℕ) where
  pub struck_before : (s : Values) (ns ms : List Entry) → is_begun g ns ≡ false
      → keep (hits nat_cmp g [] (effects host s (ns ++ ms))) (ns ++ ms) ≡ ns ++ keep (hits nat_cmp g [] (effects host (run host s ns) ms)) ms
  struck_before s [] ms none = refl
  struck_before s (n ∷ ns) ms none =
      let parts = or_parts _ _ none in
      ap (λ b. keep (b ∷ hits nat_cmp g (dirtied b (left s n) []) (effects host (next s n) (ns ++ ms))) (n ∷ (ns ++ ms))) (quiet g s n parts.0)
      ∙ ap (λ xs. n ∷ xs) (struck_before (next s n) ns ms parts.1)

  pub dirty_before : (s : Values) (ns ms : List Entry) → is_begun g ns ≡ false
      → dirt nat_cmp g [] (effects host s (ns ++ ms)) ≡ dirt nat_cmp g [] (effects host (run host s ns) ms)
  dirty_before s [] ms none = refl
  dirty_before s (n ∷ ns) ms none =
      let parts = or_parts _ _ none in
      ap (λ b. dirt nat_cmp g (dirtied b (left s n) []) (effects host (next s n) (ns ++ ms))) (quiet g s n parts.0)
      ∙ dirty_before (next s n) ns ms parts.1

  -- it begins
  begins : (s : Values) (checkpoint : ℕ) → hit nat_cmp g [] (left s (Opens g checkpoint)) ≡ true
  begins s checkpoint = or_left (g == g) _ (eq-eqb g g refl)

  tree_dirty : Dirty (tree ∷ []) []
  tree_dirty k = ap (λ b. b || false) (unsigned_tied k tree)

  pub struck_all : (s : Values) (checkpoint : ℕ) (ns ms : List Entry) → is_begun g ns ≡ false → IsClean [] ms
      → keep (hits nat_cmp g [] (effects host s (ns ++ Opens g checkpoint ∷ ms))) (ns ++ Opens g checkpoint ∷ ms) ≡ ns ++ staying ms
  struck_all s checkpoint ns ms none clean =
      struck_before s ns (Opens g checkpoint ∷ ms) none
      ∙ ap (λ xs. ns ++ xs)
      (ap (λ b. keep (b ∷ hits nat_cmp g (dirtied b (left (run host s ns) (Opens g checkpoint)) []) (effects host (next (run host s ns) (Opens g checkpoint)) ms)) (Opens g checkpoint ∷ ms)) (begins (run host s ns) checkpoint)
      ∙ struck_behind g (next (run host s ns) (Opens g checkpoint)) (tree ∷ []) [] ms tree_dirty clean)

  pub dirty_all : (s : Values) (checkpoint : ℕ) (ns ms : List Entry) → is_begun g ns ≡ false → IsClean [] ms
      → (k : ℕ) → is_in nat_cmp (dirt nat_cmp g [] (effects host s (ns ++ Opens g checkpoint ∷ ms))) k ≡ ((k == tree) || changed_in (events_in ms) k)
  dirty_all s checkpoint ns ms none clean k =
      ap (λ xs. is_in nat_cmp xs k) (dirty_before s ns (Opens g checkpoint ∷ ms) none
      ∙ ap (λ b. dirt nat_cmp g (dirtied b (left (run host s ns) (Opens g checkpoint)) []) (effects host (next (run host s ns) (Opens g checkpoint)) ms)) (begins (run host s ns) checkpoint))
      ∙ dirty_behind g (next (run host s ns) (Opens g checkpoint)) (tree ∷ []) [] ms tree_dirty clean k

-- ---- what is released

events_one : (n : Entry) (ns : List Entry) → events_in (n ∷ []) ++ events_in ns ≡ events_in (n ∷ ns)
events_one (Opens number checkpoint) ns = refl
events_one (Does event) ns = refl

-- outputs of a stream
abbrev pub on_stream : ℕ → List ℕ → List (ℕ × ℕ)
on_stream t os = map (λ o. (t, o)) os

pub none_left : (p : ℕ → Bool) (gs : List ℕ) → ((g : ℕ) → has g gs ≡ true → p g ≡ false) → filter p gs ≡ []
none_left p [] none = refl
none_left p (g ∷ gs) none =
    ap (λ b. cond b (g ∷ filter p gs) (filter p gs)) (none g (or_left (g == g) _ (eq-eqb g g refl)))
    ∙ none_left p gs (λ h there. none h (or_right (g == h) _ there))

held : (tags : List ℕ) (g : ℕ) (w : ℕ × ℕ) (ws : List (ℕ × ℕ)) → has g tags ≡ true → released_if tags w ws ≡ []
held [] g w ws here = absurd (true≢false (sym here))
held (t ∷ tags) g w ws here = refl

module _ (t : ℕ) where
  -- a step that depends on nothing says at once
  free_one : (s : Values) (n : Entry) (xs : List (Tagged (ℕ × ℕ))) (es : List Event) → released xs ≡ on_stream t (said_on t es)
      → released (said_by host t (left s n).said [] ++ xs) ≡ on_stream t (said_on t (events_in (n ∷ []) ++ es))
  free_one s (Opens number checkpoint) xs es are = are
  free_one s (Does (Changes name version)) xs es are = are
  free_one s (Does (Told name version)) xs es are = are
  free_one s (Does (Says stream output)) xs es are =
      elim (stream == t) as (λ b. (stream == t) ≡ b → released (cond b (((stream, output), []) ∷ []) [] ++ xs) ≡ on_stream t (cond b (output ∷ said_on t es) (said_on t es))) [
        | true ↦ λ same i. (eqb-true stream t same i, output) ∷ are i
        | false ↦ λ other. are
      ] refl

  -- one that depends on a guess says nothing yet
  held_one : (said : Option (ℕ × ℕ)) (tags : List ℕ) (g : ℕ) (xs : List (Tagged (ℕ × ℕ))) → has g tags ≡ true → released xs ≡ []
      → released (said_by host t said tags ++ xs) ≡ []
  held_one None tags g xs here none = none
  held_one (Some w) tags g xs here none =
      elim (w.0 == t) as (λ b. released (cond b ((w, tags) ∷ []) [] ++ xs) ≡ []) [
        | true ↦ held tags g w (released xs) here
        | false ↦ none
      ]

  module _ (gs : List ℕ) where
    abbrev waiting_of : (ℕ → List ℕ) → Values → List Entry → List (Tagged (ℕ × ℕ))
    waiting_of dirty s ns = said_with host t (tags_along nat_cmp gs dirty (effects host s ns)) (effects host s ns)

    rests_on : (g : ℕ) (dirty : ℕ → List ℕ) (f : MarkedEffect ℕ ℕ (ℕ × ℕ)) → has g gs ≡ true → hit nat_cmp g (dirty g) f ≡ true
        → has g (rests nat_cmp gs dirty f) ≡ true
    rests_on g dirty f there is = has_filter (λ g. hit nat_cmp g (dirty g) f) g gs ∙ (λ i. is i && there i)

    held_here : (g : ℕ) (dirty : ℕ → List ℕ) (s : Values) (n : Entry) (xs : List (Tagged (ℕ × ℕ))) → has g gs ≡ true
        → hit nat_cmp g (dirty g) (left s n) ≡ goes_along n → released xs ≡ []
        → released (said_by host t (left s n).said (rests nat_cmp gs dirty (left s n)) ++ xs) ≡ []
    held_here g dirty s (Opens number checkpoint) xs there is none = none
    held_here g dirty s (Does (Changes name version)) xs there is none = none
    held_here g dirty s (Does (Told name version)) xs there is none = none
    held_here g dirty s (Does (Says stream output)) xs there is none =
        held_one (Some (stream, output)) (rests nat_cmp gs dirty (left s (Does (Says stream output)))) g xs
        (rests_on g dirty (left s (Does (Says stream output))) there is) none

    -- all behind the beginning of the oldest epoch is held
    held_behind : (g : ℕ) (dirty : ℕ → List ℕ) (s : Values) (past : List Event) (ns : List Entry) → has g gs ≡ true → Dirty (dirty g) past
        → IsClean past ns → released (waiting_of dirty s ns) ≡ []
    held_behind g dirty s past [] there are clean = refl
    held_behind g dirty s past (n ∷ ns) there are clean =
        let o = one g s (dirty g) past n are clean.0 in
        held_here g dirty s n _ there o.hits
        (held_behind g (next_dirty nat_cmp gs dirty (left s n)) (next s n) (past_with n past) ns there o.later clean.1)

    abbrev IsFresh : (ℕ → List ℕ) → Type 0
    IsFresh dirty = (g : ℕ) → has g gs ≡ true → dirty g ≡ []

    held_all : (g checkpoint : ℕ) (ns : List Entry) → has g gs ≡ true → IsClean [] ns → (dirty : ℕ → List ℕ) (s : Values) → IsFresh dirty
        → released (waiting_of dirty s (Opens g checkpoint ∷ ns)) ≡ []
    held_all g checkpoint ns there clean dirty s fresh =
        let is : hit nat_cmp g (dirty g) (left s (Opens g checkpoint)) ≡ true = ap (λ d. hit nat_cmp g d (left s (Opens g checkpoint))) (fresh g there) ∙ begins g s checkpoint in
        held_behind g (next_dirty nat_cmp gs dirty (left s (Opens g checkpoint))) (next s (Opens g checkpoint)) [] ns there
        (subst (λ d. Dirty d []) (sym ((λ i. dirtied (is i) (left s (Opens g checkpoint)) (fresh g there i)))) (tree_dirty g)) clean

    -- what comes before it says at once
    abbrev NoneBegun : List Entry → Type 0
    NoneBegun ns = (g : ℕ) → has g gs ≡ true → is_begun g ns ≡ false

    free_before : (ms : List Entry) → ((dirty : ℕ → List ℕ) (s : Values) → IsFresh dirty → released (waiting_of dirty s ms) ≡ [])
        → (dirty : ℕ → List ℕ) (s : Values) (ns : List Entry) → IsFresh dirty → NoneBegun ns
        → released (waiting_of dirty s (ns ++ ms)) ≡ on_stream t (said_on t (events_in ns))
    free_before ms behind dirty s [] fresh none = behind dirty s fresh
    free_before ms behind dirty s (n ∷ ns) fresh none =
        let calm : (g : ℕ) → has g gs ≡ true → hit nat_cmp g (dirty g) (left s n) ≡ false =
        λ g there. ap (λ d. hit nat_cmp g d (left s n)) (fresh g there) ∙ quiet g s n (or_parts _ _ (none g there)).0 in
        ap (λ tags. released (said_by host t (left s n).said tags ++ waiting_of (next_dirty nat_cmp gs dirty (left s n)) (next s n) (ns ++ ms)))
        (none_left (λ g. hit nat_cmp g (dirty g) (left s n)) gs calm)
        ∙ free_one s n (waiting_of (next_dirty nat_cmp gs dirty (left s n)) (next s n) (ns ++ ms)) (events_in ns)
        (free_before ms behind (next_dirty nat_cmp gs dirty (left s n)) (next s n) ns
        (λ g there. ap (λ b. dirtied b (left s n) (dirty g)) (calm g there) ∙ fresh g there)
        (λ g there. (or_parts _ _ (none g there)).1))
        ∙ ap (λ es. on_stream t (said_on t es)) (events_one n ns)

    -- in all: what the epochs without their replies say is held, and what comes before them is not
    pub free_all : (s : Values) (ns : List Entry) → NoneBegun ns → released (waiting_of (λ g. []) s ns) ≡ on_stream t (said_on t (events_in ns))
    free_all s ns none =
        ap (λ ms. released (waiting_of (λ g. []) s ms)) (sym (append-nil ns))
        ∙ free_before [] (λ dirty s fresh. refl) (λ g. []) s ns (λ g there. refl) none

    pub free_part : (s : Values) (g checkpoint : ℕ) (ns ms : List Entry) → NoneBegun ns → has g gs ≡ true → IsClean [] ms
        → released (waiting_of (λ g. []) s (ns ++ Opens g checkpoint ∷ ms)) ≡ on_stream t (said_on t (events_in ns))
    free_part s g checkpoint ns ms none there clean =
        free_before (Opens g checkpoint ∷ ms) (held_all g checkpoint ms there clean) (λ g. []) s ns (λ g there. refl) none

-- ---- what is known

pub known_is : (s : Values) (ns : List Entry) (k : ℕ) → (k == tree) ≡ false → get (run host s ns) k ≡ known_after (events_in ns) k (get s k)
known_is s [] k name = refl
known_is s (Opens number checkpoint ∷ ns) k name =
    known_is (next s (Opens number checkpoint)) ns k name
    ∙ ap (known_after (events_in ns) k) (get-put nat_cmp_total s tree (Some checkpoint) k ∙ ap (λ b. cond b (Some checkpoint) (get s k)) (unsigned_tied k tree ∙ name))
known_is s (Does (Changes n version) ∷ ns) k name =
    known_is (next s (Does (Changes n version))) ns k name
    ∙ ap (known_after (events_in ns) k) (get-put nat_cmp_total s n version k ∙ ap (λ b. cond b version (get s k)) (unsigned_tied k n))
known_is s (Does (Told n version) ∷ ns) k name =
    known_is (next s (Does (Told n version))) ns k name
    ∙ ap (known_after (events_in ns) k) (get-put nat_cmp_total s n version k ∙ ap (λ b. cond b version (get s k)) (unsigned_tied k n))
known_is s (Does (Says stream output) ∷ ns) k name = known_is (next s (Does (Says stream output))) ns k name
