-- Lists and places of lists; what holds of a desk, of its requests in their queue, and of a world's parts behind each event.
use Rattle.sk_client.proofs.Names.{Some, Bool, subst, arith, ◌++◌, suc, refl, [], ◌∷◌, inl, List, ℕ, true, sym, cond}
use Rattle.sk_client.proofs.Names.{inr, zero, ap, ◌≤◌, false, ◌≡◌, ◌∙◌, cases_Bool, or_right, or_parts, eqb-true}
use Rattle.sk_client.proofs.Names.{eq-eqb, true≢false, Contains-push_cases, list_any-append, list_any, filter}
use Rattle.sk_client.proofs.Names.{Contains, ◌==◌, ◌⊎◌, paired, cons_cases, cons_first, cons_later, no_member, keep}
use Rattle.sk_client.proofs.Names.{has, All-contains, All-contains_itself, All-filter, All-map, All-weaker}
use Rattle.sk_client.proofs.Names.{slice_get_within, get_or_from_slice_get, slice_get-get_or, slice_get-keep, place}
use Rattle.sk_client.proofs.Names.{length-map, get_or-map, slice_get, ◌||◌, map, ◌-◌, Option, get_or, not, Bor}
use Rattle.sk_client.proofs.Names.{length, Ok, ◌&&◌, Err, ◌+◌, drop, None, ◌<◌, Result, false_from_ne_true, or_cases}
use Rattle.sk_client.proofs.Names.{le-ltb, drop_more, append_assoc, length-append, append-nil, filter-append}
use Rattle.sk_client.proofs.Names.{IsStrictlySortedBy-filter, both_ways, get, IsStrictlySortedBy, nat_cmp, ◌↔◌, IfOk}
use Rattle.sk_client.proofs.Names.{nat_lt, AllocError, commits, is_lost, lost_by, given, given_to, no_number}
use Rattle.sk_client.proofs.Names.{asked_count, decided, input_of, pending, rests_of, asks_for, entry, kept_for}
use Rattle.sk_client.proofs.Names.{no_place, rule_refused, guess_refused_at, DeskView, is_asked, IsTidy, guesses_of}
use Rattle.sk_client.proofs.Names.{unless_asked, blocked_why, desk_lease, buffer_of, KeptAnswer, PendingRequest}
use Rattle.sk_client.proofs.Names.{HolderView, DecidesPost, Entity, CopyOf, Proc, undecided_sorted, effect_at}
use Rattle.sk_client.proofs.Names.{state_at, room, no_room, with_event, undecided_at, step_refused, trace_full}
use Rattle.sk_client.proofs.Names.{tags_at, guess_refused, HasStatus, next_guess, KernelView, crowded, step_misfit}
use Rattle.sk_client.proofs.Names.{too_many, or_else, guess_misfits, events_of, HasSoundTrace, Outcome, Value}
use Rattle.sk_client.proofs.Names.{NoneAdded, reply_adds, Saying, plain, lease_of, Lends, IsReply, refusal_of, image}
use Rattle.sk_client.proofs.Names.{Shows, Refusal, Blocked, TraceFull, beyond, has_filter, same_rising, has_commit}
use Rattle.sk_client.proofs.Names.{is_undecided, is_commit, one_status, and_both, StatusOr, Effect, StatusIs, marks}
use Rattle.sk_client.proofs.Names.{Status, Committed, Undecided, LeaseView, Input, Answer, Reply, EntityState}
use Rattle.sk_client.proofs.Names.{and-false, nil_from_length, Logged, Rule, take, set}
use Rattle.sk_client.proofs.Names.{take-append-drop, length-set, map-set, set-get_or, drop-append-le, drop-map}
use Rattle.sk_client.proofs.Names.{take_more, drop-set-lt, All-push, All-head, All-tail, Queued, requests_in, IsWhole}
use Rattle.sk_client.proofs.Names.{IsQueue, map-append, length-filter, count_by-le-length, All, ltb-true, ltb-false}
use Rattle.sk_client.proofs.Names.{get_or_at, is_some, request_of, is_void, first_taken, rule, first_sent, sent}
use Rattle.sk_client.proofs.Names.{fits_ask, turned, stepped_for, ByRule, TurnPost, taken_from, Numbered, IsJoined}
use Rattle.sk_client.proofs.Names.{IsNext, AreReplies, taken_by, WorldView, reply_to, Turn, LAST_VERSION, TooMany}
use Rattle.sk_client.proofs.Names.{file_of, FileMap, is_fitting, is_dropped, judged, remembered, ServerView}
use Rattle.sk_client.proofs.Names.{answer_to, Yes, No, Dropped, Ask, Get, Check, Store, Request, LAST_REQUEST}
use Rattle.sk_client.proofs.Names.{opened_at, DeskEpochPost, WorldEpochPost, EpochRefusal, TerminalMap, TraceView}
use Rattle.sk_client.proofs.Names.{WorldAnswer, Cause, Turns, EditsFile}
use Rattle.sk_plain.specs.declared.view.View.{View}
use Rattle.sk_server.specs.Server.{answered}

-- ======== Parts of two lists side by side, and membership.

abbrev pub Each : {A B : Type 0} → (A → B → Type 0) → List A → List B → Type 0
Each X [] ys = Unit {0}
Each X (x ∷ xs) [] = Unit {0}
Each X (x ∷ xs) (y ∷ ys) = X x y × Each X xs ys

module _ {A B : Type 0} (X : A → B → Type 0) where
  each_nil : (xs : List A) → Each X xs []
  each_nil [] = tt
  each_nil (x ∷ xs) = tt

  pub each_keep : (bs : List Bool) (xs : List A) (ys : List B) → Each X xs ys → Each X (keep bs xs) (keep bs ys)
  each_keep [] xs ys h = h
  each_keep (b ∷ bs) [] ys h = tt
  each_keep (b ∷ bs) (x ∷ xs) [] h = each_nil (keep (b ∷ bs) (x ∷ xs))
  each_keep (true ∷ bs) (x ∷ xs) (y ∷ ys) h = each_keep bs xs ys h.1
  each_keep (false ∷ bs) (x ∷ xs) (y ∷ ys) h = (h.0, each_keep bs xs ys h.1)

-- flags that are nowhere true
pub each_none : {A : Type 0} (X : A → Type 0) (xs : List A) (bs : List Bool) → list_any (λ b. b) bs ≡ false → Each (λ x b. b ≡ true → X x) xs bs
each_none X [] bs h = tt
each_none X (x ∷ xs) [] h = tt
each_none X (x ∷ xs) (b ∷ bs) h = let parts = or_parts _ _ h in ((λ is. absurd (true≢false (sym is ∙ parts.0))), each_none X xs bs parts.1)

-- what holds of each element and each one behind it
abbrev pub Pairs : {A : Type 0} → (A → A → Type 0) → List A → Type 0
Pairs X [] = Unit {0}
Pairs X (x ∷ xs) = ((y : _) → Contains xs y → X x y) × Pairs X xs

pub pairs_push : {A : Type 0} (X : A → A → Type 0) (xs : List A) (x : A) → Pairs X xs → ((y : A) → Contains xs y → X y x) → Pairs X (xs ++ x ∷ [])
pairs_push X [] x h new = ((λ y none. absurd (no_member y none)), tt)
pairs_push X (z ∷ xs) x h new = (
  (λ y there. elim (Contains-push_cases xs x y there) [ inl before ↦ h.0 y before | inr is ↦ subst (X z) is (new z (cons_first z xs)) ]),
  pairs_push X xs x h.1 (λ y there. new y (cons_later z xs y there)),
)

-- what holds of each element, and of one more
pub pushed : {A : Type 0} {P : A → Type 0} (xs : List A) (x : A) → ((y : A) → Contains xs y → P y) → P x → (y : A) → Contains (xs ++ x ∷ []) y → P y
pushed {P = P} xs x h new y there = elim (Contains-push_cases xs x y there) [ inl before ↦ h y before | inr is ↦ subst P is new ]

-- the facts of each pair
pub each_at : {A B : Type 0} (X : A → B → Type 0) (xs : List A) (ys : List B) → Each X xs ys → (x : A) (y : B) → Contains (paired xs ys) (x, y) → X x y
each_at X [] ys h x y there = absurd (no_member (x, y) there)
each_at X (z ∷ xs) [] h x y there = absurd (no_member (x, y) there)
each_at X (z ∷ xs) (w ∷ ys) h x y there =
    elim (cons_cases (z, w) (paired xs ys) (x, y) there) [
      | inl same ↦ subst (λ p. X p.0 p.1) same h.0
      | inr later ↦ each_at X xs ys h.1 x y later
    ]

-- what is not flagged is kept
pub survives : {A : Type 0} (X : A → Type 0) (bs : List Bool) (xs : List A) → Each (λ x b. b ≡ true → X x) xs bs → (x : A) → Contains xs x → Contains (keep bs xs) x ⊎ X x
survives X [] xs h x there = inl there
survives X (b ∷ bs) [] h x there = inl there
survives X (true ∷ bs) (y ∷ xs) h x there =
    elim (cons_cases y xs x there) [
      | inl is ↦ inr (subst X is (h.0 refl))
      | inr later ↦ survives X bs xs h.1 x later
    ]
survives X (false ∷ bs) (y ∷ xs) h x there =
    elim (cons_cases y xs x there) [
      | inl is ↦ inl (subst (Contains (y ∷ keep bs xs)) is (cons_first y (keep bs xs)))
      | inr later ↦ elim (survives X bs xs h.1 x later) [ inl kept ↦ inl (cons_later y (keep bs xs) x kept) | inr is ↦ inr is ]
    ]

-- ---- tests of any element
pub any_map : {A B : Type 0} (p : B → Bool) (f : A → B) (xs : List A) → list_any p (map f xs) ≡ list_any (λ x. p (f x)) xs
any_map p f [] = refl
any_map p f (x ∷ xs) = ap (λ b. p (f x) || b) (any_map p f xs)

-- ---- functions changed at one number
abbrev pub at_number : {A : Type 0} → ℕ → A → (ℕ → A) → ℕ → A
at_number k a f x = cond (x == k) a (f x)

pub at_same : {A : Type 0} (k : ℕ) (a : A) (f : ℕ → A) → at_number k a f k ≡ a
at_same k a f = ap (λ b. cond b a (f k)) (eq-eqb k k refl)

pub at_other : {A : Type 0} (k : ℕ) (a : A) (f : ℕ → A) (x : ℕ) → (x ≡ k → ⊥) → at_number k a f x ≡ f x
at_other k a f x apart =
    elim (cases_Bool (x == k)) [
      | inl is ↦ absurd (apart (eqb-true x k is))
      | inr is ↦ ap (λ b. cond b a (f x)) is
    ]

-- ---- numbers in a list
pub has_right : (x : ℕ) (xs ys : List ℕ) → has x ys ≡ true → has x (xs ++ ys) ≡ true
has_right x xs ys h = list_any-append (λ t. t == x) xs ys ∙ or_right (has x xs) (has x ys) h

pub filter_was : {A : Type 0} (p : A → Bool) (xs : List A) (x : A) → Contains (filter p xs) x → Contains xs x
filter_was p xs x h = All-contains (Contains xs) (filter p xs) x (All-filter p (Contains xs) xs (All-contains_itself xs)) h

-- ---- places of lists

pub at_push : {A : Type 0} (xs : List A) (x : A) (i : ℕ) (y : A) → slice_get (xs ++ x ∷ []) i ≡ Some y → (slice_get xs i ≡ Some y) ⊎ (x ≡ y)
at_push [] x zero y at = inr (let is : x ≡ y = cc in is)
at_push [] x (suc i) y at = cc
at_push (z ∷ xs) x zero y at = inl at
at_push (z ∷ xs) x (suc i) y at = at_push xs x i y at

pub at_kept : {A : Type 0} (bs : List Bool) (xs : List A) (i : ℕ) (y : A) → slice_get (keep bs xs) i ≡ Some y → (j : ℕ) × (i ≤ j) × (slice_get xs j ≡ Some y)
at_kept [] xs i y at = (i, omega arith, at)
at_kept (b ∷ bs) [] i y at = cc
at_kept (true ∷ bs) (x ∷ xs) i y at = (let k = at_kept bs xs i y at in let le = k.1 in (suc k.0, omega (arith, le), k.2))
at_kept (false ∷ bs) (x ∷ xs) zero y at = (zero, omega arith, at)
at_kept (false ∷ bs) (x ∷ xs) (suc i) y at = (let k = at_kept bs xs i y at in let le = k.1 in (suc k.0, omega (arith, le), k.2))

pub contains_at : {A : Type 0} (xs : List A) (i : ℕ) (x : A) → slice_get xs i ≡ Some x → Contains xs x
contains_at xs i x at = (i, slice_get_within xs i x at, get_or_from_slice_get xs i x x at)

pub place_at : {A : Type 0} (xs : List A) (x : A) → Contains xs x → (i : ℕ) × (slice_get xs i ≡ Some x)
place_at xs x h = (h.0, slice_get-get_or xs h.0 x h.1 ∙ ap Some h.2)

-- what is kept was there
pub kept_was : {A : Type 0} (bs : List Bool) (xs : List A) (x : A) → Contains (keep bs xs) x → Contains xs x
kept_was bs xs x h =
    let at = place_at (keep bs xs) x h in
    contains_at xs (place bs at.0) x (sym (slice_get-keep bs xs at.0) ∙ at.1)

-- ---- elements of a mapped list

pub in_map : {A B : Type 0} (f : A → B) (xs : List A) (x : A) → Contains xs x → Contains (map f xs) (f x)
in_map f xs x h =
    let long = length-map xs f in
    let within = h.1 in
    (h.0, omega (arith, long, within), get_or-map f xs h.0 x (f x) h.1 ∙ ap f h.2)

pub out_of_map : {A B : Type 0} (g : A → B) (xs : List A) (y : B) → Contains (map g xs) y → (x : A) × Contains xs x × (g x ≡ y)
out_of_map {A = A} {B = B} g xs y h =
    let from : B → Type 0 = λ y. (x : A) × Contains xs x × (g x ≡ y) in
    All-contains from (map g xs) y (All-map from g xs (All-weaker (Contains xs) (λ x. from (g x)) (λ x there. (x, there, refl)) xs (All-contains_itself xs))) h

-- ======== What the definitions of a desk come to; and what it lends, from what its kernel would lend.

-- ---- what is done, or refused

abbrev pub Did : Type 0
Did = Effect Entity EntityState Saying

pub ok_of : (r : Result Did Refusal) → refusal_of r ≡ None → (g : Did) × (r ≡ Ok g)
ok_of (Ok g) h = (g, refl)
ok_of (Err why) h = absurd cc

pub none_test : (b : Bool) (why : Refusal) → cond b (Some why) None ≡ None → b ≡ false
none_test true why h = absurd cc
none_test false why h = refl

-- ---- asked requests

pub asked_more : (xs ys : List PendingRequest) → asked_count (xs ++ ys) ≡ asked_count xs + asked_count ys
asked_more xs ys = ap length (filter-append is_asked xs ys) ∙ length-append (filter is_asked xs) (filter is_asked ys)

-- ---- where no guess is undecided

-- nothing is depended on
pub none_rested : (k : KernelView) (pid : ℕ) (name : List ℕ) → length (undecided_at k) ≡ 0 → [] ≡ rests_of k pid name
none_rested k pid name none = ap (filter (λ g. has g (tags_at k (Proc pid)) || has g (tags_at k (CopyOf name)))) (sym (nil_from_length (undecided_at k) none))

-- ---- places of the trace

module _ (d : DeskView) (free : ℕ) (is : free ≡ room d.kernel - asked_count (pending d)) where
  pub enough : (n : ℕ) → n ≤ free → no_place d n ≡ None
  enough n least =
      let large : nat_lt (room d.kernel - asked_count (pending d)) n ≡ false = le-ltb (room d.kernel - asked_count (pending d)) n (omega (arith, is, least)) in
      ap (λ b. cond b (Some TraceFull) None) large

  -- with a place beside those that are kept, a step is refused as by the kernel
  pub same_refusal : (pid : ℕ) (input : Input) → 1 ≤ free → step_refused d.kernel (entry pid input None) ≡ rule_refused d pid (Rule.Steps input)
  same_refusal pid input least =
      let large : nat_lt (room d.kernel) 1 ≡ false = le-ltb (room d.kernel) 1 (omega (arith, is, least)) in
      let kernels : trace_full d.kernel 1 ≡ None = ap (λ b. cond b (Some TraceFull) None) large in
      ap (or_else (step_misfit d.kernel (entry pid input None))) (kernels ∙ sym (enough 1 least))

  -- with two places and a number, a guess is refused as by the kernel
  pub same_guess_refusal : (pid : ℕ) → 2 ≤ free → no_number d ≡ None → guess_refused_at d pid ≡ guess_refused d.kernel (entry pid Input.Good (Some (next_guess d.kernel)))
  same_guess_refusal pid least numbered =
      let misfit = guess_misfits Input.Good (effect_at d.kernel (entry pid Input.Good (Some (next_guess d.kernel)))) in
      let large : nat_lt (room d.kernel) 2 ≡ false = le-ltb (room d.kernel) 2 (omega (arith, is, least)) in
      let kernels : trace_full d.kernel 2 ≡ None = ap (λ b. cond b (Some TraceFull) None) large in
      let places : no_place d 2 ≡ None = enough 2 least in
      (λ i. or_else misfit (or_else (too_many d.kernel) (or_else (numbered i) (places i)))) ∙ sym (λ i. or_else misfit (or_else (too_many d.kernel) (kernels i)))

-- a step with a reply adds no name, so it needs no room
pub reply_free : (k : KernelView) (pid : ℕ) (input : Input) → IsReply input → (r : Result (Effect Entity EntityState Saying) Refusal) → effect_at k (entry pid input None) ≡ r → no_room (state_at k) r ≡ None
reply_free k pid input reply (Err why) is = refl
reply_free k pid input reply (Ok does) is = ap (crowded (state_at k)) (subst NoneAdded is (reply_adds (get (state_at k)) k.scripts pid input reply))

pub given_reply : (a : Answer) (input : Input) → input_of a ≡ Some input → IsReply input
given_reply Answer.Dropped input is = cc
given_reply a Input.None is = cc
given_reply a input is = tt

-- ---- what a request depends on

module _ (k : KernelView) (sound : HasSoundTrace k) where
  -- the tags of an entity are undecided
  tags_undecided : (e : Entity) (g : ℕ) → has g (tags_at k e) ≡ true → has g (undecided_at k) ≡ true
  tags_undecided e g here = (and_both _ (has g (undecided_at k)) (sym (has_filter _ g (undecided_at k)) ∙ here)).1

  pub rests_are : (pid : ℕ) (name : List ℕ) (all : List ℕ) → IsStrictlySortedBy nat_cmp all
      → ((g : ℕ) → has g all ≡ (has g (tags_at k (Proc pid)) || has g (tags_at k (CopyOf name)))) → all ≡ rests_of k pid name
  rests_are pid name all rising members =
      let either : ℕ → Bool = λ g. has g (tags_at k (Proc pid)) || has g (tags_at k (CopyOf name)) in
      let within : (g : ℕ) → either g ≡ true → has g (undecided_at k) ≡ true =
      λ g here. elim (or_cases (has g (tags_at k (Proc pid))) (has g (tags_at k (CopyOf name))) here) [
        | inl is ↦ tags_undecided (Proc pid) g is
        | inr is ↦ tags_undecided (CopyOf name) g is
      ] in
      same_rising all (rests_of k pid name) rising (IsStrictlySortedBy-filter nat_cmp either (undecided_at k) (undecided_sorted k sound))
      (λ g. members g ∙ both_ways (either g) (has g (rests_of k pid name))
      (λ here. has_filter either g (undecided_at k) ∙ (λ i. here i && within g here i))
      (λ here. (and_both (either g) (has g (undecided_at k)) (sym (has_filter either g (undecided_at k)) ∙ here)).0))

  pub rests_found : (pid : ℕ) (name : List ℕ) (r : Result (List ℕ) AllocError) (a b : List ℕ) → a ≡ tags_at k (Proc pid) → b ≡ tags_at k (CopyOf name)
      → IfOk r (λ all. (id : ℕ) → has id all ≡ (has id a || has id b)) → IfOk r (λ all. IsStrictlySortedBy nat_cmp all) → IfOk r (λ rests. rests ≡ rests_of k pid name)
  rests_found pid name (Ok all) a b ea eb members rising = rests_are pid name all rising (λ g. members g ∙ (λ i. has g (ea i) || has g (eb i)))
  rests_found pid name (Err why) a b ea eb members rising = tt

  -- ---- guesses that are lost

  commits_is : (id : ℕ) (e : Logged) → commits id e ≡ is_commit id (image e)
  commits_is id (Logged.Step pid input) = refl
  commits_is id e = refl

  pub committed_is : (g : ℕ) → list_any (commits g) k.trace ≡ list_any (is_commit g) (events_of k)
  committed_is g = (λ i. list_any (λ e. commits_is g e i) k.trace) ∙ sym (any_map (is_commit g) image k.trace)

  -- a guess of an earlier epoch is none of the trace
  pub earlier_lost : (g : ℕ) → g < length k.earlier + 1 → true ≡ is_lost k g
  earlier_lost g early =
      let here : (s : Status) → StatusIs (plain k.scripts) k.start (events_of k) g s → ⊥ =
      λ s is. let later = sound.above g ((one_status (plain k.scripts) k.start (events_of k) sound.sound g).0.1 (s, is)) in absurd (omega (arith, later, early)) in
      let decided : has g (undecided_at k) ≡ false = false_from_ne_true _ (λ there. here Undecided ((is_undecided (plain k.scripts) k.start (events_of k) sound.sound g).0 there)) in
      let uncommitted : list_any (commits g) k.trace ≡ false = false_from_ne_true _ (λ there. here Committed ((has_commit (events_of k) g).0 (sym (committed_is g) ∙ there))) in
      sym (λ i. not (decided i) && not (uncommitted i))

  module _ (g : ℕ) (later : length k.earlier < g) (r : Option Status) (told : (s : Status) → (r ≡ Some s) ↔ HasStatus k g s) where
    is : (s : Status) → (r ≡ Some s) ↔ StatusIs (plain k.scripts) k.start (events_of k) g s
    is s = subst (λ o. (r ≡ Some s) ↔ StatusOr (plain k.scripts) k.start o (events_of k) g s) (beyond k.earlier g later) (told s)

    others_lost : (r ≡ Some Undecided → ⊥) → (r ≡ Some Committed → ⊥) → is_lost k g ≡ true
    others_lost open_not commit_not =
        let decided : has g (undecided_at k) ≡ false = false_from_ne_true _ (λ here. open_not ((is Undecided).1 ((is_undecided (plain k.scripts) k.start (events_of k) sound.sound g).0 here))) in
        let uncommitted : list_any (commits g) k.trace ≡ false = false_from_ne_true _ (λ here. commit_not ((is Committed).1 ((has_commit (events_of k) g).0 (sym (committed_is g) ∙ here)))) in
        (λ i. not (decided i) && not (uncommitted i))

    lost_case : (q : Option Status) → r ≡ q → lost_by q ≡ is_lost k g
    lost_case (Some Undecided) e =
        sym (ap (λ b. not b && not (list_any (commits g) k.trace)) ((is_undecided (plain k.scripts) k.start (events_of k) sound.sound g).1 ((is Undecided).0 e)))
    lost_case (Some Committed) e =
        let there : list_any (commits g) k.trace ≡ true = committed_is g ∙ (has_commit (events_of k) g).1 ((is Committed).0 e) in
        sym (ap (λ b. not (has g (undecided_at k)) && not b) there ∙ and-false (not (has g (undecided_at k))))
    lost_case q e = sym (others_lost (λ o. let bad : q ≡ Some Undecided = sym e ∙ o in absurd cc) (λ o. let bad : q ≡ Some Committed = sym e ∙ o in absurd cc))

    pub lost_is : lost_by r ≡ is_lost k g
    lost_is = lost_case r refl

-- ---- a process's buffer

pub no_buffer : (s : Option EntityState) → Shows s None → buffer_of s ≡ []
no_buffer None h = refl
no_buffer (Some x) h = absurd h

pub buffer_of_value : (s : Option EntityState) (v : Bor Value) → Shows s (Some (View.Value v)) → buffer_of s ≡ []
buffer_of_value None v h = absurd h
buffer_of_value (Some (EntityState.Value x)) v h = refl
buffer_of_value (Some (EntityState.Process x)) v h = absurd h

-- ---- the guesses of requests

pub guesses_more : (xs ys : List PendingRequest) → guesses_of (xs ++ ys) ≡ guesses_of xs ++ guesses_of ys
guesses_more [] ys = refl
guesses_more (x ∷ xs) ys = ap (λ gs. marks x.guess ++ gs) (guesses_more xs ys) ∙ sym (append_assoc (marks x.guess) (guesses_of xs) (guesses_of ys))

-- the parts of a desk with one request more
pub tidy_more : (tokens more : List ℕ) (taken waiting : List PendingRequest) (q : PendingRequest) (taken2 waiting2 : List PendingRequest) (n n2 m m2 : ℕ) → IsTidy tokens taken waiting n m
    → more ≡ tokens ++ marks q.guess → taken2 ≡ taken → waiting2 ≡ waiting ++ q ∷ [] → n2 ≡ n → n + length (taken ++ waiting) < m2 → IsTidy more taken2 waiting2 n2 m2
tidy_more tokens more taken waiting q taken2 waiting2 n n2 m m2 tidy is same_taken same_waiting same_n answers =
    let all = taken ++ waiting in
    let one_more : taken2 ++ waiting2 ≡ all ++ q ∷ [] = (λ i. same_taken i ++ same_waiting i) ∙ sym (append_assoc taken waiting (q ∷ [])) in
    let longer : length (taken2 ++ waiting2) ≡ length all + 1 = ap length one_more ∙ length-append all (q ∷ []) in
    record {
      held = is ∙ ap (λ gs. gs ++ marks q.guess) tidy.held
          ∙ sym (ap guesses_of one_more ∙ guesses_more all (q ∷ []) ∙ ap (λ gs. guesses_of all ++ gs) (append-nil (marks q.guess)));
      keeps = omega (arith, longer, same_n, answers);
    }

-- ---- of two causes there is none

pub none_first : (a b : Option Refusal) → or_else a b ≡ None → a ≡ None
none_first None b h = refl
none_first (Some x) b h = absurd cc

pub none_later : (a b : Option Refusal) → or_else a b ≡ None → b ≡ None
none_later None b h = h
none_later (Some x) b h = absurd cc

-- ---- a guess that is decided

-- where it is done the guess was undecided
pub done_left : (o : Option Outcome) (e : Logged) (g : ℕ) (old new : HolderView) → o ≡ Some Outcome.Done → DecidesPost o e g old new → (has g (undecided_at old.kernel) ≡ true) × (new.kernel ≡ with_event old.kernel e)
done_left (Some Outcome.Done) e g old new is h = (h.2, ap (λ (x : HolderView). x.kernel) h.3)
done_left o e g old new is h = absurd cc

pub decided_left : (d e : DeskView) (r : Reply) (q : PendingRequest) (qs : List PendingRequest) (g : ℕ) → d.taken ≡ q ∷ qs → q.guess ≡ Some g → has g (undecided_at d.kernel) ≡ true
    → e ≡ decided (record d { taken = qs }) q g r.answer → e ≡ given d r d.taken
decided_left d e r q qs g taken guess there is =
    let rest : DeskView = record d { taken = qs } in
    is ∙ sym (ap (given d r) taken ∙ ap (given_to rest q r.answer) guess ∙ ap (λ b. cond b (decided rest q g r.answer) rest) there)

-- ---- kept answers

pub kept_at : (pid i : ℕ) (ks : List KeptAnswer) (k : KeptAnswer) (own : Bool) → i < length ks → k ≡ get_or ks i k → (k.process == pid) ≡ own
    → kept_for pid (drop i ks) ≡ cond own (Some k.input) (kept_for pid (drop (i + 1) ks))
kept_at pid i ks k own lt is test =
    ap (kept_for pid) (drop_more ks i k lt ∙ ap (λ x. x ∷ drop (i + 1) ks) (sym is)) ∙ ap (λ b. cond b (Some k.input) (kept_for pid (drop (i + 1) ks))) test

-- ---- what a desk lends

-- a process that waits
refused : (d : DeskView) (pid : ℕ) (m : Result LeaseView Refusal) → asks_for pid (pending d) ≡ true → Lends (Err (blocked_why m)) (unless_asked d pid m)
refused d pid (Ok l) asks = subst (λ b. Lends (Err Blocked) (cond b (Err Blocked) (Ok l))) (sym asks) refl
refused d pid (Err why) asks = refl

pub lends_blocked : (d : DeskView) (pid : ℕ) → asks_for pid (pending d) ≡ true → Lends (Err (blocked_why (lease_of (get (state_at d.kernel)) d.kernel.scripts pid))) (desk_lease d pid)
lends_blocked d pid asks = refused d pid (lease_of (get (state_at d.kernel)) d.kernel.scripts pid) asks

-- any other
unless_not : (d : DeskView) (pid : ℕ) (m : Result LeaseView Refusal) → asks_for pid (pending d) ≡ false → m ≡ unless_asked d pid m
unless_not d pid (Ok l) asks = ap (λ b. cond b (Err Blocked) (Ok l)) (sym asks)
unless_not d pid (Err why) asks = refl

pub lends_free : (d : DeskView) (pid : ℕ) (r : Result LeaseView Refusal) → Lends r (lease_of (get (state_at d.kernel)) d.kernel.scripts pid) → asks_for pid (pending d) ≡ false → Lends r (desk_lease d pid)
lends_free d pid r h asks = subst (Lends r) (unless_not d pid (lease_of (get (state_at d.kernel)) d.kernel.scripts pid) asks) h

-- ======== What is seen of a desk's requests in their queue, and how it changes.

-- ---- all of them

whole : (n : ℕ) (qs : List Queued) → take n (requests_in qs) ++ drop n (requests_in qs) ≡ requests_in qs
whole n qs = take-append-drop n (requests_in qs)

pub any_of : (p : PendingRequest → Bool) (n : ℕ) (qs : List Queued) → list_any (λ q. p q.request) qs ≡ list_any p (take n (requests_in qs) ++ drop n (requests_in qs))
any_of p n qs = sym (any_map p (λ q. q.request) qs) ∙ ap (list_any p) (sym (whole n qs))

-- for so many of them a process waits
pub count_of : (k n : ℕ) (qs : List Queued) → k ≡ asked_count (requests_in qs) → k ≡ asked_count (take n (requests_in qs) ++ drop n (requests_in qs))
count_of k n qs is = is ∙ ap asked_count (sym (whole n qs))

-- and where that are none, none of them does
none_asks : (p : PendingRequest → Bool) (qs : List PendingRequest) → asked_count qs ≡ 0 → list_any (λ q. is_asked q && p q) qs ≡ false
none_asks p [] none = refl
none_asks p (q ∷ qs) none =
    elim (is_asked q) as (λ b. length (cond b (q ∷ filter is_asked qs) (filter is_asked qs)) ≡ 0 → ((b && p q) || list_any (λ r. is_asked r && p r) qs) ≡ false) [
      | true ↦ λ h. absurd (omega (arith, h))
      | false ↦ λ h. none_asks p qs h
    ] none

pub none_of : (p : PendingRequest → Bool) (k n : ℕ) (qs : List Queued) → k ≡ asked_count (requests_in qs) → k ≡ 0
    → false ≡ list_any (λ q. is_asked q && p q) (take n (requests_in qs) ++ drop n (requests_in qs))
none_of p k n qs is none = sym (none_asks p (take n (requests_in qs) ++ drop n (requests_in qs)) (sym (count_of k n qs is) ∙ none))

-- no more than there are
pub few : (qs : List PendingRequest) → asked_count qs ≤ length qs
few qs = (let same = length-filter is_asked qs in let le = count_by-le-length is_asked qs in omega arith)

-- ---- one more

module _ (n k : ℕ) (qs : List Queued) (q : Queued) (h : IsQueue n k qs) where
  pub more_is : IsWhole q → IsQueue n (k + asked_count (q.request ∷ [])) (qs ++ q ∷ [])
  more_is here = record {
    within = (let longer = length-append qs (q ∷ []) in let le = h.within in omega arith);
    whole = subst (All IsWhole) (sym (drop-append-le n qs (q ∷ []) h.within)) (All-push IsWhole (drop n qs) q h.whole here);
    counted = ap (λ j. j + asked_count (q.request ∷ [])) h.counted ∙ sym (ap asked_count (map-append (λ (x : Queued). x.request) qs (q ∷ [])) ∙ asked_more (requests_in qs) (q.request ∷ []));
  }

-- ---- one taken out

module _ (n : ℕ) (q : Queued) (qs : List Queued) (some : 0 < n) where
  on : n ≡ suc (n - 1)
  on = omega arith

  pub out_taken : take n (requests_in (q ∷ qs)) ≡ q.request ∷ take (n - 1) (requests_in qs)
  out_taken = ap (λ k. take k (requests_in (q ∷ qs))) on

  pub out_waiting : drop n (requests_in (q ∷ qs)) ≡ drop (n - 1) (requests_in qs)
  out_waiting = ap (λ k. drop k (requests_in (q ∷ qs))) on

  -- one less where its process waits
  pub one_counted : (k : ℕ) → IsQueue n k (q ∷ qs) → k ≡ asked_count (q.request ∷ []) + asked_count (requests_in qs)
  one_counted k h = h.counted ∙ asked_more (q.request ∷ []) (requests_in qs)

  pub out_is : (k : ℕ) → IsQueue n k (q ∷ qs) → IsQueue (n - 1) (k - asked_count (q.request ∷ [])) qs
  out_is k h = record {
    within = (let le = h.within in omega arith);
    whole = subst (All IsWhole) (ap (λ k. drop k (q ∷ qs)) on) h.whole;
    counted = (let sum = one_counted k h in omega arith);
  }

-- the oldest that was taken
pub first_of : (n : ℕ) (qs : List Queued) (d : Queued) → 0 < n → 0 < length qs → d ≡ get_or qs 0 d → take n (requests_in qs) ≡ d.request ∷ drop 1 (take n (requests_in qs))
first_of n [] d some lt is = absurd (omega (arith, lt))
first_of n (q ∷ qs) d some lt is =
    let parts = out_taken n q qs some in
    parts ∙ (λ i. (sym is i).request ∷ take (n - 1) (requests_in qs)) ∙ ap (λ rs. d.request ∷ drop 1 rs) (sym parts)

-- ---- the oldest that waits is taken

module _ (n : ℕ) (qs : List Queued) (d : Queued) (lt : n < length qs) (is : d ≡ get_or qs n d) where
  here : drop n qs ≡ d ∷ drop (n + 1) qs
  here = drop_more qs n d lt ∙ ap (λ q. q ∷ drop (n + 1) qs) (sym is)

  pub waits : drop n (requests_in qs) ≡ d.request ∷ drop (n + 1) (requests_in qs)
  waits = drop-map (λ (q : Queued). q.request) n qs ∙ ap requests_in here ∙ ap (λ rs. d.request ∷ rs) (sym (drop-map (λ (q : Queued). q.request) (n + 1) qs))

  pub first_waits : drop n (requests_in qs) ≡ d.request ∷ drop 1 (drop n (requests_in qs))
  first_waits = waits ∙ ap (λ rs. d.request ∷ drop 1 rs) (sym waits)

  pub whole_here : All IsWhole (drop n qs) → IsWhole d
  whole_here all = All-head IsWhole d (drop (n + 1) qs) (subst (All IsWhole) here all)

  module _ (again : Option (List ℕ)) where
    abbrev pub after : List Queued
    after = set qs n (record d { again = again })

    reads : get_or (requests_in qs) n d.request ≡ d.request
    reads = get_or-map (λ (q : Queued). q.request) qs n d d.request lt ∙ ap (λ (q : Queued). q.request) (sym is)

    same_requests : requests_in after ≡ requests_in qs
    same_requests =
        map-set (λ (q : Queued). q.request) qs n (record d { again = again }) ∙ ap (λ r. set (requests_in qs) n r) (sym reads) ∙ set-get_or (requests_in qs) n d.request

    pub taken_one : take (n + 1) (requests_in after) ≡ take n (requests_in qs) ++ take 1 (drop n (requests_in qs))
    taken_one =
        let long = length-map qs (λ q. q.request) in
        ap (take (n + 1)) same_requests ∙ take_more (requests_in qs) n d.request (omega arith)
        ∙ ap (λ r. take n (requests_in qs) ++ r ∷ []) reads ∙ ap (λ rs. take n (requests_in qs) ++ take 1 rs) (sym waits)

    pub waiting_fewer : drop (n + 1) (requests_in after) ≡ drop 1 (drop n (requests_in qs))
    waiting_fewer = ap (drop (n + 1)) same_requests ∙ ap (drop 1) (sym waits)

    pub taken_is : (k : ℕ) → IsQueue n k qs → IsQueue (n + 1) k after
    taken_is k h = record {
      within = (let long = length-set qs n (record d { again = again }) in omega arith);
      whole = subst (All IsWhole) (sym (drop-set-lt (n + 1) qs n (record d { again = again }) (omega arith))) (All-tail IsWhole d (drop (n + 1) qs) (subst (All IsWhole) here h.whole));
      counted = h.counted ∙ ap asked_count (sym same_requests);
    }

-- ======== What holds of a world's parts, behind each of its events.

-- ---- one request more

numbered_more : (n : ℕ) (qs : List PendingRequest) (q : PendingRequest) → Numbered n qs → q.number ≡ n + length qs → Numbered n (qs ++ q ∷ [])
numbered_more n [] q h e = (omega (arith, e), tt)
numbered_more n (x ∷ xs) q h e = (h.0, numbered_more (n + 1) xs q h.1 (omega (arith, e)))

next_same : (s : ServerView) (b : Option Request) (d e : DeskView) → e.waiting ≡ d.waiting → e.next ≡ d.next → IsNext s b d → IsNext s b e
next_same s None d e w n h = (subst (Numbered s.next) (sym w) h.0, n ∙ h.1 ∙ ap (λ (qs : List PendingRequest). s.next + length qs) (sym w))
next_same s (Some b) d e w n h =
    (h.0, h.1, subst (Numbered (s.next + 1)) (sym w) h.2, n ∙ h.3 ∙ ap (λ (qs : List PendingRequest). s.next + 1 + length qs) (sym w))

next_more : (s : ServerView) (b : Option Request) (d e : DeskView) (q : PendingRequest) → e.waiting ≡ d.waiting ++ q ∷ [] → e.next ≡ d.next + 1 → q.number ≡ d.next
    → IsNext s b d → IsNext s b e
next_more s None d e q w n is h =
    let here = h.1 in
    let count : length e.waiting ≡ length d.waiting + 1 = ap length w ∙ length-append d.waiting (q ∷ []) in
    (subst (Numbered s.next) (sym w) (numbered_more s.next d.waiting q h.0 (is ∙ here)), omega (arith, n, here, count))
next_more s (Some b) d e q w n is h =
    let here = h.3 in
    let count : length e.waiting ≡ length d.waiting + 1 = ap length w ∙ length-append d.waiting (q ∷ []) in
    (h.0, h.1, subst (Numbered (s.next + 1)) (sym w) (numbered_more (s.next + 1) d.waiting q h.2 (is ∙ here)), omega (arith, n, here, count))

-- ---- a turn

has_number : (d : DeskView) → no_number d ≡ None → d.next ≤ LAST_REQUEST
has_number d h = ltb-false LAST_REQUEST d.next (none_test (nat_lt LAST_REQUEST d.next) TooMany h)

guess_has_number : (d : DeskView) (pid : ℕ) → guess_refused_at d pid ≡ None → d.next ≤ LAST_REQUEST
guess_has_number d pid h =
    let misfit = guess_misfits Input.Good (effect_at d.kernel (entry pid Input.Good (Some (next_guess d.kernel)))) in
    let rest = none_later misfit (or_else (too_many d.kernel) (or_else (no_number d) (no_place d 2))) h in
    has_number d (none_first (no_number d) (no_place d 2) (none_later (too_many d.kernel) _ rest))

module _ (s : ServerView) (rs : List Reply) (b : Option Request) (old new : DeskView) (pid : ℕ) (turn : Turn) (j : IsJoined old s rs b) where
  request_more : (e : DeskView) (q : PendingRequest) → e.taken ≡ old.taken → e.waiting ≡ old.waiting ++ q ∷ [] → e.next ≡ old.next + 1 → q.number ≡ old.next → old.next ≤ LAST_REQUEST
      → IsJoined e s rs b
  request_more e q t w n is least = record {
    replies = subst (AreReplies rs b) (sym t) j.replies;
    next = next_more s b old e q w n is j.next;
    last = omega (arith, n, least);
  }

  turned_joined : (r : Result Rule Refusal) → ByRule (Ok turn) old pid new r → IsJoined new s rs b
  turned_joined (Err why) h = absurd (let bad : Ok turn ≡ Err why = h.0 in cc)
  turned_joined (Ok (Rule.Steps input)) h =
      subst (λ (d : DeskView). IsJoined d s rs b) (sym h.2)
      (record { replies = j.replies; next = next_same s b old (turned old pid (Rule.Steps input)) refl refl j.next; last = j.last })
  turned_joined (Ok (Rule.Guesses ask)) h =
      subst (λ (d : DeskView). IsJoined d s rs b) (sym h.2)
      (request_more (turned old pid (Rule.Guesses ask)) (request_of old pid ask (Some (next_guess old.kernel))) refl refl refl refl (guess_has_number old pid h.0))
  turned_joined (Ok (Rule.Asks ask)) h =
      subst (λ (d : DeskView). IsJoined d s rs b) (sym h.2)
      (request_more (turned old pid (Rule.Asks ask)) (request_of old pid ask None) refl refl refl refl (has_number old (none_first (no_number old) (no_place old 1) h.0)))

  pub turn_joined : TurnPost (Ok turn) old pid new → IsJoined new s rs b
  turn_joined h = turned_joined (rule old pid) h

-- a refused turn changes nothing
by_back : (why : Refusal) (old new : DeskView) (pid : ℕ) (r : Result Rule Refusal) → ByRule (Err why) old pid new r → new ≡ old
by_back why old new pid (Ok rule) h = h.1
by_back why old new pid (Err x) h = h.1

pub turn_back : (why : Refusal) (old new : DeskView) (pid : ℕ) → TurnPost (Err why) old pid new → new ≡ old
turn_back why old new pid h = by_back why old new pid (rule old pid) h

pub turn_any : (s : ServerView) (rs : List Reply) (b : Option Request) (old new : DeskView) (pid : ℕ) (result : Result Turn Refusal) → TurnPost result old pid new → IsJoined old s rs b
    → IsJoined new s rs b
turn_any s rs b old new pid (Ok turn) h j = turn_joined s rs b old new pid turn j h
turn_any s rs b old new pid (Err why) h j = subst (λ (d : DeskView). IsJoined d s rs b) (sym (turn_back why old new pid h)) j

-- ---- a request is taken

replies_taken : (rs : List Reply) (qs : List PendingRequest) (q : PendingRequest) → AreReplies rs None qs → AreReplies rs (Some (sent q)) (qs ++ q ∷ [])
replies_taken [] [] q h = refl
replies_taken (r ∷ rs) (x ∷ xs) q h = (h.0, h.1, replies_taken rs xs q h.2)
replies_taken rs qs q h = absurd h

pub taken_joined : (s : ServerView) (rs : List Reply) (d : DeskView) (q : PendingRequest) (qs : List PendingRequest) → d.waiting ≡ q ∷ qs
    → IsJoined d s rs None → IsJoined (first_taken d (q ∷ qs)) s rs (Some (sent q))
taken_joined s rs d q qs w j =
    let numbered : Numbered s.next (q ∷ qs) = subst (Numbered s.next) w j.next.0 in
    let next : d.next ≡ s.next + length (q ∷ qs) = j.next.1 ∙ ap (λ (xs : List PendingRequest). s.next + length xs) w in
    let last = j.last in
    record {
      replies = replies_taken rs d.taken q j.replies;
      next = (numbered.0, omega (arith, next, last), numbered.1, omega (arith, next));
      last = last;
    }

-- the server, the kernel and the replies are as they were
pub taken_same : (w : WorldView) (b : Option Request) → ((taken_by w b).server ≡ w.server) × ((taken_by w b).desk.kernel ≡ w.desk.kernel) × ((taken_by w b).replies ≡ w.replies)
taken_same w (Some q) = (refl, refl, refl)
taken_same w None = from w.desk.waiting where
  from : (qs : List PendingRequest) → ((taken_from w qs).server ≡ w.server) × ((taken_from w qs).desk.kernel ≡ w.desk.kernel) × ((taken_from w qs).replies ≡ w.replies)
  from [] = (refl, refl, refl)
  from (q ∷ qs) = (refl, refl, refl)

-- a turn changes the desk alone
pub turn_rest : (told : Result WorldAnswer Cause) (w : WorldView) (pid : ℕ) (new : WorldView) → Turns told w pid new → new ≡ record w { desk = new.desk }
turn_rest (Ok (WorldAnswer.Turn turn)) w pid new h = h.1
turn_rest (Err (Cause.Turn why)) w pid new h = subst (λ (x : WorldView). x ≡ record w { desk = x.desk }) (sym h.1) refl
turn_rest told w pid new h = absurd h

-- and an edit the server alone
pub edit_rest : (told : Result WorldAnswer Cause) (w : WorldView) (name : List ℕ) (expected : ℕ) (bytes : List ℕ) (new : WorldView) → EditsFile told w name expected bytes new
    → new ≡ record w { server = new.server }
edit_rest (Ok (WorldAnswer.Edited version)) w name expected bytes new h = h.1
edit_rest (Err (Cause.Edit why)) w name expected bytes new h = subst (λ (x : WorldView). x ≡ record w { server = x.server }) (sym h.1) refl
edit_rest told w name expected bytes new h = absurd h

pub none_is : (o : Option Request) → is_some o ≡ false → o ≡ None
none_is None h = refl
none_is (Some q) h = absurd (true≢false h)

-- ---- the server's answer

-- a store that is accepted fits
abbrev pub Fitting : FileMap → Ask → Answer → Type 0
Fitting files (Store name version bytes) Yes = is_fitting files name version ≡ true
Fitting files ask answer = Unit {0}

-- it is of the kind that its request asks for, too
abbrev pub Suits : FileMap → Ask → Answer → Type 0
Suits files ask answer = (fits_ask ask answer ≡ true) × Fitting files ask answer

dropped_suits : (files : FileMap) (ask : Ask) → Suits files ask Dropped
dropped_suits files (Get name) = (refl, tt)
dropped_suits files ask = (refl, tt)

not_last : (v : ℕ) → v < LAST_VERSION → not (v == LAST_VERSION) ≡ true
not_last v less = elim (v == LAST_VERSION) as (λ b. (v == LAST_VERSION) ≡ b → not b ≡ true) [
  | true ↦ λ e. let same : v ≡ LAST_VERSION = eqb-true v LAST_VERSION e in absurd (omega (arith, less, same))
  | false ↦ λ e. refl
] refl

judged_suits : (files : FileMap) (ask : Ask) → Suits files ask (judged files ask)
judged_suits files (Get name) = (refl, tt)
judged_suits files (Check name version) = elim ((file_of files name).version == version) as (λ b. Suits files (Check name version) (cond b Yes (No (file_of files name)))) [
  | true ↦ (refl, tt)
  | false ↦ (refl, tt)
]
judged_suits files (Store name expected bytes) =
    elim (is_fitting files name expected) as (λ b. is_fitting files name expected ≡ b → Suits files (Store name expected bytes) (cond b Yes (No (file_of files name)))) [
      | true ↦ λ e. (not_last expected (ltb-true expected LAST_VERSION (and_both _ (nat_lt expected LAST_VERSION) e).1), e)
      | false ↦ λ e. (refl, tt)
    ] refl

pub answer_suits : (s : ServerView) (q : Request) → Suits s.files q.ask (answer_to s q)
answer_suits s q = elim (is_dropped q (remembered q s.refused)) as (λ b. Suits s.files q.ask (cond b Dropped (judged s.files q.ask))) [
  | true ↦ dropped_suits s.files q.ask
  | false ↦ judged_suits s.files q.ask
]

replies_more : (rs : List Reply) (b : Request) (qs : List PendingRequest) (r : Reply) → r.number ≡ b.number → fits_ask b.ask r.answer ≡ true → AreReplies rs (Some b) qs → AreReplies (rs ++ r ∷ []) None qs
replies_more [] b (q ∷ []) r n f h =
    (sym (n ∙ ap (λ (x : Request). x.number) h), subst (λ (x : Request). fits_ask x.ask r.answer ≡ true) h f, tt)
replies_more (x ∷ xs) b (q ∷ qs) r n f h = (h.0, h.1, replies_more xs b qs r n f h.2)
replies_more rs b qs r n f h = absurd h

pub answer_joined : (d : DeskView) (s t : ServerView) (rs all : List Reply) (b : Request) → all ≡ rs ++ reply_to s b ∷ [] → t ≡ answered s b (answer_to s b) → IsJoined d s rs (Some b) → IsJoined d t all None
answer_joined d s t rs all b more is j =
    let next = j.next.3 in
    subst (λ (xs : List Reply). IsJoined d t xs None) (sym more) (subst (λ (x : ServerView). IsJoined d x (rs ++ reply_to s b ∷ []) None) (sym is) (record {
      replies = replies_more rs b d.taken (reply_to s b) refl (answer_suits s b).0 j.replies;
      next = (j.next.2, next);
      last = j.last;
    }))

-- refused, it is as it was
pub back_joined : (d : DeskView) (s t : ServerView) (rs all : List Reply) (b : Option Request) → t ≡ s → all ≡ rs → IsJoined d s rs b → IsJoined d t all b
back_joined d s t rs all b is more j =
    subst (λ (x : ServerView). IsJoined d x all b) (sym is) (subst (λ (x : List Reply). IsJoined d s x b) (sym more) j)

-- ---- a request that is served

-- the desk once the oldest of those that wait was handed out
pub next_joined : (s : ServerView) (rs : List Reply) (b : Option Request) (d : DeskView) (ws : List PendingRequest) (q : Request) → is_some b ≡ false → d.waiting ≡ ws → first_sent ws ≡ Some q
    → IsJoined d s rs b → IsJoined (first_taken d ws) s rs (Some q)
next_joined s rs b d [] q none w is j = absurd cc
next_joined s rs b d (p ∷ ps) q none w is j =
    let same : sent p ≡ q = cc in
    subst (λ (x : Request). IsJoined (first_taken d (p ∷ ps)) s rs (Some x)) same
    (taken_joined s rs d p ps w (subst (λ (o : Option Request). IsJoined d s rs o) (none_is b none) j))

-- ---- what was served is the newest reply

pub newest_is : (all older : List Reply) (reply r : Reply) → all ≡ older ++ reply ∷ [] → r ≡ get_or all (length all - 1) r → reply ≡ r
newest_is all older reply r h is =
    let more : length (older ++ reply ∷ []) ≡ length older + 1 = length-append older (reply ∷ []) in
    sym (is ∙ ap (λ (rs : List Reply). get_or rs (length rs - 1) r) h ∙ get_or_at older reply [] r (length (older ++ reply ∷ []) - 1) (omega (arith, more)))

-- ---- a reply

abbrev pub Same : DeskView → DeskView → Type 0
Same d e = (e.taken ≡ d.taken) × (e.waiting ≡ d.waiting) × (e.next ≡ d.next)

stepped_same : (d : DeskView) (q : PendingRequest) (i : Option Input) → Same d (stepped_for d q i)
stepped_same d q None = (refl, refl, refl)
stepped_same d q (Some input) = (refl, refl, refl)

given_same : (d : DeskView) (q : PendingRequest) (a : Answer) (g : Option ℕ) → Same d (given_to d q a g)
given_same d q a (Some g) = elim (has g (undecided_at d.kernel)) as (λ b. Same d (cond b (decided d q g a) d)) [
  | true ↦ (refl, refl, refl)
  | false ↦ (refl, refl, refl)
]
given_same d q a None = elim (is_void d.kernel q) as (λ b. Same d (cond b d (stepped_for d q (input_of a)))) [
  | true ↦ (refl, refl, refl)
  | false ↦ stepped_same d q (input_of a)
]

-- what there is where a reply is on its way
pub record Oldest (d : DeskView) (r : Reply) (rs : List Reply) (b : Option Request) : Type 0 where
  pub request : PendingRequest
  pub later : List PendingRequest
  pub taken : d.taken ≡ request ∷ later
  pub fits : fits_ask request.ask r.answer ≡ true
  pub replies : AreReplies rs b later

oldest_of : (d : DeskView) (r : Reply) (rs : List Reply) (b : Option Request) (qs : List PendingRequest) → d.taken ≡ qs → AreReplies (r ∷ rs) b qs → Oldest d r rs b
oldest_of d r rs b [] e h = absurd h
oldest_of d r rs b (q ∷ qs) e h = record { request = q; later = qs; taken = e; fits = h.1; replies = h.2 }

pub oldest : (d : DeskView) (s : ServerView) (r : Reply) (rs : List Reply) (b : Option Request) → IsJoined d s (r ∷ rs) b → Oldest d r rs b
oldest d s r rs b j = oldest_of d r rs b d.taken refl j.replies

pub given_joined : (d e : DeskView) (s : ServerView) (r : Reply) (rs : List Reply) (b : Option Request) → e ≡ given d r d.taken → IsJoined d s (r ∷ rs) b → IsJoined e s rs b
given_joined d e s r rs b is j =
    let o = oldest d s r rs b j in
    let same : Same (record d { taken = o.later }) (given d r (o.request ∷ o.later)) = given_same (record d { taken = o.later }) o.request r.answer o.request.guess in
    let there : e ≡ given d r (o.request ∷ o.later) = is ∙ ap (given d r) o.taken in
    let last = j.last in
    subst (λ (x : DeskView). IsJoined x s rs b) (sym there) (record {
      replies = subst (AreReplies rs b) (sym same.0) o.replies;
      next = next_same s b d (given d r (o.request ∷ o.later)) same.1 same.2 j.next;
      last = subst (λ n. n ≤ LAST_REQUEST + 1) (sym same.2) last;
    })

-- ---- the beginning

pub begun_joined : (d : DeskView) (s : ServerView) → d.taken ≡ [] → d.waiting ≡ [] → d.next ≡ s.next → s.next ≤ LAST_REQUEST + 1 → IsJoined d s [] None
begun_joined d s t w n last = record {
  replies = subst (AreReplies [] None) (sym t) tt;
  next = (subst (Numbered s.next) (sym w) tt, let count : length d.waiting ≡ 0 = ap length w in omega (arith, n, count));
  last = omega (arith, n, last);
}

pub none_of_both : (xs ys : List PendingRequest) → xs ++ ys ≡ [] → (xs ≡ []) × (ys ≡ [])
none_of_both [] ys h = (refl, h)
none_of_both (x ∷ xs) ys h = cc

-- where no request was taken, no reply is on its way, and none was handed back
none_on_its_way : (rs : List Reply) (b : Option Request) → AreReplies rs b [] → (rs ≡ []) × (b ≡ None)
none_on_its_way [] None h = (refl, refl)
none_on_its_way rs b h = absurd h

-- where no request is pending, nothing is on its way, and the desk's next one is the server's next
pub record Idle (d : DeskView) (s : ServerView) (rs : List Reply) (b : Option Request) : Type 0 where
  pub replies : rs ≡ []
  pub back : b ≡ None
  pub next : d.next ≡ s.next

pub no_requests : (d : DeskView) (s : ServerView) (rs : List Reply) (b : Option Request) → d.taken ++ d.waiting ≡ [] → IsJoined d s rs b → Idle d s rs b
no_requests d s rs b none j =
    let e = none_of_both d.taken d.waiting none in
    let on = none_on_its_way rs b (subst (AreReplies rs b) e.0 j.replies) in
    let next : IsNext s None d = subst (λ (o : Option Request). IsNext s o d) on.1 j.next in
    let waits = next.1 in
    let count : length d.waiting ≡ 0 = ap length e.1 in
    record { replies = on.0; back = on.1; next = omega (arith, waits, count) }

-- ---- a new epoch of the desk

pub epoch_joined : (s : ServerView) (rs : List Reply) (b : Option Request) (result : Result (TraceView × TerminalMap) EpochRefusal) (old new : DeskView) → DeskEpochPost result old new
    → IsJoined old s rs b → IsJoined new s rs b
epoch_joined s rs b (Ok left) old new h j =
    let idle = no_requests old s rs b h.0 j in
    let next = idle.next in
    let last = j.last in
    subst (λ (x : DeskView × (List Reply × Option Request)). IsJoined x.0 s x.1.0 x.1.1) (λ i. (sym h.2 i, (sym idle.replies i, sym idle.back i)))
    (begun_joined (opened_at new.kernel old.next) s refl refl next (omega (arith, next, last)))
epoch_joined s rs b (Err (EpochRefusal.Undecided n)) old new h j = subst (λ (d : DeskView). IsJoined d s rs b) (sym h.2) j
epoch_joined s rs b (Err EpochRefusal.Memory) old new h j = subst (λ (d : DeskView). IsJoined d s rs b) (sym h.1) j

abbrev pub world_of : DeskView → ServerView → List Reply → Option Request → WorldView
world_of d s rs b = record { desk = d; server = s; replies = rs; back = b }

pub epoch_left : (s : ServerView) (rs : List Reply) (b : Option Request) (result : Result (TraceView × TerminalMap) EpochRefusal) (old new : DeskView) → DeskEpochPost result old new
    → IsJoined old s rs b → WorldEpochPost result (world_of old s rs b) (world_of new s rs b)
epoch_left s rs b (Ok left) old new h j = (let idle = no_requests old s rs b h.0 j in (h, λ i. world_of new s (idle.replies i) (idle.back i)))
epoch_left s rs b (Err (EpochRefusal.Undecided n)) old new h j = ((h.0, h.1, refl), λ i. world_of (h.2 i) s rs b)
epoch_left s rs b (Err EpochRefusal.Memory) old new h j = ((h.0, refl), λ i. world_of (h.1 i) s rs b)
