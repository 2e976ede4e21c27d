-- What a redeemed token says of its guess, and what stands after a decision and after a guess.
use Rattle.sk_kernel.proofs.Names.{◌≡◌, ℕ, suc, ◌<◌, ◌≤◌, ◌+◌, length, Bool, true, false, cond, not, ◌||◌, List, []}
use Rattle.sk_kernel.proofs.Names.{◌∷◌, ◌++◌, map, Option, Some, None, Ok, Err, refl, sym, ◌∙◌, ap, subst, arith, ◌==◌}
use Rattle.sk_kernel.proofs.Names.{nat_le, nat_lt, filter, false_from_ne_true, true≢false, eq-eqb, length-set, has}
use Rattle.sk_kernel.proofs.Names.{without, Open, numbers, Fails, rests_on, MergedTakes, MergedCommits, Status}
use Rattle.sk_kernel.proofs.Names.{Undecided, Committed, Failed, Struck, LAST_GUESS, GUESS_LIMIT, Token, GuessesView}
use Rattle.sk_kernel.proofs.Names.{status_of, status_since, decided, drawn, next_of, is_full, redeemed, redeemed_at}
use Rattle.sk_kernel.proofs.Names.{Input, Event, plain, TooMany, Parts, machine_of, KernelView, HasStatus, events_of}
use Rattle.sk_kernel.proofs.Names.{next_guess, with_event, too_many, IsNew, IsStranger, DecisionPost, IsWhole, StatusOr}
use Rattle.sk_kernel.proofs.Names.{beyond, entity_total, entity_exact, shorter, MergedStands, number_after, last_guess}
use Rattle.sk_guesses.specs.declared.guess.Redeemed.TheVariants as redeemed_as
use Rattle.sk_trace.specs.declared.event.Event.TheVariants as events
use Rattle.sk_kernel.specs.declared.kernel.Outcome.TheVariants as outcomes
use Rattle.sk_kernel.proofs.Whole.{status_is, undecided_since, open_undecided, undecided_counted, stands_committed}
use Rattle.sk_kernel.proofs.Whole.{stands_failed, stands_guessed, drawn_below, after_event, stands_more, stands_after}
use Rattle.sk_kernel.proofs.Whole.{last_after_event, earlier_long}
use Rattle.sk_record.proofs.Merged as merged
use Rattle.std.proofs.lemmas.Bool.Decides.{nat_tests}

-- ---- what a redeemed token says

undecided_there : (o : Option Status) (t : Token) (id : ℕ) → redeemed_at o t ≡ Ok (redeemed_as.Undecided id) → (o ≡ Some Undecided) × (id ≡ t.id)
undecided_there o t id is = grind arith

struck_there : (o : Option Status) (t : Token) (id : ℕ) → redeemed_at o t ≡ Ok (redeemed_as.Struck id) → o ≡ Some Struck
struck_there o t id is = grind arith

back_there : (o : Option Status) (t g : Token) → redeemed_at o t ≡ Err g → (g ≡ t) × (o ≡ Some Undecided → ⊥) × (o ≡ Some Struck → ⊥)
back_there o t g is = grind arith

undecided_told : (v : GuessesView) (t : Token) (id : ℕ) → redeemed v t ≡ Ok (redeemed_as.Undecided id) → (t.kernel ≡ v.kernel) × (status_of v t.id ≡ Some Undecided) × (id ≡ t.id)
undecided_told v t id is = grind (arith, nat_tests, undecided_there (status_of v t.id) t id)

struck_told : (v : GuessesView) (t : Token) (id : ℕ) → redeemed v t ≡ Ok (redeemed_as.Struck id) → (t.kernel ≡ v.kernel) × (status_of v t.id ≡ Some Struck)
struck_told v t id is = grind (arith, nat_tests, struck_there (status_of v t.id) t id)

back_told : (v : GuessesView) (t g : Token) → redeemed v t ≡ Err g → (g ≡ t) × (t.kernel ≡ v.kernel → (status_of v t.id ≡ Some Undecided → ⊥) × (status_of v t.id ≡ Some Struck → ⊥))
back_told v t g is = grind (arith, nat_tests, back_there (status_of v t.id) t g)

module _ (k : KernelView) (m : Parts) (place : ℕ) (whole : IsWhole k m place) (t : Token) where
  undecided_token : (id : ℕ) → redeemed m.guesses t ≡ Ok (redeemed_as.Undecided id) → (t.kernel ≡ k.number) × HasStatus k t.id Undecided × (id ≡ t.id)
  undecided_token id is = let told = undecided_told m.guesses t id is in (told.0 ∙ whole.number, (status_is k m whole.stands t.id Undecided).0 told.1, told.2)

  pub token_undecided : (id : ℕ) → redeemed m.guesses t ≡ Ok (redeemed_as.Undecided id) → HasStatus k id Undecided
  token_undecided id is = let told = undecided_token id is in subst (λ g. HasStatus k g Undecided) (sym told.2) told.1

  -- ---- what a decision answers, at the kernel of this view

  module _ (self : KernelView) (same : k ≡ self) where
    pub stranger_back : (g : Token) → redeemed m.guesses t ≡ Err g → IsStranger self t × (g ≡ t)
    stranger_back g is =
        let told = back_told m.guesses t g is in
        let stranger : IsStranger k t = λ number. let none = told.1 (number ∙ sym whole.number) in
        ((λ h. none.0 ((status_is k m whole.stands t.id Undecided).1 h)), λ h. none.1 ((status_is k m whole.stands t.id Struck).1 h)) in
        (subst (λ (k : KernelView). IsStranger k t) same stranger, told.0)

    pub nothing_left : (id : ℕ) (e : Event) → redeemed m.guesses t ≡ Ok (redeemed_as.Struck id) → DecisionPost outcomes.Gone t e self self
    nothing_left id e is =
        let told = struck_told m.guesses t id is in
        subst (λ (k : KernelView). DecisionPost outcomes.Gone t e k k) same (told.0 ∙ whole.number, (status_is k m whole.stands t.id Struck).0 told.1, refl)

    pub decided_by : (id : ℕ) (event : ℕ → Event) (new : KernelView) → redeemed m.guesses t ≡ Ok (redeemed_as.Undecided id) → new ≡ with_event k (event id)
        → DecisionPost outcomes.Done t (event t.id) self new
    decided_by id event new is left =
        let told = undecided_token id is in
        subst (λ (k : KernelView). DecisionPost outcomes.Done t (event t.id) k new) same (told.0, told.1, left ∙ ap (λ g. with_event k (event g)) told.2)

-- ---- a decision leaves fewer open guesses

fewer : (p : Open → Bool) (os : List Open) (g : ℕ) → has g (numbers os) ≡ true → has g (numbers (filter p os)) ≡ false → length (filter p os) + 1 ≤ length os
fewer p [] g here gone = absurd (true≢false (sym here))
fewer p (o ∷ os) g here gone = let rest = shorter p os in grind (arith, fewer p os g)

numbers_without : (g : ℕ) (os : List Open) → numbers (map (λ o. (o.0, without g o.1)) os) ≡ numbers os
numbers_without g [] = refl
numbers_without g (o ∷ os) = ap (λ ns. o.0 ∷ ns) (numbers_without g os)

length_without : (g : ℕ) (os : List Open) → length {A = Open} (map (λ (o : Open). (o.0, without g o.1)) os) ≡ length os
length_without g [] = refl
length_without g (o ∷ os) = ap suc (length_without g os)

module _ (k : KernelView) (m b : Parts) (place left : ℕ) (g : ℕ) (es : List Event) (whole : IsWhole k m place) (undecided : HasStatus k g Undecided) where
  is_open : has g (numbers m.opens) ≡ true
  is_open = (open_undecided k m whole.stands g).1 (undecided_since k m whole.stands g undecided)

  some_open : (os : List Open) → has g (numbers os) ≡ true → 1 ≤ length os
  some_open [] here = absurd (true≢false (sym here))
  some_open (o ∷ os) here = omega arith

  -- a place is kept for it
  pub kept_place : 0 < place
  kept_place = let some = some_open m.opens is_open in let room = whole.place in omega (arith, some, room)

  -- after an event that decides it and draws none
  decided_whole : (e : Event) (s : Status) (p : Open → Bool) → MergedStands (plain k.scripts) k.start (events_of (with_event k e)) (machine_of b)
      → number_after (last_guess k) e ≡ last_guess k → status_since b.guesses g ≡ Some s → (Some s ≡ Some Undecided → ⊥)
      → numbers b.opens ≡ numbers (filter p m.opens) → length b.opens ≡ length (filter p m.opens)
      → b.guesses.earlier ≡ m.guesses.earlier → length b.guesses.statuses ≡ length m.guesses.statuses → es ≡ k.trace ++ e ∷ [] → left + 1 ≡ place
      → IsWhole (after_event k b es) b left
  decided_whole e s p represents none_drawn status other same long earlier count trace room =
      let stands = stands_more k m b whole.stands earlier es e trace represents in
      let gone : has g (numbers b.opens) ≡ false = false_from_ne_true _ (λ here. other (sym status ∙ (open_undecided (with_event k e) b stands g).0 here)) in
      let less = fewer p m.opens g is_open (sym (ap (has g) same) ∙ gone) in
      let last = last_after_event k m b whole.stands earlier es e trace in
      let before = earlier_long k m b whole.stands earlier es e trace in
      let was = whole.drawn in
      let enough = whole.place in
      record {
        stands = stands_after k m b whole.stands earlier es e trace represents;
        number = refl;
        drawn = omega (arith, last, none_drawn, before, count, was);
        place = omega (arith, less, long, room, enough);
      }

  pub committed_whole : MergedCommits (machine_of m) g (machine_of b) → b.guesses ≡ decided m.guesses g Committed → es ≡ k.trace ++ events.Commit g ∷ [] → left + 1 ≡ place
      → IsWhole (after_event k b es) b left
  committed_whole commits guesses trace room =
      let p : Open → Bool = λ o. not (o.0 == g) in
      decided_whole (events.Commit g) Committed p (stands_committed k m whole.stands g b undecided commits) refl
      (commits.status g ∙ ap (λ x. cond x (Some Committed) (status_since m.guesses g)) (eq-eqb g g refl)) (λ is. cc)
      (ap numbers commits.opens ∙ numbers_without g (filter p m.opens)) (ap length commits.opens ∙ length_without g (filter p m.opens))
      (ap (λ v. v.earlier) guesses) (ap (λ v. length v.statuses) guesses ∙ length-set m.guesses.statuses _ Committed) trace room

  pub failed_whole : Fails (machine_of m) g (machine_of b) → b.guesses.earlier ≡ m.guesses.earlier → length b.guesses.statuses ≡ length m.guesses.statuses → es ≡ k.trace ++ events.Fail g ∷ [] → left + 1 ≡ place
      → IsWhole (after_event k b es) b left
  failed_whole fails earlier count trace room =
      decided_whole (events.Fail g) Failed (λ o. not (has g o.1)) (stands_failed k m whole.stands g b undecided fails) refl
      (fails.status g ∙ ap (λ x. cond x (Some Failed) (cond (rests_on g m.opens g) (Some Struck) (status_since m.guesses g))) (eq-eqb g g refl))
      (λ is. cc) (ap numbers fails.state.opens) (ap length fails.state.opens) earlier count trace room

-- ---- a guess

length_more : {A : Type 0} (xs : List A) (x : A) → length (xs ++ x ∷ []) ≡ length xs + 1
length_more [] x = refl
length_more (y ∷ xs) x = let rest = length_more xs x in omega (arith, rest)

module _ (k : KernelView) (m : Parts) (place : ℕ) (whole : IsWhole k m place) where
  pub next_is : next_of m.guesses ≡ next_guess k
  next_is = (λ i. length (whole.stands.earlier i) + length m.guesses.statuses + 1) ∙ ap (λ n. n + 1) whole.drawn

  -- its number is above each that was drawn, and it is undecided
  pub guess_new : (b : Parts) (pid : ℕ) (input : Input) → MergedTakes (plain k.scripts) (machine_of m) (record { pid = pid; input = input; guess = Some (next_of m.guesses) }) (machine_of b)
      → IsNew k (with_event k (events.Guess (next_guess k) pid input))
  guess_new b pid input takes =
      let next = next_of m.guesses in
      let k' = with_event k (events.Guess next pid input) in
      let status : status_since b.guesses next ≡ Some Undecided = takes.status next ∙ ap (λ x. cond x (Some Undecided) (status_since m.guesses next)) (eq-eqb next next refl) in
      let here = (merged.merged_run (plain k.scripts) entity_total entity_exact k.start (events_of k') (machine_of b) (stands_guessed k m whole.stands pid input b takes)).statuses next Undecided in
      let long = ap length whole.stands.earlier in
      let above : length k.earlier < next = omega (arith, long) in
      let undecided : HasStatus k' next Undecided = subst (λ o. StatusOr (plain k.scripts) k.start o (events_of k') next Undecided) (sym (beyond k.earlier next above)) (here.0 status) in
      record {
        above = λ h drawn. subst (λ n. h < n) next_is (drawn_below k m whole.stands h drawn);
        undecided = subst (λ n. HasStatus (with_event k (events.Guess n pid input)) n Undecided) next_is undecided;
      }

  pub full_is : too_many k ≡ cond (is_full m.guesses) (Some TooMany) None
  full_is =
      (λ i. cond (nat_le GUESS_LIMIT (sym (undecided_counted k m whole.stands) i) || nat_lt LAST_GUESS (sym next_is i)) (Some TooMany) None)

  pub guessed_whole : (b : Parts) (left : ℕ) (pid : ℕ) (input : Input) (id : ℕ) (es : List Event)
      → MergedTakes (plain k.scripts) (machine_of m) (record { pid = pid; input = input; guess = Some (next_of m.guesses) }) (machine_of b)
      → b.guesses ≡ drawn m.guesses → id ≡ next_of m.guesses → es ≡ k.trace ++ events.Guess id pid input ∷ [] → length m.opens + 1 ≤ left
      → IsWhole (after_event k b es) b left
  guessed_whole b left pid input id es takes guesses number trace room =
      let earlier : b.guesses.earlier ≡ m.guesses.earlier = ap (λ v. v.earlier) guesses in
      let e = events.Guess (next_of m.guesses) pid input in
      let events_are : es ≡ k.trace ++ e ∷ [] = trace ∙ ap (λ n. k.trace ++ events.Guess n pid input ∷ []) number in
      let opens : length b.opens ≡ length m.opens + 1 = ap length takes.opens ∙ length_more m.opens _ in
      let last = last_after_event k m b whole.stands earlier es e events_are in
      let before = earlier_long k m b whole.stands earlier es e events_are in
      let was = ap length whole.stands.earlier in
      let count : length b.guesses.statuses ≡ length m.guesses.statuses + 1 = ap (λ v. length v.statuses) guesses ∙ length_more m.guesses.statuses Undecided in
      record {
        stands = stands_after k m b whole.stands earlier es e events_are (stands_guessed k m whole.stands pid input b takes);
        number = refl;
        drawn = omega (arith, last, before, was, count);
        place = omega (arith, opens, room);
      }
