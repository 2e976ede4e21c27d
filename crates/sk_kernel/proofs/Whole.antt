-- What the parts of a kernel say of its trace.
use Rattle.sk_kernel.proofs.Names.{Bor, ◌≡◌, ℕ, zero, suc, ◌<◌, ◌≤◌, ◌-◌, ◌+◌, length, true, false, not, List, [], ◌∷◌}
use Rattle.sk_kernel.proofs.Names.{◌++◌, map, Option, Some, None, refl, sym, ◌∙◌, ap, subst, arith, ◌↔◌, is_some}
use Rattle.sk_kernel.proofs.Names.{slice_get, MatchOption, Less, nat_cmp_is, eq-eqb, or_left, or_right, nat_cmp}
use Rattle.sk_kernel.proofs.Names.{AllByRecursion, list_all, fold, sorted_from_strictly_increasing, fold-append}
use Rattle.sk_kernel.proofs.Names.{perform, effects, Note, has, tags_along, IsReleased, said_with, IsDrawn, StatusIs}
use Rattle.sk_kernel.proofs.Names.{all_recorded, no_record, Open, numbers, tags_in, IsTidy, IsGrowing, Status}
use Rattle.sk_kernel.proofs.Names.{Undecided, IsPlainRun, RepresentsTrace, Fails, released, MergedStands, MergedTakes}
use Rattle.sk_kernel.proofs.Names.{MergedCommits, entries_are, one_status, AllSome, tidy_of, grows_of, rests_of}
use Rattle.sk_kernel.proofs.Names.{tags_are, is_empty, entity_cmp, Entity, is_in, entity_total, entity_exact}
use Rattle.sk_kernel.proofs.Names.{GuessesView, status_of, status_since, undecided_count, next_of, drawn-since}
use Rattle.sk_kernel.proofs.Names.{nothing_in, place-of, status_in, or_since, either_is, in_trace, HasSoundTrace}
use Rattle.sk_kernel.proofs.Names.{EntityState, texts_in, look_at, log_at, Input, EntryView, Event, plain, act, Saying}
use Rattle.sk_kernel.proofs.Names.{image, Parts, machine_of, undo_state_of, said_at, count_of, KernelView, events_of}
use Rattle.sk_kernel.proofs.Names.{record_at, state_at, undecided_at, tags_at, texts_at, said_by_record, HasStatus}
use Rattle.sk_kernel.proofs.Names.{RestsOn, effect_at, number_after, last_guess, with_event, room, ShowsTerminal}
use Rattle.sk_kernel.proofs.Names.{LeavesTexts, released_at, IsWhole, Stands, opened, Machine}
use Rattle.sk_kernel.proofs.Names.{machine_at_start, BootView, State, start_of, IsAtStart, booted, Scripts, append-nil}
use Rattle.sk_kernel.proofs.Names.{TaggedText, waiting_of, option_copied, unwrap_or, Bool}
use Rattle.std.specs.List.Sorted.{IsStrictlySortedBy}
use Rattle.std.specs.FinMap as map
use Rattle.sk_record.proofs.MachineRuns as machine_runs
use Rattle.sk_record.proofs.Merged as merged
use Rattle.sk_kernel.proofs.Keys.{keys_are}
use Rattle.sk_trace.specs.declared.event.Event.TheVariants as events
use Rattle.sk_kernel.proofs.Clear.{AllClear, all_clear, clear_released}

pub map_more : (es : List Event) (e : Event) → map image (es ++ e ∷ []) ≡ map image es ++ image e ∷ []
map_more [] e = refl
map_more (x ∷ es) e = ap (λ xs. image x ∷ xs) (map_more es e)

some_tags : (tags : List ℕ) → (tags ≡ [] → ⊥) → not (is_empty tags) ≡ true
some_tags [] some = absurd (some refl)
some_tags (t ∷ tags) some = refl

all_rest : (log : List (Note EntityState)) → AllSome log → list_all (λ n. not (is_empty n.tags)) log ≡ true
all_rest [] all = refl
all_rest (n ∷ ns) all = rw (some_tags n.tags all.0) (all_rest ns all.1)

pub no_guess : (g : ℕ) → None ≡ Some g → ⊥
no_guess g is = cc

pub some_same : (x y : ℕ) → Some x ≡ Some y → x ≡ y
some_same x y is = cc

-- what has a status was drawn
got_below : (ss : List Status) (i : ℕ) (s : Status) → slice_get ss i ≡ Some s → i < length ss
got_below [] i s is = cc
got_below (x ∷ ss) zero s is = omega arith
got_below (x ∷ ss) (suc i) s is = let less = got_below ss i s is in omega (arith, less)

status_below : (v : GuessesView) (g : ℕ) (s : Status) → status_since v g ≡ Some s → g < next_of v
status_below v g s is =
    let above = drawn-since v g s is in
    let less = got_below v.statuses (g - length v.earlier - 1) s (place-of v v g g s refl refl is) in
    omega (arith, above, less)

-- a rising list with one number above all of its own
all_below : (xs : List ℕ) (x y : ℕ) → AllByRecursion (λ z. nat_cmp x z ≡ Less) xs → nat_cmp x y ≡ Less → AllByRecursion (λ z. nat_cmp x z ≡ Less) (xs ++ y ∷ [])
all_below [] x y all less = (less, tt)
all_below (z ∷ xs) x y all less = (all.0, all_below xs x y all.1 less)

more_rises : (xs : List ℕ) (y : ℕ) → IsStrictlySortedBy nat_cmp xs → ((x : ℕ) → has x xs ≡ true → x < y) → IsStrictlySortedBy nat_cmp (xs ++ y ∷ [])
unfolding IsStrictlySortedBy
more_rises [] y rises below = (tt, tt)
more_rises (x ∷ xs) y rises below =
    (all_below xs x y rises.0 (sym (nat_cmp_is x y Less (below x (or_left _ _ (eq-eqb x x refl))))), more_rises xs y rises.1 (λ z here. below z (or_right _ _ here)))

-- what is released of the texts of a terminal
released_short : (xs : List TaggedText) → length (released xs) ≤ length xs
released_short [] = omega arith
released_short ((text, []) ∷ xs) = let rest = released_short xs in omega (arith, rest)
released_short ((text, g ∷ tags) ∷ xs) = omega arith

as_many_said : (t : ℕ) (xs : List TaggedText) → length (map (λ s. s.0) (said_at t xs)) ≡ length xs
as_many_said t [] = refl
as_many_said t (x ∷ xs) = let rest = as_many_said t xs in omega (arith, rest)

as_many_released : (t : ℕ) (xs : List TaggedText) → length (released (said_at t xs)) ≡ length (released xs)
as_many_released t [] = refl
as_many_released t ((text, []) ∷ xs) = let rest = as_many_released t xs in omega (arith, rest)
as_many_released t ((text, g ∷ tags) ∷ xs) = refl

-- what is not released waits
waiting_is : (t : ℕ) (xs : List TaggedText) → waiting_of xs + length (released (said_at t xs)) ≡ length (map (λ s. s.0) (said_at t xs))
waiting_is t xs = omega (arith, as_many_said t xs, as_many_released t xs, released_short xs)

released_said : (t : ℕ) (xs : List TaggedText) → released (said_at t xs) ≡ map (λ text. record { to = t; text = text }) (released xs)
released_said t [] = refl
released_said t ((text, []) ∷ xs) = ap (λ (ws : List Saying). record { to = t; text = text } ∷ ws) (released_said t xs)
released_said t ((text, g ∷ tags) ∷ xs) = refl

-- what is told of open guesses, and what is known of those that are not
by_open : (is_open told rests : Bool) → (is_open ≡ true → told ≡ rests) → (is_open ≡ false → told ≡ false) → (rests ≡ true → is_open ≡ true) → told ≡ rests
by_open is_open told rests here none known = grind arith

module _ (k : KernelView) (m : Parts) (stands : Stands k m) where
  is_plain : IsPlainRun (plain k.scripts) k.start (events_of k) (machine_of m)
  is_plain = merged.merged_run (plain k.scripts) entity_total entity_exact k.start (events_of k) (machine_of m) stands.trace

  -- ---- what there is to see
  pub look_is : (e : Entity) → look_at m.slots e ≡ map.get (state_at k) e
  look_is e = is_plain.values e

  pub entities_are : (es : List Entity) → IsStrictlySortedBy entity_cmp es → ((e : Entity) → is_in entity_cmp es e ≡ is_some (look_at m.slots e)) → es ≡ map.keys (state_at k)
  entities_are es rising present = keys_are entity_total entity_exact (state_at k) es rising (λ e. present e ∙ ap is_some (look_is e))

  pub tags_computed : (e : Entity) → tags_in (undo_state_of m) e ≡ tags_at k e
  tags_computed e =
      merged.same_tags stands.trace.full (machine_of m) stands.trace.merged e
      ∙ tags_are (plain k.scripts) entity_total entity_exact k.start (all_recorded (plain k.scripts) k.start no_record (events_of k)) stands.trace.full.state stands.trace.stands.state e

  pub tags_exact : (e : Entity) (g : ℕ) → (has g (tags_in (undo_state_of m) e) ≡ true) ↔ RestsOn k e g
  tags_exact e g = is_plain.tags e g

  since_is : (g : ℕ) (s : Status) → (status_since m.guesses g ≡ Some s) ↔ StatusIs (plain k.scripts) k.start (events_of k) g s
  since_is g s = is_plain.statuses g s

  pub status_is : (g : ℕ) (s : Status) → (status_of m.guesses g ≡ Some s) ↔ HasStatus k g s
  status_is g s =
      subst (λ e. (or_since (status_in e g) (status_since m.guesses g) ≡ Some s) ↔ HasStatus k g s) (sym stands.earlier)
      (either_is (plain k.scripts) k.start (status_in k.earlier g) (status_since m.guesses g) (events_of k) g s (since_is g s))

  -- an undecided guess is one of this epoch
  pub is_here : (g : ℕ) → HasStatus k g Undecided → StatusIs (plain k.scripts) k.start (events_of k) g Undecided
  is_here g is = in_trace (plain k.scripts) k.start (status_in k.earlier g) (events_of k) g (stands.decided g) is

  pub undecided_since : (g : ℕ) → HasStatus k g Undecided → status_since m.guesses g ≡ Some Undecided
  undecided_since g is = (since_is g Undecided).1 (is_here g is)

  -- the trace is one of this epoch
  pub epoch_of : HasSoundTrace k
  epoch_of = record {
    sound = stands.trace.stands.sound;
    decided = stands.decided;
    above = λ g drawn.
        let some = (one_status (plain k.scripts) k.start (events_of k) stands.trace.stands.sound g).0.0 drawn in
        let since = drawn-since m.guesses g some.0 ((since_is g some.0).1 some.1) in
        let same = ap length stands.earlier in
        omega (arith, since, same);
  }

  pub opens_are : numbers m.opens ≡ undecided_at k
  opens_are = is_plain.opens

  length_map : {A B : Type 0} (f : A → B) (xs : List A) → length (map f xs) ≡ length xs
  length_map f [] = refl
  length_map f (x ∷ xs) = ap suc (length_map f xs)

  pub open_count : length m.opens ≡ length (undecided_at k)
  open_count = sym (length_map (λ o. o.0) m.opens) ∙ ap length opens_are

  pub opens_rise : IsStrictlySortedBy nat_cmp (numbers m.opens)
  opens_rise = sorted_from_strictly_increasing (numbers m.opens) is_plain.rising

  -- an open guess is undecided, and an undecided one is open
  pub open_undecided : (g : ℕ) → (has g (numbers m.opens) ≡ true) ↔ (status_since m.guesses g ≡ Some Undecided)
  open_undecided g =
      let open_is = subst (λ (os : List Open). (has g (numbers os) ≡ true) ↔ StatusIs (plain k.scripts) k.start (events_of k) g Undecided) (sym stands.trace.merged.opens) (machine_runs.open_is (plain k.scripts) entity_total entity_exact k.start (events_of k) stands.trace.full stands.trace.stands g) in
      ((λ here. (since_is g Undecided).1 (open_is.0 here)), λ is. open_is.1 ((since_is g Undecided).0 is))

  pub undecided_counted : undecided_count m.guesses.statuses ≡ length (undecided_at k)
  undecided_counted = count_of m.guesses (numbers m.opens) opens_rise open_undecided ∙ ap length opens_are

  pub texts_are : (t : ℕ) → said_at t (texts_in m.texts t) ≡ texts_at k t
  texts_are t =
      stands.trace.merged.texts t ∙ stands.trace.stands.texts t
      ∙ ap (λ ns. let ran = effects (plain k.scripts) k.start ns in said_with (plain k.scripts) t (tags_along (plain k.scripts).order (undecided_at k) (λ g. []) ran) ran) (entries_are (plain k.scripts) k.start (events_of k))

  pub releases : (t : ℕ) → IsReleased (plain k.scripts) k.start (events_of k) t (released (said_at t (texts_in m.texts t)))
  releases t = is_plain.releases t

  -- ---- what a step asks for
  pub tidy : IsTidy (undo_state_of m)
  tidy =
      merged.tidy_in stands.trace.full (machine_of m) stands.trace.merged
      (tidy_of (plain k.scripts) entity_total entity_exact k.start (all_recorded (plain k.scripts) k.start no_record (events_of k)) stands.trace.full.state stands.trace.stands.state)

  pub grows : (e : Entity) → IsGrowing (log_at m.slots e)
  grows e =
      merged.growing_in stands.trace.full (machine_of m) stands.trace.merged e
      (grows_of (plain k.scripts) entity_total entity_exact k.start (all_recorded (plain k.scripts) k.start no_record (events_of k)) stands.trace.full.state stands.trace.stands.state e)

  pub rests : (e : Entity) → list_all (λ n. not (is_empty n.tags)) (log_at m.slots e) ≡ true
  rests e =
      all_rest (log_at m.slots e)
      (merged.some_in [] (stands.trace.full.state.logs e) (log_at m.slots e) (stands.trace.merged.logs e)
      (rests_of (plain k.scripts) entity_total entity_exact k.start (all_recorded (plain k.scripts) k.start no_record (events_of k)) stands.trace.full.state stands.trace.stands.state e))

  pub same_effect : (n : EntryView) → perform (look_at m.slots) (act k.scripts n.pid n.input) ≡ effect_at k n
  same_effect n =
      (λ i. perform (λ e. stands.trace.merged.look e i) (act k.scripts n.pid n.input))
      ∙ machine_runs.same_outcome (plain k.scripts) entity_total entity_exact k.start (events_of k) stands.trace.full stands.trace.stands n

  -- the list of a guess has just the entities that depend on it
  pub dependents_are : (id : ℕ) (es : List Entity) → (has id (numbers m.opens) ≡ true → (e : Entity) → is_in entity_cmp es e ≡ has id (tags_in (undo_state_of m) e)) → (has id (numbers m.opens) ≡ false → es ≡ [])
      → (e : Entity) → is_in entity_cmp es e ≡ has id (tags_at k e)
  dependents_are id es exact none e =
      by_open (has id (numbers m.opens)) (is_in entity_cmp es e) (has id (tags_at k e)) (λ here. exact here e ∙ ap (has id) (tags_computed e))
      (λ closed. ap (λ xs. is_in entity_cmp xs e) (none closed)) (λ here. tidy.known e id (ap (has id) (tags_computed e) ∙ here))

  -- ---- what stands after an event
  pub stands_stepped : (pid : ℕ) (input : Input) (b : Parts) → MergedTakes (plain k.scripts) (machine_of m) (record { pid = pid; input = input; guess = None }) (machine_of b)
      → MergedStands (plain k.scripts) k.start (events_of (with_event k (events.Step pid input))) (machine_of b)
  stands_stepped pid input b takes =
      let n : EntryView = record { pid = pid; input = input; guess = None } in
      subst (λ es. MergedStands (plain k.scripts) k.start es (machine_of b)) (sym (map_more k.trace (events.Step pid input)))
      (merged.merged_taken (plain k.scripts) entity_total entity_exact k.start (events_of k) (machine_of m) n (machine_of b) stands.trace (λ g h no_mark drawn. absurd (no_guess g no_mark)) takes)

  pub stands_committed : (g : ℕ) (b : Parts) → HasStatus k g Undecided → MergedCommits (machine_of m) g (machine_of b)
      → MergedStands (plain k.scripts) k.start (events_of (with_event k (events.Commit g))) (machine_of b)
  stands_committed g b undecided commits =
      subst (λ es. MergedStands (plain k.scripts) k.start es (machine_of b)) (sym (map_more k.trace (events.Commit g)))
      (merged.merged_committed (plain k.scripts) entity_total entity_exact k.start (events_of k) (machine_of m) g (machine_of b) stands.trace (is_here g undecided) commits)

  pub stands_failed : (g : ℕ) (b : Parts) → HasStatus k g Undecided → Fails (machine_of m) g (machine_of b)
      → MergedStands (plain k.scripts) k.start (events_of (with_event k (events.Fail g))) (machine_of b)
  stands_failed g b undecided fails =
      subst (λ es. MergedStands (plain k.scripts) k.start es (machine_of b)) (sym (map_more k.trace (events.Fail g)))
      (merged.merged_failed (plain k.scripts) entity_total entity_exact k.start (events_of k) (machine_of m) g (machine_of b) stands.trace (is_here g undecided) fails)

  -- every guess that was drawn has a number below the next
  pub drawn_below : (h : ℕ) → IsDrawn (plain k.scripts) (events_of k) h → h < next_of m.guesses
  drawn_below h drawn =
      let has_status = (one_status (plain k.scripts) k.start (events_of k) stands.trace.stands.sound h).0.0 drawn in
      status_below m.guesses h has_status.0 ((since_is h has_status.0).1 has_status.1)

  pub stands_guessed : (pid : ℕ) (input : Input) (b : Parts) → MergedTakes (plain k.scripts) (machine_of m) (record { pid = pid; input = input; guess = Some (next_of m.guesses) }) (machine_of b)
      → MergedStands (plain k.scripts) k.start (events_of (with_event k (events.Guess (next_of m.guesses) pid input))) (machine_of b)
  stands_guessed pid input b takes =
      let n : EntryView = record { pid = pid; input = input; guess = Some (next_of m.guesses) } in
      subst (λ es. MergedStands (plain k.scripts) k.start es (machine_of b)) (sym (map_more k.trace (events.Guess (next_of m.guesses) pid input)))
      (merged.merged_taken (plain k.scripts) entity_total entity_exact k.start (events_of k) (machine_of m) n (machine_of b) stands.trace
      (λ g h mark drawn. let own = some_same (next_of m.guesses) g mark in let less = drawn_below h drawn in omega (arith, own, less)) takes)

  -- with the next number they rise still
  pub next_rises : IsStrictlySortedBy nat_cmp (numbers m.opens ++ next_of m.guesses ∷ [])
  next_rises = more_rises (numbers m.opens) (next_of m.guesses) opens_rise (λ g here. status_below m.guesses g Undecided ((open_undecided g).0 here))

  -- ---- what a terminal shows
  recorded : (t : ℕ) → map (λ x. x.0) (said_at t (texts_in m.texts t)) ≡ said_by_record k t
  recorded t = is_plain.texts t

  pub terminal_shown : (t : ℕ) (r : Option (Bor (List TaggedText))) → option_copied r ≡ map.get m.texts t → MatchOption r ((texts_at k t ≡ []) × (said_by_record k t ≡ [])) (λ x. ShowsTerminal k t x.now)
  terminal_shown t None none = (
    sym (texts_are t) ∙ ap (λ o. said_at t (unwrap_or o [])) (sym none),
    sym (recorded t) ∙ ap (λ o. map (λ x. x.0) (said_at t (unwrap_or o []))) (sym none),
  )
  terminal_shown t (Some x) some =
      let here : texts_in m.texts t ≡ x.now = ap (λ o. unwrap_or o []) (sym some) in
      record {
        said = ap (said_at t) (sym here) ∙ texts_are t;
        all = ap (λ xs. map (λ s. s.0) (said_at t xs)) (sym here) ∙ recorded t;
        waiting = waiting_is t x.now ∙ ap (λ xs. length (map (λ s. s.0) (said_at t xs))) (sym here) ∙ ap length (recorded t);
        released = subst (λ xs. IsReleased (plain k.scripts) k.start (events_of k) t (released (said_at t xs))) here (releases t);
      }

  -- ---- what is left where nothing is undecided
  pub texts_left : undecided_at k ≡ [] → (t : ℕ) → LeavesTexts k t (released_at m.texts t)
  texts_left none t =
      let ran = effects (plain k.scripts) k.start (record_at k) in
      let clear : AllClear (texts_at k t) =
      subst (λ gs. AllClear (said_with (plain k.scripts) t (tags_along (plain k.scripts).order gs (λ g. []) ran) ran)) (sym none) (all_clear (plain k.scripts) t (λ g. []) ran) in
      let same = released_said t (texts_in m.texts t) in
      record {
        all = sym same ∙ ap released (texts_are t) ∙ clear_released (texts_at k t) clear;
        released = subst (IsReleased (plain k.scripts) k.start (events_of k) t) same (releases t);
      }

-- a kernel with these parts where its trace has one event more
abbrev pub after_event : KernelView → Parts → List Event → KernelView
after_event k b es = record { number = b.guesses.kernel; scripts = k.scripts; start = k.start; limit = k.limit; earlier = b.guesses.earlier; trace = es }

module _ (k : KernelView) (m b : Parts) (whole : Stands k m) (same : b.guesses.earlier ≡ m.guesses.earlier) (es : List Event) (e : Event) (trace : es ≡ k.trace ++ e ∷ []) where
  earlier_is : b.guesses.earlier ≡ k.earlier
  earlier_is = same ∙ whole.earlier

  pub stands_more : MergedStands (plain k.scripts) k.start (events_of (with_event k e)) (machine_of b) → Stands (with_event k e) b
  stands_more stands = record { trace = stands; earlier = earlier_is; decided = whole.decided }

  pub stands_after : MergedStands (plain k.scripts) k.start (events_of (with_event k e)) (machine_of b) → Stands (after_event k b es) b
  stands_after stands = record {
    trace = subst (λ (xs : List Event). MergedStands (plain k.scripts) k.start (map image xs) (machine_of b)) (sym trace) stands;
    earlier = refl;
    decided = λ g is. whole.decided g (ap (λ ss. status_in ss g) (sym earlier_is) ∙ is);
  }

  pub last_after_event : last_guess (after_event k b es) ≡ number_after (last_guess k) e
  last_after_event = (λ i. fold number_after (length (earlier_is i)) (trace i)) ∙ fold-append number_after (length k.earlier) k.trace (e ∷ [])

  pub earlier_long : length b.guesses.earlier ≡ length k.earlier
  earlier_long = ap length earlier_is

-- what stands after a step
pub stepped_whole : (k : KernelView) (m b : Parts) (place left : ℕ) (pid : ℕ) (input : Input) (es : List Event) → IsWhole k m place
    → MergedTakes (plain k.scripts) (machine_of m) (record { pid = pid; input = input; guess = None }) (machine_of b)
    → b.guesses ≡ m.guesses → es ≡ k.trace ++ events.Step pid input ∷ [] → length b.opens ≤ left
    → IsWhole (after_event k b es) b left
stepped_whole k m b place left pid input es whole takes same trace room =
    let earlier : b.guesses.earlier ≡ m.guesses.earlier = ap (λ v. v.earlier) same in
    let e = events.Step pid input in
    let last = last_after_event k m b whole.stands earlier es e trace in
    let long = earlier_long k m b whole.stands earlier es e trace in
    let drawn = whole.drawn in
    let count : length b.guesses.statuses ≡ length m.guesses.statuses = ap (λ v. length v.statuses) same in
    record {
      stands = stands_after k m b whole.stands earlier es e trace (stands_stepped k m whole.stands pid input b takes);
      number = refl;
      drawn = omega (arith, last, long, drawn, count);
      place = room;
    }

-- a step that is no guess opens none
pub no_more_opens : (scripts : Scripts) (a b : Parts) (pid : ℕ) (input : Input) → MergedTakes (plain scripts) (machine_of a) (record { pid = pid; input = input; guess = None }) (machine_of b) → length b.opens ≡ length a.opens
no_more_opens scripts a b pid input takes = ap length (takes.opens ∙ append-nil a.opens)

-- ---- at the start

none_drawn : (number g : ℕ) → status_since (opened number) g ≡ None
none_drawn number g = nothing_in (g - 0)

pub started : (scripts : Scripts) (start : State) (number : ℕ) (m : Parts) → IsAtStart number start m → machine_of m ≡ machine_at_start (plain scripts) start
started scripts start number m at = λ i. record {
  state = record { look = λ e. at.look e i; logs = λ e. at.logs e i; opens = at.opens i };
  status = λ g. (ap (λ v. status_since v g) at.guesses ∙ none_drawn number g) i;
  texts = λ t. (ap (λ x. said_at t (texts_in x t)) at.texts ∙ ap (λ o. said_at t (unwrap_or o [])) (map.get-empty nat_cmp t)) i;
}

-- a machine that stands for a trace, without a note left out
none_merged : (boot : BootView) (m : Machine Entity EntityState Saying) → RepresentsTrace (plain boot.scripts) (start_of boot) [] m → MergedStands (plain boot.scripts) (start_of boot) [] m
none_merged boot m stands = record {
  full = m;
  stands = stands;
  merged = record { look = λ e. refl; logs = λ e. merged.all_kept [] (m.state.logs e); opens = refl; status = λ g. refl; texts = λ t. refl };
}

pub booted_whole : (number limit place : ℕ) (boot : BootView) (m : Parts) → IsAtStart number (start_of boot) m → IsWhole (booted number boot limit) m place
booted_whole number limit place boot m at =
    let none : length m.opens ≡ 0 = ap length at.opens in
    record {
      stands = record {
        trace = subst (λ x. MergedStands (plain boot.scripts) (start_of boot) [] x) (sym (started boot.scripts (start_of boot) number m at)) (none_merged boot _ (machine_runs.stands_first (plain boot.scripts) entity_total entity_exact (start_of boot)));
        earlier = ap (λ v. v.earlier) at.guesses;
        decided = λ g is. (let none : None ≡ Some Undecided = sym (nothing_in g) ∙ is in cc);
      };
      number = ap (λ v. v.kernel) at.guesses;
      drawn = (let count = ap (λ v. length v.statuses) at.guesses in omega (arith, count));
      place = omega (arith, none);
    }
