-- A replay of a sound trace goes on with each event that may come next, and else the event has the fault that is told.
use Rattle.sk_plain.proofs.Cites.{◌≡◌, ℕ, zero, suc, ◌+◌, ◌<◌, true, false, List, [], ◌∷◌, ◌++◌, Option, Some, None}
use Rattle.sk_plain.proofs.Cites.{Result, Ok, Err, IsOk, length, map, take, drop, get_or, inl, inr, refl, sym, ◌∙◌, ap}
use Rattle.sk_plain.proofs.Cites.{subst, arith, IsErr, OnOk, IfErr, Contains, run_append, true≢false, false≢true}
use Rattle.sk_plain.proofs.Cites.{ltb-true, ltb-false, eqb-true, or_cases, false_from_ne_true, true_from_ne_false}
use Rattle.sk_plain.proofs.Cites.{Contains-push, run, outcome, after, has, Happens, Taken, Commit, Fail, IsDrawn}
use Rattle.sk_plain.proofs.Cites.{IsAllowed, IsSound, StatusIs, Record, marks, record_of, recorded, undecided_of}
use Rattle.sk_plain.proofs.Cites.{no_record, Undecided, sound_first, sound_taken, sound_commit, sound_fail, entries_are}
use Rattle.sk_plain.proofs.Cites.{undecided_is, drawn_more, is_drawn, tests, recorded_more, entity_total, entity_exact}
use Rattle.sk_plain.proofs.Cites.{State, EntryView, Scripts, plain, Event, Replay, EventFault, TraceFault, Refused}
use Rattle.sk_plain.proofs.Cites.{UnknownGuess, NoStart, Memory, image, is_made, seen, is_above, option_or, IsGreatest}
use Rattle.sk_plain.proofs.Cites.{IsReplay, HasTaken, StepFault, HasDecided, DecisionFault, Goes}
use Rattle.sk_plain.proofs.Cites.{IsFirstFault, IsRefused, IsTaken, FaultIn, StopsIn}
use Rattle.sk_plain.specs.declared.replay.EventFault.TheVariants as faults
use Rattle.sk_trace.specs.declared.event.Event.TheVariants as events
use Rattle.sk_plain.proofs.Settled.{adds}

abbrev Events : Type 0
Events = List (Happens EntryView)

not_both : {A B : Type 0} (r : Result A B) → IsOk r → IsErr r → ⊥
not_both (Ok x) ok err = false≢true err
not_both (Err x) ok err = false≢true ok

still_there : (es : Events) (e x : Happens EntryView) → Contains es x → Contains (es ++ e ∷ []) x
still_there [] e x (k, lt, is) = absurd (omega arith)
still_there (y ∷ es) e x (zero, lt, is) = (zero, omega arith, is)
still_there (y ∷ es) e x (suc k, lt, is) = let there = still_there es e x (k, omega arith, is) in (suc there.0, omega arith, there.2)

-- ---- the greatest number of a guess
module _ (scripts : Scripts) (start : State) where
  drawn_still : (es : Events) (e : Happens EntryView) (g : ℕ) → IsDrawn (plain scripts) es g → IsDrawn (plain scripts) (es ++ e ∷ []) g
  drawn_still es e g d = (d.0, still_there es e (Taken d.0) d.1, d.2)

  -- an event that draws no guess leaves it
  greatest_stays : (es : Events) (e : Happens EntryView) → ((n : EntryView) (g : ℕ) → e ≡ Taken n → n.guess ≡ Some g → ⊥)
      → (o : Option ℕ) → IsGreatest scripts es o → IsGreatest scripts (es ++ e ∷ []) o
  greatest_stays es e other None none =
      λ h d. elim (drawn_more (plain scripts) start es e h d) [ inl before ↦ none h before | inr new ↦ other new.0 h new.1 new.2 ]
  greatest_stays es e other (Some g) is = (
    drawn_still es e g is.0,
    λ h d. elim (drawn_more (plain scripts) start es e h d) [ inl before ↦ is.1 h before | inr new ↦ absurd (other new.0 h new.1 new.2) ],
  )

  -- a number above the greatest is above all
  above_all : (es : Events) (o : Option ℕ) (g : ℕ) → IsGreatest scripts es o → is_above o (Some g) ≡ true → (h : ℕ) → IsDrawn (plain scripts) es h → h < g
  above_all es None g none above h d = absurd (none h d)
  above_all es (Some x) g is above h d = let le = is.1 h d in let lt = ltb-true x g above in omega (arith, le, lt)

  same_entry : (n m : EntryView) → Taken n ≡ Taken m → n ≡ m
  same_entry n m is =
      let entry : Happens EntryView → EntryView = λ e. elim e [ Taken x ↦ x | Commit g ↦ n | Fail g ↦ n ] in
      ap entry is

  none_drawn : (n m : EntryView) (g : ℕ) → n.guess ≡ None → Taken n ≡ Taken m → m.guess ≡ Some g → ⊥
  none_drawn n m g none same mark = let is : None ≡ Some g = sym none ∙ ap (λ (e : EntryView). e.guess) (same_entry n m same) ∙ mark in cc

  newest_is : (es : Events) (n : EntryView) (o m : Option ℕ) → n.guess ≡ m → IsGreatest scripts es o → is_above o m ≡ true → IsGreatest scripts (es ++ Taken n ∷ []) (option_or m o)
  newest_is es n o None mark is above = greatest_stays es (Taken n) (λ m g same some. none_drawn n m g mark same some) o is
  newest_is es n o (Some g) mark is above = (
    (n, Contains-push es (Taken n), mark),
    λ h d. elim (drawn_more (plain scripts) start es (Taken n) h d) [
      | inl before ↦ let lt = above_all es o g is above h before in omega (arith, lt)
      | inr new ↦
          let same : Some g ≡ Some h = sym mark ∙ ap (λ (e : EntryView). e.guess) (same_entry n new.0 new.1) ∙ new.2 in
          let equal : g ≡ h = cc in
          omega (arith, equal)
    ],
  )

module _ (scripts : Scripts) (start : State) where
  allowed_from : (es : Events) (n : EntryView) (o : Option ℕ) → IsGreatest scripts es o → is_above o n.guess ≡ true → IsAllowed (plain scripts) start es (Taken n)
  allowed_from es n o is above g h mark d = above_all scripts start es o g is (sym (ap (is_above o) mark) ∙ above) h d

  not_allowed : (es : Events) (n : EntryView) (o m : Option ℕ) → n.guess ≡ m → IsGreatest scripts es o → is_above o m ≡ false → IsAllowed (plain scripts) start es (Taken n) → ⊥
  not_allowed es n None m mark is below allowed = true≢false below
  not_allowed es n (Some g) None mark is below allowed = true≢false below
  not_allowed es n (Some g) (Some h) mark is below allowed =
      let lt = allowed h g mark is.0 in let le = ltb-false g h below in omega (arith, lt, le)

  run_last : (s : State) (ns : List EntryView) (n : EntryView) → run (plain scripts) s (ns ++ n ∷ []) ≡ after (plain scripts) (outcome (plain scripts) (run (plain scripts) s ns) n) (run (plain scripts) s ns)
  run_last s [] n = refl
  run_last s (m ∷ ns) n = run_last (after (plain scripts) (outcome (plain scripts) s m) s) ns n

-- the mark of an entry is the guess that it adds
mark_of : (m : Option ℕ) (g : ℕ) → has g (marks m) ≡ true → m ≡ Some g
mark_of None g here = absurd (true≢false (sym here))
mark_of (Some x) g here = elim (or_cases _ _ here) [ inl is ↦ ap Some (eqb-true x g is) | inr none ↦ absurd (true≢false (sym none)) ]

-- ---- one event more
module _ (scripts : Scripts) (start : State) (es : Events) (old new : Replay) (r : IsReplay scripts start es old) where
  entries_is : (seen old.standing).entries ≡ record_of (plain scripts) start es
  entries_is = ap (λ (x : Record EntryView). x.entries) r.record_is ∙ entries_are (plain scripts) start es

  -- the state of the replay is that of its record
  now_is : old.now ≡ run (plain scripts) start (record_of (plain scripts) start es)
  now_is = r.now ∙ ap (run (plain scripts) start) entries_is

  open_is : old.standing.undecided.items ≡ undecided_of (plain scripts) start es
  open_is = ap (λ (x : Record EntryView). x.undecided) r.record_is

  -- a guess of the record was drawn, so one above the greatest is none of its guesses
  made_drawn : (g : ℕ) → is_made (seen old.standing).entries g ≡ true → IsDrawn (plain scripts) es g
  made_drawn g made =
      (is_drawn (plain scripts) es g).0 (true_from_ne_false _ (λ none.
      true≢false (sym made ∙ ap (λ (ns : List EntryView). is_made ns g) entries_is ∙ ((tests (plain scripts) start g es r.sound).undrawn none).2)))

  is_fresh : (n : EntryView) → is_above old.greatest n.guess ≡ true → (g : ℕ) → has g (marks n.guess) ≡ true → is_made (seen old.standing).entries g ≡ false
  is_fresh n above g here =
      false_from_ne_true _ (λ made.
      let mark : n.guess ≡ Some g = mark_of n.guess g here in
      let lt = above_all scripts start es old.greatest g r.greatest (sym (ap (is_above old.greatest) mark) ∙ above) g (made_drawn g made) in
      omega (arith, lt))

  took : (n : EntryView) → HasTaken scripts old n new → IsReplay scripts start (es ++ Taken n ∷ []) new
  took n t =
      let K = plain scripts in
      let allowed = allowed_from scripts start es n old.greatest r.greatest t.above in
      let ok : IsOk (outcome K (run K start (record_of K start es)) n) = subst (λ (s : State). IsOk (outcome K s n)) now_is t.accepted in
      let more = adds scripts old.standing new.standing n t.settled t.base t.behind t.undecided (is_fresh n t.above) start r.stands in
      record {
        sound = sound_taken K start es n r.sound allowed ok;
        record_is = more.1 ∙ ap (λ (x : Record EntryView). recorded K start x (Taken n)) r.record_is ∙ sym (recorded_more K start no_record es (Taken n));
        stands = more.0;
        now =
            t.now
            ∙ ap (λ (s : State). after K (outcome K s n) s) r.now
            ∙ sym (run_last scripts start start (seen old.standing).entries n)
            ∙ ap (λ (x : Record EntryView). run K start x.entries) (sym more.1);
        greatest = subst (IsGreatest scripts (es ++ Taken n ∷ [])) (sym t.greatest) (newest_is scripts start es n old.greatest n.guess refl r.greatest t.above);
      }

  is_open : (g : ℕ) → has g old.standing.undecided.items ≡ true → StatusIs (plain scripts) start es g Undecided
  is_open g known = (undecided_is (plain scripts) start es r.sound g).0 (ap (has g) (sym open_is) ∙ known)

  committed : (g : ℕ) → HasDecided scripts old g (events.Commit g) old.now new → IsReplay scripts start (es ++ Commit g ∷ []) new
  committed g c =
      let K = plain scripts in
      let went = c.goes start r.stands tt in
      record {
        sound = sound_commit K start es g r.sound (is_open g c.known);
        record_is = went.1 ∙ ap (λ (x : Record EntryView). recorded K start x (Commit g)) r.record_is ∙ sym (recorded_more K start no_record es (Commit g));
        stands = went.0;
        now = c.now ∙ r.now ∙ ap (λ (x : Record EntryView). run K start x.entries) (sym went.1);
        greatest = subst (IsGreatest scripts (es ++ Commit g ∷ [])) (sym c.greatest) (greatest_stays scripts start es (Commit g) (λ n h same mark. cc) old.greatest r.greatest);
      }

  failed : (g : ℕ) → HasDecided scripts old g (events.Fail g) (run (plain scripts) new.standing.after new.standing.behind.items) new → IsReplay scripts start (es ++ Fail g ∷ []) new
  failed g f =
      let K = plain scripts in
      let went = f.goes start r.stands f.known in
      record {
        sound = sound_fail K start entity_total entity_exact es g r.sound (is_open g f.known);
        record_is = went.1 ∙ ap (λ (x : Record EntryView). recorded K start x (Fail g)) r.record_is ∙ sym (recorded_more K start no_record es (Fail g));
        stands = went.0;
        now =
            f.now
            ∙ ap (λ (s : State). run K s new.standing.behind.items) went.0.after
            ∙ sym (run_append K start new.standing.settled.items new.standing.behind.items);
        greatest = subst (IsGreatest scripts (es ++ Fail g ∷ [])) (sym f.greatest) (greatest_stays scripts start es (Fail g) (λ n h same mark. cc) old.greatest r.greatest);
      }

  -- ---- and what is told where it does not go on
  pub taken_goes : (n : EntryView) (result : Result (Unit {0}) EventFault) → OnOk result (HasTaken scripts old n new) → IfErr result (StepFault scripts old n) → Goes scripts start es (Taken n) new result
  taken_goes n (Ok u) t fault = took n t
  taken_goes n (Err faults.Refused) t fault = subst (λ (s : State). IsErr (outcome (plain scripts) s n)) now_is fault
  taken_goes n (Err faults.Unknown) t fault = (
    λ refused. not_both _ (subst (λ (s : State). IsOk (outcome (plain scripts) s n)) now_is fault.0) refused,
    λ allowed. not_allowed scripts start es n old.greatest n.guess refl r.greatest fault.1 allowed,
  )
  taken_goes n (Err faults.Memory) t fault = (
    λ refused. not_both _ (subst (λ (s : State). IsOk (outcome (plain scripts) s n)) now_is fault.0) refused,
    allowed_from scripts start es n old.greatest r.greatest fault.1,
  )

  not_open : (g : ℕ) → has g old.standing.undecided.items ≡ false → StatusIs (plain scripts) start es g Undecided → ⊥
  not_open g unknown is = true≢false (sym ((undecided_is (plain scripts) start es r.sound g).1 is) ∙ ap (has g) (sym open_is) ∙ unknown)

  pub commit_goes : (g : ℕ) (result : Result (Unit {0}) EventFault) → OnOk result (HasDecided scripts old g (events.Commit g) old.now new) → IfErr result (DecisionFault old g) → Goes scripts start es (Commit g) new result
  commit_goes g (Ok u) c fault = committed g c
  commit_goes g (Err faults.Refused) c fault = absurd fault
  commit_goes g (Err faults.Unknown) c fault = (λ refused. refused, λ allowed. not_open g fault allowed)
  commit_goes g (Err faults.Memory) c fault = (λ refused. refused, is_open g fault)

  pub fail_goes : (g : ℕ) (result : Result (Unit {0}) EventFault) → OnOk result (HasDecided scripts old g (events.Fail g) (run (plain scripts) new.standing.after new.standing.behind.items) new) → IfErr result (DecisionFault old g) → Goes scripts start es (Fail g) new result
  fail_goes g (Ok u) f fault = failed g f
  fail_goes g (Err faults.Refused) f fault = absurd fault
  fail_goes g (Err faults.Unknown) f fault = (λ refused. refused, λ allowed. not_open g fault allowed)
  fail_goes g (Err faults.Memory) f fault = (λ refused. refused, is_open g fault)

-- where nothing has happened yet
pub begins : (scripts : Scripts) (start : State) (r : Replay) → r.now ≡ start → r.standing.after ≡ start → r.standing.settled.items ≡ [] → r.standing.behind.items ≡ [] → r.standing.undecided.items ≡ [] → r.greatest ≡ None → IsReplay scripts start [] r
begins scripts start r now base settled behind undecided greatest =
    let empty : (seen r.standing).entries ≡ [] = λ i. settled i ++ behind i in
    record {
      sound = sound_first (plain scripts) start;
      record_is = λ i. record { entries = empty i; undecided = undecided i };
      stands = record {
        after = base ∙ ap (run (plain scripts) start) (sym settled);
        unmade = λ g here. ap (λ ns. is_made ns g) settled;
      };
      now = now ∙ ap (run (plain scripts) start) (sym empty);
      greatest = subst (IsGreatest scripts []) (sym greatest) (λ h d. absurd (none_yet d.1));
    } where
      none_yet : {x : Happens EntryView} → Contains [] x → ⊥
      none_yet (k, lt, is) = omega arith

-- the first event of a sound trace has no fault
pub first_is_taken : (scripts : Scripts) (start : State) (e : Happens EntryView) (es : Events) → IsSound (plain scripts) start (e ∷ es)
    → IsFirstFault scripts start (e ∷ es) 1 (IsTaken scripts start)
first_is_taken scripts start e es sound = record {
  before = [];
  event = e;
  later = es;
  parts = refl;
  place = refl;
  sound = sound_first (plain scripts) start;
  fault = (not_refused e sound, sound.allowed [] es e refl);
} where
  not_refused : (e : Happens EntryView) → IsSound (plain scripts) start (e ∷ es) → ¬ (IsRefused scripts start [] e)
  not_refused (Taken n) sound refused = not_both _ (sound.legal (Taken n ∷ []) es refl).0 refused
  not_refused (Commit g) sound refused = refused
  not_refused (Fail g) sound refused = refused

-- the entries in the end, and that there was an event where some were settled
pub entries_of : (scripts : Scripts) (start : State) (es : Events) (r : Replay) → IsReplay scripts start es r → (seen r.standing).entries ≡ record_of (plain scripts) start es
entries_of scripts start es r is = ap (λ (x : Record EntryView). x.entries) is.record_is ∙ entries_are (plain scripts) start es

pub some_event : (scripts : Scripts) (start : State) (es : Events) (r : Replay) → IsReplay scripts start es r → ¬ (r.standing.settled.items ≡ []) → FaultIn scripts start es Memory
some_event scripts start [] r is some = absurd (some (front_none r.standing.settled.items r.standing.behind.items (ap (λ (x : Record EntryView). x.entries) is.record_is))) where
  front_none : (xs ys : List EntryView) → xs ++ ys ≡ [] → xs ≡ []
  front_none [] ys none = refl
  front_none (x ∷ xs) ys none = cc
some_event scripts start (e ∷ es) r is some = (1, first_is_taken scripts start e es is.sound)

-- ---- the first fault among events
module _ {A B : Type 0} (f : A → B) where
  pub split_at : (xs : List A) (i : ℕ) (d : A) → i < length xs → map f xs ≡ map f (take i xs) ++ f (get_or xs i d) ∷ map f (drop (suc i) xs)
  split_at [] i d lt = absurd (omega arith)
  split_at (y ∷ xs) zero d lt = refl
  split_at (y ∷ xs) (suc i) d lt = ap (λ rest. f y ∷ rest) (split_at xs i d (omega arith))

  pub length_before : (xs : List A) (i : ℕ) → i < length xs → length (map f (take i xs)) ≡ i
  length_before [] i lt = absurd (omega arith)
  length_before (y ∷ xs) zero lt = refl
  length_before (y ∷ xs) (suc i) lt = ap suc (length_before xs i (omega arith))

pub first_fault : (scripts : Scripts) (start : State) (es : List Event) (i at : ℕ) (x : Event) (r : Replay) (HasFault : Events → Happens EntryView → Type 0)
    → i < length es → x ≡ get_or es i x → at ≡ i → IsReplay scripts start (map image (take i es)) r
    → HasFault (map image (take i es)) (image x) → IsFirstFault scripts start (map image es) (at + 1) HasFault
first_fault scripts start es i at x r HasFault within item place replay fault = record {
  before = map image (take i es);
  event = image x;
  later = map image (drop (suc i) es);
  parts = split_at image es i x within ∙ ap (λ (y : Event). map image (take i es) ++ image y ∷ map image (drop (suc i) es)) (sym item);
  place = ap (λ k. k + 1) (place ∙ sym (length_before image es i within));
  sound = replay.sound;
  fault = fault;
}

-- what is told of the events is told of the whole replay
pub stops_in : (scripts : Scripts) (start : State) (es : Events) (why : TraceFault) → StopsIn scripts start es why → FaultIn scripts start es why
stops_in scripts start es (Refused at) h = h
stops_in scripts start es (UnknownGuess at) h = h
stops_in scripts start es NoStart h = absurd h
stops_in scripts start es Memory h = h
