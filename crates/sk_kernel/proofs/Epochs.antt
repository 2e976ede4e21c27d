-- A kernel behind a new epoch goes on as the one without it.
use Rattle.sk_kernel.proofs.Names.{◌≡◌, ℕ, ◌+◌, ◌||◌, length, cond, List, [], ◌++◌, map, Some, None, refl, sym, ◌∙◌, ap}
use Rattle.sk_kernel.proofs.Names.{subst, ◌↔◌, fold, map-append, fold-append, run, outcome, Happens, no_record}
use Rattle.sk_kernel.proofs.Names.{all_recorded, record_of, undecided_of, deps, IsTagOf, status_in, or_since}
use Rattle.sk_kernel.proofs.Names.{StatusSince, IsEpoch, EndsAt, Status, either_is, none_yet, Entity, LAST_GUESS}
use Rattle.sk_kernel.proofs.Names.{entity_total, entity_exact, GUESS_LIMIT, EntryView, Event, plain, image, TooMany}
use Rattle.sk_kernel.proofs.Names.{KernelView, HasStatus, RestsOn, events_of, state_at, undecided_at, tags_at}
use Rattle.sk_kernel.proofs.Names.{number_after, next_guess, IsNextEpoch, HasSoundTrace, AnswersAlike, with_events}
use Rattle.std.proofs.Common.{nat_le, nat_lt}
use Rattle.sk_kernel.proofs.Continues.{Continues, continues, state_is, tags_are, rests_are, status_behind, next_is_sound, old_is_sound}
use Rattle.sk_kernel.proofs.Lawful.{last_same}
use Rattle.sk_kernel.proofs.Numbers.{last_after}
use Rattle.sk_kernel.proofs.NextEpoch.{no_later}

module _ (old new : KernelView) (done : undecided_at old ≡ []) (next : IsNextEpoch old new) where
  -- the kernel of the new epoch after these events
  abbrev begun : List Event → KernelView
  begun es = record { number = old.number; scripts = old.scripts; start = state_at old; limit = old.limit; earlier = new.earlier; trace = es }

  was_in : (g : ℕ) (s : Status) → (status_in new.earlier g ≡ Some s) ↔ StatusSince (plain old.scripts) old.start old.earlier (events_of old) g s
  was_in g s =
      let here = either_is (plain old.scripts) (state_at old) (status_in new.earlier g) None [] g s (none_yet (plain old.scripts) (state_at old) g s) in
      let same : or_since (status_in new.earlier g) None ≡ status_in new.earlier g = no_later (status_in new.earlier g) in
      let kept : HasStatus (begun []) g s ↔ HasStatus old g s = subst (λ (k : KernelView). HasStatus k g s ↔ HasStatus old g s) next.view (next.statuses g s) in
      ((λ is. kept.0 (here.0 (same ∙ is))), λ has. sym same ∙ here.1 (kept.1 has))

  ends : EndsAt (plain old.scripts) old.start old.earlier (events_of old) (state_at old) new.earlier
  ends = record { settled = done; state = refl; same = was_in }

  last_is : length new.earlier ≡ fold (last_after (plain old.scripts)) (length old.earlier) (events_of old)
  last_is = next.drawn ∙ last_same old (length old.earlier) old.trace

  module _ (later : List Event) where
    -- the events of the epoch and the later ones
    abbrev both : List (Happens EntryView)
    both = events_of old ++ map image later

    both_is : events_of (with_events old later) ≡ both
    both_is = map-append image old.trace later

    begun_is : with_events new later ≡ begun later
    begun_is = ap (λ (k : KernelView). with_events k later) next.view

    pub sound_alike : HasSoundTrace old → HasSoundTrace (with_events old later) ↔ HasSoundTrace (with_events new later)
    sound_alike sound =
        subst (λ (k : KernelView). HasSoundTrace (with_events old later) ↔ HasSoundTrace k) (sym begun_is)
        (subst (λ (es : List (Happens EntryView)). IsEpoch (plain old.scripts) old.start old.earlier es ↔ HasSoundTrace (begun later)) (sym both_is) (
          next_is_sound (plain old.scripts) entity_total entity_exact old.start old.earlier (events_of old) new.earlier ends last_is (map image later),
          old_is_sound (plain old.scripts) entity_total entity_exact old.start old.earlier (events_of old) new.earlier ends last_is sound (map image later),
        ))

    module _ (sound : HasSoundTrace (with_events old later)) where
      whole : IsEpoch (plain old.scripts) old.start old.earlier both
      whole = subst (λ (es : List (Happens EntryView)). IsEpoch (plain old.scripts) old.start old.earlier es) both_is sound

      goes_on : Continues (plain old.scripts) entity_total entity_exact old.start (events_of old) done (map image later)
      goes_on = continues (plain old.scripts) entity_total entity_exact old.start (events_of old) done (map image later) whole.sound

      same_state : state_at (begun later) ≡ state_at (with_events old later)
      same_state =
          sym (state_is (plain old.scripts) entity_total entity_exact old.start (events_of old) done (map image later) goes_on)
          ∙ ap (λ es. run (plain old.scripts) old.start (record_of (plain old.scripts) old.start es)) (sym both_is)

      same_tags : (e : Entity) → tags_at (begun later) e ≡ tags_at (with_events old later) e
      same_tags e =
          sym (tags_are (plain old.scripts) entity_total entity_exact old.start (events_of old) done (map image later) goes_on whole.sound e)
          ∙ ap (λ es. deps (plain old.scripts) old.start (all_recorded (plain old.scripts) old.start no_record es) e) (sym both_is)

      same_rests : (e : Entity) (id : ℕ) → RestsOn (begun later) e id ↔ RestsOn (with_events old later) e id
      same_rests e id =
          subst (λ (es : List (Happens EntryView)). RestsOn (begun later) e id ↔ IsTagOf (plain old.scripts) old.start es e id) (sym both_is)
          (rests_are (plain old.scripts) entity_total entity_exact old.start (events_of old) done (map image later) goes_on whole.sound e id)

      same_undecided : undecided_at (begun later) ≡ undecided_at (with_events old later)
      same_undecided = sym goes_on.undecided ∙ ap (undecided_of (plain old.scripts) old.start) (sym both_is)

      same_next : next_guess (begun later) ≡ next_guess (with_events old later)
      same_next =
          ap (λ n. fold number_after n later + 1) next.drawn
          ∙ ap (λ n. n + 1) (sym (fold-append number_after (length old.earlier) old.trace later))

      same_status : (id : ℕ) (s : Status) → HasStatus (begun later) id s ↔ HasStatus (with_events old later) id s
      same_status id s =
          subst (λ (es : List (Happens EntryView)). HasStatus (begun later) id s ↔ StatusSince (plain old.scripts) old.start old.earlier es id s) (sym both_is)
          (status_behind (plain old.scripts) entity_total entity_exact old.start old.earlier (events_of old) new.earlier ends last_is (map image later) whole.sound id s)

      pub alike : AnswersAlike (with_events old later) (with_events new later)
      alike =
          subst (λ (k : KernelView). AnswersAlike (with_events old later) k) (sym begun_is) (record {
            number = refl;
            scripts = refl;
            state = same_state;
            tags = same_tags;
            rests = same_rests;
            undecided = same_undecided;
            next = same_next;
            statuses = same_status;
            steps = λ n. ap (λ s. outcome (plain old.scripts) s n) same_state;
            many = λ i. cond (nat_le GUESS_LIMIT (length (same_undecided i)) || nat_lt LAST_GUESS (same_next i)) (Some TooMany) None;
          })
