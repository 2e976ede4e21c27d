-- The machine stands for its trace after every step, commit and failure, and so is what the plain kernel makes of the trace's record.
use Rattle.sk_record.proofs.Names.{◌≡◌, ℕ, Bool, true, not, ◌&&◌, List, [], ◌∷◌, ◌++◌, Ok, Err, refl, sym, ◌∙◌, ap}
use Rattle.sk_record.proofs.Names.{subst, ◌↔◌, is_ok, IsTotalOrder, IsStrictlyIncreasing, FinMap, get, IsAntisymmetric}
use Rattle.sk_record.proofs.Names.{false≢true, fold-append, perform, is_in, dirt, hits, keep, System, outcome, run}
use Rattle.sk_record.proofs.Names.{effects, strike, has, Event, Taken, Commit, Fail, Undecided, StatusIs, IsTagOf}
use Rattle.sk_record.proofs.Names.{IsAllowed, IsSound, record_of, effects_of, all_recorded, no_record, still_marked}
use Rattle.sk_record.proofs.Names.{Represents, tags_at, numbers, Machine, TextsRepresent, RepresentsTrace, IsPlainRun}
use Rattle.sk_record.proofs.Names.{Takes, Commits, Fails, moved, took_by, machine_after, machine_at_start}
use Rattle.sk_record.proofs.Chains.{dirt_is}
use Rattle.sk_record.proofs.Machine.{has_filter}
use Rattle.sk_record.proofs.UndoStates.{and_both, took, failed, committed_still, begins}
use Rattle.sk_record.proofs.Tidy.{recorded_more, tags_are}
use Rattle.sk_record.proofs.Sound.{each_event, sound_first, sound_taken, sound_commit, sound_fail, entries_are, undecided_is, accepted_last, fresh_from, in_entries, marked_is}
use Rattle.sk_record.proofs.Statuses.{status_taken, status_commit, status_fail, rests_are, none_yet}
use Rattle.sk_record.proofs.Undecided.{undecided_rises}
use Rattle.sk_record.proofs.Texts.{texts_took, texts_committed, texts_failed}
use Rattle.sk_record.proofs.Released.{release_is, texts_are}
use Rattle.sk_record.proofs.Struck.{struck_runs}

module _ {E V W F N : Type 0} (K : System E V W F N) (total : IsTotalOrder K.order) (exact : IsAntisymmetric K.order) (start : FinMap K.order V) where
  -- what a step does where the machine is, the plain kernel does on the record
  pub same_outcome : (es : List (Event N)) (m : Machine E V W) → RepresentsTrace K start es m → (n : N) → perform m.state.look (K.act n) ≡ outcome K (run K start (record_of K start es)) n
  same_outcome es m s n =
      (λ i. perform (λ e. s.state.look e i) (K.act n)) ∙ ap (λ ns. outcome K (run K start ns) n) (entries_are K start es)

  pub stands_taken : (es : List (Event N)) (a : Machine E V W) (n : N) (b : Machine E V W) → RepresentsTrace K start es a → IsAllowed K start es (Taken n) → Takes K a n b → RepresentsTrace K start (es ++ Taken n ∷ []) b
  stands_taken es a n b s allowed t =
      let r = all_recorded K start no_record es in
      let sound = sound_taken K start es n s.sound allowed (ap is_ok (sym (same_outcome es a s n) ∙ t.state.accepted)) in
      let fresh = fresh_from K start es n sound in
      record {
        sound = sound;
        state = subst (λ r. Represents K start r b.state) (sym (recorded_more K start no_record es (Taken n))) (took K total exact start r a.state n b.state s.state fresh t.state);
        statuses = status_taken K start es n sound a.status b.status s.statuses t.status;
        texts = subst (λ r. TextsRepresent K start r b.texts) (sym (recorded_more K start no_record es (Taken n)))
            (texts_took K total exact start r a.state n b.state s.state fresh t.state a.texts b.texts s.texts t.texts);
      }

  pub stands_committed : (es : List (Event N)) (a : Machine E V W) (c : ℕ) (b : Machine E V W) → RepresentsTrace K start es a → StatusIs K start es c Undecided → Commits a c b → RepresentsTrace K start (es ++ Commit c ∷ []) b
  stands_committed es a c b s is_open t =
      let r = all_recorded K start no_record es in
      let sound = sound_commit K start es c s.sound is_open in
      record {
        sound = sound;
        state = subst (λ r. Represents K start r b.state) (sym (recorded_more K start no_record es (Commit c))) (committed_still K total exact start r a.state c b.state s.state t.state);
        statuses = status_commit K start es c sound a.status b.status s.statuses t.status;
        texts = subst (λ r. TextsRepresent K start r b.texts) (sym (recorded_more K start no_record es (Commit c))) (texts_committed K total exact start r c a.texts b.texts s.texts t.texts);
      }

  pub stands_failed : (es : List (Event N)) (a : Machine E V W) (c : ℕ) (b : Machine E V W) → RepresentsTrace K start es a → StatusIs K start es c Undecided → Fails a c b → RepresentsTrace K start (es ++ Fail c ∷ []) b
  stands_failed es a c b s is_open t =
      let r = all_recorded K start no_record es in
      let sound = sound_fail K start total exact es c s.sound is_open in
      let there = (undecided_is K start es s.sound c).1 is_open in
      let left : (g : ℕ) → still_marked (keep (hits K.order c [] (effects K start r.entries)) (effects K start r.entries)) g ≡ in_entries K start g (strike K start (record_of K start es) c) =
      λ g. ap (λ ts. still_marked ts g) (sym (struck_runs K total exact start r.entries c s.state.legal).steps)
      ∙ marked_is K start start (strike K start r.entries c) g
      ∙ ap (λ ns. in_entries K start g (strike K start ns c)) (entries_are K start es) in
      record {
        sound = sound;
        state = subst (λ r. Represents K start r b.state) (sym (recorded_more K start no_record es (Fail c))) (failed K total exact start r a.state c b.state s.state there t.state);
        statuses = status_fail K start es c sound a.status b.status s.statuses a.state.opens s.state.guesses
            (λ g. rests_are K (effects K start r.entries) r.undecided c there g a.state.opens s.state.own_tags ∙ ap (λ x. has g (numbers a.state.opens) && not x) (left g))
            t.status;
        texts = subst (λ r. TextsRepresent K start r b.texts) (sym (recorded_more K start no_record es (Fail c))) (texts_failed K total exact start r c s.state.legal there a.texts b.texts s.texts t.texts);
      }

  pub stands_first : RepresentsTrace K start [] (machine_at_start K start)
  stands_first = record { sound = sound_first K start; state = begins K total exact start; statuses = none_yet K start; texts = λ t. refl }

  -- the open guesses are the undecided ones
  pub open_is : (es : List (Event N)) (m : Machine E V W) → RepresentsTrace K start es m → (g : ℕ) → (has g (numbers m.state.opens) ≡ true) ↔ StatusIs K start es g Undecided
  open_is es m s g =
      let is = undecided_is K start es s.sound g in
      ((λ here. is.0 (ap (has g) (sym s.state.guesses) ∙ here)), λ is_open. ap (has g) s.state.guesses ∙ is.1 is_open)

  -- what stands for a trace is what the plain kernel makes of the trace's record
  exact_tags : (es : List (Event N)) (m : Machine E V W) → RepresentsTrace K start es m → (e : E) (g : ℕ) → (has g (tags_at m.state e) ≡ true) ↔ IsTagOf K start es e g
  exact_tags es m s e g =
      let r = all_recorded K start no_record es in
      let dirty : Bool = is_in K.order (dirt K.order g [] (effects_of K start es)) e in
      let is : has g (tags_at m.state e) ≡ (dirty && has g r.undecided) =
      ap (has g) (tags_are K total exact start r m.state s.state e)
      ∙ has_filter (λ g. is_in K.order (dirt K.order g [] (effects K start r.entries)) e) g r.undecided
      ∙ ap (λ ns. is_in K.order (dirt K.order g [] (effects K start ns)) e && has g r.undecided) (entries_are K start es) in
      let of_dirt = dirt_is total g exact (effects_of K start es) e in
      let of_open = undecided_is K start es s.sound g in (
        λ here. let both = and_both dirty (has g r.undecided) (sym is ∙ here) in (of_open.0 both.1, of_dirt.0 both.0),
        λ d. is ∙ (λ i. of_dirt.1 d.1 i && of_open.1 d.0 i),
      )

  pub plain_run : (es : List (Event N)) (m : Machine E V W) → RepresentsTrace K start es m → IsPlainRun K start es m
  plain_run es m s = record {
    values = λ e. s.state.look e ∙ ap (λ ns. get (run K start ns) e) (entries_are K start es);
    tags = exact_tags es m s;
    statuses = s.statuses;
    opens = s.state.guesses;
    rising = subst IsStrictlyIncreasing (sym s.state.guesses) (undecided_rises K start es s.sound);
    texts = texts_are K total exact start es m.texts s.texts;
    releases = release_is K total exact start es s.sound m.texts s.texts;
  }

  -- ---- the machine itself
  moves : (es : List (Event N)) (e : Event N) → IsSound K start (es ++ e ∷ []) → (m : Machine E V W) → RepresentsTrace K start es m → RepresentsTrace K start (es ++ e ∷ []) (moved K m e)
  moves es (Taken n) sound m s =
      let same = same_outcome es m s n in
      elim (perform m.state.look (K.act n)) as (λ o. perform m.state.look (K.act n) ≡ o → RepresentsTrace K start (es ++ Taken n ∷ []) (took_by K m n o)) [
        | Ok f ↦ λ is. stands_taken es m n (took_by K m n (Ok f)) s (sound.allowed es [] (Taken n) refl)
            (record { state = record { effect = f; accepted = is; look = λ e. refl; logs = λ e. refl; opens = refl }; status = λ g. refl; texts = λ t. refl })
        | Err why ↦ λ is. absurd (false≢true (sym (ap is_ok (sym same ∙ is)) ∙ accepted_last K start es n sound))
      ] refl
  moves es (Commit c) sound m s =
      stands_committed es m c (moved K m (Commit c)) s (sound.allowed es [] (Commit c) refl) (record { state = record { look = λ e. refl; logs = λ e. refl; opens = refl }; status = λ g. refl; texts = λ t. refl })
  moves es (Fail c) sound m s =
      stands_failed es m c (moved K m (Fail c)) s (sound.allowed es [] (Fail c) refl) (record { state = record { look = λ e. refl; logs = λ e. refl; opens = refl }; status = λ g. refl; texts = λ t. refl })

  pub machine_stands : (es : List (Event N)) → IsSound K start es → RepresentsTrace K start es (machine_after K start es)
  machine_stands = each_event K start (λ es. RepresentsTrace K start es (machine_after K start es)) stands_first
      (λ es e sound s. subst (RepresentsTrace K start (es ++ e ∷ [])) (sym (fold-append (moved K) (machine_at_start K start) es (e ∷ []))) (moves es e sound (machine_after K start es) s))

  pub machine_is_plain_run : (es : List (Event N)) → IsSound K start es → IsPlainRun K start es (machine_after K start es)
  machine_is_plain_run es sound = plain_run es (machine_after K start es) (machine_stands es sound)
