-- An epoch begins, and something happens.
use Rattle.real_epochs.proofs.Names.{◌≡◌, ◌||◌, ◌==◌, ℕ, Bool, true, false, cond, List, [], ◌∷◌, ◌++◌, map, Option, Some, None, inl, inr, refl}
use Rattle.real_epochs.proofs.Names.{sym, ◌∙◌, ap, subst, append_assoc, append-nil, nat_cmp, all_recorded, no_record}
use Rattle.real_epochs.proofs.Names.{record_of, Record, Taken, entries_are, fresh_from, marked_is, KeptView, Takes, Parts, next_of}
use Rattle.real_epochs.proofs.Names.{IsFirst, first, none_yet, starts, machine_of, with_told}
use Rattle.real_epochs.proofs.Names.{Event, Changes, Told, Says, Epoch, Story, all_in, changed_in, in_newest, in_none, Begun}
use Rattle.real_epochs.proofs.Names.{Entry, Opens, Does, host, tree, deed_of, entries_of, events_in, is_begun, nat_cmp_total, nat_cmp-IsAntisymmetric}
use Rattle.real_epochs.specs.Story.{Begins, Happens, no_story}
use Rattle.real_epochs.specs.Clean.{IsClean, IsCleanAt}
use Rattle.real_epochs.specs.Refusals.{misfit}
use Rattle.real_epochs.specs.Tells.{nothing, line_of, numbers_of, EpochsView, Goes, StandsAt, Tells}
use Rattle.real_epochs.specs.declared.refused.Refused.{Refused}
use Rattle.real_epochs.specs.declared.refused.Refused.TheVariants.{NoName, Changed}
use Rattle.real_epochs.proofs.Stories.{apart_more, apart_newest, clean_more, entries_more, event_last, events_all, events_does, events_more, numbers_more, same_numbers}
use Rattle.real_epochs.proofs.Moves.{guesses_kept, guesses_opened, steps_taken, stepped}

line_more : (k : ℕ) (es fs : List Epoch) → line_of k (es ++ fs) ≡ line_of k es ++ line_of k fs
line_more k [] fs = refl
line_more k (e ∷ es) fs = ap (λ xs. (record { token = record { kernel = k; id = e.number }; checkpoint = e.checkpoint }) ∷ xs) (line_more k es fs)

same_line : (event : Event) (k : ℕ) (es : List Epoch) → line_of k (in_newest event es) ≡ line_of k es
same_line event k [] = refl
same_line event k (e ∷ []) = refl
same_line event k (e ∷ f ∷ es) = ap (λ xs. (record { token = record { kernel = k; id = e.number }; checkpoint = e.checkpoint }) ∷ xs) (same_line event k (f ∷ es))

-- ---- an epoch begins

module _ (a b : EpochsView) (checkpoint : ℕ) where
  abbrev number : ℕ
  number = next_of a.parts.guesses

  abbrev fresh_epoch : Epoch
  fresh_epoch = record { number = number; checkpoint = checkpoint; events = [] }

  abbrev begun : Begun
  begun = record { token = record { kernel = a.parts.guesses.kernel; id = number }; checkpoint = checkpoint }

  pub begin_goes : Takes nat_cmp a.parts (deed_of (Opens number checkpoint)) (Some number) b.parts → b.line ≡ a.line ++ begun ∷ []
      → Goes (Begins number checkpoint) a b
  begin_goes takes more s t =
      let n : Entry = Opens number checkpoint in
      let stands = stepped t.moves t.out a.parts n b.parts t.stands (inr refl) takes in
      let none : is_begun number (t.before ++ entries_of s.waiting) ≡ false =
      ap (is_begun number) (sym (entries_are host nothing t.moves ∙ t.steps))
      ∙ sym (marked_is host nothing nothing (all_recorded host nothing no_record t.moves).entries number)
      ∙ (fresh_from host nothing t.moves n stands.stands.stands.sound).1 in
      let same : b.parts.guesses.kernel ≡ a.parts.guesses.kernel = ap (λ (v : KeptView). v.kernel) takes.guesses in
      record {
        before = t.before;
        moves = t.moves ++ Taken n ∷ [];
        out = t.out;
        stands = stands;
        steps = steps_taken t.moves n ∙ ap (λ ns. ns ++ n ∷ []) t.steps ∙ append_assoc t.before (entries_of s.waiting) (n ∷ [])
            ∙ ap (λ ns. t.before ++ ns) (sym (entries_more s.waiting (fresh_epoch ∷ [])));
        guesses = guesses_opened t.moves number checkpoint ∙ ap (λ gs. gs ++ number ∷ []) t.guesses ∙ sym (numbers_more s.waiting (fresh_epoch ∷ []));
        apart = apart_more number checkpoint t.before s.waiting t.apart none;
        clean = subst (IsClean []) (sym (entries_more s.waiting (fresh_epoch ∷ []))) (clean_more [] (entries_of s.waiting) n t.clean (λ p is. tt));
        accepted = t.accepted;
        shown = t.shown;
        line = more ∙ ap (λ bs. bs ++ begun ∷ []) t.line ∙ sym (line_more a.parts.guesses.kernel s.waiting (fresh_epoch ∷ []))
            ∙ ap (λ k. line_of k (s.waiting ++ fresh_epoch ∷ [])) (sym same);
      }

-- ---- something happens

-- what fits is clean
name_there : (b : Bool) (other : Option Refused) → cond b (Some NoName) other ≡ None → (b ≡ false) × (other ≡ None)
name_there true other none = cc
name_there false other none = (refl, none)

not_changed : (b : Bool) → cond b (Some Changed) None ≡ None → b ≡ false
not_changed true none = cc
not_changed false none = refl

fits_at : (s : Story) (event : Event) → misfit s event ≡ None → (p : List Event) → ((k : ℕ) → changed_in p k ≡ changed_in (all_in s.waiting) k)
    → IsCleanAt p (Does event)
fits_at s (Changes name version) fits p is = tt
fits_at s (Told name version) fits p is =
    let parts = name_there (name == tree) (cond (changed_in (all_in s.waiting) name) (Some Changed) None) fits in
    (is name ∙ not_changed (changed_in (all_in s.waiting) name) parts.1, parts.0)
fits_at s (Says stream output) fits p is = tt

clean_newest : (event : Event) (es : List Epoch) → IsClean [] (entries_of es)
    → ((p : List Event) → ((k : ℕ) → changed_in p k ≡ changed_in (all_in es) k) → IsCleanAt p (Does event)) → IsClean [] (entries_of (in_newest event es))
clean_newest event [] clean fits = tt
clean_newest event (e ∷ es) clean fits =
    subst (IsClean []) (sym (event_last event (e ∷ es)))
    (clean_more [] (entries_of (e ∷ es)) (Does event) clean (λ p is. fits p (λ k. is k ∙ ap (λ xs. changed_in xs k) (events_all (e ∷ es)))))

pub event_goes : (a b : EpochsView) (event : Event) → Takes nat_cmp a.parts (deed_of (Does event)) None b.parts → b.line ≡ a.line
    → ((s : Story) → Tells s a → misfit s event ≡ None) → Goes (Happens event) a b
event_goes a b event takes same fits s t =
    let n : Entry = Does event in
    let own : b.parts.guesses.kernel ≡ a.parts.guesses.kernel = ap (λ (v : KeptView). v.kernel) takes.guesses in
    record {
      before = t.before ++ map Does (in_none event s.waiting);
      moves = t.moves ++ Taken n ∷ [];
      out = t.out;
      stands = stepped t.moves t.out a.parts n b.parts t.stands (inl refl) takes;
      steps = steps_taken t.moves n ∙ ap (λ ns. ns ++ n ∷ []) t.steps ∙ append_assoc t.before (entries_of s.waiting) (n ∷ [])
          ∙ ap (λ ns. t.before ++ ns) (sym (event_last event s.waiting))
          ∙ sym (append_assoc t.before (map Does (in_none event s.waiting)) (entries_of (in_newest event s.waiting)));
      guesses = guesses_kept t.moves event ∙ t.guesses ∙ sym (same_numbers event s.waiting);
      apart = apart_newest event t.before s.waiting t.apart;
      clean = clean_newest event s.waiting t.clean (fits_at s event (fits s t));
      accepted = events_more t.before (map Does (in_none event s.waiting)) ∙ (λ i. t.accepted i ++ events_does (in_none event s.waiting) i);
      shown = t.shown;
      line = same ∙ t.line ∙ sym (same_line event a.parts.guesses.kernel s.waiting) ∙ ap (λ k. line_of k (in_newest event s.waiting)) (sym own);
    }

-- ---- nothing has happened

pub first_told : (a : EpochsView) → IsFirst host nothing a.parts → a.line ≡ [] → Tells no_story a
first_told a is none = record {
  before = [];
  moves = [];
  out = λ t. [];
  stands = record {
    status = λ g. None;
    agrees = none_yet host nothing a.parts is;
    stands = first host nat_cmp_total nat_cmp-IsAntisymmetric nothing (machine_of nat_cmp a.parts (λ g. None)) (starts host nothing a.parts is);
  };
  steps = refl;
  guesses = refl;
  apart = tt;
  clean = tt;
  accepted = refl;
  shown = λ t. refl;
  line = none;
}
