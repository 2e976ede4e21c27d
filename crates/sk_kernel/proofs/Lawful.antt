-- The laws of kernels, from those of records.
use Rattle.sk_kernel.proofs.Names.{◌≡◌, ℕ, ◌<◌, length, Bool, false, ◌||◌, List, [], ◌∷◌, ◌++◌, map, Some, None, refl}
use Rattle.sk_kernel.proofs.Names.{sym, subst, arith, fold, list_any, is_marked, written_value, has, run, Effect}
use Rattle.sk_kernel.proofs.Names.{Happens, Taken, IsTagOf, IsAllowed, record_of, all_recorded, no_record, deps}
use Rattle.sk_kernel.proofs.Names.{Undecided, status_in, in_trace, entity_cmp, Entity, entity_total, entity_exact}
use Rattle.sk_kernel.proofs.Names.{Input, EntryView, Event, EntityState, plain, Saying, image, KernelView, HasStatus}
use Rattle.sk_kernel.proofs.Names.{RestsOn, events_of, state_at, tags_at, number_after, next_guess, with_event}
use Rattle.sk_kernel.proofs.Names.{HasSoundTrace, WasDrawn, KeepsUnwritten, WritesAll}
use Rattle.std.specs.FinMap as map
use Rattle.sk_trace.specs.declared.event.Event.TheVariants as events
use Rattle.sk_kernel.proofs.Whole.{map_more, no_guess, some_same}
use Rattle.sk_kernel.proofs.Numbers.{last_after, last_is_greatest}
use Rattle.sk_kernel.proofs.Unwritten.{value_stays, tags_stay, value_written, tags_written, none_rests, none_tagged}

module _ (k : KernelView) where
  pub last_same : (last : ℕ) (es : List Event) → fold number_after last es ≡ fold (last_after (plain k.scripts)) last (map image es)
  last_same last [] = refl
  last_same last (events.Step pid input ∷ es) = last_same last es
  last_same last (events.Guess id pid input ∷ es) = last_same id es
  last_same last (events.Commit id ∷ es) = last_same last es
  last_same last (events.Fail id ∷ es) = last_same last es

  pub below_next : HasSoundTrace k → (id : ℕ) → WasDrawn k id → id < next_guess k
  below_next sound id drawn =
      let least = last_is_greatest (plain k.scripts) k.start (length k.earlier) (events_of k) sound.sound id drawn in
      let same = last_same (length k.earlier) k.trace in
      omega (arith, least, same)

  -- one event more
  more : (e : Event) (P : List (Happens EntryView) → Type 0) → P (events_of k ++ image e ∷ []) → P (events_of (with_event k e))
  more e P p = subst P (sym (map_more k.trace e)) p

  -- what depends on the guess after the step of an entry
  abbrev tagged : EntryView → Effect Entity EntityState Saying → ℕ → Bool
  tagged n f id = is_marked n.guess id || list_any (λ x. has id (tags_at k x)) (map (λ r. r.0) f.read ++ map (λ w. w.0) f.written)

  module _ (sound : HasSoundTrace k) where
    keeps : (n : EntryView) (e : Event) → image e ≡ Taken n → IsAllowed (plain k.scripts) k.start (events_of k) (Taken n) → KeepsUnwritten k n (with_event k e)
    keeps n e is allowed f q accepted out = (
      more e (λ es. map.get (run (plain k.scripts) k.start (record_of (plain k.scripts) k.start es)) q ≡ map.get (state_at k) q)
          (subst (λ (x : Happens EntryView). map.get (run (plain k.scripts) k.start (record_of (plain k.scripts) k.start (events_of k ++ x ∷ []))) q ≡ map.get (state_at k) q) (sym is)
          (value_stays (plain k.scripts) entity_total entity_exact k.start (events_of k) n f sound.sound allowed accepted q out)),
      more e (λ es. deps (plain k.scripts) k.start (all_recorded (plain k.scripts) k.start no_record es) q ≡ tags_at k q)
          (subst (λ (x : Happens EntryView). deps (plain k.scripts) k.start (all_recorded (plain k.scripts) k.start no_record (events_of k ++ x ∷ [])) q ≡ tags_at k q) (sym is)
          (tags_stay (plain k.scripts) entity_total entity_exact k.start (events_of k) n f sound.sound allowed accepted q out)),
    )

    pub step_keeps : (pid : ℕ) (input : Input) → KeepsUnwritten k (record { pid = pid; input = input; guess = None }) (with_event k (events.Step pid input))
    step_keeps pid input = keeps (record { pid = pid; input = input; guess = None }) (events.Step pid input) refl (λ g h mark drawn. absurd (no_guess g mark))

    writes : (n : EntryView) (e : Event) → image e ≡ Taken n → IsAllowed (plain k.scripts) k.start (events_of k) (Taken n) → WritesAll k n (with_event k e)
    writes n e is allowed f q accepted here = record {
      value = more e (λ es. map.get (run (plain k.scripts) k.start (record_of (plain k.scripts) k.start es)) q ≡ written_value entity_cmp f.written q (map.get (state_at k) q))
          (subst (λ (x : Happens EntryView). map.get (run (plain k.scripts) k.start (record_of (plain k.scripts) k.start (events_of k ++ x ∷ []))) q ≡ written_value entity_cmp f.written q (map.get (state_at k) q)) (sym is)
          (value_written (plain k.scripts) entity_total entity_exact k.start (events_of k) n f sound.sound allowed accepted q));
      tags = λ id. more e (λ es. has id (deps (plain k.scripts) k.start (all_recorded (plain k.scripts) k.start no_record es) q) ≡ tagged n f id)
          (subst (λ (x : Happens EntryView). has id (deps (plain k.scripts) k.start (all_recorded (plain k.scripts) k.start no_record (events_of k ++ x ∷ [])) q) ≡ tagged n f id) (sym is)
          (tags_written (plain k.scripts) entity_total entity_exact k.start (events_of k) n f sound.sound allowed accepted q here id));
    }

    pub step_writes : (pid : ℕ) (input : Input) → WritesAll k (record { pid = pid; input = input; guess = None }) (with_event k (events.Step pid input))
    step_writes pid input = writes (record { pid = pid; input = input; guess = None }) (events.Step pid input) refl (λ g h mark drawn. absurd (no_guess g mark))

    fresh : (pid : ℕ) (input : Input) → IsAllowed (plain k.scripts) k.start (events_of k) (Taken (record { pid = pid; input = input; guess = Some (next_guess k) }))
    fresh pid input = λ g h mark drawn. let own = some_same (next_guess k) g mark in let less = below_next sound h drawn in omega (arith, own, less)

    pub guess_writes : (pid : ℕ) (input : Input) → WritesAll k (record { pid = pid; input = input; guess = Some (next_guess k) }) (with_event k (events.Guess (next_guess k) pid input))
    guess_writes pid input = writes (record { pid = pid; input = input; guess = Some (next_guess k) }) (events.Guess (next_guess k) pid input) refl (fresh pid input)

    pub guess_keeps : (pid : ℕ) (input : Input) → KeepsUnwritten k (record { pid = pid; input = input; guess = Some (next_guess k) }) (with_event k (events.Guess (next_guess k) pid input))
    guess_keeps pid input =
        keeps (record { pid = pid; input = input; guess = Some (next_guess k) }) (events.Guess (next_guess k) pid input) refl (fresh pid input)

  pub none_rests_on : (id : ℕ) (e : Entity) → RestsOn (with_event k (events.Fail id)) e id → ⊥
  none_rests_on id e rests =
      none_rests (plain k.scripts) entity_total entity_exact k.start (events_of k) id e (subst (λ (es : List (Happens EntryView)). IsTagOf (plain k.scripts) k.start es e id) (map_more k.trace (events.Fail id)) rests)

  pub no_tag : (id : ℕ) (e : Entity) → HasSoundTrace k → HasStatus k id Undecided → has id (tags_at (with_event k (events.Fail id)) e) ≡ false
  no_tag id e sound undecided =
      more (events.Fail id) (λ es. has id (deps (plain k.scripts) k.start (all_recorded (plain k.scripts) k.start no_record es) e) ≡ false)
      (none_tagged (plain k.scripts) entity_total entity_exact k.start (events_of k) id sound.sound (in_trace (plain k.scripts) k.start (status_in k.earlier id) (events_of k) id (sound.decided id) undecided) e)
