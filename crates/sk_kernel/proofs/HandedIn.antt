-- What the parts of a kernel say of its trace after a hand-in.
use Rattle.sk_kernel.proofs.Names.{◌≡◌, ℕ, zero, suc, ◌+◌, ◌-◌, ◌<◌, ◌≤◌, length, List, [], ◌∷◌, ◌++◌, each_of, Some}
use Rattle.sk_kernel.proofs.Names.{refl, sym, ◌∙◌, ap, subst, arith, replicate, fold-append, fold, status_in, Taken}
use Rattle.sk_kernel.proofs.Names.{MergedStands, HandsIn, StepsAlone, last_of, Machine, handed_in, merged_run, Entity}
use Rattle.sk_kernel.proofs.Names.{Proc, Sig, entity_total, entity_exact, Process, LeaseView, after_private}
use Rattle.sk_kernel.proofs.Names.{EntityState, EntryView, Event, Scripts, plain, Saying, is_due, alone_reads, image}
use Rattle.sk_kernel.proofs.Names.{GoesOn, alone_run, runs_same, Parts, machine_of, KernelView, events_of, state_at}
use Rattle.sk_kernel.proofs.Names.{undecided_at, room, number_after, last_guess, append-nil, IsAsLent, alone_step}
use Rattle.sk_kernel.proofs.Names.{with_steps, IsWhole, Stands, None}
use Rattle.std.specs.FinMap as map
use Rattle.sk_record.specs.Merged.{each}
use Rattle.sk_script.specs.declared.instruction.Input.TheVariants as inputs
use Rattle.sk_store.specs.declared.entity_state.EntityState.TheVariants as stored
use Rattle.sk_kernel.proofs.Whole.{after_event, open_count}

-- ---- the events of a hand-in
each_is : {A B : Type 0} (b : B) (xs : List A) → each b xs ≡ replicate (length xs) b
each_is b [] = refl
each_is b (x ∷ xs) = ap (λ bs. b ∷ bs) (each_is b xs)

images : (n : ℕ) (e : Event) → each_of image (replicate n e) ≡ replicate n (image e)
images zero e = refl
images (suc n) e = ap (λ xs. image e ∷ xs) (images n e)

pub images_more : (es : List Event) (n : ℕ) (e : Event) → each_of image (es ++ replicate n e) ≡ each_of image es ++ replicate n (image e)
images_more [] n e = images n e
images_more (x ∷ es) n e = ap (λ xs. image x ∷ xs) (images_more es n e)

-- they draw no guess
none_drawn : (n last pid : ℕ) → fold number_after last (replicate n (alone_step pid)) ≡ last
none_drawn zero last pid = refl
none_drawn (suc n) last pid = none_drawn n last pid

pub same_last : (k : KernelView) (n pid : ℕ) → last_guess (with_steps k pid n) ≡ last_guess k
same_last k n pid = fold-append number_after (length k.earlier) k.trace (replicate n (alone_step pid)) ∙ none_drawn n (last_guess k) pid

-- ---- the machine
abbrev Kernels : Type 0
Kernels = Machine Entity EntityState Saying

module _ (k : KernelView) (a : Kernels) (stands : MergedStands (plain k.scripts) k.start (events_of k) a) (l : LeaseView) (q : Process) (b : Kernels) where
  look_is : (e : Entity) → a.state.look e ≡ map.get (state_at k) e
  look_is e = (merged_run (plain k.scripts) entity_total entity_exact k.start (events_of k) a stands).values e

  abbrev entry : EntryView
  entry = record { pid = l.lent.pid; input = inputs.None; guess = None }

  abbrev Hands : EntityState → Type 0
  Hands v = HandsIn (plain k.scripts) a (Proc l.lent.pid) (alone_reads l.lent.pid) v b

  from_values : (values : List EntityState) → 0 < length values → a.state.look (Proc l.lent.pid) ≡ Some (stored.Process l.lent)
      → StepsAlone (plain k.scripts) a.state.look entry (Proc l.lent.pid) (alone_reads l.lent.pid) (stored.Process l.lent) values
      → last_of (stored.Process l.lent) values ≡ stored.Process q → Hands (stored.Process q)
      → MergedStands (plain k.scripts) k.start (events_of k ++ each (Taken entry) values) b
  from_values [] some there steps last hands = absurd (omega (arith, some))
  from_values (w ∷ ws) some there steps last hands =
      handed_in (plain k.scripts) entity_total entity_exact k.start entry refl (Proc l.lent.pid) (alone_reads l.lent.pid)
      (events_of k) a (stored.Process l.lent) w ws b stands there steps (subst Hands (sym last) hands)

  pub stands_handed : IsAsLent k l → after_private l.script l.count l.lent ≡ Some q → 0 < l.count → Hands (stored.Process q)
      → MergedStands (plain k.scripts) k.start (events_of (with_steps k l.lent.pid l.count)) b
  stands_handed as_lent done some hands =
      let on : GoesOn a.state.look k.scripts l.lent.pid l.script l.lent = record {
        runs = as_lent.script;
        undisturbed = ap (is_due l.lent) (look_is (Sig l.lent.pid)) ∙ as_lent.undisturbed;
      } in
      let alone = alone_run a.state.look k.scripts l.lent.pid l.script l.count l.lent q on (sym (runs_same l.script l.count l.lent) ∙ done) in
      let long = alone.long in
      subst (λ es. MergedStands (plain k.scripts) k.start es b)
      (ap (λ es. events_of k ++ es) (each_is (Taken entry) alone.values ∙ ap (λ n. replicate n (Taken entry)) alone.long) ∙ sym (images_more k.trace l.count (alone_step l.lent.pid)))
      (from_values alone.values (omega (arith, long, some)) (look_is (Proc l.lent.pid) ∙ as_lent.process) alone.steps alone.last hands)

-- what stands after a hand-in
pub handed_whole : (k : KernelView) (m b : Parts) (place left : ℕ) (l : LeaseView) (q : Process) (es : List Event) → IsWhole k m place
    → IsAsLent k l → after_private l.script l.count l.lent ≡ Some q → 0 < l.count
    → HandsIn (plain k.scripts) (machine_of m) (Proc l.lent.pid) (alone_reads l.lent.pid) (stored.Process q) (machine_of b)
    → b.guesses ≡ m.guesses → es ≡ k.trace ++ replicate l.count (alone_step l.lent.pid) → length b.opens ≤ left
    → IsWhole (after_event k b es) b left
handed_whole k m b place left l q es whole as_lent done some hands same trace room =
    let earlier : b.guesses.earlier ≡ k.earlier = ap (λ v. v.earlier) same ∙ whole.stands.earlier in
    let last : last_guess (after_event k b es) ≡ last_guess k = (λ i. fold number_after (length (earlier i)) (trace i)) ∙ same_last k l.count l.lent.pid in
    let long = ap length earlier in
    let count : length b.guesses.statuses ≡ length m.guesses.statuses = ap (λ v. length v.statuses) same in
    let drawn = whole.drawn in
    record {
      stands = record {
        trace = subst (λ (xs : List Event). MergedStands (plain k.scripts) k.start (each_of image xs) (machine_of b)) (sym trace) (stands_handed k (machine_of m) whole.stands.trace l q (machine_of b) as_lent done some hands);
        earlier = refl;
        decided = λ g is. whole.stands.decided g (ap (λ ss. status_in ss g) (sym earlier) ∙ is);
      };
      number = refl;
      drawn = omega (arith, last, long, count, drawn);
      place = room;
    }

-- a hand-in opens no guess
pub same_opens : (scripts : Scripts) (a b : Parts) (pid : ℕ) (p : Process) → HandsIn (plain scripts) (machine_of a) (Proc pid) (alone_reads pid) (stored.Process p) (machine_of b) → length b.opens ≡ length a.opens
same_opens scripts a b pid p hands = ap length hands.opens

-- no step changes nothing
pub no_step : (k : KernelView) (pid : ℕ) → with_steps k pid zero ≡ k
no_step k pid = ap (λ es. record k { trace = es }) (append-nil k.trace)

-- the open guesses and the steps of a hand-in have places in the trace
pub fits_places : (k : KernelView) (m : Parts) → Stands k m → (n : ℕ) → n ≤ room k → 0 < n → length m.opens + n ≤ k.limit
fits_places k m stands n free some =
    let opens : length m.opens ≡ length (undecided_at k) = open_count k m stands in
    let places : n ≤ k.limit - length k.trace - length (undecided_at k) = free in
    omega (arith, opens, places, some)
