-- Where nothing is undecided, the parts with their statuses and texts put away stand for the empty trace at the state now.
use Rattle.sk_kernel.proofs.Names.{◌≡◌, ℕ, ◌+◌, length, List, [], ◌++◌, Option, Some, None, refl, sym, ◌∙◌, ap}
use Rattle.sk_kernel.proofs.Names.{arith, ◌↔◌, unwrap_or, nat_cmp, false≢true, length-append, has, Machine}
use Rattle.sk_kernel.proofs.Names.{MergedStands, status_in, or_since, Status, Undecided, stands_anew, no_opens}
use Rattle.sk_kernel.proofs.Names.{undecided_now, either_is, none_yet, Entity, entity_total, entity_exact, status_of}
use Rattle.sk_kernel.proofs.Names.{status_since, settled, nothing_in, status-settled, texts_in, State, EntityState}
use Rattle.sk_kernel.proofs.Names.{look_at, plain, Saying, Parts, machine_of, said_at, KernelView, HasStatus, events_of}
use Rattle.sk_kernel.proofs.Names.{state_at, undecided_at, last_guess, next_guess, Event, OpeningView, opening_of}
use Rattle.sk_kernel.proofs.Names.{begun_at, IsNextEpoch, IsWhole, Stands}
use Rattle.std.specs.FinMap as fin
use Rattle.sk_kernel.proofs.Whole.{look_is, status_is, epoch_of}

-- the parts behind the end of an epoch
abbrev pub settled_parts : Parts → Parts
settled_parts m = record m { guesses = settled m.guesses; texts = fin.empty }

-- the kernel that they stand for
abbrev pub next_kernel : KernelView → Parts → KernelView
next_kernel k m = record { number = k.number; scripts = k.scripts; start = state_at k; limit = k.limit; earlier = m.guesses.earlier ++ m.guesses.statuses; trace = [] }

-- a copy of what entities have now is the state now
pub state_is : (k : KernelView) (m : Parts) → Stands k m → (s : State) → ((e : Entity) → fin.get s e ≡ look_at m.slots e) → s ≡ state_at k
state_is k m stands s same = fin.same_map entity_total entity_exact s (state_at k) (λ e. same e ∙ look_is k m stands e)

pub no_later : (o : Option Status) → or_since o None ≡ o
no_later None = refl
no_later (Some s) = refl

module _ (k : KernelView) (m : Parts) (stands : Stands k m) (done : undecided_at k ≡ []) where
  none_since : (g : ℕ) → status_since (settled m.guesses) g ≡ None
  none_since g = nothing_in _

  no_texts : (t : ℕ) → said_at t (texts_in fin.empty t) ≡ []
  no_texts t = ap (λ o. said_at t (unwrap_or o [])) (fin.get-empty nat_cmp t)

  -- the machine of the trace, with statuses and texts put away
  abbrev full_next : Machine Entity EntityState Saying
  full_next = record { state = stands.trace.full.state; status = λ g. None; texts = λ t. [] }

  trace_next : MergedStands (plain k.scripts) (state_at k) [] (machine_of (settled_parts m))
  trace_next = record {
    full = full_next;
    stands = stands_anew (plain k.scripts) k.start (events_of k) stands.trace.full stands.trace.stands done full_next refl (λ g. refl) (λ t. refl);
    merged = record { look = stands.trace.merged.look; logs = stands.trace.merged.logs; opens = stands.trace.merged.opens; status = none_since; texts = no_texts };
  }

  none_undecided : (g : ℕ) → status_of m.guesses g ≡ Some Undecided → ⊥
  none_undecided g is =
      false≢true (ap (has g) (sym done) ∙ undecided_now (plain k.scripts) k.start k.earlier (events_of k) (epoch_of k m stands) g ((status_is k m stands g Undecided).0 is))

  pub stands_next : Stands (next_kernel k m) (settled_parts m)
  stands_next = record {
    trace = trace_next;
    earlier = refl;
    decided = λ g is. none_undecided g (sym (status-settled m.guesses g) ∙ is);
  }

  pub none_open : m.opens ≡ []
  none_open = stands.trace.merged.opens ∙ no_opens (plain k.scripts) k.start (events_of k) stands.trace.full stands.trace.stands done

  -- each guess keeps its status
  kept_is : (g : ℕ) (s : Status) → (status_of m.guesses g ≡ Some s) ↔ HasStatus (next_kernel k m) g s
  kept_is g s =
      let is = either_is (plain k.scripts) (state_at k) (status_in (m.guesses.earlier ++ m.guesses.statuses) g) None [] g s (none_yet (plain k.scripts) (state_at k) g s) in
      let same : or_since (status_in (m.guesses.earlier ++ m.guesses.statuses) g) None ≡ status_of m.guesses g = no_later _ ∙ status-settled m.guesses g in
      ((λ here. is.0 (same ∙ here)), λ has. sym same ∙ is.1 has)

  pub status_kept : (g : ℕ) (s : Status) → HasStatus (next_kernel k m) g s ↔ HasStatus k g s
  status_kept g s =
      let before = status_is k m stands g s in
      let after = kept_is g s in
      ((λ has. before.0 (after.1 has)), λ has. after.0 (before.1 has))

module _ (k : KernelView) (m : Parts) (place : ℕ) (whole : IsWhole k m place) (done : undecided_at k ≡ []) where
  pub drawn_kept : length (m.guesses.earlier ++ m.guesses.statuses) ≡ last_guess k
  drawn_kept = length-append m.guesses.earlier m.guesses.statuses ∙ (λ i. length (whole.stands.earlier i) + length m.guesses.statuses) ∙ whole.drawn

  pub whole_next : (left : ℕ) → IsWhole (next_kernel k m) (settled_parts m) left
  whole_next left =
      let none : length m.opens ≡ 0 = ap length (none_open k m whole.stands done) in
      record {
        stands = stands_next k m whole.stands done;
        number = whole.number;
        drawn = omega arith;
        place = omega (arith, none);
      }

  pub is_next : IsNextEpoch k (next_kernel k m)
  is_next = record { view = refl; drawn = drawn_kept; statuses = status_kept k m whole.stands done }

-- ---- the kernel whose parts these are

module _ (k self : KernelView) (m b : Parts) (o : OpeningView) (events : List Event) (same : k ≡ self) (parts : b ≡ settled_parts m) (number : k.number ≡ m.guesses.kernel)
    (opening : o ≡ record { start = record { scripts = self.scripts; state = state_at self; texts = fin.empty }; number = self.number; limit = self.limit; guess = next_guess self }) (none : events ≡ []) where
  pub next_view : next_kernel k m ≡ begun_at o b.guesses.kernel b.guesses.earlier events
  next_view =
      let n = number ∙ ap (λ (p : Parts). p.guesses.kernel) (sym parts) in
      let s = ap (λ (k : KernelView). k.scripts) same ∙ sym (ap (λ (o : OpeningView). o.start.scripts) opening) in
      let st = ap state_at same ∙ sym (ap (λ (o : OpeningView). o.start.state) opening) in
      let l = ap (λ (k : KernelView). k.limit) same ∙ sym (ap (λ (o : OpeningView). o.limit) opening) in
      let e = ap (λ (p : Parts). p.guesses.earlier) (sym parts) in
      λ i. record { number = n i; scripts = s i; start = st i; limit = l i; earlier = e i; trace = sym none i }

  pub opening_next : length (m.guesses.earlier ++ m.guesses.statuses) ≡ last_guess k → o ≡ opening_of (begun_at o b.guesses.kernel b.guesses.earlier events)
  opening_next drawn =
      let n = sym (ap (λ (k : KernelView). k.number) same) ∙ number ∙ ap (λ (p : Parts). p.guesses.kernel) (sym parts) in
      let s = sym (ap (λ (o : OpeningView). o.start.scripts) opening) in
      let st = sym (ap (λ (o : OpeningView). o.start.state) opening) in
      let l = sym (ap (λ (o : OpeningView). o.limit) opening) in
      let g = sym (ap next_guess same) ∙ ap (λ n. n + 1) (sym drawn ∙ ap (λ (p : Parts). length p.guesses.earlier) (sym parts)) in
      opening ∙ (λ i. record { start = record { scripts = s i; state = st i; texts = fin.empty }; number = n i; limit = l i; guess = g i })
