-- What is handed in before a turn is a lease of no more instructions than the worker was to run.
use Rattle.sk_crew.proofs.Names.{same_Some, ◌<◌, ◌≤◌, ◌+◌, ◌==◌, ◌&&◌, nat_lt, ℕ, zero, suc, Bool, true, false, List}
use Rattle.sk_crew.proofs.Names.{Option, Some, None, IfSome, Result, Ok, Err, slice_get, option_and_then, if◌then◌else◌}
use Rattle.sk_crew.proofs.Names.{inl, inr, arith, refl, sym, ap, ◌∙◌, subst, Proc, Process, Instruction, LeaseView}
use Rattle.sk_crew.proofs.Names.{LAST_COUNT, leased, counted, advanced, ran, private_next, script_at, EntityState}
use Rattle.sk_crew.proofs.Names.{Scripts, Lends, lent_at, Refusal, state_at, HandIn, DeskView, pending, asks_for}
use Rattle.sk_crew.proofs.Names.{unless_asked, desk_lease, HandedIn, WorkerView, Told, HandInTold, AnyTold, IsLentAny}
use Rattle.sk_crew.proofs.Names.{IsLeaseOf, Rounds, due, next, after, IsLent, IsLentFor, IsLentNext, HasRun, RunsAhead}
use Rattle.std.specs.Prelude.{◌≡◌}
use Rattle.std.specs.FinMap as map
use Rattle.sk_store.specs.declared.entity_state.EntityState.TheVariants as stored
use Rattle.sk_plain.specs.declared.refusal.Refusal.TheVariants as refusals
use Rattle.sk_workers.specs.declared.entry.DeskCall.TheVariants as calls

-- ---- the count of a lease that ran

one_more : (l : LeaseView) (next : Option Process) → (counted l next).count ≤ l.count + 1
one_more l None = omega arith
one_more l (Some p) = omega arith

unless_last : (l : LeaseView) (is_last : Bool) (next : Option Process)
    → (if is_last then l else counted l next).count ≤ l.count + 1
unless_last l true next = omega arith
unless_last l false next = one_more l next

ran_from : (n : ℕ) (l : LeaseView) → (ran n l).count ≤ n + l.count
ran_from zero l = omega arith
ran_from (suc n) l =
    let one = unless_last l (l.count == LAST_COUNT) (private_next l.now l.script) in
    omega (arith, ran_from n (advanced l), one)

-- ---- a lease that was just lent

unless_waits : (l m : LeaseView) (waits : Bool)
    → Lends (Ok l) (if waits then Err refusals.Blocked else Ok m) → l ≡ m
unless_waits l m true lends = absurd lends
unless_waits l m false lends = lends

unless_ended : (d : DeskView) (pid : ℕ) (l : LeaseView) (p : Process) (script : List Instruction) (ended : Bool)
    → Lends (Ok l) (unless_asked d pid (if ended then Err refusals.Ended else Ok (leased p script))) → l.count ≡ 0
unless_ended d pid l p script true lends = absurd lends
unless_ended d pid l p script false lends =
    let is = unless_waits l (leased p script) (asks_for pid (pending d)) lends in
    ap (λ (x : LeaseView). x.count) is

fresh : (d : DeskView) (pid : ℕ) (l : LeaseView) (scripts : Scripts) (o : Option EntityState)
    → Lends (Ok l) (unless_asked d pid (lent_at scripts o)) → l.count ≡ 0
fresh d pid l scripts None lends = absurd lends
fresh d pid l scripts (Some (stored.Value v)) lends = absurd lends
fresh d pid l scripts (Some (stored.Process p)) lends =
    unless_ended d pid l p (script_at scripts p.script) p.ended lends

-- what a desk lends has no instruction done
pub lease_fresh : (r : Result LeaseView Refusal) (pid : ℕ) (l : LeaseView) → (d : DeskView) × Lends r (desk_lease d pid) → r ≡ Ok l → l.count ≡ 0
lease_fresh r pid l lent ok =
    let d = lent.0 in
    let lends = subst (λ (x : Result LeaseView Refusal). Lends x (desk_lease d pid)) ok lent.1 in
    fresh d pid l d.kernel.scripts (map.get (state_at d.kernel) (Proc pid)) lends

lent_fresh : (r : Option (Result (Unit {0}) Refusal)) (place : Option LeaseView) (pid : Option ℕ) → IsLentAny r place pid → IfSome place (λ l. l.count ≡ 0)
lent_fresh r None pid lent = tt
lent_fresh (Some (Ok u)) (Some l) (Some pid) lent =
    let d = lent.0.desk in
    fresh d pid l d.kernel.scripts (map.get (state_at d.kernel) (Proc pid)) lent.2
lent_fresh (Some (Ok u)) (Some l) None lent = absurd lent.2
lent_fresh (Some (Err why)) (Some l) pid lent = absurd lent.2
lent_fresh None (Some l) pid lent = absurd lent.2

-- and it is of the process that was asked for
pub lent_is : (r : Option (Result (Unit {0}) Refusal)) (place : Option LeaseView) (pid : Option ℕ) → IsLentAny r place pid → IsLeaseOf place pid
    → IfSome place (IsLentFor pid)
lent_is r None pid lent own = tt
lent_is r (Some l) pid lent own = (lent_fresh r (Some l) pid lent, own)

-- one that ran up to n has at most n
ran_within : (n : ℕ) (l l' : LeaseView) → l.count ≡ 0 → l' ≡ ran n l → l'.count ≤ n
ran_within n l l' none is = omega (arith, ran_from n l, none, ap (λ (x : LeaseView). x.count) is)

counted_lent : (l : LeaseView) (next : Option Process) → (counted l next).lent ≡ l.lent
counted_lent l None = refl
counted_lent l (Some p) = refl

unless_last_lent : (l : LeaseView) (is_last : Bool) (next : Option Process) → (if is_last then l else counted l next).lent ≡ l.lent
unless_last_lent l true next = refl
unless_last_lent l false next = counted_lent l next

ran_lent : (n : ℕ) (l : LeaseView) → (ran n l).lent ≡ l.lent
ran_lent zero l = refl
ran_lent (suc n) l = ran_lent n (advanced l) ∙ unless_last_lent l (l.count == LAST_COUNT) (private_next l.now l.script)

-- one that ran some, up to n, is still of its process
pub has_run : (n pid : ℕ) (l l' : LeaseView) → IsLent pid l → l' ≡ ran n l → 0 < l'.count → HasRun n pid l'
has_run n pid l l' lent is some = (
  some,
  ran_within n l l' lent.0 is,
  ap (λ (x : LeaseView). x.lent.pid) is ∙ ap (λ (p : Process). p.pid) (ran_lent n l) ∙ lent.1,
)

-- ---- the process whose turn is due

due_at : (processes : List ℕ) (r : Rounds) (pid : ℕ) (o : Bool)
    → option_and_then (slice_get processes) (if o then None else Some r.at) ≡ Some pid → (o ≡ false) × (slice_get processes r.at ≡ Some pid)
due_at processes r pid true is = absurd (cc)
due_at processes r pid false is = (refl, is)

-- it is at the worker's place, and its rounds are not over
pub is_due : (processes : List ℕ) (r : Rounds) (pid : ℕ) → option_and_then (slice_get processes) (due r) ≡ Some pid
    → (r.is_over ≡ false) × (slice_get processes r.at ≡ Some pid)
is_due processes r pid is = due_at processes r pid r.is_over is

-- a lease of the process that is due next is of the one that is due
pub lent_due : (processes : List ℕ) (r : Rounds) (pid : ℕ) (o : Option LeaseView) → option_and_then (slice_get processes) (due r) ≡ Some pid
    → IfSome o (IsLentNext processes r) → IfSome o (IsLent pid)
lent_due processes r pid None is lent = tt
lent_due processes r pid (Some l) is lent =
    let at = is_due processes r pid is in
    (lent.0, same_Some l.lent.pid pid (sym (lent.1 at.0) ∙ at.1))

after_at : (r : Rounds) (ended fits : Bool)
    → (if fits then record r { at = r.at + r.step; is_ended = r.is_ended && ended } else record r { at = r.first; is_ended = true; is_over = r.is_ended && ended }).at
    ≡ (if fits then r.at + r.step else r.first)
after_at r ended true = refl
after_at r ended false = refl

-- and so is one that was lent for the place that comes after the turn
pub lent_after : (processes : List ℕ) (r r' : Rounds) (ended : Bool) (pid : Option ℕ) (o : Option LeaseView) → r' ≡ after ended r
    → IfSome pid (λ p. slice_get processes (next r) ≡ Some p) → IfSome o (IsLentFor pid) → IfSome o (IsLentNext processes r')
lent_after processes r r' ended pid None is at lent = tt
lent_after processes r r' ended None (Some l) is at lent = absurd (let none : None ≡ Some l.lent.pid = lent.1 in cc)
lent_after processes r r' ended (Some p) (Some l) is at lent = (
  lent.0,
  λ goes_on. ap (slice_get processes) (ap (λ (x : Rounds). x.at) is ∙ after_at r ended (nat_lt (r.at + r.step) r.count)) ∙ at ∙ lent.1,
)

lent_first_at : (processes : List ℕ) (at : ℕ) (over : Bool) (l : LeaseView)
    → option_and_then (slice_get processes) (if over then None else Some at) ≡ Some l.lent.pid → over ≡ false → slice_get processes at ≡ Some l.lent.pid
lent_first_at processes at true l is goes_on = absurd (cc)
lent_first_at processes at false l is goes_on = is

-- a lease of the process that was asked for
pub lent_for : (pid : ℕ) (o : Option LeaseView) → IfSome o (IsLentFor (Some pid)) → IfSome o (IsLent pid)
lent_for pid None lent = tt
lent_for pid (Some l) lent = (lent.0, same_Some l.lent.pid pid (sym lent.1))

-- so is the first
pub lent_first : (processes : List ℕ) (r : Rounds) (pid : Option ℕ) (o : Option LeaseView) → pid ≡ option_and_then (slice_get processes) (due r)
    → IfSome o (IsLentFor pid) → IfSome o (IsLentNext processes r)
lent_first processes r pid None is lent = tt
lent_first processes r pid (Some l) is lent = (lent.0, lent_first_at processes r.at r.is_over l (sym is ∙ lent.1))

-- ---- what a worker did

handed_ahead : (n pid : ℕ) (r : Result (Unit {0}) HandIn) (w : WorkerView) (l : LeaseView) (w' : WorkerView) → HasRun n pid l
    → HandInTold r w l w' → RunsAhead n pid w w'
handed_ahead n pid r w l w' run (inl none) = inl none.1
handed_ahead n pid r w l w' run (inr told) = inr (l.count, r, run.0, run.1, subst (λ p. Told w (calls.HandIn p l.count) (HandedIn r) w') run.2 told)

pub told_ahead : (n pid : ℕ) (r : Option (Result (Unit {0}) HandIn)) (w : WorkerView) (l : Option LeaseView) (w' : WorkerView)
    → IfSome l (HasRun n pid) → AnyTold r w l w' → RunsAhead n pid w w'
told_ahead n pid None w None w' run told = inl told
told_ahead n pid (Some r) w (Some l) w' run told = handed_ahead n pid r w l w' run told
told_ahead n pid None w (Some l) w' run told = absurd told
told_ahead n pid (Some r) w None w' run told = absurd told
