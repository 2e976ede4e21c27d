-- The machine takes the process as it became, and stands for the trace with as many steps more.
use Rattle.sk_kernel.proofs.Names.{◌≡◌, ◌+◌, ◌<◌, ◌≤◌, ◌^◌, ◌++◌, sym, ◌∙◌, ap, subst, arith, rules, replicate, Proc}
use Rattle.sk_kernel.proofs.Names.{IsProcess, look_at, HandsInProcess, from_ok, from_err, KernelView, room, IsAsLent}
use Rattle.sk_kernel.proofs.Names.{alone_step, with_steps, the_view}
use Rattle.sk_kernel.proofs.Whole.{look_is, tidy, opens_rise}
use Rattle.sk_kernel.proofs.HandedIn.{handed_whole, same_opens, fits_places}
use Rattle.sk_kernel.proofs.Opened.{still_opened}
use Rattle.sk_kernel.proofs.kernel.Kernel.do_steps.Goals as goal

pub hand_in-requires-clause-there : goal.hand_in-requires-clause-there
hand_in-requires-clause-there c =
    let k = the_view c.self.inside in
    let m = c.self.inside.machine in
    let l = c.args.lease.now in
    let as_lent = subst (λ (x : KernelView). IsAsLent x l) (sym c.self.view_is) c.requires.as_lent in
    let own : c.lent.result.now.pid ≡ l.lent.pid = ap (λ p. p.pid) c.lent.ensures in
    subst (λ pid. IsProcess (look_at m.slots (Proc pid))) (sym own)
    (subst IsProcess (sym (look_is k m c.self.invariant.0.stands (Proc l.lent.pid) ∙ as_lent.process)) tt)

pub hand_in-requires-clause-order : goal.hand_in-requires-clause-order
hand_in-requires-clause-order c =
    let k = the_view c.self.inside in
    let m = c.self.inside.machine in
    let stands = c.self.invariant.0.stands in
    record { tidy = tidy k m stands; rising = opens_rise k m stands }

pub overflow_add-places : goal.overflow_add-places
overflow_add-places c =
    let few = fits_places (the_view c.self.inside) c.self.inside.machine c.self.invariant.0.stands c.args.count (subst (λ (k : KernelView). c.args.count ≤ room k) (sym c.self.view_is) c.requires.places) c.requires.some in
    let below : c.open_count.result + c.args.count < 2 ^ 33 = omega (arith, few, c.open_count.ensures, c.limit-limit.ensures, c.limit-limit.type_inv) in
    search (rules, below)

pub returns-then-is_err : goal.returns-then-is_err
returns-then-is_err c = (
  c.requires.as_lent,
  subst (λ n. n ≤ room c.args.self.now) c.requires.count c.requires.places,
  subst (λ n. 0 < n) c.requires.count c.requires.some,
  (λ i. record (the_view c.self.inside) { trace = c.reserve.ensures.events i }) ∙ c.self.view_is,
)

pub returns-then-is_err-2 : goal.returns-then-is_err-2
returns-then-is_err-2 c =
    let same = from_err c.hand_in.result c.if-is_err-2.ensures.value c.hand_in.ensures.err in (
      c.requires.as_lent,
      subst (λ n. n ≤ room c.args.self.now) c.requires.count c.requires.places,
      subst (λ n. 0 < n) c.requires.count c.requires.some,
      (λ i. record (the_view c.self.inside) { number = (same i).guesses.kernel; earlier = (same i).guesses.earlier; trace = c.reserve.ensures.events i })
          ∙ c.self.view_is,
    )

pub append-requires : goal.append-requires
append-requires c =
    let reserved = from_ok c.reserve.result c.if-is_err.ensures.value c.reserve.ensures.room in
    omega (arith, reserved)

pub invariant_of-self-2 : goal.invariant_of-self-2
invariant_of-self-2 c =
    let k = the_view c.self.inside in
    let m = c.self.inside.machine in
    let b = c.hand_in.new.self in
    let l = c.args.lease.now in
    let own : c.lent.result.now.pid ≡ l.lent.pid = ap (λ p. p.pid) c.lent.ensures in
    let hands : HandsInProcess m l.lent.pid c.now-process.result.now b =
    subst (λ pid. HandsInProcess m pid c.now-process.result.now b) own (from_ok c.hand_in.result c.if-is_err-2.ensures.value c.hand_in.ensures.ok) in
    let reserved = from_ok c.reserve.result c.if-is_err.ensures.value c.reserve.ensures.room in
    let opens = same_opens k.scripts m b l.lent.pid c.now-process.result.now (hands k.scripts) in
    let appended = c.append.ensures.room in
    let counted = c.open_count.ensures in
    let trace : c.append.new.trace.events ≡ k.trace ++ replicate l.count (alone_step l.lent.pid) =
    c.append.ensures.events ∙ (λ i. c.reserve.ensures.events i ++ replicate (c.requires.count i) (alone_step (own i))) in (
      handed_whole k m b c.self.inside.trace.room c.append.new.trace.room l c.now-process.result.now c.append.new.trace.events c.self.invariant.0
          (subst (λ (x : KernelView). IsAsLent x l) (sym c.self.view_is) c.requires.as_lent)
          c.now-process.ensures.done (subst (λ n. 0 < n) c.requires.count c.requires.some) (hands k.scripts) c.hand_in.ensures.guesses trace
          (omega (arith, opens, reserved, appended, counted)),
      still_opened k _ _ c.append.new.trace.events _ c.self.invariant.1 (ap (λ v. v.kernel) c.hand_in.ensures.guesses) (ap (λ v. v.earlier) c.hand_in.ensures.guesses),
    )

pub returns : goal.returns
returns c =
    let l = c.args.lease.now in
    let own : c.lent.result.now.pid ≡ l.lent.pid = ap (λ p. p.pid) c.lent.ensures in
    let trace = c.append.ensures.events ∙ (λ i. c.reserve.ensures.events i ++ replicate (c.requires.count i) (alone_step (own i))) in (
      c.requires.as_lent,
      subst (λ n. n ≤ room c.args.self.now) c.requires.count c.requires.places,
      (λ i. record (the_view c.self.inside) { number = (c.hand_in.ensures.guesses i).kernel; earlier = (c.hand_in.ensures.guesses i).earlier; trace = trace i })
          ∙ ap (λ (k : KernelView). with_steps k l.lent.pid l.count) c.self.view_is,
    )
