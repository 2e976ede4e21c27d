-- The plan is what the plain kernel does on the trace's record; the machine takes it, and stands for the trace with one event more.
use Rattle.sk_kernel.proofs.Names.{◌+◌, ◌<◌, ◌^◌, ◌≡◌, Some, None, ◌∷◌, ◌++◌, [], sym, ◌∙◌, ap, subst, arith, rules}
use Rattle.sk_kernel.proofs.Names.{MergedTakes, machine_of, look_at, plain, PlansStep, EntryView, input_in, KernelView}
use Rattle.sk_kernel.proofs.Names.{step_refused, room, with_event, the_view, from_ok, from_err}
use Rattle.std.specs.Prelude.{Err}
use Rattle.sk_trace.specs.declared.event.Event.TheVariants as events
use Rattle.sk_kernel.proofs.Whole.{tidy, opens_rise, stepped_whole, no_more_opens}
use Rattle.sk_kernel.proofs.Refusals.{step_misfits}
use Rattle.sk_kernel.proofs.Rooms.{crowded_at, full_at, free_at}
use Rattle.sk_kernel.proofs.Opened.{still_opened, few_open}
use Rattle.sk_kernel.proofs.kernel.Kernel.step_lent.Goals as goal

pub returns-in-Err : goal.returns-in-Err
returns-in-Err c =
    let n : EntryView = record { pid = c.args.pid; input = (input_in c.args.input); guess = None } in
    let why = c.in-Err.why in
    let step = subst (λ s. PlansStep (look_at c.self.inside.machine.slots) s n.pid n.input (Err why)) c.scripts-scripts.ensures c.in-Err.ensures.step in
    let refused = subst (λ (k : KernelView). step_refused k n ≡ Some why) c.self.view_is
    (step_misfits (the_view c.self.inside) c.self.inside.machine c.self.inside.trace.room c.self.invariant.0 n why step.plans) in
    search (rules, refused, c.self.view_is)

pub returns-then-is_crowded : goal.returns-then-is_crowded
returns-then-is_crowded c =
    let n : EntryView = record { pid = c.args.pid; input = (input_in c.args.input); guess = None } in (
      crowded_at (the_view c.self.inside) c.self.inside.machine c.self.inside.trace.room c.self.invariant.0 n c.plan_into.new.plan
          c.is_crowded.result c.is_crowded.ensures c.self.view_is c.scripts-scripts.ensures c.in-Ok.ensures.step c.if-is_crowded.true,
      c.self.view_is,
    )

pub returns-then-room-lt1 : goal.returns-then-room-lt1
returns-then-room-lt1 c =
    let n : EntryView = record { pid = c.args.pid; input = (input_in c.args.input); guess = None } in (
      full_at (the_view c.self.inside) c.self.inside.machine c.self.inside.trace.room c.self.invariant.0 n c.plan_into.new.plan
          c.is_crowded.result c.is_crowded.ensures c.self.view_is c.scripts-scripts.ensures c.in-Ok.ensures.step
          c.if-is_crowded.false c.room-room.ensures c.if-room-lt1.true,
      c.self.view_is,
    )

pub returns-then-is_err : goal.returns-then-is_err
returns-then-is_err c =
    let n : EntryView = record { pid = c.args.pid; input = (input_in c.args.input); guess = None } in (
      free_at (the_view c.self.inside) c.self.inside.machine c.self.inside.trace.room c.self.invariant.0 n c.plan_into.new.plan
          c.is_crowded.result c.is_crowded.ensures c.self.view_is c.scripts-scripts.ensures c.in-Ok.ensures.step
          c.if-is_crowded.false c.room-room.ensures c.if-room-lt1.false,
      (λ i. record (the_view c.self.inside) { trace = c.reserve.ensures.events i }) ∙ c.self.view_is,
    )

pub returns-in-Err-keep : goal.returns-in-Err-keep
returns-in-Err-keep c =
    let n : EntryView = record { pid = c.args.pid; input = (input_in c.args.input); guess = None } in (
      free_at (the_view c.self.inside) c.self.inside.machine c.self.inside.trace.room c.self.invariant.0 n c.plan_into.new.plan
          c.is_crowded.result c.is_crowded.ensures c.self.view_is c.scripts-scripts.ensures c.in-Ok.ensures.step
          c.if-is_crowded.false c.room-room.ensures c.if-room-lt1.false,
      (λ i. record (the_view c.self.inside) { trace = c.reserve.ensures.events i }) ∙ c.self.view_is,
    )

pub take_step-requires-clause-can : goal.take_step-requires-clause-can
take_step-requires-clause-can c =
    let k = the_view c.self.inside in
    let m = c.self.inside.machine in
    let stands = c.self.invariant.0.stands in
    let step = c.in-Ok.ensures.step in
    record { planned = record { accepted = step.plans; can = step.can }; order = record { tidy = tidy k m stands; rising = opens_rise k m stands } }

pub returns-then-is_err-2 : goal.returns-then-is_err-2
returns-then-is_err-2 c =
    let n : EntryView = record { pid = c.args.pid; input = (input_in c.args.input); guess = None } in
    let still = from_err c.take_step.result c.if-is_err-2.ensures.value c.take_step.ensures.err in (
      free_at (the_view c.self.inside) c.self.inside.machine c.self.inside.trace.room c.self.invariant.0 n c.plan_into.new.plan
          c.is_crowded.result c.is_crowded.ensures c.self.view_is c.scripts-scripts.ensures c.in-Ok.ensures.step
          c.if-is_crowded.false c.room-room.ensures c.if-room-lt1.false,
      (λ i. record (the_view c.self.inside)
          { number = (still i).guesses.kernel; earlier = (still i).guesses.earlier; trace = c.reserve.ensures.events i }) ∙ c.self.view_is,
    )

pub invariant_of-self-2 : goal.invariant_of-self-2
invariant_of-self-2 c =
    let n : EntryView = record { pid = c.args.pid; input = (input_in c.args.input); guess = None } in
    let takes = subst (λ s. MergedTakes (plain s) (machine_of c.self.inside.machine) n (machine_of c.take_step.new.self)) c.scripts-scripts.ensures (from_ok c.take_step.result c.if-is_err-2.ensures.value c.take_step.ensures.ok) in
    let opens = no_more_opens c.self.inside.opening.start.scripts c.self.inside.machine c.take_step.new.self c.args.pid (input_in c.args.input) takes in
    let reserved = from_ok c.reserve.result c.if-is_err.ensures.value c.reserve.ensures.room in
    let pushed = c.push.ensures.room in
    let counted = c.open_count.ensures in (
      stepped_whole (the_view c.self.inside) c.self.inside.machine c.take_step.new.self c.self.inside.trace.room c.push.new.self.room c.args.pid (input_in c.args.input) c.push.new.self.events c.self.invariant.0
          takes c.take_step.ensures.guesses
          (c.push.ensures.events ∙ (λ i. c.reserve.ensures.events i ++ events.Step c.args.pid (c.in-Ok-keep.ensures.ok i) ∷ []))
          (omega (arith, opens, reserved, pushed, counted)),
      still_opened (the_view c.self.inside) _ _ c.push.new.self.events _ c.self.invariant.1 (ap (λ v. v.kernel) c.take_step.ensures.guesses) (ap (λ v. v.earlier) c.take_step.ensures.guesses),
    )

pub returns : goal.returns
returns c =
    let n : EntryView = record { pid = c.args.pid; input = (input_in c.args.input); guess = None } in
    let guesses = c.take_step.ensures.guesses in
    let more = c.push.ensures.events ∙ (λ i. c.reserve.ensures.events i ++ events.Step c.args.pid (c.in-Ok-keep.ensures.ok i) ∷ []) in (
      free_at (the_view c.self.inside) c.self.inside.machine c.self.inside.trace.room c.self.invariant.0 n c.plan_into.new.plan
          c.is_crowded.result c.is_crowded.ensures c.self.view_is c.scripts-scripts.ensures c.in-Ok.ensures.step
          c.if-is_crowded.false c.room-room.ensures c.if-room-lt1.false,
      (λ i. record (the_view c.self.inside) { number = (guesses i).kernel; earlier = (guesses i).earlier; trace = more i })
          ∙ ap (λ (k : KernelView). with_event k (events.Step n.pid n.input)) c.self.view_is,
    )

pub overflow_add-open_count : goal.overflow_add-open_count
overflow_add-open_count c =
    let few = few_open (the_view c.self.inside) c.self.inside.machine c.self.invariant.0.stands c.room-room.result (c.room-room.ensures ∙ ap room (sym c.self.view_is)) c.if-room-lt1.false in
    let below : c.open_count.result + 1 < 2 ^ 33 = omega (arith, few, c.open_count.ensures, c.limit-limit.ensures, c.limit-limit.type_inv) in
    search (rules, below)
