-- The plan is what the plain kernel does on the trace's record; the machine draws the next guess and takes it.
use Rattle.sk_kernel.proofs.Names.{◌+◌, ◌<◌, ◌^◌, ◌≡◌, Some, None, [], ◌∷◌, ◌++◌, sym, ◌∙◌, ap, subst, arith, rules}
use Rattle.sk_kernel.proofs.Names.{MergedTakes, next_of, machine_of, plain, EntryView, input_in, TooMany, TraceFull}
use Rattle.sk_kernel.proofs.Names.{KernelView, guess_refused, next_guess, room, with_event, IsNew, the_view, from_ok}
use Rattle.sk_trace.specs.declared.event.Event.TheVariants as events
use Rattle.sk_kernel.proofs.Whole.{tidy, next_rises}
use Rattle.sk_kernel.proofs.Tokens.{next_is, guess_new, guessed_whole}
use Rattle.sk_kernel.proofs.Refusals.{guess_misfit, guess_too_many, guess_without_room, guess_free}
use Rattle.sk_kernel.proofs.Opened.{still_opened, few_open}
use Rattle.sk_kernel.proofs.kernel.Kernel.speculate_lent.Goals as goal

pub returns-in_err-plan_guess : goal.returns-in_err-plan_guess
returns-in_err-plan_guess c =
    let n : EntryView = record { pid = c.args.pid; input = (input_in c.args.input); guess = Some (next_guess c.args.self.now) } in
    let why = c.in_err-plan_guess.field-0.0 in
    let refused = subst (λ (k : KernelView). guess_refused k n ≡ Some why) c.self.view_is
    (guess_misfit (the_view c.self.inside) c.self.inside.machine c.self.inside.trace.room c.self.invariant.0 n why c.in_err-plan_guess.ensures.0) in
    let told = c.in_err-plan_guess.ensures.1 in
    search (rules, refused, told, c.self.view_is)

pub take_guess-requires-clause-tidy : goal.take_guess-requires-clause-tidy
take_guess-requires-clause-tidy c = tidy (the_view c.self.inside) c.self.inside.machine c.self.invariant.0.stands

pub take_guess-requires-clause-rising : goal.take_guess-requires-clause-rising
take_guess-requires-clause-rising c = next_rises (the_view c.self.inside) c.self.inside.machine c.self.invariant.0.stands

pub returns-then-is_full : goal.returns-then-is_full
returns-then-is_full c =
    let n : EntryView = record { pid = c.args.pid; input = (input_in c.args.input); guess = Some (next_guess c.args.self.now) } in (
      subst (λ (k : KernelView). guess_refused k n ≡ Some TooMany) c.self.view_is
          (guess_too_many (the_view c.self.inside) c.self.inside.machine c.self.inside.trace.room c.self.invariant.0 n c.in_ok-plan_guess.ensures.1 (sym c.is_full.ensures ∙ c.if-is_full.true)),
      c.self.view_is,
    )

pub returns-then-room-lt2 : goal.returns-then-room-lt2
returns-then-room-lt2 c =
    let n : EntryView = record { pid = c.args.pid; input = (input_in c.args.input); guess = Some (next_guess c.args.self.now) } in (
      subst (λ (k : KernelView). guess_refused k n ≡ Some TraceFull) c.self.view_is
          (guess_without_room (the_view c.self.inside) c.self.inside.machine c.self.inside.trace.room c.self.invariant.0 n c.in_ok-plan_guess.ensures.1 (sym c.is_full.ensures ∙ c.if-is_full.false)
          c.room-room.result (c.room-room.ensures ∙ ap room (sym c.self.view_is)) c.if-room-lt2.true),
      c.self.view_is,
    )

pub returns-then-is_err : goal.returns-then-is_err
returns-then-is_err c =
    let n : EntryView = record { pid = c.args.pid; input = (input_in c.args.input); guess = Some (next_guess c.args.self.now) } in (
      subst (λ (k : KernelView). guess_refused k n ≡ None) c.self.view_is
          (guess_free (the_view c.self.inside) c.self.inside.machine c.self.inside.trace.room c.self.invariant.0 n c.in_ok-plan_guess.ensures.1 (sym c.is_full.ensures ∙ c.if-is_full.false)
          c.room-room.result (c.room-room.ensures ∙ ap room (sym c.self.view_is)) c.if-room-lt2.false),
      (λ i. record (the_view c.self.inside) { trace = c.reserve.ensures.events i }) ∙ c.self.view_is,
    )

pub returns-in-Err : goal.returns-in-Err
returns-in-Err c =
    let n : EntryView = record { pid = c.args.pid; input = (input_in c.args.input); guess = Some (next_guess c.args.self.now) } in (
      subst (λ (k : KernelView). guess_refused k n ≡ None) c.self.view_is
          (guess_free (the_view c.self.inside) c.self.inside.machine c.self.inside.trace.room c.self.invariant.0 n c.in_ok-plan_guess.ensures.1 (sym c.is_full.ensures ∙ c.if-is_full.false)
          c.room-room.result (c.room-room.ensures ∙ ap room (sym c.self.view_is)) c.if-room-lt2.false),
      (λ i. record (the_view c.self.inside) { trace = c.reserve.ensures.events i }) ∙ c.self.view_is,
    )

pub returns-in_default : goal.returns-in_default
returns-in_default c =
    let n : EntryView = record { pid = c.args.pid; input = (input_in c.args.input); guess = Some (next_guess c.args.self.now) } in
    let same = c.in_default.ensures.err in (
      subst (λ (k : KernelView). guess_refused k n ≡ None) c.self.view_is
          (guess_free (the_view c.self.inside) c.self.inside.machine c.self.inside.trace.room c.self.invariant.0 n c.in_ok-plan_guess.ensures.1 (sym c.is_full.ensures ∙ c.if-is_full.false)
          c.room-room.result (c.room-room.ensures ∙ ap room (sym c.self.view_is)) c.if-room-lt2.false),
      (λ i. record (the_view c.self.inside) { number = (same i).guesses.kernel; earlier = (same i).guesses.earlier; trace = c.reserve.ensures.events i })
          ∙ c.self.view_is,
    )

pub invariant_of-self-2 : goal.invariant_of-self-2
invariant_of-self-2 c =
    let drawn_entry : EntryView = record { pid = c.args.pid; input = (input_in c.args.input); guess = Some (next_of c.self.inside.machine.guesses) } in
    let takes = subst (λ s. MergedTakes (plain s) (machine_of c.self.inside.machine) drawn_entry (machine_of c.take_guess.new.self)) c.scripts.ensures c.in-Ok-take_guess.ensures.ok in
    let reserved = from_ok c.reserve.result c.if-is_err.ensures.value c.reserve.ensures.room in
    let pushed = c.push.ensures.room in
    let counted = c.open_count.ensures in
    let number = c.id-id.ensures ∙ ap (λ t. t.id) c.in-Ok-take_guess.ensures.token in (
      guessed_whole (the_view c.self.inside) c.self.inside.machine c.self.inside.trace.room c.self.invariant.0 c.take_guess.new.self c.push.new.self.room c.args.pid (input_in c.args.input) c.id-id.result c.push.new.self.events
          takes c.in-Ok-take_guess.ensures.guesses number
          (c.push.ensures.events ∙ (λ i. c.reserve.ensures.events i ++ events.Guess c.id-id.result c.args.pid (c.in-Ok.ensures.ok i) ∷ []))
          (omega (arith, reserved, pushed, counted)),
      still_opened (the_view c.self.inside) _ _ c.push.new.self.events _ c.self.invariant.1 (ap (λ v. v.kernel) c.in-Ok-take_guess.ensures.guesses) (ap (λ v. v.earlier) c.in-Ok-take_guess.ensures.guesses),
    )

pub returns : goal.returns
returns c =
    let n : EntryView = record { pid = c.args.pid; input = (input_in c.args.input); guess = Some (next_guess c.args.self.now) } in
    let next = next_is (the_view c.self.inside) c.self.inside.machine c.self.inside.trace.room c.self.invariant.0 ∙ ap next_guess c.self.view_is in
    let number = c.id-id.ensures ∙ ap (λ t. t.id) c.in-Ok-take_guess.ensures.token ∙ next in
    let more = c.push.ensures.events ∙ (λ i. c.reserve.ensures.events i ++ events.Guess c.id-id.result c.args.pid (c.in-Ok.ensures.ok i) ∷ []) ∙ ap (λ g. c.self.inside.trace.events ++ events.Guess g c.args.pid (input_in c.args.input) ∷ []) number in
    let left =
    (λ i. record (the_view c.self.inside) { number = (c.in-Ok-take_guess.ensures.guesses i).kernel; earlier = (c.in-Ok-take_guess.ensures.guesses i).earlier; trace = more i })
    ∙ ap (λ (k : KernelView). with_event k (events.Guess (next_guess c.args.self.now) c.args.pid (input_in c.args.input))) c.self.view_is in
    let drawn_entry : EntryView = record { pid = c.args.pid; input = (input_in c.args.input); guess = Some (next_of c.self.inside.machine.guesses) } in
    let takes = subst (λ s. MergedTakes (plain s) (machine_of c.self.inside.machine) drawn_entry (machine_of c.take_guess.new.self)) c.scripts.ensures c.in-Ok-take_guess.ensures.ok in
    let fresh =
    subst (λ (k : KernelView). IsNew k (with_event k (events.Guess (next_guess k) c.args.pid (input_in c.args.input)))) c.self.view_is
    (guess_new (the_view c.self.inside) c.self.inside.machine c.self.inside.trace.room c.self.invariant.0 c.take_guess.new.self c.args.pid (input_in c.args.input) takes) in (
      subst (λ (k : KernelView). guess_refused k n ≡ None) c.self.view_is
          (guess_free (the_view c.self.inside) c.self.inside.machine c.self.inside.trace.room c.self.invariant.0 n c.in_ok-plan_guess.ensures.1 (sym c.is_full.ensures ∙ c.if-is_full.false)
          c.room-room.result (c.room-room.ensures ∙ ap room (sym c.self.view_is)) c.if-room-lt2.false),
      c.in-Ok-take_guess.ensures.token ∙ (λ i. record { kernel = (ap (λ (k : KernelView). k.number) c.self.view_is) i; id = next i }),
      left,
      subst (λ (k : KernelView). IsNew c.args.self.now k) (sym left) fresh,
    )

pub overflow_add-open_count : goal.overflow_add-open_count
overflow_add-open_count c =
    let few = few_open (the_view c.self.inside) c.self.inside.machine c.self.invariant.0.stands c.room-room.result (c.room-room.ensures ∙ ap room (sym c.self.view_is)) (omega (arith, c.if-room-lt2.false)) in
    let below : c.open_count.result + 2 < 2 ^ 33 = omega (arith, few, c.open_count.ensures, c.limit-limit.ensures, c.limit-limit.type_inv) in
    search (rules, below)
