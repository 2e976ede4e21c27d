-- The step of what happens is taken; it fits.
use Rattle.real_epochs.proofs.Names.{◌≡◌, None, refl, sym, subst, Entry, Does, deed_of}
use Rattle.std.proofs.lemmas.Result.{err_from_is_err_and}
use Rattle.real_epochs.specs.Calls.{Happened}
use Rattle.real_epochs.specs.Refusals.{misfit}
use Rattle.real_epochs.specs.Story.{with_call, Happens, Story}
use Rattle.real_epochs.specs.Tells.{EpochsView, Goes, Tells}
use Rattle.real_epochs.proofs.Begin.{event_goes}
use Rattle.real_epochs.proofs.Plugs.{happened_not, same_stays, took_deed}
use Rattle.real_epochs.proofs.epochs.Epochs.happens.Goals as goal

pub returns-in_err-take : goal.returns-in_err-take
returns-in_err-take c =
    let a : EpochsView = record { parts = c.self.inside.kernel; line = c.self.inside.line.items } in
    let b : EpochsView = record { parts = c.take.new.self; line = c.self.inside.line.items } in
    subst (λ (v : EpochsView). Happened c.args.event c.from_residual-in_err-take.result v b) c.self.view_is
    (happened_not a b c.args.event c.from_residual-in_err-take.result
    (err_from_is_err_and c.from_residual-in_err-take.result c.from_residual-in_err-take.ensures.1)
    (subst (λ (v : EpochsView). (s : Story) → Tells s v → misfit s c.args.event ≡ None) (sym c.self.view_is) c.in_ok-check.ensures.ok)
    (same_stays a b c.in_err-take.ensures.err refl))

pub invariant_of-self-2 : goal.invariant_of-self-2
invariant_of-self-2 c =
    let a : EpochsView = record { parts = c.self.inside.kernel; line = c.self.inside.line.items } in
    let b : EpochsView = record { parts = c.take.new.self; line = c.self.inside.line.items } in
    let n : Entry = Does c.args.event in
    let took = took_deed a.parts b.parts None c.in_ok-step.step.looked.items c.in_ok-step.step.written.items c.in_ok-step.step.said (deed_of n)
    c.in_ok-step.ensures.looked c.in_ok-step.ensures.written c.in_ok-step.ensures.said c.in_ok-take.ensures.ok in
    let fits = subst (λ (v : EpochsView). (s : Story) → Tells s v → misfit s c.args.event ≡ None) (sym c.self.view_is) c.in_ok-check.ensures.ok in (
      with_call (Happens c.args.event) c.self.invariant.0,
      event_goes a b c.args.event took refl fits c.self.invariant.0 c.self.invariant.1,
    )

pub returns : goal.returns
returns c =
    let a : EpochsView = record { parts = c.self.inside.kernel; line = c.self.inside.line.items } in
    let b : EpochsView = record { parts = c.take.new.self; line = c.self.inside.line.items } in
    let n : Entry = Does c.args.event in
    let took = took_deed a.parts b.parts None c.in_ok-step.step.looked.items c.in_ok-step.step.written.items c.in_ok-step.step.said (deed_of n)
    c.in_ok-step.ensures.looked c.in_ok-step.ensures.written c.in_ok-step.ensures.said c.in_ok-take.ensures.ok in
    let fits = subst (λ (v : EpochsView). (s : Story) → Tells s v → misfit s c.args.event ≡ None) (sym c.self.view_is) c.in_ok-check.ensures.ok in (
      c.in_ok-check.ensures.ok,
      subst (λ (v : EpochsView). Goes (Happens c.args.event) v b) c.self.view_is (event_goes a b c.args.event took refl fits),
    )
