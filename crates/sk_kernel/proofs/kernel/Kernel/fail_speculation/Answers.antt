-- The token says what its guess is; a failure is the machine's, with one event more.
use Rattle.sk_kernel.proofs.Names.{Ok, [], refl, sym, ◌∙◌, ap, the_view}
use Rattle.sk_trace.specs.declared.event.Event.TheVariants as events
use Rattle.sk_kernel.proofs.Whole.{grows, undecided_since}
use Rattle.sk_kernel.proofs.Tokens.{token_undecided, stranger_back, nothing_left, decided_by, kept_place, failed_whole}
use Rattle.sk_kernel.proofs.Opened.{still_opened}
use Rattle.sk_kernel.proofs.kernel.Kernel.fail_speculation.Goals as goal

pub returns-in-Err : goal.returns-in-Err
returns-in-Err c =
    let told = stranger_back (the_view c.self.inside) c.self.inside.machine c.self.inside.trace.room c.self.invariant.0 c.args.guess c.args.self.now c.self.view_is c.in-Err.guess (sym c.redeem.ensures ∙ c.in-Err.is) in
    (told.0, told.1, refl)

pub fail-requires : goal.fail-requires
fail-requires c = record {
  grow = grows (the_view c.self.inside) c.self.inside.machine c.self.invariant.0.stands;
  undecided = undecided_since (the_view c.self.inside) c.self.inside.machine c.self.invariant.0.stands c.in-Undecided.id
      (token_undecided (the_view c.self.inside) c.self.inside.machine c.self.inside.trace.room c.self.invariant.0 c.args.guess c.in-Undecided.id (sym c.redeem.ensures ∙ c.in-Ok.is ∙ ap Ok c.in-Undecided.is));
}

pub push-requires : goal.push-requires
push-requires c =
    kept_place (the_view c.self.inside) c.self.inside.machine c.self.inside.machine c.self.inside.trace.room 0 c.in-Undecided.id [] c.self.invariant.0
    (token_undecided (the_view c.self.inside) c.self.inside.machine c.self.inside.trace.room c.self.invariant.0 c.args.guess c.in-Undecided.id (sym c.redeem.ensures ∙ c.in-Ok.is ∙ ap Ok c.in-Undecided.is))

pub invariant_of-self : goal.invariant_of-self
invariant_of-self c = (
  failed_whole (the_view c.self.inside) c.self.inside.machine c.fail.new.self c.self.inside.trace.room c.push.new.self.room c.in-Undecided.id c.push.new.self.events c.self.invariant.0
      (token_undecided (the_view c.self.inside) c.self.inside.machine c.self.inside.trace.room c.self.invariant.0 c.args.guess c.in-Undecided.id (sym c.redeem.ensures ∙ c.in-Ok.is ∙ ap Ok c.in-Undecided.is))
      c.fail.ensures.fails c.fail.ensures.earlier c.fail.ensures.drawn c.push.ensures.events c.push.ensures.room,
  still_opened (the_view c.self.inside) _ _ c.push.new.self.events _ c.self.invariant.1 c.fail.ensures.kernel c.fail.ensures.earlier,
)

pub returns-in-Struck : goal.returns-in-Struck
returns-in-Struck c =
    nothing_left (the_view c.self.inside) c.self.inside.machine c.self.inside.trace.room c.self.invariant.0 c.args.guess c.args.self.now c.self.view_is c.in-Struck._struck (events.Fail c.args.guess.id)
    (sym c.redeem.ensures ∙ c.in-Ok.is ∙ ap Ok c.in-Struck.is)

pub returns-in-Undecided : goal.returns-in-Undecided
returns-in-Undecided c =
    decided_by (the_view c.self.inside) c.self.inside.machine c.self.inside.trace.room c.self.invariant.0 c.args.guess c.args.self.now c.self.view_is c.in-Undecided.id events.Fail _ (sym c.redeem.ensures ∙ c.in-Ok.is ∙ ap Ok c.in-Undecided.is)
    (λ i. record (the_view c.self.inside) { number = c.fail.ensures.kernel i; earlier = c.fail.ensures.earlier i; trace = c.push.ensures.events i })
