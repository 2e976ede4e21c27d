-- The guess was undecided, so the kernel is as after the decision.
use Rattle.sk_client.proofs.Names.{rules, ◌≡◌, ◌∷◌, Some, sym, ◌∙◌, ap, subst, PendingRequest, DeskView, first_guess}
use Rattle.sk_client.proofs.Names.{decision, given, kept_after, Outcome}
use Rattle.sk_client.proofs.Desks.{done_left, decided_left}
use Rattle.sk_client.proofs.desk.Desk.decide.Goals as goal

pub returns-in-Some-Done-clause-left : goal.returns-in-Some-Done-clause-left
returns-in-Some-Done-clause-left c =
    let inside = c.self.inside in
    let request : PendingRequest = c.in-Some.request in
    let reply = c.args.reply.now in
    let before : DeskView = record { kernel = inside.holder.kernel; taken = inside.requests.taken; waiting = inside.requests.waiting; first = inside.first; next = inside.next; kept = inside.kept.items } in
    let after : DeskView =
    record { kernel = c.decide_guess-outcome.new.holder.kernel; taken = c.pop_taken.new.self.taken; waiting = c.pop_taken.new.self.waiting; first = inside.first; next = inside.next; kept = c.keep.new.kept.items } in
    let is : c.decide_guess-outcome.result ≡ Some Outcome.Done = search rules in
    let done = done_left c.decide_guess-outcome.result (decision c.args.id reply.answer) c.args.id inside.holder c.decide_guess-outcome.new.holder is c.decide_guess-outcome.ensures in
    let taken : inside.requests.taken ≡ request ∷ c.pop_taken.new.self.taken = search rules in
    let guess : request.guess ≡ Some c.args.id = ap first_guess (sym taken) ∙ ap (λ (d : DeskView). first_guess d.taken) c.self.view_is ∙ c.requires.guess in
    let process = ap (λ (q : PendingRequest). q.process) c.request.view_is in
    subst (λ (d : DeskView). after ≡ given d reply d.taken) c.self.view_is
    (decided_left before after reply request c.pop_taken.new.self.taken c.args.id taken guess done.0 (λ i. record {
      kernel = done.1 i;
      taken = c.pop_taken.new.self.taken;
      waiting = c.in-Some.ensures.waiting i;
      first = inside.first;
      next = inside.next;
      kept = (c.keep.ensures.items ∙ (λ j. kept_after (process j) (c.answer_kept.ensures j) inside.kept.items)) i;
    }))
