-- With a place beside those that are kept, the kernel refuses the step as the desk does.
use Rattle.sk_client.proofs.Names.{◌≡◌, List, None, sym, ◌∙◌, ap, subst, input_in, cause, step_refused, Input}
use Rattle.sk_client.proofs.Names.{KeptAnswer, brought, DeskView, entry, kept_for, rule_refused, Rule}
use Rattle.sk_client.proofs.Desks.{same_refusal}
use Rattle.sk_client.proofs.desk.Desk.take_step.Goals as goal

pub returns-in-Err : goal.returns-in-Err
returns-in-Err c =
    let input = c.brought-input.result in
    let refused = subst (λ (d : DeskView). step_refused d.kernel (entry c.args.pid (input_in input) None) ≡ cause c.in-Err.why) c.self.view_is c.in-Err.ensures.kernel.0 in
    let same = c.brought-input.ensures ∙ ap (λ (ks : List KeptAnswer). brought c.args.takes_kept (kept_for c.args.pid ks)) c.deref-2.ensures.value ∙ ap (λ (d : DeskView). brought c.args.takes_kept (kept_for c.args.pid d.kept)) c.self.view_is in (
      ap (λ (i : Input). rule_refused c.args.self.now c.args.pid (Rule.Steps i)) (sym same)
          ∙ sym (same_refusal c.args.self.now c.free_places.result c.free_places.ensures c.args.pid (input_in input) c.if-free_places-lt1.false) ∙ refused,
      (λ i. record { kernel = c.in-Err.ensures.kernel.1 i; taken = c.self.inside.requests.taken; waiting = c.self.inside.requests.waiting; first = c.self.inside.first; next = c.self.inside.next; kept = c.self.inside.kept.items })
          ∙ c.self.view_is,
    )
