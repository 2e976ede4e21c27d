-- What is no process has no buffer.
use Rattle.sk_client.proofs.Names.{◌∙◌, Some, sym, ap, subst, get, Proc, KernelView, state_at, Shows, buffer}
use Rattle.sk_client.proofs.Desks.{no_buffer, buffer_of_value}
use Rattle.sk_client.proofs.desk.Desk.buffer.Goals as goal

pub returns-in-Some-Value : goal.returns-in-Some-Value
returns-in-Some-Value c =
    let stored = get (state_at c.kernel.result.now) (Proc c.args.pid) in
    let shows = subst (λ v. Shows stored v) (c.in-Some-Value.is ∙ ap (λ v. Some v) c.in-Some-Value.field-0-is) c.value.ensures in
    c.empty.ensures ∙ sym (buffer_of_value stored c.in-Some-Value.field-0-0 shows) ∙ ap (λ (k : KernelView). buffer k c.args.pid) c.kernel.ensures

pub returns-in-None : goal.returns-in-None
returns-in-None c =
    let stored = get (state_at c.kernel.result.now) (Proc c.args.pid) in
    let shows = subst (λ v. Shows stored v) c.in-None.is c.value.ensures in
    c.empty-in-None.ensures ∙ sym (no_buffer stored shows) ∙ ap (λ (k : KernelView). buffer k c.args.pid) c.kernel.ensures
