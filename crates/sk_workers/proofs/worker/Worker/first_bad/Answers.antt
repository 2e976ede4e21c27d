use Rattle.sk_workers.proofs.Names.{ap, ◌∙◌, subst, WorkerView, AreOwn}
use Rattle.sk_workers.proofs.Closed.{found}
use Rattle.sk_workers.proofs.worker.Worker.first_bad.Goals as goal

pub returns : goal.returns
returns g c =
    let is = c.self.view_is in
    found c.args.history.now c.args.self.now c.as_slice.result.now c.bad_in.result (c.as_slice.ensures.value ∙ ap (λ (w : WorkerView). w.receipts) is)
    (subst (λ (w : WorkerView). AreOwn w.number w.receipts) is c.self.invariant.own)
    c.bad_in.ensures
