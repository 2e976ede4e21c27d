-- The queue's cause is the first against the step.
use Rattle.sk_batched.proofs.Names.{◌≡◌, Some, sym, ap, ◌∙◌, subst, BatchedView}
use Rattle.sk_batched.specs.Base.{append_refused}
use Rattle.sk_batched.specs.Refused.{cause_of}
use Rattle.sk_batched.proofs.Answering.{log_refused_by, refused_as}
use Rattle.sk_batched.proofs.batched.Batched.may_log.Goals as goal

pub returns-in-Err-clause-err : goal.returns-in-Err-clause-err
returns-in-Err-clause-err g c =
    let why = c.in-Err.refusal in
    let refused : append_refused c.args.self.now.queue c.args.len ≡ Some c.in-Err.refusal =
    subst (λ (v : BatchedView _ _). append_refused v.queue c.args.len ≡ Some c.in-Err.refusal) c.self.view_is c.in-Err.ensures.err.0 in (
      log_refused_by c.args.self.now c.args.step.now c.args.len why c.in_ok-may_take.ensures.ok refused ∙ ap Some (sym c.named.ensures),
      subst (λ r. cause_of r ≡ Some r) (sym c.named.ensures) (refused_as c.args.self.now.queue c.args.len why refused),
    )
