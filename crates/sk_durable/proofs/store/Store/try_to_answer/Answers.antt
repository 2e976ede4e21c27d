-- What became of it, in the batches alone.
use Rattle.sk_durable.proofs.Names.{Err, inl, refl, subst, sym, err_from_is_err_and, Work, NotDone, Memory, IsFor}
use Rattle.sk_durable.proofs.Names.{IsNotDone}
use Rattle.sk_durable.proofs.Calls.{all_stays, comes, no_memory, rest_on, tried, was_long}
use Rattle.sk_durable.proofs.store.Store.try_to_answer.Goals as goal

pub returns-in_err-work : goal.returns-in_err-work
returns-in_err-work c =
    let p = err_from_is_err_and c.from_residual.result c.from_residual.ensures.1 in
    rw (p.1, p.2)
    (tried c.args.looks c.args.asker c.args.ask (Err Memory) c.args.self.now c.args.self.now
    (no_memory c.args.looks c.args.asker c.args.ask c.args.self.now.batched c.args.self.now.batched (all_stays c.args.self.now.batched)) refl)

pub returns-in_ok-error-in-Err-LongKey : goal.returns-in_ok-error-in-Err-LongKey
returns-in_ok-error-in-Err-LongKey c =
    let long = was_long c.args.asker c.args.ask c.args.self.now.batched c.carry_out.new.self.batched c.in_ok-work.work c.in_ok-work.ensures.work
    (subst (λ (why : NotDone). IsNotDone why c.args.self.now.batched c.args.asker c.in_ok-work.work c.carry_out.new.self.batched) c.in-Err-LongKey.field-0-is c.in-Err-LongKey.ensures.post) in
    tried c.args.looks c.args.asker c.args.ask c.carry_out-in-Err-LongKey.result c.args.self.now c.carry_out-in-Err-LongKey.new.self
    (comes c.args.looks c.args.asker c.args.ask c.args.self.now.batched c.carry_out.new.self.batched long.0 c.in_ok-error-in-Err-LongKey.error
    (subst (λ (w : Work). IsFor c.args.self.now.batched c.args.asker c.args.ask w) (sym c.in_ok-error-in-Err-LongKey.ensures.work) long.1)
    c.in_ok-error-in-Err-LongKey.ensures.named c.carry_out-in-Err-LongKey.result c.carry_out-in-Err-LongKey.new.self.batched
    c.carry_out-in-Err-LongKey.ensures.post)
    (rest_on c.args.self.now c.carry_out.new.self c.carry_out-in-Err-LongKey.new.self c.carry_out.ensures.rest c.carry_out-in-Err-LongKey.ensures.rest)

pub returns-in_default-2 : goal.returns-in_default-2
returns-in_default-2 c =
    tried c.args.looks c.args.asker c.args.ask c.carry_out.result c.args.self.now c.carry_out.new.self
    (comes c.args.looks c.args.asker c.args.ask c.args.self.now.batched c.args.self.now.batched (all_stays c.args.self.now.batched) c.in_ok-work.work
    (inl c.in_ok-work.ensures.work) c.in_ok-work.ensures.named c.carry_out.result c.carry_out.new.self.batched c.carry_out.ensures.post)
    c.carry_out.ensures.rest
