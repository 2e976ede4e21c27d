-- The guess may have been drawn, and nothing else has changed.
use Rattle.sk_batched.proofs.Names.{on_err_weaker}
use Rattle.sk_batched.proofs.Answering.{began_still}
use Rattle.sk_batched.proofs.batched.Batched.run.Goals as goal

pub returns-clause-err : goal.returns-clause-err
returns-clause-err g c =
    on_err_weaker c.take_in_batch.result (λ still. began_still c.args.self.now c.begin.new.self c.take_in_batch.new.self c.in_ok-begin.ensures.ok still c.take_in_batch.ensures.queue c.take_in_batch.ensures.begun)
    c.take_in_batch.ensures.err
