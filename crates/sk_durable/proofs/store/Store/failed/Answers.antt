-- The queue is told of it.
use Rattle.sk_durable.proofs.Names.{inr, refl, subst, Failed, the_view, LearnPost}
use Rattle.sk_durable.proofs.Out.{learns}
use Rattle.sk_durable.proofs.store.Store.failed.Goals as goal

pub returns : goal.returns
returns c =
    subst (λ s. LearnPost Failed c.args.frame c.failed.result s
    (the_view (record c.self.inside { batched = c.failed.new.self }))) c.self.view_is
    (learns Failed c.args.frame c.failed.result (the_view c.self.inside) c.failed.new.self (inr refl)
    c.failed.ensures.told c.failed.ensures.rest)
