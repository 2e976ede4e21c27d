-- The queue is told of it.
use Rattle.sk_durable.proofs.Names.{inl, refl, subst, Synced, the_view, LearnPost}
use Rattle.sk_durable.proofs.Out.{learns}
use Rattle.sk_durable.proofs.store.Store.synced.Goals as goal

pub returns : goal.returns
returns c =
    subst (λ s. LearnPost Synced c.args.frame c.synced.result s
    (the_view (record c.self.inside { batched = c.synced.new.self }))) c.self.view_is
    (learns Synced c.args.frame c.synced.result (the_view c.self.inside) c.synced.new.self (inl refl)
    c.synced.ensures.told c.synced.ensures.rest)
