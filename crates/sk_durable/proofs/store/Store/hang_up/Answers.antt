-- The channel is gone, and what may go out of it is dropped.
use Rattle.sk_durable.proofs.Names.{refl, subst, the_view, HangUpPost, StoreView}
use Rattle.sk_durable.proofs.store.Store.hang_up.Goals as goal

pub returns : goal.returns
returns c =
    subst (λ (a : StoreView). HangUpPost c.args.channel a c.let_go.new.self) c.self.view_is
    (the_view (record c.self.inside { channels = c.hang_up.new.self }), (c.hang_up.ensures, (refl, refl, refl)), c.let_go.ensures)
