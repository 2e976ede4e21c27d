-- The places turn.
use Rattle.sk_durable.proofs.Names.{subst, the_view, TurnPost}
use Rattle.sk_durable.proofs.Out.{turns}
use Rattle.sk_durable.proofs.store.Store.turn.Goals as goal

pub returns : goal.returns
returns c =
    subst (λ s. TurnPost c.turn.result s (the_view (record c.self.inside { places = c.turn.new.self }))) c.self.view_is
    (turns c.turn.result (the_view c.self.inside) c.turn.new.self c.turn.ensures)
