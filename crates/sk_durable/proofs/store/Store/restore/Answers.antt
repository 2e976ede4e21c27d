-- A new store that carried out the work is a new one with what it leaves.
use Rattle.sk_durable.proofs.Names.{subst, NOBODY, RestorePost, StoreView}
use Rattle.sk_durable.proofs.Restored.{restores}
use Rattle.sk_durable.proofs.store.Store.restore.Goals as goal

pub returns : goal.returns
returns c =
    let s = c.self.inside in
    let done = c.restore in
    let old : StoreView = record { limits = s.limits; batched = s.batched; channels = s.channels; places = s.places; ahead = s.ahead } in
    let new : StoreView = record old { batched = done.new.batched } in
    subst (λ (s : StoreView). RestorePost c.args.work done.result s new) c.self.view_is
    (restores old done.new.batched NOBODY c.args.work c.requires done.result done.ensures.post)
