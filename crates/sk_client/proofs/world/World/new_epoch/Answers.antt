-- Without a request there is no reply on its way, and none behind a new epoch.
use Rattle.sk_client.proofs.Names.{subst, WorldView, WorldEpochPost}
use Rattle.sk_client.proofs.Desks.{epoch_joined, epoch_left, world_of}
use Rattle.sk_client.proofs.world.World.new_epoch.Goals as goal

pub invariant_of-self : goal.invariant_of-self
invariant_of-self c =
    epoch_joined c.self.inside.server c.self.inside.replies.items c.self.inside.back c.new_epoch.result c.self.inside.desk c.new_epoch.new.self c.new_epoch.ensures c.self.invariant

pub returns : goal.returns
returns c =
    let server = c.self.inside.server in
    let replies = c.self.inside.replies.items in
    subst (λ (w : WorldView). WorldEpochPost c.new_epoch.result w (world_of c.new_epoch.new.self server replies c.self.inside.back)) c.self.view_is
    (epoch_left server replies c.self.inside.back c.new_epoch.result c.self.inside.desk c.new_epoch.new.self c.new_epoch.ensures c.self.invariant)
