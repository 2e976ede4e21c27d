-- The desk has the request of the oldest reply.
use Rattle.sk_client.proofs.Names.{rules, ◌≡◌, ◌∷◌, List, subst, Reply, IsJoined}
use Rattle.sk_client.proofs.Desks.{given_joined}
use Rattle.sk_client.proofs.world.World.reply.Goals as goal

pub invariant_of-self : goal.invariant_of-self
invariant_of-self c =
    let items : c.self.inside.replies.items ≡ c.in-Some.reply.now ∷ c.pop_front.new.self.items = search rules in
    let joined = subst (λ (rs : List Reply). IsJoined c.self.inside.desk c.self.inside.server rs c.self.inside.back) items c.self.invariant in
    given_joined c.self.inside.desk c.give_lent.new.self c.self.inside.server c.in-Some.reply.now c.pop_front.new.self.items c.self.inside.back c.in-Ok.ensures.2 joined
