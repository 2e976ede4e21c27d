-- A turn adds at most one request, at the end; a refused one changes nothing.
use Rattle.sk_client.proofs.Names.{Ok, Err, ◌∙◌, ap, subst, DeskView, TurnPost, WorldView}
use Rattle.sk_client.proofs.Desks.{turn_any, turn_back}
use Rattle.sk_client.proofs.world.World.turn.Goals as goal

pub invariant_of-self : goal.invariant_of-self
invariant_of-self c =
    turn_any c.self.inside.server c.self.inside.replies.items c.self.inside.back c.self.inside.desk c.turn.new.self c.args.pid (Err c.in-Err.why) c.in-Err.ensures c.self.invariant

pub returns-in-Err : goal.returns-in-Err
returns-in-Err c =
    let same = turn_back c.in-Err.why c.self.inside.desk c.turn.new.self c.args.pid c.in-Err.ensures in
    let told = subst (λ (d : DeskView). TurnPost (Err c.in-Err.why) c.self.inside.desk c.args.pid d) same c.in-Err.ensures in (
      subst (λ (d : DeskView). TurnPost (Err c.in-Err.why) d c.args.pid d) (ap (λ (w : WorldView). w.desk) c.self.view_is) told,
      (λ i. record { desk = same i; server = c.self.inside.server; replies = c.self.inside.replies.items; back = c.self.inside.back }) ∙ c.self.view_is,
    )

pub invariant_of-self-2 : goal.invariant_of-self-2
invariant_of-self-2 c =
    turn_any c.self.inside.server c.self.inside.replies.items c.self.inside.back c.self.inside.desk c.turn.new.self c.args.pid (Ok c.in-Ok.turn) c.in-Ok.ensures c.self.invariant
