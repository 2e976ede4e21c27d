-- A line of an event, from its bytes.
use Rattle.sk_scenario.proofs.Glances.{begins_turn, begins_serve, begins_reply, ends_pid}
use Rattle.sk_scenario.proofs.world.WorldRulesRules.glance.Goals as goal

pub returns-in-Some : goal.returns-in-Some
returns-in-Some c =
    let tail = c.in-Some.tail.now in
    let rest = c.in_ok-rest.rest.now in
    let d = c.in_ok-pid.ensures in
    let ends = ends_pid tail d.1 rest d.0 c.in_ok-rest.ensures.0 c.in_ok-pid.pid d.2 d.3 c.in_ok-rest.ensures.1 d.4 in
    rw c.turn.ensures (begins_turn c.args.text.now tail rest c.in_ok-pid.pid c.in-Some.ensures ends, tt)

pub returns-in-Some-behind_serve : goal.returns-in-Some-behind_serve
returns-in-Some-behind_serve c =
    rw c.serve.ensures (begins_serve c.args.text.now c.in-Some-behind_serve.rest.now c.in-Some-behind_serve.ensures, tt)

pub returns : goal.returns
returns c = rw c.reply.ensures (begins_reply c.args.text.now c.in_ok-rest-2.rest.now c.in_ok-rest-2.ensures, tt)
