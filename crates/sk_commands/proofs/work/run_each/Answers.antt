-- One command more is carried out.
use Rattle.sk_commands.proofs.Names.{◌≡◌, ◌∷◌, ◌++◌, map, sym, ap, ◌∙◌, vec_items, into_iter_items, told}
use Rattle.sk_commands.proofs.Queued.{left_over, replies_on, writes_on}
use Rattle.sk_commands.proofs.work.run_each.Goals as goal

pub loop-command-preserved : goal.loop-command-preserved
loop-command-preserved g c =
    let known = map vec_items c.args.known.now in
    let has = g.S.Look.look c.args.store.now in
    let rest = into_iter_items c.next.new.self in
    let ws = told c.loop-command.so_far in
    let new = told c.run_next.new.so_far in
    let is : into_iter_items c.loop-command.command-iterator ≡ c.in-Some.command ∷ rest = c.in-Some.ensures.steps.0 in (
      writes_on known has c.in-Some.command rest ws new _ c.in_ok-reply.ensures.written
          (ap (λ cs. ws ++ (left_over known has cs ws).written) (sym is) ∙ c.loop-command.invariant.0),
      ap (λ r. r ++ (left_over known has rest new).reply) c.in_ok-push.ensures.items
          ∙ replies_on known has c.in-Some.command rest ws new c.loop-command.replies.items _ c.in_ok-reply.reply c.in_ok-reply.ensures.written c.in_ok-reply.ensures.reply
          (ap (λ cs. c.loop-command.replies.items ++ (left_over known has cs ws).reply) (sym is) ∙ c.loop-command.invariant.1),
    )
