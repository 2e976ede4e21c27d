-- What was copied is cut off again.
use Rattle.sk_commands.proofs.Names.{map, sym, ap, ◌∙◌, vec_items}
use Rattle.sk_commands.proofs.Deleted.{cut_back, where_err}
use Rattle.sk_commands.proofs.work.ask_each.Goals as goal

pub returns-then-is_err-clause-err : goal.returns-then-is_err-clause-err
returns-then-is_err-clause-err c =
    ap (map vec_items) c.truncate.ensures.items
    ∙ cut_back c.asks.new.looked.items c.args.looked.now.items c.loop-command.invariant.0 c.len-before.result
    (c.len-before.ensures ∙ c.args.looked.now.ok.0)
    (where_err c.asks.result (sym c.is_err.ensures.value ∙ c.if-is_err.true) c.asks.ensures.err ∙ c.loop-command.invariant.1)
