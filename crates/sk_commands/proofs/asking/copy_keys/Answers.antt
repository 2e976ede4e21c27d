-- What was copied is cut off again.
use Rattle.sk_commands.proofs.Names.{map, take, sym, ap, ◌∙◌, vec_items}
use Rattle.sk_commands.proofs.Deleted.{cut_back, where_err}
use Rattle.sk_commands.proofs.asking.copy_keys.Goals as goal

pub returns-then-is_err-clause-err : goal.returns-then-is_err-clause-err
returns-then-is_err-clause-err c =
    ap (map vec_items) c.truncate.ensures.items
    ∙ cut_back c.copy_key.new.looked.items c.args.looked.now.items (map vec_items (take c.loop-key.key-index c.args.keys.now)) c.len-before.result
    (c.len-before.ensures ∙ c.args.looked.now.ok.0)
    (ap (map vec_items) (where_err c.copy_key.result (sym c.is_err.ensures.value ∙ c.if-is_err.true) c.copy_key.ensures.err) ∙ c.loop-key.invariant)
