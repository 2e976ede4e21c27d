-- It comes to them by the order of bytes.
use Rattle.sk_commands.proofs.Names.{map, vec_items, ap, ◌∙◌, with_known}
use Rattle.sk_commands.proofs.InOrder.{inserted}
use Rattle.sk_commands.proofs.rising.add_copy.Goals as goal

pub returns : goal.returns
returns c =
    let keys = c.args.all.now.keys in
    ap (map vec_items) c.in_ok-insert.ensures.keys ∙ inserted keys c.in_ok-copy.copy
    ∙ ap (with_known (map vec_items keys)) c.in_ok-copy.ensures.items
