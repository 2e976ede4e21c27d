-- It is there already.
use Rattle.sk_plain.proofs.Cites.{◌≡◌, true, rules, is_in, entity_cmp}
use Rattle.sk_plain.proofs.Alike.{there_is}
use Rattle.sk_plain.proofs.record.mark_one.Goals as goal

pub returns-then-is_dirty : goal.returns-then-is_dirty
returns-then-is_dirty c =
    let there : is_in entity_cmp c.args.dirty.now.items c.args.entity.now ≡ true = search rules in
    there_is c.args.dirty.now.items c.args.entity.now there
