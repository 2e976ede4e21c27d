-- The key is that of a place.
use Rattle.sk_commands.proofs.Names.{◌≡◌, ◌<◌, length, get_or, rules, arith, sym, ap, ◌∙◌, nat_cmp, slice_cmp, Equal}
use Rattle.sk_commands.proofs.Placed.{stands_at}
use Rattle.sk_commands.proofs.work.place_of.Goals as goal

pub returns-in-Equal : goal.returns-in-Equal
returns-in-Equal c =
    let e = c.index-keys-i.result in
    let small : c.loop-i.i < length c.args.keys.now = first_of (search rules, grind arith) in
    let is : get_or c.args.keys.now c.loop-i.i e ≡ e = first_of (search (rules, c.index-keys-i.is), grind (arith, c.index-keys-i.is)) in
    let order : slice_cmp nat_cmp c.args.key.now e.items ≡ Equal =
    ap (slice_cmp nat_cmp c.args.key.now) (sym c.as_slice.ensures.value) ∙ sym c.cmp.ensures ∙ c.in-Equal.is in
    stands_at c.args.key.now c.args.keys.now c.loop-i.i e small is order c.loop-i.invariant
