-- Those that are listed are given back.
use Rattle.sk_bytes.proofs.Names.{sym, subst, nat_cmp, is_in, listed, LetsGo}
use Rattle.sk_bytes.proofs.numbers.give_back_any.Goals as goal

pub returns-in-Ok : goal.returns-in-Ok
returns-in-Ok g c =
    let slots = c.args.kernel.now.slots in
    let new = c.give_back_all.new.index in
    subst (λ r. LetsGo c.args.index.now (listed r) slots new) (sym c.in-Ok.is)
    (subst (λ ns. LetsGo c.args.index.now (is_in nat_cmp ns) slots new) c.as_slice.ensures.value c.give_back_all.ensures)
