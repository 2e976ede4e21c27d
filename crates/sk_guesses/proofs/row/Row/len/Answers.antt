-- There are as many values as keys.
use Rattle.sk_guesses.proofs.Names.{length, ap, arith, InOrder}
use Rattle.sk_guesses.proofs.Rows.{as_many}
use Rattle.sk_guesses.proofs.row.Row.len.Goals as goal

pub returns : goal.returns
returns g c =
    let many = as_many c.self.inside.values.slots c.self.inside.keys.items c.self.invariant.present in
    let same = ap (λ (r : InOrder _). length r.items) c.self.view_is in
    omega (arith, many, same, c.len.ensures)
