-- None are counted exactly where no entity has one.
use Rattle.sk_undo.proofs.Cites.{◌≡◌, min, ◌-◌, ◌^◌, rules, notes_in}
use Rattle.sk_undo.proofs.Counted.{none_counted}
use Rattle.sk_undo.proofs.logs.Logs.notes.Goals as goal

pub returns-clause-none : goal.returns-clause-none
returns-clause-none c =
    let is : c.notes.result ≡ min (notes_in c.args.self.now.slots) (2 ^ 64 - 1) = search rules in
    none_counted c.args.self.now.slots c.notes.result is
