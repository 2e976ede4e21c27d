-- The number that is kept is how many names there are.
use Rattle.sk_undo.proofs.Cites.{sym, subst, IsCount, name_there, LogsView, look_at}
use Rattle.sk_undo.proofs.logs.Logs.names.Goals as goal

pub returns : goal.returns
returns c =
    let d = c.args.directory.now in
    subst (λ (l : LogsView). IsCount (name_there (look_at l.slots)) d c.count.result) c.self.view_is
    (subst (IsCount (name_there (look_at c.self.inside.slots)) d) (sym c.count.ensures) (c.self.invariant.count d))
