-- What is changed was there and is there.
use Rattle.sk_undo.proofs.Cites.{◌≡◌, true, is_some, refl, sym, subst, LogsView, look_at}
use Rattle.sk_undo.proofs.NameCounts.{change_either, had_value}
use Rattle.sk_undo.proofs.logs.LogsKeeper.change.Goals as goal

pub invariant_of-self : goal.invariant_of-self
invariant_of-self c =
    let had = subst (λ (l : LogsView). is_some (look_at l.slots c.args.entity) ≡ true) (sym c.self.view_is) (had_value (look_at c.args.self.now.slots c.args.entity) c.args.change c.requires) in
    change_either c.change.result c.change.new.self c.self.invariant c.args.entity _ had refl c.change.ensures.ok c.change.ensures.err

pub invariant_of-self-2 : goal.invariant_of-self-2
invariant_of-self-2 c =
    let had = subst (λ (l : LogsView). is_some (look_at l.slots c.args.entity) ≡ true) (sym c.self.view_is) (had_value (look_at c.args.self.now.slots c.args.entity) c.args.change c.requires) in
    change_either c.change.result c.change.new.self c.self.invariant c.args.entity _ had refl c.change.ensures.ok c.change.ensures.err
