-- A commit leaves what is there, and makes no slot.
use Rattle.sk_undo.proofs.Cites.{subst, sym, Sig, LogsView, NoneBare}
use Rattle.sk_undo.proofs.NameCounts.{committed_counted}
use Rattle.sk_undo.proofs.logs.Logs.commit.Goals as goal

pub invariant_of-self : goal.invariant_of-self
invariant_of-self c = committed_counted c.self.inside.slots c.commit.new.self (Sig 0) c.self.inside.names c.self.invariant c.commit.ensures.slots.look c.commit.ensures.kept

pub returns-clause-bare : goal.returns-clause-bare
returns-clause-bare c none = c.commit.ensures.bare (subst (λ (l : LogsView). NoneBare l.slots) (sym c.self.view_is) none)
