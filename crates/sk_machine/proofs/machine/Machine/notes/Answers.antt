-- The notes are those of the logs.
use Rattle.sk_machine.proofs.Names.{◌≡◌, ap, subst, ◌↔◌, SlotMap, AreUnnoted, Parts}
use Rattle.sk_machine.proofs.machine.Machine.notes.Goals as goal

pub returns-clause-none : goal.returns-clause-none
returns-clause-none c =
    subst (λ (m : SlotMap). (c.notes.result ≡ 0) ↔ AreUnnoted m) (ap (λ (p : Parts). p.slots) c.self.view_is) c.notes.ensures.none
