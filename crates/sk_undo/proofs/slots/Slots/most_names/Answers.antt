-- The map of the slots has at most as many names.
use Rattle.sk_undo.proofs.Cites.{SlotMap, subst}
use Rattle.sk_undo.specs.Kinds.{HasAtMost}
use Rattle.sk_undo.proofs.slots.Slots.most_names.Goals as goal

pub returns-clause-most : goal.returns-clause-most
returns-clause-most c = subst (λ (m : SlotMap). HasAtMost m c.most_names.result) c.self.view_is c.most_names.ensures.most
