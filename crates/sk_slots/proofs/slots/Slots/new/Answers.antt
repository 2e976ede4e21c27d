use Rattle.sk_slots.proofs.Names.{◌≡◌, Option, Some, None, sym, ◌∙◌, ap, get-empty, get, SlotView, slot_in}
use Rattle.sk_slots.proofs.Counts.{none_present}
use Rattle.sk_slots.proofs.slots.Slots.new.Goals as goal

pub returns-clause-look : goal.returns-clause-look
returns-clause-look g c = λ k. ap (λ m. (slot_in (get m k)).value) c.new.ensures ∙ ap (λ (o : Option (SlotView _)). (slot_in o).value) (get-empty _ k)

pub returns-clause-log : goal.returns-clause-log
returns-clause-log g c = λ k. ap (λ m. (slot_in (get m k)).log) c.new.ensures ∙ ap (λ (o : Option (SlotView _)). (slot_in o).log) (get-empty _ k)

pub returns-clause-settled : goal.returns-clause-settled
returns-clause-settled g c = λ k s here _.
    let none : None ≡ Some s = sym (ap (λ m. get m k) c.new.ensures ∙ get-empty _ k) ∙ here in
    cc

pub invariant_of-result : goal.invariant_of-result
invariant_of-result g c = none_present g.K.Key.order _ (λ k. ap (λ m. (slot_in (get m k)).value) c.new.ensures ∙ ap (λ (o : Option (SlotView _)). (slot_in o).value) (get-empty _ k))
