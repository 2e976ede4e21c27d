-- Where each slot has a value, the entities that are there are the keys of the map.
use Rattle.sk_undo.proofs.Cites.{List, sym, ap, ◌∙◌, is_in, entity_cmp, Entity}
use Rattle.std.specs.FinMap as fin
use Rattle.sk_undo.proofs.Present.{all_are}
use Rattle.sk_undo.proofs.slots.Slots.entities.Goals as goal

pub returns-then-all_present-clause-present : goal.returns-then-all_present-clause-present
returns-then-all_present-clause-present c = λ e.
    ap (λ (es : List Entity). is_in entity_cmp es e) (c.in_ok-all.ensures.rest ∙ ap fin.keys c.self.view_is)
    ∙ all_are c.args.self.now e (sym c.all_present.ensures ∙ c.if-all_present.true)
