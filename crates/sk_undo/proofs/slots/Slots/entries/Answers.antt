-- What is listed are the slots of the map that have a value.
use Rattle.sk_undo.proofs.Cites.{◌≡◌, [], subst, each, IsStrictlySortedBy, is_in, is_some, entity_cmp, Entity, SlotMap, look_at}
use Rattle.std.proofs.Common.{IfOk}
use Rattle.std.proofs.lemmas.Result.{IfOk-weaker}
use Rattle.std.specs.FinMap as map
use Rattle.std.specs.List.{flat_map, All}
use Rattle.sk_record.specs.Notes.{last_tags}
use Rattle.sk_store.specs.Present.{IsPresent, entities_of}
use Rattle.sk_undo.specs.Logs.{log_at}
use Rattle.sk_store.specs.Present.{shown}
use Rattle.sk_undo.specs.Present.{shown_at}
use Rattle.sk_undo.proofs.Listed.{rising_listed, present_listed, each_listed}
use Rattle.sk_undo.proofs.slots.Slots.entries.Goals as goal

abbrev AreListed : goal.After-present → SlotMap → Type 0
AreListed c m = IfOk c.present.result (λ all. each shown all.items ≡ flat_map shown_at (map.entries m))

listed : (c : goal.After-present) → AreListed c c.args.self.now
listed c = subst (AreListed c) c.self.view_is c.present.ensures

pub returns-clause-rising : goal.returns-clause-rising
returns-clause-rising c =
    let m = c.args.self.now in
    IfOk-weaker c.present.result (λ all. each shown all.items ≡ flat_map shown_at (map.entries m)) (λ all. IsStrictlySortedBy entity_cmp (entities_of all.items)) (λ all is. rising_listed m all.items is) (listed c)

pub returns-clause-present : goal.returns-clause-present
returns-clause-present c =
    let m = c.args.self.now in
    IfOk-weaker c.present.result (λ all. each shown all.items ≡ flat_map shown_at (map.entries m)) (λ all. (e : Entity) → is_in entity_cmp (entities_of all.items) e ≡ is_some (look_at m e)) (λ all is e. present_listed m all.items is e) (listed c)

pub returns-clause-each : goal.returns-clause-each
returns-clause-each c =
    let m = c.args.self.now in
    IfOk-weaker c.present.result (λ all. each shown all.items ≡ flat_map shown_at (map.entries m)) (λ all. All (IsPresent (look_at m) (λ e. last_tags [] (log_at m e))) all.items) (λ all is. each_listed m all.items is) (listed c)
