-- Of the keys of the map those are kept whose slots have a value.
use Rattle.sk_undo.proofs.Cites.{◌≡◌, List, sym, subst, ap, ◌∙◌, rules, filter, IsStrictlySortedBy, filter_same}
use Rattle.sk_undo.proofs.Cites.{IsStrictlySortedBy-filter, is_in, entity_cmp, Entity}
use Rattle.sk_undo.proofs.Present.{has_value, present_are}
use Rattle.sk_undo.proofs.slots.Slots.present_among.Goals as goal

kept : (c : goal.After-retain) → c.retain.new.self.items ≡ filter (has_value c.args.self.now) c.args.all.items
kept c = filter_same _ (has_value c.args.self.now) _ (λ x b g h. search rules) _ _ c.retain.ensures.filtered

pub returns-clause-rising : goal.returns-clause-rising
returns-clause-rising c =
    subst (λ (es : List Entity). IsStrictlySortedBy entity_cmp es) (sym (kept c))
    (IsStrictlySortedBy-filter entity_cmp (has_value c.args.self.now) c.args.all.items c.requires.rising)

pub returns-clause-present : goal.returns-clause-present
returns-clause-present c = λ e.
    ap (λ (es : List Entity). is_in entity_cmp es e) (kept c ∙ ap (filter (has_value c.args.self.now)) c.requires.keys)
    ∙ present_are c.args.self.now e
