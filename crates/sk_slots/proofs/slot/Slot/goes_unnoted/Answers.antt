-- The tags of the newest note that is kept are those of the newest that is seen.
use Rattle.sk_slots.proofs.Names.{[], ◌∙◌, ap, sym, same_tags, SlotView, goes_unnoted, newest_tags, without_ready}
use Rattle.sk_slots.proofs.Undoing.{seen_tags}
use Rattle.sk_slots.proofs.slot.Slot.goes_unnoted.Goals as goal

pub returns : goal.returns
returns g c =
    let r = c.self.inside.has_ready in
    c.goes_unnoted.ensures
    ∙ ap (λ ns. same_tags c.args.tags.now (newest_tags [] ns)) (c.noted.ensures ∙ ap (without_ready r) c.as_slice.ensures.value)
    ∙ ap (same_tags c.args.tags.now) (sym (seen_tags g.I.Inversion.undone c.self.inside.value [] (without_ready r c.self.inside.log.items)))
    ∙ ap (λ (s : SlotView _). goes_unnoted c.args.tags.now s.log) c.self.view_is
