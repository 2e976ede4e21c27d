-- No note is seen where there is none.
use Rattle.sk_slots.proofs.Names.{◌≡◌, ◌&&◌, not, true, refl, sym, ◌∙◌, ap, is_none, seen, without_ready, is_bare, is_empty}
use Rattle.sk_slots.proofs.Undoing.{empty_len, none_of, seen_empty}
use Rattle.sk_slots.proofs.slot.Slot.is_bare.Goals as goal

pub returns-then-is_none : goal.returns-then-is_none
returns-then-is_none g c =
    let r = c.self.inside.has_ready in
    let ks = without_ready r c.self.inside.log.items in
    let v = c.self.inside.value in
    let none : true ≡ is_none v = none_of v (c.is_none.ensures ∙ ap not c.if-is_none.true) in
    c.is_empty.ensures ∙ empty_len _ _ refl ∙ ap is_empty (c.noted.ensures ∙ ap (without_ready r) c.as_slice.ensures.value) ∙ sym (seen_empty g.I.Inversion.undone v ks)
    ∙ ap (λ b. b && is_empty (seen g.I.Inversion.undone v ks)) none ∙ ap is_bare c.self.view_is
