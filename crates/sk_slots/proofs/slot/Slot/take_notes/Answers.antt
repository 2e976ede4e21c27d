-- Where each note depends on no other guess, the commit leaves none.
use Rattle.sk_slots.proofs.Names.{◌≡◌, true, sym, ◌∙◌, ap, SlotView, are_of, committed, seen, without_ready}
use Rattle.sk_slots.proofs.Undoing.{none_left}
use Rattle.std.specs.List.{list_all}
use Rattle.sk_slots.proofs.slot.Slot.take_notes.Goals as goal

pub returns-clause-log : goal.returns-clause-log
returns-clause-log g c =
    let undone = g.I.Inversion.undone in
    let id = c.args.id in
    let v = c.self.inside.value in
    let log = c.self.inside.log.items in
    let all : list_all (λ n. are_of id n.tags) log ≡ true =
    ap (list_all (λ n. are_of id n.tags)) (sym c.as_slice.ensures.value) ∙ sym c.rest_on_no_other.ensures ∙ c.if-not-rest_on_no_other.false in
    ap (λ b. committed id (seen undone v (without_ready b c.replace.new.dest.items))) c.if-self.false
    ∙ ap (λ ks. committed id (seen undone v ks)) (ap (λ ks. ks.items) c.replace.ensures.after ∙ c.new-2.ensures.items)
    ∙ sym (none_left undone id v log all)
    ∙ ap (λ b. committed id (seen undone v (without_ready b log))) (sym c.if-self.false)
    ∙ ap (λ (s : SlotView _). committed id s.log) c.self.view_is
