-- What puts the write back is noted on the notes of the value before it.
use Rattle.sk_slots.proofs.Names.{[], sym, ◌∙◌, ap, subst, true≢false, same_tags, seen, without_ready, CanGoBack, SlotView}
use Rattle.sk_slots.proofs.Names.{goes_unnoted, noted_on, newest_tags}
use Rattle.sk_slots.proofs.Undoing.{seen_tags}
use Rattle.sk_slots.proofs.slot.Slot.write.Goals as goal

pub note-requires-clause-can : goal.note-requires-clause-can
note-requires-clause-can g c =
    let ks = without_ready c.self.inside.has_ready c.self.inside.log.items in
    (c.write-before.new.value, c.write-before.ensures.fits, subst (λ v. CanGoBack g.I.Inversion.undone g.I.Inversion.fits v ks) (sym c.write-before.ensures.back) c.self.invariant)

pub note-requires-clause-ready : goal.note-requires-clause-ready
note-requires-clause-ready g c = λ off.
    let ks = without_ready c.self.inside.has_ready c.self.inside.log.items in
    ap (λ (s : SlotView _). s.ready) c.self.view_is
    ∙ c.requires (ap (λ (s : SlotView _). goes_unnoted c.args.tags.now s.log) (sym c.self.view_is) ∙ ap (same_tags c.args.tags.now) (seen_tags g.I.Inversion.undone c.self.inside.value [] ks) ∙ off)

pub invariant_of-self : goal.invariant_of-self
invariant_of-self g c =
    let undone = g.I.Inversion.undone in
    let fits = g.I.Inversion.fits in
    let ks = without_ready c.self.inside.has_ready c.self.inside.log.items in
    let can = subst (λ v. CanGoBack undone fits v ks) (sym c.write-before.ensures.back) c.self.invariant in
    subst (λ b. CanGoBack undone fits c.write-before.new.value (without_ready b c.note.new.log.items)) (sym c.note.ensures.none)
    (c.note.ensures.can c.write-before.new.value c.write-before.ensures.fits can)

pub returns-clause-value : goal.returns-clause-value
returns-clause-value g c = c.write-before.ensures.value ∙ ap (λ (s : SlotView _). g.I.Inversion.written c.args.write s.value) c.self.view_is

pub returns-clause-log : goal.returns-clause-log
returns-clause-log g c =
    let undone = g.I.Inversion.undone in
    let ks = without_ready c.self.inside.has_ready c.self.inside.log.items in
    let can = subst (λ v. CanGoBack undone g.I.Inversion.fits v ks) (sym c.write-before.ensures.back) c.self.invariant in
    ap (λ b. seen undone c.write-before.new.value (without_ready b c.note.new.log.items)) c.note.ensures.none
    ∙ c.note.ensures.seen c.write-before.new.value c.write-before.ensures.fits can
    ∙ ap (λ v. noted_on c.args.tags.now v (seen undone v ks)) c.write-before.ensures.back
    ∙ ap (λ (s : SlotView _). noted_on c.args.tags.now s.value s.log) c.self.view_is

pub returns-clause-again : goal.returns-clause-again
returns-clause-again g c = λ off.
    absurd (true≢false (sym (ap (λ b. same_tags c.args.tags.now (newest_tags [] (without_ready b c.note.new.log.items))) c.note.ensures.none ∙ c.note.ensures.again)
    ∙ sym (ap (same_tags c.args.tags.now) (seen_tags g.I.Inversion.undone c.write-before.new.value [] (without_ready c.note.new.has_ready c.note.new.log.items))) ∙ off))
