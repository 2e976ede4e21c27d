-- What the newest note puts back is what it did.
use Rattle.sk_slots.proofs.Names.{sym, ◌∙◌, ap, subst, seen, without_ready, CanGoBack, SlotView}
use Rattle.sk_slots.specs.Kept.{CanTakeIn}
use Rattle.sk_slots.proofs.slot.Slot.write_on.Goals as goal

pub take_in_newest-requires : goal.take_in_newest-requires
take_in_newest-requires g c =
    let undone = g.I.Inversion.undone in
    let fits = g.I.Inversion.fits in
    let ks = without_ready c.self.inside.has_ready c.self.inside.log.items in
    subst (CanTakeIn undone fits c.write-before.result) (sym c.let_go.ensures.log)
    (c.write-before.new.value, c.write-before.ensures.fits, subst (λ v. CanGoBack undone fits v ks) (sym c.write-before.ensures.back) c.self.invariant)

pub invariant_of-self : goal.invariant_of-self
invariant_of-self g c =
    let undone = g.I.Inversion.undone in
    let fits = g.I.Inversion.fits in
    let ks = without_ready c.self.inside.has_ready c.self.inside.log.items in
    let can = subst (λ v. CanGoBack undone fits v ks) (sym c.write-before.ensures.back) c.self.invariant in
    let left = subst (CanGoBack undone fits _) (sym c.let_go.ensures.log) can in
    subst (λ b. CanGoBack undone fits c.write-before.new.value (without_ready b c.take_in_newest.new.log.items)) (sym c.let_go.ensures.none)
    (c.take_in_newest.ensures.can c.write-before.new.value c.write-before.ensures.fits left)

pub returns-clause-value : goal.returns-clause-value
returns-clause-value g c = c.write-before.ensures.value ∙ ap (λ (s : SlotView _). g.I.Inversion.written c.args.write s.value) c.self.view_is

pub returns-clause-log : goal.returns-clause-log
returns-clause-log g c =
    let undone = g.I.Inversion.undone in
    let fits = g.I.Inversion.fits in
    let ks = without_ready c.self.inside.has_ready c.self.inside.log.items in
    let can = subst (λ v. CanGoBack undone fits v ks) (sym c.write-before.ensures.back) c.self.invariant in
    let left = subst (CanGoBack undone fits _) (sym c.let_go.ensures.log) can in
    ap (λ b. seen undone c.write-before.new.value (without_ready b c.take_in_newest.new.log.items)) c.let_go.ensures.none
    ∙ c.take_in_newest.ensures.seen c.write-before.new.value c.write-before.ensures.fits left
    ∙ (λ i. seen undone (c.write-before.ensures.back i) (c.let_go.ensures.log i))
    ∙ ap (λ (s : SlotView _). s.log) c.self.view_is
