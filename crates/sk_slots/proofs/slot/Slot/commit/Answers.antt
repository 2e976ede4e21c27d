-- What was ready goes, the notes are lightened, and then merged.
use Rattle.sk_slots.proofs.Names.{[], sym, ◌∙◌, ap, subst, seen, committed, merged, without_ready, CanGoBack, SlotView}
use Rattle.sk_slots.proofs.slot.Slot.commit.Goals as goal

pub lighten-requires : goal.lighten-requires
lighten-requires g c = (c.self.inside.value, subst (CanGoBack g.I.Inversion.undone g.I.Inversion.fits c.self.inside.value) (sym c.let_go.ensures.log) c.self.invariant)

pub merge-requires : goal.merge-requires
merge-requires g c =
    let v = c.self.inside.value in
    (v, c.lighten.ensures.can v (subst (CanGoBack g.I.Inversion.undone g.I.Inversion.fits v) (sym c.let_go.ensures.log) c.self.invariant))

pub invariant_of-self : goal.invariant_of-self
invariant_of-self g c =
    let undone = g.I.Inversion.undone in
    let fits = g.I.Inversion.fits in
    let v = c.self.inside.value in
    subst (λ b. CanGoBack undone fits v (without_ready b c.trim.new.log.items)) (sym c.let_go.ensures.none)
    (subst (CanGoBack undone fits v) (sym c.trim.ensures.items)
    (c.merge.ensures.can v (c.lighten.ensures.can v (subst (CanGoBack undone fits v) (sym c.let_go.ensures.log) c.self.invariant))))

pub returns-clause-log : goal.returns-clause-log
returns-clause-log g c =
    let undone = g.I.Inversion.undone in
    let v = c.self.inside.value in
    let can = subst (CanGoBack undone g.I.Inversion.fits v) (sym c.let_go.ensures.log) c.self.invariant in
    ap (λ b. seen undone v (without_ready b c.trim.new.log.items)) c.let_go.ensures.none
    ∙ ap (seen undone v) c.trim.ensures.items ∙ c.merge.ensures.seen v (c.lighten.ensures.can v can) ∙ ap (merged []) (c.lighten.ensures.seen v can) ∙ ap (λ ks. merged [] (committed c.args.id (seen undone v ks))) c.let_go.ensures.log
    ∙ ap (λ (s : SlotView _). merged [] (committed c.args.id s.log)) c.self.view_is
