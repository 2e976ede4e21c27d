-- The note before puts back both writes, or there is none before.
use Rattle.sk_slots.proofs.Names.{◌≡◌, suc, ◌-◌, arith, subst, sym, ap, ◌∙◌, slice_index_or, slice_set, seen, CanGoBack}
use Rattle.sk_slots.proofs.Undoing.{left_can_at, left_in_at, first_out_at}
use Rattle.sk_slots.proofs.notes.leave_out.Goals as goal

pub take_in-requires : goal.take_in-requires
take_in-requires g c =
    let ks = c.args.log.now.items in
    let i = c.args.place in
    let next : i ≡ suc (i - 1) = omega (arith, c.if-place-gt0.true) in
    left_can_at g.I.Inversion.undone g.I.Inversion.fits c.requires.can.0 i (i - 1) ks c.remove-later.result c.index_mut.result.now next c.requires.place c.remove-later.ensures.value
    (subst (λ xs. c.index_mut.result.now ≡ slice_index_or xs (i - 1) c.index_mut.result.now) c.remove-later.ensures.items c.index_mut.ensures.value) c.requires.can.1

pub returns-then-place-gt0-clause-seen : goal.returns-then-place-gt0-clause-seen
returns-then-place-gt0-clause-seen g c = λ now can.
    let ks = c.args.log.now.items in
    let i = c.args.place in
    let m = c.index_mut.result.now in
    let next : i ≡ suc (i - 1) = omega (arith, c.if-place-gt0.true) in
    ap (λ xs. seen g.I.Inversion.undone now (slice_set xs (i - 1) c.take_in.new.note)) c.remove-later.ensures.items
    ∙ (left_in_at g.I.Inversion.undone g.I.Inversion.fits now i (i - 1) ks c.remove-later.result m c.take_in.new.note next c.requires.place c.remove-later.ensures.value
    (subst (λ xs. m ≡ slice_index_or xs (i - 1) m) c.remove-later.ensures.items c.index_mut.ensures.value) c.take_in.ensures.tags
    (λ n f e. (c.take_in.ensures.fits n f e, c.take_in.ensures.back n f e)) can).0

pub returns-then-place-gt0-clause-can : goal.returns-then-place-gt0-clause-can
returns-then-place-gt0-clause-can g c = λ now can.
    let ks = c.args.log.now.items in
    let i = c.args.place in
    let m = c.index_mut.result.now in
    let next : i ≡ suc (i - 1) = omega (arith, c.if-place-gt0.true) in
    subst (λ xs. CanGoBack g.I.Inversion.undone g.I.Inversion.fits now (slice_set xs (i - 1) c.take_in.new.note)) (sym c.remove-later.ensures.items)
    (left_in_at g.I.Inversion.undone g.I.Inversion.fits now i (i - 1) ks c.remove-later.result m c.take_in.new.note next c.requires.place c.remove-later.ensures.value
    (subst (λ xs. m ≡ slice_index_or xs (i - 1) m) c.remove-later.ensures.items c.index_mut.ensures.value) c.take_in.ensures.tags
    (λ n f e. (c.take_in.ensures.fits n f e, c.take_in.ensures.back n f e)) can).1

pub returns-else-place-gt0-clause-seen : goal.returns-else-place-gt0-clause-seen
returns-else-place-gt0-clause-seen g c = λ now can.
    ap (seen g.I.Inversion.undone now) c.remove-later.ensures.items
    ∙ (first_out_at g.I.Inversion.undone g.I.Inversion.fits now c.args.place c.args.log.now.items (omega (arith, c.if-place-gt0.false)) c.requires.place can).0

pub returns-else-place-gt0-clause-can : goal.returns-else-place-gt0-clause-can
returns-else-place-gt0-clause-can g c = λ now can.
    subst (CanGoBack g.I.Inversion.undone g.I.Inversion.fits now) (sym c.remove-later.ensures.items)
    (first_out_at g.I.Inversion.undone g.I.Inversion.fits now c.args.place c.args.log.now.items (omega (arith, c.if-place-gt0.false)) c.requires.place can).1
