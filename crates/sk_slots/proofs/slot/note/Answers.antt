-- A write with the tags of the newest note is put back by that note, and any other by the one that is ready.
use Rattle.sk_slots.proofs.Names.{◌≡◌, ◌-◌, suc, [], length, arith, true, false, sym, ◌∙◌, ap, subst, refl, exact_bytes, last_tags}
use Rattle.sk_slots.proofs.Names.{same_tags, value_before, newest_tags, seen, without_ready, CanGoBack}
use Rattle.sk_slots.specs.Kept.{CanTakeIn}
use Rattle.sk_slots.proofs.Ready.{newest_filled, some_ready}
use Rattle.sk_slots.proofs.Undoing.{can_more, newest_more, noted_none, noted_one, seen_tags}
use Rattle.sk_slots.proofs.slot.note.Goals as goal

pub take_in_newest-requires : goal.take_in_newest-requires
take_in_newest-requires g c = subst (CanTakeIn g.I.Inversion.undone g.I.Inversion.fits c.args.before) (sym c.let_go.ensures.log) c.requires.can

pub returns-then-goes_unnoted-clause-seen : goal.returns-then-goes_unnoted-clause-seen
returns-then-goes_unnoted-clause-seen g c = λ now fit can.
    let undone = g.I.Inversion.undone in
    let tags = c.args.tags.now in
    let was = value_before undone c.args.before now in
    let ks = without_ready c.args.has_ready.now c.args.log.now.items in
    let base = c.noted.ensures ∙ ap (without_ready c.args.has_ready.now) c.as_slice.ensures.value in
    let on : same_tags tags (newest_tags [] ks) ≡ true = ap (λ xs. same_tags tags (newest_tags [] xs)) (sym base) ∙ sym c.goes_unnoted.ensures ∙ c.if-goes_unnoted.true in
    let left = c.let_go.ensures.log in
    c.take_in_newest.ensures.seen now fit (subst (CanGoBack undone g.I.Inversion.fits was) (sym left) can) ∙ ap (seen undone was) left ∙ noted_none undone was tags ks on

pub returns-then-goes_unnoted-clause-can : goal.returns-then-goes_unnoted-clause-can
returns-then-goes_unnoted-clause-can g c = λ now fit can.
    let undone = g.I.Inversion.undone in
    c.take_in_newest.ensures.can now fit (subst (CanGoBack undone g.I.Inversion.fits (value_before undone c.args.before now)) (sym c.let_go.ensures.log) can)

pub returns-then-goes_unnoted-clause-again : goal.returns-then-goes_unnoted-clause-again
returns-then-goes_unnoted-clause-again g c =
    let undone = g.I.Inversion.undone in
    let tags = c.args.tags.now in
    let ks = without_ready c.args.has_ready.now c.args.log.now.items in
    let new = c.take_in_newest.new.log.items in
    let (now, fit, can) = c.requires.can in
    let was = value_before undone c.args.before now in
    let base = c.noted.ensures ∙ ap (without_ready c.args.has_ready.now) c.as_slice.ensures.value in
    let on : same_tags tags (newest_tags [] ks) ≡ true = ap (λ xs. same_tags tags (newest_tags [] xs)) (sym base) ∙ sym c.goes_unnoted.ensures ∙ c.if-goes_unnoted.true in
    let left = c.let_go.ensures.log in
    let same : newest_tags [] new ≡ newest_tags [] c.let_go.new.log.items = sym (seen_tags undone now [] new) ∙ ap (last_tags []) (c.take_in_newest.ensures.seen now fit (subst (CanGoBack undone g.I.Inversion.fits was) (sym left) can)) ∙ seen_tags undone was [] c.let_go.new.log.items in
    ap (same_tags tags) (same ∙ ap (newest_tags []) left) ∙ on

pub returns-clause-seen : goal.returns-clause-seen
returns-clause-seen g c = λ now fit can.
    let undone = g.I.Inversion.undone in
    let tags = c.args.tags.now in
    let all = c.args.log.now.items in
    let ks = without_ready c.args.has_ready.now all in
    let base = c.noted.ensures ∙ ap (without_ready c.args.has_ready.now) c.as_slice.ensures.value in
    let off : same_tags tags (newest_tags [] ks) ≡ false = ap (λ xs. same_tags tags (newest_tags [] xs)) (sym base) ∙ sym c.goes_unnoted.ensures ∙ c.if-goes_unnoted.false in
    let ready = some_ready c.args.has_ready.now all tags off (c.requires.ready off) in
    let last : suc (c.len-len.result - 1) ≡ length all = omega (arith, c.len-len.ensures, c.args.log.now.ok.0, ready.0) in
    let m = c.index_mut.result.now in
    let put = newest_filled c.args.has_ready.now all tags (c.len-len.result - 1) m c.fill.new.note c.args.before off (c.requires.ready off) last c.index_mut.ensures.value c.fill.ensures in
    ap (seen undone now) put.0 ∙ noted_one undone now tags ks (record { tags = m.tags; before = c.args.before }) put.1 off

pub returns-clause-can : goal.returns-clause-can
returns-clause-can g c = λ now fit can.
    let undone = g.I.Inversion.undone in
    let tags = c.args.tags.now in
    let all = c.args.log.now.items in
    let ks = without_ready c.args.has_ready.now all in
    let base = c.noted.ensures ∙ ap (without_ready c.args.has_ready.now) c.as_slice.ensures.value in
    let off : same_tags tags (newest_tags [] ks) ≡ false = ap (λ xs. same_tags tags (newest_tags [] xs)) (sym base) ∙ sym c.goes_unnoted.ensures ∙ c.if-goes_unnoted.false in
    let ready = some_ready c.args.has_ready.now all tags off (c.requires.ready off) in
    let last : suc (c.len-len.result - 1) ≡ length all = omega (arith, c.len-len.ensures, c.args.log.now.ok.0, ready.0) in
    let m = c.index_mut.result.now in
    let put = newest_filled c.args.has_ready.now all tags (c.len-len.result - 1) m c.fill.new.note c.args.before off (c.requires.ready off) last c.index_mut.ensures.value c.fill.ensures in
    subst (CanGoBack undone g.I.Inversion.fits now) (sym put.0) (can_more undone g.I.Inversion.fits now ks (record { tags = m.tags; before = c.args.before }) fit can)

pub returns-clause-again : goal.returns-clause-again
returns-clause-again g c =
    let tags = c.args.tags.now in
    let all = c.args.log.now.items in
    let ks = without_ready c.args.has_ready.now all in
    let base = c.noted.ensures ∙ ap (without_ready c.args.has_ready.now) c.as_slice.ensures.value in
    let off : same_tags tags (newest_tags [] ks) ≡ false = ap (λ xs. same_tags tags (newest_tags [] xs)) (sym base) ∙ sym c.goes_unnoted.ensures ∙ c.if-goes_unnoted.false in
    let ready = some_ready c.args.has_ready.now all tags off (c.requires.ready off) in
    let last : suc (c.len-len.result - 1) ≡ length all = omega (arith, c.len-len.ensures, c.args.log.now.ok.0, ready.0) in
    let m = c.index_mut.result.now in
    let put = newest_filled c.args.has_ready.now all tags (c.len-len.result - 1) m c.fill.new.note c.args.before off (c.requires.ready off) last c.index_mut.ensures.value c.fill.ensures in
    ap (λ xs. same_tags tags (newest_tags [] xs)) put.0
    ∙ ap (same_tags tags) (newest_more [] ks (record { tags = m.tags; before = c.args.before }) ∙ put.1) ∙ (exact_bytes tags tags).1 refl
