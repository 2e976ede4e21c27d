-- What was there before the first note that depends on the guess is put back.
use Rattle.sk_slots.proofs.Names.{prefix_len-le-length, not, has, ◌≤◌, length, sym, ◌∙◌, ap, subst, prefix_len}
use Rattle.sk_slots.proofs.Names.{unwound, cut, seen, without_ready, CanGoBack, SlotView}
use Rattle.sk_slots.proofs.Logs.{cut_at}
use Rattle.sk_slots.proofs.Undoing.{can_front, rewound_first, seen_front, seen_prefix}
use Rattle.sk_slots.proofs.slot.Slot.unwind.Goals as goal

pub go_back-requires-clause-can : goal.go_back-requires-clause-can
go_back-requires-clause-can g c = subst (CanGoBack g.I.Inversion.undone g.I.Inversion.fits c.self.inside.value) (sym c.let_go.ensures.log) c.self.invariant

pub go_back-requires-clause-within : goal.go_back-requires-clause-within
go_back-requires-clause-within g c =
    let ks = c.let_go.new.log.items in
    let at = c.before_first-place.ensures ∙ ap (prefix_len (λ n. not (has c.args.id n.tags))) c.as_slice.ensures.value in
    subst (λ p. p ≤ length ks) (sym at) (prefix_len-le-length (λ n. not (has c.args.id n.tags)) ks)

pub invariant_of-self : goal.invariant_of-self
invariant_of-self g c =
    let undone = g.I.Inversion.undone in
    let fits = g.I.Inversion.fits in
    let ks = c.let_go.new.log.items in
    let place = c.before_first-place.result in
    let can = subst (CanGoBack undone fits c.self.inside.value) (sym c.let_go.ensures.log) c.self.invariant in
    subst (λ b. CanGoBack undone fits c.go_back.new.value (without_ready b c.trim.new.log.items)) (sym c.let_go.ensures.none)
    (subst (CanGoBack undone fits c.go_back.new.value) (sym c.trim.ensures.items)
    (subst (λ v. CanGoBack undone fits v c.go_back.new.log.items) (sym c.go_back.ensures.value)
    (subst (CanGoBack undone fits _) (sym c.go_back.ensures.log) (can_front undone fits c.self.inside.value place ks can))))

pub returns-clause-value : goal.returns-clause-value
returns-clause-value g c =
    let ks = c.let_go.new.log.items in
    let at = c.before_first-place.ensures ∙ ap (prefix_len (λ n. not (has c.args.id n.tags))) c.as_slice.ensures.value in
    c.go_back.ensures.value ∙ rewound_first g.I.Inversion.undone c.args.id c.self.inside.value ks c.before_first-place.result at
    ∙ ap (λ ns. unwound c.args.id (seen g.I.Inversion.undone c.self.inside.value ns) c.self.inside.value) c.let_go.ensures.log ∙ ap (λ (s : SlotView _). unwound c.args.id s.log s.value) c.self.view_is

pub returns-clause-log : goal.returns-clause-log
returns-clause-log g c =
    let undone = g.I.Inversion.undone in
    let ks = c.let_go.new.log.items in
    let v = c.self.inside.value in
    let place = c.before_first-place.result in
    let at = c.before_first-place.ensures ∙ ap (prefix_len (λ n. not (has c.args.id n.tags))) c.as_slice.ensures.value in
    ap (λ b. seen undone c.go_back.new.value (without_ready b c.trim.new.log.items)) c.let_go.ensures.none
    ∙ ap (seen undone c.go_back.new.value) c.trim.ensures.items ∙ (λ i. seen undone (c.go_back.ensures.value i) (c.go_back.ensures.log i)) ∙ seen_front undone v place ks
    ∙ cut_at c.args.id (seen undone v ks) place (at ∙ sym (seen_prefix undone c.args.id v ks)) ∙ ap (λ ns. cut c.args.id (seen undone v ns)) c.let_go.ensures.log
    ∙ ap (λ (s : SlotView _). cut c.args.id s.log) c.self.view_is
